use Rattle.std.proofs.Common.{inr}
use Rattle.image_mount.proofs.Wanted.{dinode_leads}
use Rattle.image_model.specs.Claims.{every}
use Rattle.image_model.specs.SystemFiles.{of_dinode}
use Rattle.gfs2_layout.specs.Inode.{dinode_in, Fits}
use Rattle.std.proofs.Common.{◌≡◌, [], ap, ◌∙◌}
use Rattle.image_mount.proofs.Marked.{has_kept}
use Rattle.image_mount.proofs.Shown.{shown, inode_at, damage_told, kept_on}
use Rattle.glock_names.specs.Views.{HasBlock}
use Rattle.dinode_tree.specs.Reading.{IsRightDinode}
use Rattle.image_mount.proofs.Steps.{answer_at, seen_in, shown_by}
use Rattle.image_mount.specs.Kept.{seen_of}
use Rattle.gfs2_layout.specs.Structures.{dinode_of}
use Rattle.std.specs.Prelude.{unwrap_or}
use Rattle.image_mount.proofs.Stops.{stopped}
use Rattle.image_mount.proofs.inodes.Inode.read.Goals as goal

pub returns-in_err-dinode-clause-stops : goal.returns-in_err-dinode-clause-stops
returns-in_err-dinode-clause-stops c im o read claimed dinode format low file =
    stopped im _ _ c.from_residual.ensures.1
    (damage_told im c.args.table.now c.args.block c.in_err-dinode.field-0.0 (inode_at im c.args.from c.args.block o claimed dinode) format read
    (c.in_err-dinode.ensures.damaged (every im c.args.block) (shown im c.args.table.now c.args.block read)) c.in_err-dinode.ensures.kept)

pub returns-in-Is-clause-found : goal.returns-in-Is-clause-found
returns-in-Is-clause-found c im read =
    answer_at c.in_ok-dinode.field-0 c.in-Is.dinode (λ d. d ≡ dinode_in (every im c.args.block)) c.in-Is.is (c.in_ok-dinode.ensures.found (every im c.args.block) (shown im c.args.table.now c.args.block read))

pub returns-in-Is-clause-kept : goal.returns-in-Is-clause-kept
unfolding dinode_in
returns-in-Is-clause-kept c bytes at =
    let v = seen_of c.args.table.now in
    let a = c.args.block in
    answer_at c.in_ok-dinode.field-0 c.in-Is.dinode (λ d. d ≡ dinode_in (seen_in v a)) c.in-Is.is (c.in_ok-dinode.ensures.found (seen_in v a) (shown_by v a)) ∙ ap (λ o. dinode_of (unwrap_or o [])) at

pub returns-in-Is-clause-fits : goal.returns-in-Is-clause-fits
returns-in-Is-clause-fits c im read =
    answer_at c.in_ok-dinode.field-0 c.in-Is.dinode (λ d. Fits (every im c.args.block)) c.in-Is.is (c.in_ok-dinode.ensures.fits (every im c.args.block) (shown im c.args.table.now c.args.block read))

pub returns-in-NeedBlock-clause-stops : goal.returns-in-NeedBlock-clause-stops
returns-in-NeedBlock-clause-stops c im o read claimed dinode format low file = inr (format, (o, claimed, dinode_leads im o dinode, low, of_dinode file))

pub returns-in-Is-clause-reached : goal.returns-in-Is-clause-reached
returns-in-Is-clause-reached c im read =
    kept_on im c.args.table.now c.args.block read (answer_at c.in_ok-dinode.field-0 c.in-Is.dinode (λ d. HasBlock (seen_of c.args.table.now) c.args.block) c.in-Is.is c.in_ok-dinode.ensures.there)

pub returns-in-Is-clause-right : goal.returns-in-Is-clause-right
returns-in-Is-clause-right c im read =
    answer_at c.in_ok-dinode.field-0 c.in-Is.dinode (λ d. IsRightDinode (every im c.args.block)) c.in-Is.is (c.in_ok-dinode.ensures.right (every im c.args.block) (shown im c.args.table.now c.args.block read))

pub returns-in-Is-clause-there : goal.returns-in-Is-clause-there
returns-in-Is-clause-there c =
    has_kept c.args.table.now c.args.block (answer_at c.in_ok-dinode.field-0 c.in-Is.dinode (λ d. HasBlock (seen_of c.args.table.now) c.args.block) c.in-Is.is c.in_ok-dinode.ensures.there)
