use Rattle.std.proofs.Common.{◌≡◌, ◌<◌, ◌^◌, refl, ap, ◌∙◌, subst}
use Rattle.gfs2_layout.specs.Inode.{depth_in, top_bits}
use Rattle.glock_names.specs.Steps.{IsDamage}
use Rattle.glock_names.proofs.StepLaws.{answer_at, needed_at}
use Rattle.linear_dirs.proofs.Looked.{handed}
use Rattle.hash_steps.specs.Broken.{IsWrongIn}
use Rattle.hash_steps.specs.Shown.{index_for, of_table}
use Rattle.hash_steps.proofs.ChainLeaves.{damage_of, head_of, wrong_of}
use Rattle.hash_inserts.proofs.Looks.{dinode_needed}
use Rattle.hash_inserts.proofs.finding.find_chain.Goals as goal

pub returns-in_err-missing-clause-damaged : goal.returns-in_err-missing-clause-damaged
returns-in_err-missing-clause-damaged g c h shown shows =
    handed c.from_residual.result _ (IsDamage (IsWrongIn (g.V.View.seen c.args.view.now) h)) c.from_residual.ensures.1 (wrong_of (g.V.View.seen c.args.view.now) h c.in_err-missing.field-0.0 (damage_of h c.in_err-missing.field-0.0 (c.in_err-missing.ensures.damaged h shown.inode)))

pub returns-in-NeedBlock-clause-needed : goal.returns-in-NeedBlock-clause-needed
returns-in-NeedBlock-clause-needed g c h shown shows =
    of_table (index_for h c.args.name.now) refl (dinode_needed (g.V.View.seen c.args.view.now) c.args.dir h c.in-NeedBlock.missing _ shown (needed_at _ _ _ c.in-NeedBlock.is c.in_ok-missing.ensures.needed) (needed_at _ _ _ c.in-NeedBlock.is c.in_ok-missing.ensures.absent))

pub returns-in_err-head-clause-damaged : goal.returns-in_err-head-clause-damaged
returns-in_err-head-clause-damaged g c h shown shows =
    handed c.from_residual-in_err-head.result _ (IsDamage (IsWrongIn (g.V.View.seen c.args.view.now) h)) c.from_residual-in_err-head.ensures.1 (wrong_of (g.V.View.seen c.args.view.now) h c.in_err-head.field-0.0 (damage_of h c.in_err-head.field-0.0 (c.in_err-head.ensures.damaged h shows)))

pub returns-in-NeedBlock-2-clause-needed : goal.returns-in-NeedBlock-2-clause-needed
returns-in-NeedBlock-2-clause-needed g c h shown shows =
    let deep : c.depth-depth.result ≡ depth_in h = c.depth-depth.ensures.value ∙ g.met.T.PointerTable.deep_in c.args.table.now (g.V.View.seen c.args.view.now) h shows in
    let index : c.index_of.result ≡ index_for h c.args.name.now = c.index_of.ensures.value ∙ ap (λ n. top_bits n c.crc32.result) deep ∙ ap (top_bits (depth_in h)) c.crc32.ensures in
    of_table c.index_of.result index (needed_at _ _ _ c.in-NeedBlock-2.is (c.in_ok-head.ensures.needed h shows))

pub returns-in-NeedBlock-3-clause-needed : goal.returns-in-NeedBlock-3-clause-needed
returns-in-NeedBlock-3-clause-needed g c h shown shows =
    let deep : c.depth-depth.result ≡ depth_in h = c.depth-depth.ensures.value ∙ g.met.T.PointerTable.deep_in c.args.table.now (g.V.View.seen c.args.view.now) h shows in
    let index : c.index_of.result ≡ index_for h c.args.name.now = c.index_of.ensures.value ∙ ap (λ n. top_bits n c.crc32.result) deep ∙ ap (top_bits (depth_in h)) c.crc32.ensures in
    let low : c.index_of.result < 2 ^ depth_in h = subst (λ n. c.index_of.result < 2 ^ n) deep c.index_of.ensures.low in
    needed_at _ _ _ c.in-NeedBlock-3.is (c.in_ok-chain.ensures.needed h (index_for h c.args.name.now) shown (head_of h c.index_of.result (index_for h c.args.name.now) c.in-Is.head index low (answer_at _ _ _ c.in-Is.is (c.in_ok-head.ensures.found h shows))))
