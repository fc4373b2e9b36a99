use Rattle.std.proofs.Common.{◌≡◌, true, sym, ap, subst, refl, ◌∙◌, arith}
use Rattle.std.specs.Prelude.{codes}
use Rattle.dinode_tree.specs.Reading.{IsRightDinode}
use Rattle.gfs2_layout.specs.Inode.{dinode_in}
use Rattle.gfs2_layout.specs.Structures.{is_directory}
use Rattle.image_model.specs.Claims.{every, Claims, master_of}
use Rattle.image_model.specs.Owners.{Named}
use Rattle.image_model.specs.Rules.{HasRecordIn}
use Rattle.image_mount.specs.Found.{IsReached}
use Rattle.image_mount.specs.Marked.{IsKept}
use Rattle.image_mount.proofs.Causes.{told}
use Rattle.image_mount.proofs.Stops.{passed, stopped}
use Rattle.image_mount.proofs.SystemFiles.{directory_in, file_of_journals, not_directory}
use Rattle.image_model.specs.SystemFiles.{is_jindex}
use Rattle.image_mount.proofs.system.find_jindex.Goals as goal

pub returns-in_err-check_record-clause-stops : goal.returns-in_err-check_record-clause-stops
returns-in_err-check_record-clause-stops c im read format same low named =
    let inode = c.in_ok-inode.inode in
    let dinode : inode.dinode ≡ dinode_in (every im inode.block) = c.in_ok-inode.ensures.found im read ∙ ap (λ a. dinode_in (every im a)) (sym c.in_ok-inode.ensures.block) in
    stopped im _ _ c.from_residual-in_err-check_record.ensures.1
    (c.in_err-check_record.ensures.refused im (master_of im) named.row dinode format (subst (IsReached im) (sym c.in_ok-inode.ensures.from) named.reached) (subst (λ x. HasRecordIn im (master_of im) x named.row) (sym c.in_ok-inode.ensures.from) named.there) named.is)

pub returns-then-not-is_directory-clause-stops : goal.returns-then-not-is_directory-clause-stops
returns-then-not-is_directory-clause-stops c im read format same low named =
    told im _ c.args.master 16 c.damaged.ensures format low
    (file_of_journals im c.args.master c.args.jindex.now same named
    (not_directory im c.args.jindex.now.entry.addr c.in_ok-inode.inode.dinode c.is_directory.result (c.in_ok-inode.ensures.found im read) c.is_directory.ensures c.if-not-is_directory.true))

pub returns-clause-found : goal.returns-clause-found
returns-clause-found c im read format same named =
    let inode = c.in_ok-inode.inode in
    let at = c.in_ok-inode.ensures.block in
    let yes : is_directory inode.dinode ≡ true = sym c.is_directory.ensures ∙ grind (arith, c.if-not-is_directory.false) in
    record {
      directory = directory_in im inode c.args.jindex.now.from c.args.jindex.now.entry.addr c.args.master (Named (master_of im) (codes "jindex")) format named.claimed refl at c.in_ok-inode.ensures.from (c.in_ok-inode.ensures.found im read) yes
          (c.in_ok-inode.ensures.reached im read) named.reached same (is_jindex (c.args.jindex.now.from, named.claimed));
      master_is = same;
      right = subst (λ a. IsRightDinode (every im a)) (sym at) (c.in_ok-inode.ensures.right im read);
      is = (c.args.jindex.now.from, subst (λ a. Claims im c.args.jindex.now.from a (Named (master_of im) (codes "jindex"))) (sym at) named.claimed);
    }

pub returns-clause-repeats : goal.returns-clause-repeats
returns-clause-repeats c im read =
    c.in_ok-check_record.ensures.repeats im (c.in_ok-inode.ensures.found im read ∙ ap (λ a. dinode_in (every im a)) (sym c.in_ok-inode.ensures.block))

pub returns-clause-there : goal.returns-clause-there
returns-clause-there c = subst (IsKept c.args.table.now) (sym c.in_ok-inode.ensures.block) c.in_ok-inode.ensures.there

pub returns-in_err-inode-clause-stops : goal.returns-in_err-inode-clause-stops
returns-in_err-inode-clause-stops c im read format same low named =
    passed im _ _ c.from_residual.ensures.1 (c.in_err-inode.ensures.stops im (Named (master_of im) (codes "jindex")) read named.claimed refl format named.reached (is_jindex (c.args.jindex.now.from, named.claimed)))
