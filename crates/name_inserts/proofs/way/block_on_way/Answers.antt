use Rattle.std.proofs.Common.{◌∷◌, ◌∙◌, true≢false, refl, sym, subst}
use Rattle.std.specs.Prelude.{Contains, IfNone}
use Rattle.glock_names.specs.Steps.{IsDamage}
use Rattle.glock_names.proofs.StepLaws.{answer_at, answer_so}
use Rattle.dinode_tree.specs.Broken as rules
use Rattle.linear_dirs.proofs.Looked.{handed}
use Rattle.directories.specs.Shown as directory
use Rattle.directories.proofs.Forms.{fault_as, hashed_here, is_directory_here, linear_here}
use Rattle.name_inserts.specs.Inserting as name
use Rattle.name_inserts.specs.Way.{IsRightBehind, IsRightWay, its_dinode}
use Rattle.name_inserts.proofs.OnWay.{hashed_apart, linear_apart, none_so}
use Rattle.name_inserts.proofs.way.block_on_way.Goals as goal

pub returns-in_err-dinode-clause-damaged : goal.returns-in_err-dinode-clause-damaged
returns-in_err-dinode-clause-damaged g c h shown =
    let v = g.V.View.seen c.args.view.now in
    handed c.from_residual.result _ (IsDamage (name.IsWrongForName v h)) c.from_residual.ensures.1
    (fault_as (rules.IsBroken h) (name.IsWrongForName v h) c.in_err-dinode.field-0.0 (λ rule b broken. name.of_directory (directory.IsBroken.of_inode broken)) (c.in_err-dinode.ensures.damaged h shown.inode))

pub returns-then-is_one_of-clause-some : goal.returns-then-is_one_of-clause-some
returns-then-is_one_of-clause-some g c h shown = (c.if-is_one_of.ensures.0 refl, its_dinode (sym shown.inode.own))

pub returns-then-not-is_hashed-clause-none : goal.returns-then-not-is_hashed-clause-none
returns-then-not-is_hashed-clause-none g c h shown =
    let blocks = c.args.first ∷ c.args.rest.now in
    let plain = linear_here h c.in-Is.dinode (answer_at _ _ _ c.in-Is.is (c.in_ok-dinode.ensures.found h shown.inode)) (sym c.is_hashed.ensures ∙ c.if-not-is_hashed.true) in
    record {
      dinode = answer_at _ _ _ c.in-Is.is (c.in_ok-dinode.ensures.right h shown.inode);
      table = λ hashed. absurd (true≢false (sym hashed ∙ plain));
      leaves = λ hashed. absurd (true≢false (sym hashed ∙ plain));
      apart = linear_apart h c.args.name.now blocks plain (λ has. true≢false (sym (c.is_one_of.ensures.1 (subst (Contains blocks) shown.inode.own has)) ∙ c.if-is_one_of.false));
    }

pub returns-clause-some : goal.returns-clause-some
returns-clause-some g c h shown =
    let v = g.V.View.seen c.args.view.now in
    let is = is_directory_here v c.args.dir h c.requires.directory (answer_at _ _ _ c.in-Is.is c.in_ok-dinode.ensures.there) shown.inode in
    c.block_of_hashed.ensures.some h shown (hashed_here h c.in-Is.dinode (answer_at _ _ _ c.in-Is.is (c.in_ok-dinode.ensures.found h shown.inode)) is (sym c.is_hashed.ensures ∙ c.if-not-is_hashed.false))
    (answer_at _ _ _ c.in-Is.is (c.in_ok-dinode.ensures.fits h shown.inode))

pub returns-clause-none : goal.returns-clause-none
returns-clause-none g c h shown =
    let v = g.V.View.seen c.args.view.now in
    let blocks = c.args.first ∷ c.args.rest.now in
    let is = is_directory_here v c.args.dir h c.requires.directory (answer_at _ _ _ c.in-Is.is c.in_ok-dinode.ensures.there) shown.inode in
    let hashed = hashed_here h c.in-Is.dinode (answer_at _ _ _ c.in-Is.is (c.in_ok-dinode.ensures.found h shown.inode)) is (sym c.is_hashed.ensures ∙ c.if-not-is_hashed.false) in
    answer_so c.block_of_hashed.result (λ found. IfNone found (IsRightBehind v h c.args.name.now blocks)) (λ found. IfNone found (IsRightWay v h c.args.name.now blocks))
    (λ found. none_so found (IsRightBehind v h c.args.name.now blocks) (IsRightWay v h c.args.name.now blocks) (λ behind. record {
      dinode = answer_at _ _ _ c.in-Is.is (c.in_ok-dinode.ensures.right h shown.inode);
      table = λ hashed. behind.table;
      leaves = λ hashed place x there. (behind.leaves place x there).0;
      apart = hashed_apart v h c.args.name.now blocks (λ has. true≢false (sym (c.is_one_of.ensures.1 (subst (Contains blocks) shown.inode.own has)) ∙ c.if-is_one_of.false)) behind;
    }))
    (c.block_of_hashed.ensures.none h shown hashed)

pub returns-clause-needed : goal.returns-clause-needed
returns-clause-needed g c h shown =
    let v = g.V.View.seen c.args.view.now in
    let is = is_directory_here v c.args.dir h c.requires.directory (answer_at _ _ _ c.in-Is.is c.in_ok-dinode.ensures.there) shown.inode in
    c.block_of_hashed.ensures.needed h shown (hashed_here h c.in-Is.dinode (answer_at _ _ _ c.in-Is.is (c.in_ok-dinode.ensures.found h shown.inode)) is (sym c.is_hashed.ensures ∙ c.if-not-is_hashed.false))

pub returns-clause-damaged : goal.returns-clause-damaged
returns-clause-damaged g c h shown =
    let v = g.V.View.seen c.args.view.now in
    let is = is_directory_here v c.args.dir h c.requires.directory (answer_at _ _ _ c.in-Is.is c.in_ok-dinode.ensures.there) shown.inode in
    c.block_of_hashed.ensures.damaged h shown (hashed_here h c.in-Is.dinode (answer_at _ _ _ c.in-Is.is (c.in_ok-dinode.ensures.found h shown.inode)) is (sym c.is_hashed.ensures ∙ c.if-not-is_hashed.false))
