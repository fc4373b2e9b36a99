use Rattle.std.proofs.Common.{◌≡◌, ◌++◌, sym, ap, ◌∙◌}
use Rattle.gfs2_layout.specs.Holding.{Holding}
use Rattle.glock_names.proofs.StepLaws.{answer_at, needed_at}
use Rattle.directories.specs.Shown as dirs
use Rattle.removing_calls.specs.Removing.{IsNeededOf, IsWrongBelow}
use Rattle.removing_calls.specs.Removing as damage
use Rattle.removing_calls.proofs.Going.{directory_of_hashed, goes_hashed, goes_plain}
use Rattle.removing_calls.proofs.blocks.blocks_of.Goals as goal
use Rattle.path_walks.proofs.Faults.{told_on, tells_so, tells_each}

pub returns-in-NeedBlock-clause-needed : goal.returns-in-NeedBlock-clause-needed
returns-in-NeedBlock-clause-needed g c = damage.IsNeededOf.in_tree (λ h shown. needed_at _ _ _ c.in-NeedBlock.is (c.in_ok-blocks.ensures.needed h shown))

pub returns-then-not-is_hashed_directory-clause-all : goal.returns-then-not-is_hashed_directory-clause-all
returns-then-not-is_hashed_directory-clause-all g c h shown =
    goes_plain h c.in-Is.blocks.items (sym (c.is_hashed_directory.ensures h (c.requires.dinode h shown.inode)) ∙ c.if-not-is_hashed_directory.true) (answer_at _ _ _ c.in-Is.is (c.in_ok-blocks.ensures.all h shown.inode))

pub counted_leaves-requires : goal.counted_leaves-requires
counted_leaves-requires g c h shown = sym (c.is_hashed_directory.ensures h (c.requires.dinode h shown.inode)) ∙ c.if-not-is_hashed_directory.false

pub returns-in_err-leaves-clause-damaged : goal.returns-in_err-leaves-clause-damaged
returns-in_err-leaves-clause-damaged g c =
    let v = g.V.View.seen c.args.view.now in
    told_on (IsWrongBelow v c.args.inode) c.from_residual-in_err-leaves.result _ c.from_residual-in_err-leaves.ensures.1
    (tells_so (λ rule b. (h : Holding) → dirs.IsShown v c.args.inode h → dirs.IsBroken v h rule b) (IsWrongBelow v c.args.inode)
    (λ rule b broken. damage.IsWrongBelow.of_leaves rule b (λ h shown. directory_of_hashed h (sym (c.is_hashed_directory.ensures h (c.requires.dinode h shown)) ∙ c.if-not-is_hashed_directory.false)) broken) c.in_err-leaves.field-0.0
    (tells_each (dirs.IsShown v c.args.inode) (dirs.IsBroken v) c.in_err-leaves.field-0.0 c.in_err-leaves.ensures.damaged))

pub returns-in-NeedBlock-2-clause-needed : goal.returns-in-NeedBlock-2-clause-needed
returns-in-NeedBlock-2-clause-needed g c =
    damage.IsNeededOf.in_leaves
    (λ h shown. directory_of_hashed h (sym (c.is_hashed_directory.ensures h (c.requires.dinode h shown)) ∙ c.if-not-is_hashed_directory.false))
    (λ h shown. needed_at _ _ _ c.in-NeedBlock-2.is (c.in_ok-leaves.ensures.needed h shown))
    (needed_at _ _ _ c.in-NeedBlock-2.is c.in_ok-leaves.ensures.absent)

pub returns-clause-all : goal.returns-clause-all
returns-clause-all g c h shown =
    let grown : c.extend_from_slice.new.self.items ≡ c.in-Is.blocks.items ++ c.in-Is-2.leaves.items = c.in_ok-extend_from_slice.ensures.items ∙ ap (λ xs. c.in-Is.blocks.items ++ xs) c.deref.ensures.value in
    goes_hashed h c.in-Is.blocks.items c.in-Is-2.leaves.items c.extend_from_slice.new.self.items (sym (c.is_hashed_directory.ensures h (c.requires.dinode h shown.inode)) ∙ c.if-not-is_hashed_directory.false)
    (answer_at _ _ _ c.in-Is.is (c.in_ok-blocks.ensures.all h shown.inode)) (answer_at _ _ _ c.in-Is-2.is (c.in_ok-leaves.ensures.found h shown)) grown
