use Rattle.gfs2_layout.specs.Holding.{Holding}
use Rattle.glock_names.proofs.StepLaws.{answer_at, needed_at}
use Rattle.path_walks.specs.DirectoryShown as dirs
use Rattle.path_walks.specs.Walks.{IsWrongAt}
use Rattle.path_walks.proofs.Faults.{told_on, tells_each, tells_so}
use Rattle.read_calls.proofs.Answering.{directory_of_hashed}
use Rattle.read_calls.proofs.answers.few_in_leaves.Goals as goal

pub counted_leaves-requires : goal.counted_leaves-requires
counted_leaves-requires g c h shown = c.requires.hashed h shown.inode

pub returns-in_err-_leaves-clause-damaged : goal.returns-in_err-_leaves-clause-damaged
returns-in_err-_leaves-clause-damaged g c =
    let v = g.V.View.seen c.args.view.now in
    told_on (IsWrongAt v c.args.dir) _ _ c.from_residual.ensures.1
    (tells_so (λ rule b. (h : Holding) → dirs.IsShown v c.args.dir h → dirs.IsBroken v h rule b) (IsWrongAt v c.args.dir) (λ rule b broken. IsWrongAt.in_directory rule b (λ h shown. directory_of_hashed h (c.requires.hashed h shown)) broken) c.in_err-_leaves.field-0.0
    (tells_each (dirs.IsShown v c.args.dir) (dirs.IsBroken v) c.in_err-_leaves.field-0.0 c.in_err-_leaves.ensures.damaged))

pub returns-in-Is-clause-damaged : goal.returns-in-Is-clause-damaged
returns-in-Is-clause-damaged g c =
    IsWrongAt.few_in_leaves (λ h shown. directory_of_hashed h (c.requires.hashed h shown))
    (λ h shown. (c.requires.hashed h shown.inode, answer_at _ _ (λ leaves. dirs.CountsItsLeaves h) c.in-Is.is (c.in_ok-_leaves.ensures.counted h shown), c.requires.few h shown.inode))

pub returns-in-NeedBlock-clause-asked : goal.returns-in-NeedBlock-clause-asked
returns-in-NeedBlock-clause-asked g c = (
  λ h shown. directory_of_hashed h (c.requires.hashed h shown),
  λ h shown. (c.requires.hashed h shown.inode, c.requires.few h shown.inode, needed_at _ _ (dirs.IsNeededForAll (g.V.View.seen c.args.view.now) h) c.in-NeedBlock.is (c.in_ok-_leaves.ensures.needed h shown)),
  needed_at _ _ _ c.in-NeedBlock.is c.in_ok-_leaves.ensures.absent,
)
