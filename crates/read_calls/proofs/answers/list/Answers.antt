use Rattle.std.proofs.Common.{sym, ◌∙◌}
use Rattle.gfs2_layout.specs.Holding.{Holding}
use Rattle.glock_names.proofs.StepLaws.{answer_at, needed_at}
use Rattle.path_walks.specs.DirectoryShown as dirs
use Rattle.path_walks.specs.Walks.{IsWrongAt}
use Rattle.path_walks.proofs.Faults.{told_on, tells_each, tells_so}
use Rattle.path_walks.proofs.Steps.{directory_all, directory_here, directory_so}
use Rattle.read_calls.proofs.answers.list.Goals as goal

pub names-requires : goal.names-requires
names-requires g c = record {
  directory = directory_here (g.V.View.seen c.args.view.now) c.args.place.now.inode c.args.place.now.dinode c.requires.dinode (sym c.is_directory.ensures ∙ c.if-not-is_directory.false);
}

pub returns-in_err-names-clause-damaged : goal.returns-in_err-names-clause-damaged
returns-in_err-names-clause-damaged g c =
    let v = g.V.View.seen c.args.view.now in
    let is = directory_all v c.args.place.now.inode c.args.place.now.dinode c.requires.dinode (sym c.is_directory.ensures ∙ c.if-not-is_directory.false) in
    told_on (IsWrongAt v c.args.place.now.inode) _ _ c.from_residual.ensures.1
    (tells_so (λ rule b. (h : Holding) → dirs.IsShown v c.args.place.now.inode h → dirs.IsBroken v h rule b) (IsWrongAt v c.args.place.now.inode) (λ rule b broken. IsWrongAt.in_directory rule b is broken) c.in_err-names.field-0.0
    (tells_each (dirs.IsShown v c.args.place.now.inode) (dirs.IsBroken v) c.in_err-names.field-0.0 c.in_err-names.ensures.damaged))

pub returns-in-NeedBlock-clause-asked : goal.returns-in-NeedBlock-clause-asked
returns-in-NeedBlock-clause-asked g c =
    let v = g.V.View.seen c.args.view.now in (
      directory_all v c.args.place.now.inode c.args.place.now.dinode c.requires.dinode (sym c.is_directory.ensures ∙ c.if-not-is_directory.false),
      λ h shown. needed_at _ _ (dirs.IsNeededForAll v h) c.in-NeedBlock.is (c.in_ok-names.ensures.needed h shown),
      needed_at _ _ _ c.in-NeedBlock.is c.in_ok-names.ensures.absent,
    )

pub returns-in_ok-in_order-in-Is-clause-read : goal.returns-in_ok-in_order-in-Is-clause-read
returns-in_ok-in_order-in-Is-clause-read g c h shown = (
  directory_so h c.args.place.now.dinode (c.requires.dinode h shown.inode) (sym c.is_directory.ensures ∙ c.if-not-is_directory.false),
  (c.in-Is.names.items, answer_at _ _ _ c.in-Is.is (c.in_ok-names.ensures.found h shown), c.in_ok-in_order-in-Is.ensures),
)
