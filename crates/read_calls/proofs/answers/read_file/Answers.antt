use Rattle.std.proofs.Common.{length, sym, ap, ◌∙◌}
use Rattle.glock_names.proofs.StepLaws.{answer_at, needed_at}
use Rattle.dinode_tree.specs.Broken.{IsBroken}
use Rattle.path_walks.specs.Walks.{IsWrongAt}
use Rattle.read_calls.proofs.Answering.{file_so}
use Rattle.read_calls.proofs.answers.read_file.Goals as goal
use Rattle.path_walks.proofs.Faults.{told_on, tells_all, tells_so}

pub returns-in-Is-clause-read : goal.returns-in-Is-clause-read
returns-in-Is-clause-read g c h shown = (
  file_so h c.args.place.now.dinode (c.requires.dinode h shown) (sym c.is_directory.ensures ∙ c.if-is_directory.false),
  ap length c.new.ensures ∙ answer_at _ _ _ c.in-Is.is (c.in_ok-bytes.ensures.length h shown),
  λ whole. c.new.ensures ∙ answer_at _ _ _ c.in-Is.is (c.in_ok-bytes.ensures.found h shown whole),
)

pub returns-in-NeedBlock-clause-read : goal.returns-in-NeedBlock-clause-read
returns-in-NeedBlock-clause-read g c h shown = (
  file_so h c.args.place.now.dinode (c.requires.dinode h shown) (sym c.is_directory.ensures ∙ c.if-is_directory.false),
  needed_at _ _ _ c.in-NeedBlock.is (c.in_ok-bytes.ensures.needed h shown),
)

pub returns-in-NeedBlock-clause-asked : goal.returns-in-NeedBlock-clause-asked
returns-in-NeedBlock-clause-asked g c h shown = (
  file_so h c.args.place.now.dinode (c.requires.dinode h shown) (sym c.is_directory.ensures ∙ c.if-is_directory.false),
  needed_at _ _ _ c.in-NeedBlock.is (c.in_ok-bytes.ensures.needed h shown),
)

pub returns-in_err-bytes-clause-damaged : goal.returns-in_err-bytes-clause-damaged
returns-in_err-bytes-clause-damaged g c =
    let v = g.V.View.seen c.args.view.now in
    told_on (IsWrongAt v c.args.place.now.inode) _ _ c.from_residual.ensures.1
    (tells_so _ (IsWrongAt v c.args.place.now.inode) (λ rule b broken. IsWrongAt.in_inode rule b broken) c.in_err-bytes.field-0.0 (tells_all v c.args.place.now.inode IsBroken c.in_err-bytes.field-0.0 c.in_err-bytes.ensures.damaged))
