use Rattle.std.proofs.Common.{sym, subst}
use Rattle.image_model.specs.Rules.{IsWholeList}
use Rattle.image_reader.specs.Reading.{image_at}
use Rattle.image_reader.proofs.tree.read_blocks.Goals as goal

pub read_from-requires-clause-list : goal.read_from-requires-clause-list
read_from-requires-clause-list c = subst (IsWholeList (image_at c.args.image)) (sym c.deref.ensures.value) c.in_ok-groups.ensures.list
