use Rattle.file_tree.proofs.Entries.{count_held}
use Rattle.file_tree.proofs.tree.reads.count_of.Goals as goal

pub returns : goal.returns
returns c = count_held c.args.entries.now
