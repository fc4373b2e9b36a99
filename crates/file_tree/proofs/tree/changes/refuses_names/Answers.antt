use Rattle.file_tree.proofs.Entries.{names_refuse}
use Rattle.file_tree.proofs.tree.changes.refuses_names.Goals as goal

pub returns-in-len1-up : goal.returns-in-len1-up
returns-in-len1-up c = names_refuse c.args.entries.now c.in-len1-up.len_at_least
