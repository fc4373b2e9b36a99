use Rattle.std.proofs.Common.{sym, ap, ◌∙◌}
use Rattle.file_tree.specs.Apply.{entries_of}
use Rattle.file_tree.specs.Held.{tree_held}
use Rattle.file_tree.specs.Tree.{count_in}
use Rattle.file_tree.proofs.Entries.{count_held}
use Rattle.file_tree.proofs.tree.Tree.entry_count.Goals as goal

pub returns-in-Dir : goal.returns-in-Dir
returns-in-Dir c =
    c.len.ensures ∙ c.in-Dir.entries.ok.0 ∙ count_held c.in-Dir.entries.items ∙ ap (λ t. count_in (entries_of t)) (sym (sym c.self.view_is ∙ ap tree_held c.in-Dir.is))
