use Rattle.std.proofs.Common.{sym, ap, ◌∙◌}
use Rattle.file_tree.specs.Held.{tree_held, entries_held}
use Rattle.file_tree.specs.Tree.{dir}
use Rattle.file_tree.proofs.Parts.{none_past, entry_there}
use Rattle.file_tree.proofs.tree.Tree.entry.Goals as goal

pub returns-in-Some : goal.returns-in-Some
returns-in-Some c =
    let is = sym c.self.view_is ∙ ap tree_held c.in-Dir.is ∙ ap (λ es. dir (entries_held es)) (sym c.deref.ensures.value) in
    entry_there c.args.self.now c.deref.result.now c.args.place c.in-Some.entry.now is c.in-Some.ensures.lookup.3.0 c.in-Some.ensures.lookup.1

pub returns-in-None : goal.returns-in-None
returns-in-None c =
    let is = sym c.self.view_is ∙ ap tree_held c.in-Dir.is ∙ ap (λ es. dir (entries_held es)) (sym c.deref.ensures.value) in
    none_past c.args.self.now c.deref.result.now c.args.place is c.in-None.ensures.lookup.3
