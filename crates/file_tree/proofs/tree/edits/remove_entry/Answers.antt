use Rattle.std.proofs.Common.{List, Some, ap, sym, subst, ◌∙◌}
use Rattle.file_tree.specs.Held.{entries_held, IsEntryAt, NamesRise}
use Rattle.file_tree.specs.declared.tree.Entry.{Entry}
use Rattle.file_tree.proofs.Entries.{look_at, held_removed}
use Rattle.file_tree.proofs.Directories.{rises_without}
use Rattle.file_tree.proofs.tree.edits.remove_entry.Goals as goal

pub returns-clause-stood : goal.returns-clause-stood
returns-clause-stood c =
    let h = subst (λ (es : List Entry). IsEntryAt es c.in-Ok.place c.args.name.now) c.deref.ensures.value c.in-Ok.ensures.at in
    look_at c.args.entries.now.items c.in-Ok.place c.args.name.now c.remove.result h ∙ ap (λ (e : Entry). Some e.tree) (sym c.remove.ensures.value)

pub returns-clause-gone : goal.returns-clause-gone
returns-clause-gone c = ap entries_held c.remove.ensures.items ∙ held_removed c.args.entries.now.items c.in-Ok.place c.args.name.now (subst (λ (es : List Entry). IsEntryAt es c.in-Ok.place c.args.name.now) c.deref.ensures.value c.in-Ok.ensures.at)

pub returns-clause-rise : goal.returns-clause-rise
returns-clause-rise c = subst NamesRise (sym (returns-clause-gone c)) (rises_without (entries_held c.args.entries.now.items) c.args.name.now c.requires.rise)
