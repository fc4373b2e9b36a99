use Rattle.std.proofs.Common.{List, Some, ap, sym, subst, ◌∙◌}
use Rattle.file_tree.specs.Tree.{set}
use Rattle.file_tree.specs.Held.{entries_held, IsEntryAt, NamesRise}
use Rattle.file_tree.specs.declared.tree.Entry.{Entry}
use Rattle.file_tree.proofs.Entries.{look_at, held_back, held_set, name_at}
use Rattle.file_tree.proofs.Places.{rises_set}
use Rattle.file_tree.proofs.tree.edits.exchange_entry.Goals as goal

pub returns-clause-stood : goal.returns-clause-stood
returns-clause-stood c =
    let h = subst (λ (es : List Entry). IsEntryAt es c.in-Ok.place c.args.name.now) c.deref.ensures.value c.in-Ok.ensures.at in
    let item = c.index_mut-entry.ensures.value in
    look_at c.args.entries.now.items c.in-Ok.place c.args.name.now c.index_mut-entry.result.now h ∙ ap (λ (e : Entry). Some e.tree) (sym item) ∙ ap Some (sym c.replace.ensures.value)

pub returns-clause-set : goal.returns-clause-set
returns-clause-set c =
    let h = subst (λ (es : List Entry). IsEntryAt es c.in-Ok.place c.args.name.now) c.deref.ensures.value c.in-Ok.ensures.at in
    let item = c.index_mut-entry.ensures.value in
    let same = ap (λ (e : Entry). e.name) item ∙ name_at c.args.entries.now.items c.in-Ok.place c.args.name.now c.index_mut-entry.result.now h in
    held_set c.args.entries.now.items c.in-Ok.place c.args.name.now (record { name = c.index_mut-entry.result.now.name; tree = c.replace.new.dest }) same h
    ∙ ap (set (entries_held c.args.entries.now.items) c.args.name.now) c.replace.ensures.after

pub returns-clause-rise : goal.returns-clause-rise
returns-clause-rise c = subst NamesRise (sym (returns-clause-set c)) (rises_set (entries_held c.args.entries.now.items) c.args.name.now c.args.tree c.requires.rise)

pub returns-clause-back : goal.returns-clause-back
returns-clause-back c =
    let h = subst (λ (es : List Entry). IsEntryAt es c.in-Ok.place c.args.name.now) c.deref.ensures.value c.in-Ok.ensures.at in
    let item = c.index_mut-entry.ensures.value in
    ap (set (entries_held c.args.entries.now.items) c.args.name.now) (c.replace.ensures.value ∙ ap (λ (e : Entry). e.tree) item)
    ∙ held_back c.args.entries.now.items c.in-Ok.place c.args.name.now c.index_mut-entry.result.now h
