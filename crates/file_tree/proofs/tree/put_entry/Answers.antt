use Rattle.std.proofs.Common.{◌≡◌, ℕ, List, sym, ap, ◌∙◌, subst}
use Rattle.file_tree.specs.Tree.{set}
use Rattle.file_tree.specs.Held.{entries_held, IsPlace, NamesRise}
use Rattle.file_tree.specs.declared.tree.Entry.{Entry}
use Rattle.file_tree.proofs.Entries.{held_put}
use Rattle.file_tree.proofs.Places.{rises_set}
use Rattle.file_tree.proofs.tree.put_entry.Goals as goal

-- what was put in is the entries with the name set
put_in : (c : goal.In_ok-insert-in-Err) → entries_held c.insert.new.self.items ≡ set (entries_held c.args.entries.now.items) c.args.name c.args.tree
put_in c =
    let place = subst (λ (es : List Entry). IsPlace es c.in-Err.place c.args.name) c.deref.ensures.value (subst (λ (n : List ℕ). IsPlace c.deref.result.now c.in-Err.place n) c.bytes.ensures.bytes c.in-Err.ensures.place) in
    ap entries_held c.in_ok-insert-in-Err.ensures.items ∙ held_put c.args.entries.now.items c.in-Err.place _ place

pub returns-clause-ok : goal.returns-clause-ok
returns-clause-ok c = put_in c

pub returns-clause-rise : goal.returns-clause-rise
returns-clause-rise c = subst NamesRise (sym (put_in c)) (rises_set (entries_held c.args.entries.now.items) c.args.name c.args.tree c.requires.rise)
