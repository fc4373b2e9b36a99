use Rattle.std.proofs.Common.{ℕ, List, Some, ap, sym, subst, ◌∙◌}
use Rattle.file_tree.specs.Tree.{Tree}
use Rattle.file_tree.specs.Apply.{Found, found_or, step_to}
use Rattle.file_tree.specs.Held.{tree_held, IsEntryAt}
use Rattle.file_tree.specs.declared.tree.Entry.{Entry}
use Rattle.file_tree.specs.declared.reply.Reply.TheVariants as reply
use Rattle.file_tree.proofs.Entries.{look_at}
use Rattle.file_tree.proofs.tree.Tree.child.Goals as goal

pub returns-in-Ok : goal.returns-in-Ok
returns-in-Ok c =
    let there = subst (λ (n : List ℕ). IsEntryAt c.deref.result.now c.in-Ok.place n) c.bytes.ensures.bytes c.in-Ok.ensures.at in
    let here = subst (λ (es : List Entry). IsEntryAt es c.in-Ok.place c.args.name.now) c.deref.ensures.value there in
    let found = look_at c.in-Dir.entries.items c.in-Ok.place c.args.name.now c.index.result.now here in
    ap (λ (u : Tree). step_to (Found u) c.args.name.now) (sym c.self.view_is ∙ ap tree_held c.in-Dir.is)
    ∙ ap (found_or reply.NotFound) (found ∙ ap (λ (e : Entry). Some e.tree) (sym c.index.ensures))
