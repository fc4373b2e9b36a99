use Rattle.std.proofs.Common.{ℕ, List, sym, ap, subst, ◌∙◌}
use Rattle.std.proofs.lemmas.Result.{on_ok_weaker}
use Rattle.file_tree.specs.Names.{parent_of}
use Rattle.file_tree.specs.Apply.{walk, put_at}
use Rattle.file_tree.specs.Walks.{IsDirThere, made, is_there}
use Rattle.file_tree.proofs.WalkLaws.{parent_front}
use Rattle.file_tree.proofs.MoveLaws.{room_new}
use Rattle.file_tree.proofs.tree.Tree.make_room.Goals as goal

pub put_new-requires : goal.put_new-requires
put_new-requires c =
    let path = c.in-Some.ensures.cases.0 in
    let parent = ap parent_of path ∙ parent_front c.in-Some.parent.now c.in-Some.name.now in
    room_new c.args.self.now c.in-Some.parent.now c.in-Some.name.now
    (subst (λ (p : List (List ℕ)). IsDirThere (walk c.args.self.now p)) parent c.requires.parent)
    (sym (ap (λ (p : List (List ℕ)). is_there (walk c.args.self.now p)) path) ∙ sym c.stands.ensures ∙ c.if-stands.false)

pub returns-clause-ok : goal.returns-clause-ok
returns-clause-ok c =
    on_ok_weaker c.put_new.result
    (λ e. made c.hollow-hollow.result (e ∙ ap (λ (p : List (List ℕ)). put_at p c.hollow-hollow.result c.args.self.now) (sym c.in-Some.ensures.cases.0))) c.put_new.ensures.ok
