use Rattle.std.proofs.Common.{ℕ, List, ap, sym, subst, ◌∙◌}
use Rattle.file_tree.specs.Tree.{Tree}
use Rattle.file_tree.specs.Apply.{walk, put_at, remove_at}
use Rattle.file_tree.specs.Walks.{IsThere}
use Rattle.file_tree.proofs.WalkLaws.{there_found, front_there, last_step, walk_put, remove_is}
use Rattle.file_tree.proofs.tree.Tree.take_out.Goals as goal

pub set_at-directory-requires : goal.set_at-directory-requires
set_at-directory-requires c =
    front_there c.args.self.now c.in-Some.parent.now c.in-Some.name.now (subst (λ (p : List (List ℕ)). IsThere (walk c.args.self.now p)) c.in-Some.ensures.cases.0 c.requires.there)

pub remove-stood-requires : goal.remove-stood-requires
remove-stood-requires c =
    let there = subst (λ (p : List (List ℕ)). IsThere (walk c.args.self.now p)) c.in-Some.ensures.cases.0 c.requires.there in
    subst IsThere (last_step c.args.self.now c.in-Some.parent.now c.in-Some.name.now c.set_at-directory.result c.set_at-directory.ensures.stood) there

pub set_at-requires : goal.set_at-requires
set_at-requires c =
    there_found _ _ (ap (λ (u : Tree). walk u c.in-Some.parent.now) c.set_at-directory.ensures.put ∙ walk_put c.in-Some.parent.now c.hollow-hollow.result c.args.self.now)

pub returns-clause-stood : goal.returns-clause-stood
returns-clause-stood c =
    ap (walk c.args.self.now) c.in-Some.ensures.cases.0
    ∙ last_step c.args.self.now c.in-Some.parent.now c.in-Some.name.now c.set_at-directory.result c.set_at-directory.ensures.stood ∙ c.remove-stood.ensures.stood

pub returns-clause-gone : goal.returns-clause-gone
returns-clause-gone c =
    c.set_at.ensures.put
    ∙ (λ i. put_at c.in-Some.parent.now (c.remove-stood.ensures.gone i) (c.set_at-directory.ensures.put i))
    ∙ remove_is c.args.self.now c.in-Some.parent.now c.in-Some.name.now c.set_at-directory.result c.hollow-hollow.result c.set_at-directory.ensures.stood
    ∙ ap (λ (p : List (List ℕ)). remove_at p c.args.self.now) (sym c.in-Some.ensures.cases.0)
