use Rattle.std.proofs.Common.{arith, ℕ, ◌-◌, List, length, take, drop, ap, sym, subst, ◌∙◌}
use Rattle.file_tree.specs.Tree.{Tree, dir, set}
use Rattle.file_tree.specs.Apply.{Found, walk, step_to, put_at, entries_of}
use Rattle.file_tree.specs.Walks.{IsThere}
use Rattle.file_tree.proofs.Slices.{cons_is}
use Rattle.file_tree.proofs.WalkLaws.{there_first, rest_there, there_found, set_there, put_below}
use Rattle.file_tree.proofs.tree.Tree.+set_at.Goals as goal

pub exchange-child-requires : goal.exchange-child-requires
exchange-child-requires t c =
    let names = cons_is c.args.names.now c.name-item.result c.in-len1-up.len_at_least c.name-item.is in
    there_first _ (take (length c.args.names.now - 1) (drop 1 c.args.names.now)) (subst (λ (ns : List (List ℕ)). IsThere (walk c.args.self.now ns)) names c.requires)

pub set_at-stood-requires : goal.set_at-stood-requires
set_at-stood-requires t c =
    let names = cons_is c.args.names.now c.name-item.result c.in-len1-up.len_at_least c.name-item.is in
    let there = subst (λ (ns : List (List ℕ)). IsThere (walk c.args.self.now ns)) names c.requires in
    (omega (arith, ap length names, c.decreases), rest_there c.args.self.now c.name-item.result (take (length c.args.names.now - 1) (drop 1 c.args.names.now)) c.exchange-child.result c.exchange-child.ensures.stood there)

pub exchange-requires : goal.exchange-requires
exchange-requires t c =
    let there = set_there c.args.self.now c.name-item.result c.hollow-hollow.result in
    there_found _ _ (ap (λ (u : Tree). step_to (Found u) c.name-item.result) c.exchange-child.ensures.set ∙ there)

pub returns-in-len1-up-clause-put : goal.returns-in-len1-up-clause-put
returns-in-len1-up-clause-put t c =
    let names = cons_is c.args.names.now c.name-item.result c.in-len1-up.len_at_least c.name-item.is in
    let rest = take (length c.args.names.now - 1) (drop 1 c.args.names.now) in
    c.exchange.ensures.set
    ∙ (λ i. dir (set (entries_of (c.exchange-child.ensures.set i)) c.name-item.result (c.set_at-stood.ensures.put i)))
    ∙ put_below c.args.self.now c.name-item.result rest c.args.tree c.hollow-hollow.result c.exchange-child.result c.exchange-child.ensures.stood
    ∙ ap (λ (ns : List (List ℕ)). put_at ns c.args.tree c.args.self.now) (sym names)
