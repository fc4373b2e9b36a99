use Rattle.std.proofs.Common.{◌≡◌, ◌≤◌, ℕ, ◌-◌, List, ◌∷◌, length, take, drop, get_or, ap, sym, subst, ◌∙◌, arith}
use Rattle.std.proofs.lemmas.Result.{on_ok_weaker, on_err_weaker}
use Rattle.file_tree.specs.Tree.{Tree, dir, set}
use Rattle.file_tree.specs.Apply.{Found, walk, step_to, entries_of}
use Rattle.file_tree.specs.Walks.{IsThere, MayMove}
use Rattle.file_tree.proofs.Slices.{cons_is, nil_is, same_bytes}
use Rattle.file_tree.proofs.WalkLaws.{there_first, there_found, set_there, exchange_back}
use Rattle.file_tree.proofs.MoveLaws.{GoOn, go_below, go_found, go_moved, no_move_up}
use Rattle.file_tree.proofs.tree.Tree.+move_below.Goals as goal

pub unreachable-requires-in-empty-to : goal.unreachable-requires-in-empty-to
unreachable-requires-in-empty-to t c =
    no_move_up c.args.self.now c.args.from.now (subst (λ (q : List (List ℕ)). MayMove c.args.self.now c.args.from.now q) (nil_is c.args.to.now c.in-empty-to.len_below) c.requires)

pub exchange-child-requires : goal.exchange-child-requires
exchange-child-requires t c =
    let names = cons_is c.args.from.now c.name-item.result c.in-len1-up.len_at_least c.name-item.is in
    there_first _ (take (length c.args.from.now - 1) (drop 1 c.args.from.now)) (subst (λ (ns : List (List ℕ)). IsThere (walk c.args.self.now ns)) names c.requires.there)

abbrev rest : List (List ℕ) → List (List ℕ)
rest path = take (length path - 1) (drop 1 path)

go_on : (t : Tree) (from to : List (List ℕ)) (n m : List ℕ) (c : Tree) → 1 ≤ length from → n ≡ get_or from 0 n → 1 ≤ length to → m ≡ get_or to 0 m → n ≡ m
    → step_to (Found t) n ≡ Found c → MayMove t from to → GoOn t from to n (rest from) (rest to) c
go_on t from to n m c some is some' is' same step may = record {
  source = cons_is from n some is;
  target = cons_is to m some' is' ∙ (λ i. sym same i ∷ rest to);
  step = step;
  may = may;
}

pub move_below-moved-requires : goal.move_below-moved-requires
move_below-moved-requires t c =
    let same = sym c.bytes.ensures.bytes ∙ same_bytes c.bytes.result.now c.bytes-in-len1-up-to.result.now c.ne.result c.ne.ensures c.if-ne.false ∙ c.bytes-in-len1-up-to.ensures.bytes in
    let on = go_on c.args.self.now c.args.from.now c.args.to.now c.name-item.result c.other-item.result c.exchange-child.result c.in-len1-up.len_at_least c.name-item.is
    c.in-len1-up-to.len_at_least c.other-item.is same c.exchange-child.ensures.stood c.requires in
    (omega (arith, ap length on.source, c.decreases), go_below on)

pub exchange-requires : goal.exchange-requires
exchange-requires t c =
    let there = set_there c.args.self.now c.name-item.result c.hollow-hollow.result in
    there_found _ _ (ap (λ (u : Tree). step_to (Found u) c.name-item.result) c.exchange-child.ensures.set ∙ there)

pub returns-clause-ok : goal.returns-clause-ok
returns-clause-ok t c =
    let same = sym c.bytes.ensures.bytes ∙ same_bytes c.bytes.result.now c.bytes-in-len1-up-to.result.now c.ne.result c.ne.ensures c.if-ne.false ∙ c.bytes-in-len1-up-to.ensures.bytes in
    let on = go_on c.args.self.now c.args.from.now c.args.to.now c.name-item.result c.other-item.result c.exchange-child.result c.in-len1-up.len_at_least c.name-item.is
    c.in-len1-up-to.len_at_least c.other-item.is same c.exchange-child.ensures.stood c.requires in
    on_ok_weaker c.move_below-moved.result (λ done moved is.
    c.exchange.ensures.set
    ∙ (λ i. dir (set (entries_of (c.exchange-child.ensures.set i)) c.name-item.result (done moved (go_found on moved is) i)))
    ∙ go_moved on moved c.hollow-hollow.result) c.move_below-moved.ensures.ok

pub returns-clause-err : goal.returns-clause-err
returns-clause-err t c =
    on_err_weaker c.move_below-moved.result (λ same.
    c.exchange.ensures.set
    ∙ (λ i. dir (set (entries_of (c.exchange-child.ensures.set i)) c.name-item.result (same i)))
    ∙ exchange_back c.args.self.now c.name-item.result c.hollow-hollow.result c.exchange-child.result c.exchange-child.ensures.back) c.move_below-moved.ensures.err
