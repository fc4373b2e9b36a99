use Rattle.std.proofs.Common.{◌≡◌, List, length, sym, ap, ◌∙◌, subst, arith}
use Rattle.std.specs.Prelude.{IfOk}
use Rattle.glock_names.specs.Views.{Rise}
use Rattle.glock_names.specs.declared.views.Group.{Group}
use Rattle.image_model.proofs.Held.{some_same}
use Rattle.resource_groups.specs.Shown.{said}
use Rattle.room_search.specs.Blocks.{first_holds}
use Rattle.room_search.specs.Parts.{AreGroupsOf}
use Rattle.room_search.specs.Searches.{IsTakenOf, IsUnder}
use Rattle.name_moves.specs.Moving.{move_of}
use Rattle.move_calls.specs.Carrying.{first_groups, where_needed}
use Rattle.move_calls.specs.Firsts.{those_of}
use Rattle.move_calls.proofs.carrying.find_blocks.Goals as goal

pub find_first-requires-clause-few : goal.find_first-requires-clause-few
find_first-requires-clause-few g c =
    let fewer = c.in_ok-first.ensures.few in
    let most = c.is_a_view.ensures.groups.few in
    let same = ap length c.deref.ensures.value in
    omega (arith, fewer, most, same)

pub find_first-requires-clause-of_view : goal.find_first-requires-clause-of_view
find_first-requires-clause-of_view g c = subst (AreGroupsOf (g.V.View.seen c.args.view.now)) (sym c.deref.ensures.value) c.in_ok-first.ensures.of_view

pub find_first-requires-clause-rise : goal.find_first-requires-clause-rise
find_first-requires-clause-rise g c = subst (Rise (g.V.View.seen c.args.view.now).size 0) (sym c.deref.ensures.value) c.in_ok-first.ensures.rise

pub returns-clause-found : goal.returns-clause-found
returns-clause-found g c = λ at own shown is.
    let v = g.V.View.seen c.args.view.now in
    let m = move_of c.args.m.now in
    let need = c.args.need in
    let its = c.own_number-own.ensures in
    let same : its.0 ≡ own = some_same (sym its.1.0.of_node ∙ is) in
    let number : c.if_needed.result ≡ where_needed own.addr need =
    c.if_needed.ensures ∙ ap (λ n. where_needed n need) its.1.1 ∙ ap (λ (k : Group). where_needed k.addr need) same in
    let first : c.deref.result.now ≡ first_groups v own need m =
    c.deref.ensures.value ∙ c.in_ok-first.ensures.are ∙ (λ i. those_of (number i) (c.freed_blocks.ensures i) v.groups) in
    subst (λ (gs : List Group). IfOk c.find_first.result (IsUnder v (first_holds (said at) v.groups gs need) (IsTakenOf v (said at) v.groups gs need))) first (c.find_first.ensures.found at shown)
