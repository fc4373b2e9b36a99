use Rattle.std.proofs.Common.{◌≡◌, suc, true, refl, sym, ap, ◌∙◌, subst, get_or, take, drop}
use Rattle.std.specs.Prelude.{Contains}
use Rattle.glock_names.specs.StateOrder.{leq}
use Rattle.glock_names.specs.declared.State.TheVariants.{Ex}
use Rattle.glock_names.specs.declared.views.Group.{Group}
use Rattle.path_walks.specs.Holds.{holds, hold_of_group}
use Rattle.group_locks.specs.Groups.{IsOneOrHas}
use Rattle.group_locks.proofs.Fronts.{each_next, each_all, split_there}
use Rattle.group_locks.proofs.groups.lacked_of.Goals.{else-not-is_at_most-via-then-not-is_at_most+else-is_one_or_has, else-not-is_at_most-via-else-not-is_at_most}
use Rattle.group_locks.proofs.groups.lacked_of.Goals as goal

pub returns-then-is_one_or_has-clause-some : goal.returns-then-is_one_or_has-clause-some
returns-then-is_one_or_has-clause-some g c =
    let n = c.loop-group.group-index in
    let items = c.groups-group-items.result.now in
    let none : Group = record { addr = 0; length = 0; first = 0; count = 0 } in
    record {
      front = take n items;
      group = get_or items n none;
      back = drop (suc n) items;
      split = sym c.groups-group-items.ensures ∙ split_there items n none c.loop-group-test.true;
      some = c.is_one_or_has.ensures.one c.if-is_one_or_has.true;
      is = refl;
      lacks = sym (c.is_at_most.ensures ∙ ap (leq Ex) c.state.ensures) ∙ c.if-not-is_at_most.true;
      held = c.loop-group.invariant;
    }

pub loop-group-preserved : goal.loop-group-preserved
loop-group-preserved g c =
    let v = g.V.View.seen c.args.view.now in
    let none : Group = record { addr = 0; length = 0; first = 0; count = 0 } in
    each_next c.groups-group-items.result.now c.loop-group.group-index none (λ k. IsOneOrHas c.args.number c.args.blocks.now k → holds v (hold_of_group k) ≡ true) c.loop-group-test.true c.loop-group.invariant
    (λ some. elim c.else-not-is_at_most.branch [
      | else-not-is_at_most-via-then-not-is_at_most+else-is_one_or_has w ↦ absurd (w.is_one_or_has.ensures.other w.if-is_one_or_has.false some)
      | else-not-is_at_most-via-else-not-is_at_most w ↦ sym (c.is_at_most.ensures ∙ ap (leq Ex) c.state.ensures) ∙ w.if-not-is_at_most.false
    ])

pub returns-clause-none : goal.returns-clause-none
returns-clause-none g c =
    let v = g.V.View.seen c.args.view.now in
    λ k has some. each_all c.groups-group-items.result.now c.loop-group.group-index (λ (j : Group). IsOneOrHas c.args.number c.args.blocks.now j → holds v (hold_of_group j) ≡ true) c.loop-group-test.false c.loop-group.invariant
    k (subst (λ gs. Contains gs k) (sym c.groups-group-items.ensures) has) some
