use Rattle.std.proofs.Common.{◌≡◌, ap, ◌∙◌, subst}
use Rattle.glock_names.specs.declared.LockName.{LockName}
use Rattle.name_moves.specs.Groups.{AreHeldOf, IsFirstLackOf, IsOneOrHas}
use Rattle.name_moves.specs.Moving.{freed_by, move_of}
use Rattle.move_calls.specs.Carrying.{FirstAreHeld, LacksFirst, where_needed}
use Rattle.move_calls.proofs.Room.{none_map, some_map}
use Rattle.move_calls.proofs.carrying.lacked_first.Goals as goal

pub returns-clause-some : goal.returns-clause-some
returns-clause-some g c =
    let v = g.V.View.seen c.args.view.now in
    let m = move_of c.args.m.now in
    let own = c.own_number-own.ensures in
    let blocks = c.freed_blocks.result.now in
    let number : c.if_needed.result ≡ where_needed own.0.addr c.args.need = c.if_needed.ensures ∙ ap (λ n. where_needed n c.args.need) own.1.1 in
    some_map (IsFirstLackOf v (IsOneOrHas c.if_needed.result blocks)) (LacksFirst v c.args.node m c.args.need) c.lacked_of.result
    (λ (lock : LockName) lacks. record {
      own = own.0;
      of_node = own.1.0;
      lacks = subst (λ n. IsFirstLackOf v (IsOneOrHas n (freed_by m)) lock) number (subst (λ xs. IsFirstLackOf v (IsOneOrHas c.if_needed.result xs) lock) c.freed_blocks.ensures lacks);
    }) c.lacked_of.ensures.some

pub returns-clause-none : goal.returns-clause-none
returns-clause-none g c =
    let v = g.V.View.seen c.args.view.now in
    let m = move_of c.args.m.now in
    let own = c.own_number-own.ensures in
    let blocks = c.freed_blocks.result.now in
    let number : c.if_needed.result ≡ where_needed own.0.addr c.args.need = c.if_needed.ensures ∙ ap (λ n. where_needed n c.args.need) own.1.1 in
    none_map (AreHeldOf v (IsOneOrHas c.if_needed.result blocks)) (FirstAreHeld v c.args.node m c.args.need) c.lacked_of.result
    (λ held. record {
      own = own.0;
      of_node = own.1.0;
      held = subst (λ n. AreHeldOf v (IsOneOrHas n (freed_by m))) number (subst (λ xs. AreHeldOf v (IsOneOrHas c.if_needed.result xs)) c.freed_blocks.ensures held);
    }) c.lacked_of.ensures.none
