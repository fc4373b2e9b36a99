use Rattle.std.proofs.Common.{◌≡◌, ◌∙◌, ap, sym, subst, refl, Some, None, is_some, true, true≢false}
use Rattle.std.specs.Prelude.{option_and_then}
use Rattle.std.specs.Option.{option_map_or}
use Rattle.std.specs.FinMap.{from_entries}
use Rattle.glock_names.specs.declared.LockName.{LockName}
use Rattle.glock_names.specs.StateOrder.{is_below}
use Rattle.glock_machine.specs.Keys.{key_of, key_cmp}
use Rattle.glock_machine.specs.Table.{Table, glock_of, down_of, goes_to}
use Rattle.glock_machine.proofs.Locks.{any_down, first_down, get-locks, goes_at, least_at, nothing_at}
use Rattle.glock_machine.proofs.Below.{goes_below}
use Rattle.glock_machine.proofs.glocks.Glocks.next_down.Goals as goal

pub returns-in-Some-down_of-clause-goes : goal.returns-in-Some-down_of-clause-goes
returns-in-Some-down_of-clause-goes c =
    let first : first_down (any_down c.self.inside.unmounting) c.self.inside.locks.entries ≡ Some (c.in-Some.key.now, c.in-Some-down_of.to) =
    sym c.loop-key.invariant ∙ ap (first_down (any_down c.self.inside.unmounting)) c.in-Some.ensures.steps
    ∙ ap (λ o. option_map_or (λ t. Some (c.in-Some.key.now, t)) o (first_down (any_down c.self.inside.unmounting) c.next.new.self)) (sym c.in-Some-down_of.ensures) in
    (λ i. goes_to (sym c.self.view_is i) (record { kind = c.in-Some.key.now.0; number = c.in-Some.key.now.1 }))
    ∙ ap (option_and_then (down_of c.self.inside.unmounting)) (get-locks c.self.inside.locks.entries c.in-Some.key.now)
    ∙ goes_at (any_down c.self.inside.unmounting) c.self.inside.locks.entries c.iter-key-items.ensures.ordered c.in-Some.key.now c.in-Some-down_of.to first

pub returns-in-Some-down_of-clause-none : goal.returns-in-Some-down_of-clause-none
returns-in-Some-down_of-clause-none c =
    let first : first_down (any_down c.self.inside.unmounting) c.self.inside.locks.entries ≡ Some (c.in-Some.key.now, c.in-Some-down_of.to) =
    sym c.loop-key.invariant ∙ ap (first_down (any_down c.self.inside.unmounting)) c.in-Some.ensures.steps
    ∙ ap (λ o. option_map_or (λ t. Some (c.in-Some.key.now, t)) o (first_down (any_down c.self.inside.unmounting) c.next.new.self)) (sym c.in-Some-down_of.ensures) in (
      λ e. absurd (true≢false e),
      λ all. absurd (true≢false (sym (ap is_some ((λ i. goes_to (sym c.self.view_is i) (record { kind = c.in-Some.key.now.0; number = c.in-Some.key.now.1 }))
          ∙ ap (option_and_then (down_of c.self.inside.unmounting)) (get-locks c.self.inside.locks.entries c.in-Some.key.now)
          ∙ goes_at (any_down c.self.inside.unmounting) c.self.inside.locks.entries c.iter-key-items.ensures.ordered c.in-Some.key.now c.in-Some-down_of.to first)) ∙ ap is_some (all _))),
    )

pub returns-in-Some-down_of-clause-least : goal.returns-in-Some-down_of-clause-least
returns-in-Some-down_of-clause-least c =
    let first : first_down (any_down c.self.inside.unmounting) c.self.inside.locks.entries ≡ Some (c.in-Some.key.now, c.in-Some-down_of.to) =
    sym c.loop-key.invariant ∙ ap (first_down (any_down c.self.inside.unmounting)) c.in-Some.ensures.steps
    ∙ ap (λ o. option_map_or (λ t. Some (c.in-Some.key.now, t)) o (first_down (any_down c.self.inside.unmounting) c.next.new.self)) (sym c.in-Some-down_of.ensures) in
    λ lock goes. least_at (any_down c.self.inside.unmounting) c.self.inside.locks.entries c.iter-key-items.ensures.ordered c.in-Some.key.now c.in-Some-down_of.to first (key_of lock)
    (sym (ap is_some ((λ i. goes_to (sym c.self.view_is i) lock) ∙ ap (option_and_then (down_of c.self.inside.unmounting)) (get-locks c.self.inside.locks.entries (key_of lock)))) ∙ goes)

pub returns-clause-none : goal.returns-clause-none
returns-clause-none c =
    let none : first_down (any_down c.self.inside.unmounting) c.self.inside.locks.entries ≡ None =
    sym c.loop-key.invariant ∙ ap (first_down (any_down c.self.inside.unmounting)) c.in-None.ensures.steps.0 in (
      λ e lock. (λ i. goes_to (sym c.self.view_is i) lock) ∙ ap (option_and_then (down_of c.self.inside.unmounting)) (get-locks c.self.inside.locks.entries (key_of lock))
          ∙ nothing_at (any_down c.self.inside.unmounting) c.self.inside.locks.entries none (key_of lock),
      λ all. refl,
    )

pub returns-in-Some-down_of-clause-weaker : goal.returns-in-Some-down_of-clause-weaker
returns-in-Some-down_of-clause-weaker c =
    let first : first_down (any_down c.self.inside.unmounting) c.self.inside.locks.entries ≡ Some (c.in-Some.key.now, c.in-Some-down_of.to) =
    sym c.loop-key.invariant ∙ ap (first_down (any_down c.self.inside.unmounting)) c.in-Some.ensures.steps
    ∙ ap (λ o. option_map_or (λ t. Some (c.in-Some.key.now, t)) o (first_down (any_down c.self.inside.unmounting) c.next.new.self)) (sym c.in-Some-down_of.ensures) in
    let lock : LockName = record { kind = c.in-Some.key.now.0; number = c.in-Some.key.now.1 } in
    subst (λ (t : Table). is_below c.in-Some-down_of.to (glock_of t lock).state ≡ true) c.self.view_is
    (goes_below (from_entries {R = key_cmp} c.self.inside.locks.entries) c.self.inside.unmounting (c.in-Some.key.now) c.in-Some-down_of.to c.self.invariant
    (ap (option_and_then (down_of c.self.inside.unmounting)) (get-locks c.self.inside.locks.entries c.in-Some.key.now)
    ∙ goes_at (any_down c.self.inside.unmounting) c.self.inside.locks.entries c.iter-key-items.ensures.ordered c.in-Some.key.now c.in-Some-down_of.to first))
