use Rattle.std.proofs.Common.{◌≡◌, ◌∙◌, ap, sym, subst, refl, Some, None, is_some, IsSome, true, true≢false}
use Rattle.std.specs.Option.{option_map_or}
use Rattle.std.specs.FinMap.{from_entries}
use Rattle.std.specs.declared.cmp.Ordering.TheVariants.{Less}
use Rattle.glock_names.specs.declared.LockName.{LockName}
use Rattle.glock_names.specs.StateOrder.{is_below}
use Rattle.glock_machine.specs.Keys.{key_of, key_cmp, lock_cmp}
use Rattle.glock_machine.specs.Table.{Table, glock_of, goes_to}
use Rattle.glock_machine.proofs.Locks.{down_behind, first_down}
use Rattle.glock_machine.proofs.Behind.{first_goes, first_behind, first_least, none_behind}
use Rattle.glock_machine.proofs.Below.{goes_below}
use Rattle.glock_machine.proofs.glocks.Glocks.next_down_after.Goals as goal

pub returns-in-Some-down_behind-clause-none : goal.returns-in-Some-down_behind-clause-none
returns-in-Some-down_behind-clause-none c =
    let first : first_down (down_behind (key_of c.args.after) c.self.inside.unmounting) c.self.inside.locks.entries ≡ Some (c.in-Some.key.now, c.in-Some-down_behind.to) =
    sym c.loop-key.invariant ∙ ap (first_down (down_behind (key_of c.args.after) c.self.inside.unmounting)) c.in-Some.ensures.steps
    ∙ ap (λ o. option_map_or (λ t. Some (c.in-Some.key.now, t)) o (first_down (down_behind (key_of c.args.after) c.self.inside.unmounting) c.next.new.self))
    (sym c.down_behind.ensures ∙ c.in-Some-down_behind.is) in (
      λ e. absurd (true≢false e),
      λ all. absurd (true≢false (sym (ap is_some ((λ i. goes_to (sym c.self.view_is i) (record { kind = c.in-Some.key.now.0; number = c.in-Some.key.now.1 }))
          ∙ first_goes c.args.after c.self.inside.unmounting c.self.inside.locks.entries c.iter-key-items.ensures.ordered c.in-Some.key.now c.in-Some-down_behind.to first))
          ∙ ap is_some (all _ (first_behind c.args.after c.self.inside.unmounting c.self.inside.locks.entries c.iter-key-items.ensures.ordered c.in-Some.key.now c.in-Some-down_behind.to first)))),
    )

pub returns-in-Some-down_behind-clause-goes : goal.returns-in-Some-down_behind-clause-goes
returns-in-Some-down_behind-clause-goes c =
    let first : first_down (down_behind (key_of c.args.after) c.self.inside.unmounting) c.self.inside.locks.entries ≡ Some (c.in-Some.key.now, c.in-Some-down_behind.to) =
    sym c.loop-key.invariant ∙ ap (first_down (down_behind (key_of c.args.after) c.self.inside.unmounting)) c.in-Some.ensures.steps
    ∙ ap (λ o. option_map_or (λ t. Some (c.in-Some.key.now, t)) o (first_down (down_behind (key_of c.args.after) c.self.inside.unmounting) c.next.new.self))
    (sym c.down_behind.ensures ∙ c.in-Some-down_behind.is) in
    (λ i. goes_to (sym c.self.view_is i) (record { kind = c.in-Some.key.now.0; number = c.in-Some.key.now.1 }))
    ∙ first_goes c.args.after c.self.inside.unmounting c.self.inside.locks.entries c.iter-key-items.ensures.ordered c.in-Some.key.now c.in-Some-down_behind.to first

pub returns-in-Some-down_behind-clause-least : goal.returns-in-Some-down_behind-clause-least
returns-in-Some-down_behind-clause-least c =
    let first : first_down (down_behind (key_of c.args.after) c.self.inside.unmounting) c.self.inside.locks.entries ≡ Some (c.in-Some.key.now, c.in-Some-down_behind.to) =
    sym c.loop-key.invariant ∙ ap (first_down (down_behind (key_of c.args.after) c.self.inside.unmounting)) c.in-Some.ensures.steps
    ∙ ap (λ o. option_map_or (λ t. Some (c.in-Some.key.now, t)) o (first_down (down_behind (key_of c.args.after) c.self.inside.unmounting) c.next.new.self))
    (sym c.down_behind.ensures ∙ c.in-Some-down_behind.is) in
    λ lock less goes. first_least c.args.after c.self.inside.unmounting c.self.inside.locks.entries c.iter-key-items.ensures.ordered c.in-Some.key.now c.in-Some-down_behind.to first lock less
    (sym (ap is_some (λ i. goes_to (sym c.self.view_is i) lock)) ∙ goes)

pub returns-in-Some-down_behind-clause-weaker : goal.returns-in-Some-down_behind-clause-weaker
returns-in-Some-down_behind-clause-weaker c =
    let first : first_down (down_behind (key_of c.args.after) c.self.inside.unmounting) c.self.inside.locks.entries ≡ Some (c.in-Some.key.now, c.in-Some-down_behind.to) =
    sym c.loop-key.invariant ∙ ap (first_down (down_behind (key_of c.args.after) c.self.inside.unmounting)) c.in-Some.ensures.steps
    ∙ ap (λ o. option_map_or (λ t. Some (c.in-Some.key.now, t)) o (first_down (down_behind (key_of c.args.after) c.self.inside.unmounting) c.next.new.self))
    (sym c.down_behind.ensures ∙ c.in-Some-down_behind.is) in
    subst (λ (t : Table). is_below c.in-Some-down_behind.to (glock_of t (record { kind = c.in-Some.key.now.0; number = c.in-Some.key.now.1 })).state ≡ true) c.self.view_is
    (goes_below (from_entries {R = key_cmp} c.self.inside.locks.entries) c.self.inside.unmounting c.in-Some.key.now c.in-Some-down_behind.to c.self.invariant
    (first_goes c.args.after c.self.inside.unmounting c.self.inside.locks.entries c.iter-key-items.ensures.ordered c.in-Some.key.now c.in-Some-down_behind.to first))

pub loop-key-preserved : goal.loop-key-preserved
loop-key-preserved c =
    sym (ap (first_down (down_behind (key_of c.args.after) c.self.inside.unmounting)) c.in-Some.ensures.steps
    ∙ ap (λ o. option_map_or (λ t. Some (c.in-Some.key.now, t)) o (first_down (down_behind (key_of c.args.after) c.self.inside.unmounting) c.next.new.self))
    (sym c.in_default.ensures)) ∙ c.loop-key.invariant

pub returns-clause-none : goal.returns-clause-none
returns-clause-none c =
    let none : first_down (down_behind (key_of c.args.after) c.self.inside.unmounting) c.self.inside.locks.entries ≡ None =
    sym c.loop-key.invariant ∙ ap (first_down (down_behind (key_of c.args.after) c.self.inside.unmounting)) c.in-None.ensures.steps.0 in (
      λ e lock less. (λ i. goes_to (sym c.self.view_is i) lock) ∙ none_behind c.args.after c.self.inside.unmounting c.self.inside.locks.entries none lock less,
      λ all. refl,
    )
