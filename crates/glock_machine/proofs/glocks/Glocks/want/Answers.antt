use Rattle.std.proofs.Common.{◌∙◌, ap, sym, subst}
use Rattle.std.specs.FinMap.{from_entries}
use Rattle.glock_machine.specs.Keys.{key_of, key_cmp}
use Rattle.glock_machine.specs.Table.{with_glock, wanted, IsCalledBelow, AreCalledBelow}
use Rattle.glock_machine.proofs.Locks.{locks_insert}
use Rattle.glock_machine.proofs.Below.{wanted_below, all_below_insert}
use Rattle.glock_machine.proofs.glocks.Glocks.want.Goals as goal

pub returns-clause-ok : goal.returns-clause-ok
returns-clause-ok c =
    (λ i. record { locks = locks_insert _ _ (key_of c.args.lock) _ (c.in_ok-insert.ensures.updates.0) i; unmounting = c.self.inside.unmounting })
    ∙ (λ i. with_glock (c.self.view_is i) c.args.lock ((c.wanted-glock.ensures ∙ ap (wanted c.args.state) c.glock.ensures.value) i))

pub invariant_of-self-2 : goal.invariant_of-self-2
invariant_of-self-2 c =
    subst AreCalledBelow (sym (locks_insert _ _ (key_of c.args.lock) _ (c.in_ok-insert.ensures.updates.0)))
    (all_below_insert (from_entries {R = key_cmp} c.self.inside.locks.entries) (key_of c.args.lock) c.wanted-glock.result c.self.invariant
    (subst IsCalledBelow (sym c.wanted-glock.ensures) (wanted_below c.glock.result c.args.state c.glock.ensures.below)))

pub put-requires-clause-below : goal.put-requires-clause-below
put-requires-clause-below c = subst IsCalledBelow (sym c.wanted-glock.ensures) (wanted_below c.glock.result c.args.state c.glock.ensures.below)
