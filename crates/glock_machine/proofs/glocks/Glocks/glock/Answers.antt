use Rattle.std.proofs.Common.{◌∙◌, ap, sym, subst}
use Rattle.std.specs.Prelude.{unwrap_or}
use Rattle.std.specs.FinMap.{from_entries}
use Rattle.glock_machine.specs.Keys.{key_of, key_cmp}
use Rattle.glock_machine.specs.Table.{new_glock, glock_of, IsCalledBelow}
use Rattle.glock_machine.proofs.Locks.{get-locks}
use Rattle.glock_machine.proofs.Below.{below_at}
use Rattle.glock_machine.proofs.glocks.Glocks.glock.Goals as goal

pub returns-clause-value : goal.returns-clause-value
returns-clause-value c = c.unwrap_or.ensures ∙ ap (λ o. unwrap_or o new_glock) (c.copied.ensures ∙ c.get.ensures.value ∙ sym (get-locks _ (key_of c.args.lock)))
    ∙ (λ i. glock_of (c.self.view_is i) c.args.lock)

pub returns-clause-below : goal.returns-clause-below
returns-clause-below c =
    subst IsCalledBelow (sym (c.unwrap_or.ensures ∙ ap (λ o. unwrap_or o new_glock) (c.copied.ensures ∙ c.get.ensures.value ∙ sym (get-locks _ (key_of c.args.lock)))))
    (below_at (from_entries {R = key_cmp} c.self.inside.locks.entries) (key_of c.args.lock) c.self.invariant)
