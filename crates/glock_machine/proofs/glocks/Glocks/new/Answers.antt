use Rattle.std.proofs.Common.{ap, sym, subst}
use Rattle.std.specs.FinMap.{from_entries}
use Rattle.glock_machine.specs.Keys.{key_cmp}
use Rattle.glock_machine.specs.Table.{AreCalledBelow}
use Rattle.glock_machine.proofs.Below.{all_below_empty}
use Rattle.glock_machine.proofs.glocks.Glocks.new.Goals as goal

pub invariant_of-result : goal.invariant_of-result
invariant_of-result c = subst AreCalledBelow (sym (ap (λ es. from_entries {R = key_cmp} es) c.new.ensures.empty)) all_below_empty
