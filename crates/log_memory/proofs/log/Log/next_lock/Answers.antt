use Rattle.std.proofs.Common.{Option, None, Some, subst}
use Rattle.std.specs.Prelude.{IfSome}
use Rattle.std.specs.FinMap as table
use Rattle.glock_names.specs.declared.LockName.{LockName}
use Rattle.log_values.specs.Log.{LogValue}
use Rattle.log_memory.specs.Locks.{IsLeastFound, IsNextLock}
use Rattle.log_memory.proofs.LeastLocks.{next_lock, none_away}
use Rattle.log_memory.proofs.log.Log.next_lock.Goals as goal

pub returns-clause-some : goal.returns-clause-some
returns-clause-some c = by c.least_lock.result (subst (λ (l : LogValue). IsLeastFound (table.entries l.live) (table.len l.live) c.least_lock.result) c.self.view_is c.least_lock.ensures)
  where
    by : (o : Option LockName) → IsLeastFound (table.entries c.args.self.now.live) (table.len c.args.self.now.live) o → IfSome o (IsNextLock c.args.self.now)
    by None found = tt
    by (Some lock) found = next_lock c.args.self.now lock found

pub returns-clause-none : goal.returns-clause-none
returns-clause-none c none =
    none_away c.args.self.now (subst (IsLeastFound (table.entries c.args.self.now.live) (table.len c.args.self.now.live)) none
    (subst (λ (l : LogValue). IsLeastFound (table.entries l.live) (table.len l.live) c.least_lock.result) c.self.view_is c.least_lock.ensures))
