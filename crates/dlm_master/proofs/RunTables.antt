-- What the calls do to a table they do to its locks.
use Rattle.std.proofs.Common.{◌≡◌, Bool, true, false, Option, None, Some, cond, refl, sym, ap, ◌∙◌}
use Rattle.std.specs.Prelude.{is_none, unwrap_or}
use Rattle.glock_names.specs.declared.LockName.{LockName}
use Rattle.glock_names.specs.LockMaps.{at_lock}
use Rattle.glock_names.proofs.LockMapLaws.{at_lock-with_same, at_lock-with_other}
use Rattle.dlm_master.specs.LockState.{LockState}
use Rattle.dlm_master.specs.Locks.{free_lock, after_grants}
use Rattle.dlm_master.specs.Tables.{MasterState, lock_of, with_state, is_blocked, after_turns}
use Rattle.dlm_master.specs.Runs.{Run, run_of}
use Rattle.dlm_master.specs.Laws.{TablesAreRuns}

-- the lock that was written in a master's map
pub written : (m : MasterState) (lock : LockName) (t : LockState) → lock_of (with_state m lock t) lock ≡ t
written m lock t = ap (λ (o : Option LockState). unwrap_or o free_lock) (at_lock-with_same m.table lock t)

-- the lock whose waiters have taken their turns
pub turned-lock : (m : MasterState) (lock : LockName) → lock_of (after_turns m lock) lock ≡ after_grants (lock_of m lock)
turned-lock m lock = by (at_lock m.table lock) refl
  where
    by : (o : Option LockState) → at_lock m.table lock ≡ o
        → lock_of (cond (is_none (at_lock m.table lock)) m (with_state m lock (after_grants (lock_of m lock)))) lock ≡ after_grants (lock_of m lock)
    by None e = ap (λ (b : Bool). lock_of (cond b m (with_state m lock (after_grants (lock_of m lock)))) lock) (ap is_none e)
        ∙ (ap (λ (o : Option LockState). unwrap_or o free_lock) e ∙ sym (ap (λ (o : Option LockState). after_grants (unwrap_or o free_lock)) e))
    by (Some t) e = ap (λ (b : Bool). lock_of (cond b m (with_state m lock (after_grants (lock_of m lock)))) lock) (ap is_none e)
        ∙ written m lock (after_grants (lock_of m lock))

-- the turns change what a table has of its locks alone
turned-run : (m : MasterState) (lock : LockName) → run_of (after_turns m lock) lock ≡ (let r : Run = record { rebuild = m.rebuild; waiting = m.waiting; lock = lock_of (after_turns m lock) lock } in r)
turned-run m lock = by (is_none (at_lock m.table lock))
  where
    by : (b : Bool) → run_of (cond b m (with_state m lock (after_grants (lock_of m lock)))) lock
        ≡ (let r : Run = record { rebuild = m.rebuild; waiting = m.waiting; lock = lock_of (cond b m (with_state m lock (after_grants (lock_of m lock)))) lock } in r)
    by true = refl
    by false = refl

with-lock : (m : MasterState) (a b : LockState) → a ≡ b → (let r : Run = record { rebuild = m.rebuild; waiting = m.waiting; lock = a } in r) ≡ (let r : Run = record { rebuild = m.rebuild; waiting = m.waiting; lock = b } in r)
with-lock m a b e = ap (λ (l : LockState). let r : Run = record { rebuild = m.rebuild; waiting = m.waiting; lock = l } in r) e

grants : (m : MasterState) (lock : LockName) (b : Bool)
    → run_of (cond b m (after_turns m lock)) lock ≡ cond b (run_of m lock) (let r : Run = record { rebuild = m.rebuild; waiting = m.waiting; lock = after_grants (lock_of m lock) } in r)
grants m lock true = refl
grants m lock false = turned-run m lock ∙ with-lock m (lock_of (after_turns m lock) lock) (after_grants (lock_of m lock)) (turned-lock m lock)

pub tables-are-runs : TablesAreRuns
tables-are-runs = record {
  requests = λ m node lock mode. with-lock m _ _ (written m lock _);
  converts = λ m node lock mode. with-lock m _ _ (written m lock _);
  lowers = λ m node lock mode value. with-lock m _ _ (written m lock _);
  grants = λ m lock. grants m lock (is_blocked m);
  elsewhere = λ m lock other l ne. with-lock m _ _ (ap (λ (o : Option LockState). unwrap_or o free_lock) (at_lock-with_other m.table other lock l ne));
}
