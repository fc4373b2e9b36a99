-- While a rebuild is under way no value becomes valid.
use Rattle.std.proofs.Common.{ℕ, ◌≡◌, inl, inr, Option, None, Some, Result, Ok, Err, OnOk, OnErr, sym, ap, ◌∙◌, subst}
use Rattle.std.specs.Prelude.{unwrap_or}
use Rattle.glock_names.specs.declared.LockName.{LockName}
use Rattle.glock_names.proofs.LockMapLaws.{same_lock_tells, at_lock-with_same, at_lock-with_other}
use Rattle.dlm_modes.specs.declared.Mode.{Mode}
use Rattle.dlm_modes.specs.Modes.{not_valid}
use Rattle.dlm_master.specs.declared.claims.Cause.{Cause}
use Rattle.dlm_master.specs.LockState.{LockState}
use Rattle.dlm_master.specs.Locks.{free_lock, requested, converted}
use Rattle.dlm_master.specs.Tables.{MasterState, lock_of, with_state}
use Rattle.dlm_rebuild.specs.Rebuilding.{NoneValid, IsUnderWay}

values-written : (m : MasterState) (lock : LockName) (l : LockState) → l.value ≡ not_valid → NoneValid m → NoneValid (with_state m lock l)
values-written m lock l e none other = elim (same_lock_tells other lock) [
  | inl same ↦ ap (λ (o : LockName). (lock_of (with_state m lock l) o).value) same.1
      ∙ (ap (λ (o : Option LockState). (unwrap_or o free_lock).value) (at_lock-with_same m.table lock l) ∙ e)
  | inr away ↦ ap (λ (o : Option LockState). (unwrap_or o free_lock).value) (at_lock-with_other m.table lock other l away.1) ∙ none other
]

pub written : (m new : MasterState) (lock : LockName) (l : LockState) → IsUnderWay m → l.value ≡ not_valid → new ≡ with_state m lock l → IsUnderWay new
written m new lock l under e is = subst IsUnderWay (sym is) (under.0, values-written m lock l e under.1)

-- a call that writes the lock, or for which there was no memory
pub maybe-written : {A E : Type 0} (r : Result A E) (m new : MasterState) (lock : LockName) (l : LockState) → IsUnderWay m → l.value ≡ not_valid
    → OnOk r (new ≡ with_state m lock l) → OnErr r (new ≡ m) → IsUnderWay new
maybe-written (Ok x) m new lock l under e ok err = written m new lock l under e ok
maybe-written (Err x) m new lock l under e ok err = subst IsUnderWay (sym err) under

pub value-requested : (cause : Option Cause) (l : LockState) (node : ℕ) (mode : Mode) → l.value ≡ not_valid → (requested cause l node mode).value ≡ not_valid
value-requested None l node mode e = e
value-requested (Some c) l node mode e = e

pub value-converted : (cause : Option Cause) (l : LockState) (node : ℕ) (mode : Mode) → l.value ≡ not_valid → (converted cause l node mode).value ≡ not_valid
value-converted None l node mode e = e
value-converted (Some c) l node mode e = e
