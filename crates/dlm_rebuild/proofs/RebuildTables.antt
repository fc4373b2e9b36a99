-- What a rebuild's calls do to its table they do to its locks.
use Rattle.std.proofs.Common.{◌≡◌, ◌≢◌, Bool, Option, refl, ap, ◌∙◌}
use Rattle.std.specs.Prelude.{unwrap_or}
use Rattle.glock_names.specs.declared.LockName.{LockName}
use Rattle.glock_names.proofs.LockMapLaws.{at_lock-with_other}
use Rattle.dlm_master.specs.LockState.{LockState}
use Rattle.dlm_master.specs.Locks.{free_lock, request_cause, requested, convert_cause, converted}
use Rattle.dlm_master.specs.Tables.{MasterState, lock_of, with_state}
use Rattle.dlm_master.proofs.RunTables.{written}
use Rattle.dlm_rebuild.specs.Rebuilding.{RebuildState, IsUnderWay}
use Rattle.dlm_rebuild.specs.Runs.{Call, Reports, Lowers, Requests, Converts, after, with_call, RebuildsAreRuns}

of-call : (r : RebuildState) (lock : LockName) (call : Call) → IsUnderWay r.master → lock_of (with_call r lock call).master lock ≡ after (lock_of r.master lock) call
of-call r lock (Reports node mode) under = written r.master lock _
of-call r lock (Lowers node mode) under = written r.master lock _
of-call r lock (Requests node mode) under =
    let l = lock_of r.master lock in
    written r.master lock _ ∙ ap (λ (b : Bool). requested (request_cause b r.master.waiting l node mode) l node mode) under.0
of-call r lock (Converts node mode) under =
    let l = lock_of r.master lock in
    written r.master lock _ ∙ ap (λ (b : Bool). converted (convert_cause b r.master.waiting l node mode) l node mode) under.0

away : (m : MasterState) (lock other : LockName) (l : LockState) → lock ≢ other → lock_of (with_state m other l) lock ≡ lock_of m lock
away m lock other l ne = ap (λ (o : Option LockState). unwrap_or o free_lock) (at_lock-with_other m.table other lock l ne)

of-other : (r : RebuildState) (lock other : LockName) (call : Call) → lock ≢ other → lock_of (with_call r other call).master lock ≡ lock_of r.master lock
of-other r lock other (Reports node mode) ne = away r.master lock other _ ne
of-other r lock other (Lowers node mode) ne = away r.master lock other _ ne
of-other r lock other (Requests node mode) ne = away r.master lock other _ ne
of-other r lock other (Converts node mode) ne = away r.master lock other _ ne

pub rebuilds-are-runs : RebuildsAreRuns
rebuilds-are-runs = record {
  begins = λ generation members lock. refl;
  calls = of-call;
  elsewhere = of-other;
  ends = λ r lock node. refl;
  blocked = λ r lock waiting. refl;
  completes = λ r lock. refl;
}
