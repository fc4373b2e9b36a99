-- How live blocks go home, and which are revoked.
use Rattle.std.specs.Prelude.{◌≡◌, ℕ, ◌≤◌, ◌||◌, ◌&&◌, not, Bool, false, List, Option, None, Some}
use Rattle.std.specs.FinMap as table
use Rattle.log_values.specs.Blocks as set
use Rattle.glock_names.specs.declared.LockName.{LockName}
use Rattle.glock_names.specs.LockMaps.{same_lock}
use Rattle.log_values.specs.Log.{Entry, LogValue}
use Rattle.log_tables.specs.Versions.Way.{Away, Flying}
use Rattle.log_values.specs.Changes.{is_flushed}
use Rattle.log_values.specs.Flushing.{settled}
use Rattle.log_values.specs.declared.steps.LogStep.{LogStep}
use Rattle.log_values.specs.declared.steps.LogStep.TheVariants as step

-- a live block that is under the lock isn't home, nor on its way, and this is its content
pub record IsAwayUnder (log : LogValue) (lock : LockName) (b : ℕ) (bytes : List ℕ) : Type 0 where
  pub entry : Entry
  pub live : table.get log.live b ≡ Some entry
  pub under : entry.lock ≡ lock
  pub away : entry.way ≡ Away bytes

-- What a call for the next write home of a lock's blocks answers: the least of them that is away goes home; there is none, or a flush was begun, since nothing goes home while a header may come.
pub data HomeAnswer (log new : LogValue) (lock : LockName) (bytes : List ℕ) : Option LogStep → Type 0 where
  nothing : ((b : ℕ) (at : List ℕ) → log.flush ≡ None → IsAwayUnder log lock b at → ⊥) → new ≡ log → HomeAnswer log new lock bytes None
  goes_home : (b : ℕ) (is : IsAwayUnder log lock b bytes) → log.flush ≡ None → ((c : ℕ) (at : List ℕ) → IsAwayUnder log lock c at → b ≤ c)
      → new ≡ record log { live = table.insert log.live b (record is.entry { way = Flying bytes }) } → HomeAnswer log new lock bytes (Some (step.Write b))

-- a barrier was made: what was on its way is home
pub record Settles (log new : LogValue) : Type 0 where
  pub same : new ≡ record log { live = new.live }
  pub settles : (b : ℕ) → table.get new.live b ≡ settled (table.get log.live b)

-- ---- revokes

abbrev pub is_under : LockName → Option Entry → Bool
is_under lock None = false
is_under lock (Some e) = same_lock lock e.lock

-- a live block that was under the lock at its flush is to be revoked, but where a newer version is to be flushed or is being flushed
abbrev pub to_revoke : LogValue → LockName → ℕ → Bool
to_revoke log lock b = is_under lock (table.get log.live b) && not (table.contains_key log.fresh b || is_flushed log.flush b)

-- such blocks are to be revoked, and what was is still
pub record RevokesUnder (log new : LogValue) (lock : LockName) : Type 0 where
  pub same : new ≡ record log { gone = new.gone }
  pub revokes : (b : ℕ) → set.contains new.gone b ≡ (set.contains log.gone b || to_revoke log lock b)
