-- How far a flush has come.
use Rattle.std.proofs.Common.{◌≡◌, ◌≢◌, ℕ, ◌<◌, length, None, Some}
use Rattle.journal_outcomes.specs.Rings.{InFlight}
use Rattle.log_layout.specs.Journal.{Ring}
use Rattle.log_rings.specs.Flights.{AreWritten}
use Rattle.log_values.specs.Flushing.{flush_chunks, head_place, header_bytes}
use Rattle.log_values.specs.Log.{Flush, LogValue}
use Rattle.log_values.specs.Log.Stage.{Ending, Headed, Writing}
use Rattle.lone_logs.specs.States.{FliesAs}
use Rattle.lone_logs.specs.States.FliesAs.{headed}

pub no_flush : (f : Flush) → None ≡ Some f → ⊥
no_flush f e = cc

pub same_flush : {f g : Flush} → Some f ≡ Some g → f ≡ g
same_flush e = cc

pub writing_headed : (k t : ℕ) → Writing k ≡ Headed t → ⊥
writing_headed k t e = cc

pub ending_headed : (t : ℕ) → Ending ≡ Headed t → ⊥
ending_headed t e = cc

pub headed_tells : (t u : ℕ) → Headed t ≡ Headed u → t ≡ u
headed_tells t u e = cc

-- a flush whose header is in flight
pub record FliesHeaded (ring : Ring) (flying : InFlight) (log : LogValue) (f : Flush) (tail : ℕ) : Type 0 where
  pub written : AreWritten ring log f (length (flush_chunks log f))
  pub here : flying (head_place log f) ≡ Some (header_bytes log f tail)
  pub alone : (p : ℕ) → p < ring.places → p ≢ head_place log f → flying p ≡ None

pub flies_headed : (ring : Ring) (flying : InFlight) (log : LogValue) (f : Flush) (tail : ℕ) → FliesAs ring flying log f (Headed tail) → FliesHeaded ring flying log f tail
flies_headed ring flying log f tail (headed _ written here alone) = record { written = written; here = here; alone = alone }
