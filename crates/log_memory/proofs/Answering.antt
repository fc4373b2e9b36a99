-- What a call for the next step of a flush answers.
use Rattle.std.proofs.Common.{◌≡◌, ℕ, List, true, Option, None, Some, refl, sym, ap, ◌∙◌, true≢false, is_some}
use Rattle.log_values.specs.Log.{LogValue}
use Rattle.log_values.specs.Flushing.{Begins, FlushAnswer, FlushStep}
use Rattle.log_values.specs.Flushing.Begins.{with_all, alone, goes_on}
use Rattle.log_values.specs.Flushing.FlushAnswer.{nothing, no_room, a_step}
use Rattle.log_values.specs.declared.steps.LogStep.{LogStep}
use Rattle.log_values.specs.declared.steps.LogStep.TheVariants as step
use Rattle.log_memory.specs.Flushing.{IsBegun, Starts}
use Rattle.log_memory.specs.Flushing.Starts.{nothing as starts_nothing, no_room as starts_no_room, begins}
use Rattle.log_memory.specs.Inside.{IsLog, log_in}
use Rattle.log_memory.specs.declared.beginning.Beginning.{Beginning}
use Rattle.log_memory.specs.declared.beginning.Beginning.TheVariants as beginning
use Rattle.log_memory.specs.declared.kinds.Stage.{Stage}
use Rattle.log_memory.specs.declared.log.Log.TheInside.{Inside}
use Rattle.log_memory.proofs.Counts.{begun_at, flush_with}

module _ (l : Inside) (h : IsLog l) (log : LogValue) (same : log_in l ≡ log) where
  pub begun_then : is_some l.stage ≡ true → IsBegun log
  begun_then some = by l.stage refl some
    where
      by : (o : Option Stage) → l.stage ≡ o → is_some o ≡ true → IsBegun log
      by None is some = absurd (true≢false (sym some))
      by (Some s) is some = (begun_at l h s, ap (λ (x : LogValue). x.flush) (sym same) ∙ flush_with l h s is)

-- a flush that goes on
pub goes_so : (log new : LogValue) (bytes : List ℕ) (s : LogStep) (begun : IsBegun log) → FlushStep log new begun.0 bytes s → FlushAnswer log new bytes (Some s)
goes_so log new bytes s begun stepped = a_step log begun.0 s (goes_on begun.0 begun.1) begun.1 stepped

-- one that begins
began : (log m : LogValue) (b : Beginning) → b ≡ beginning.Begun → Starts log m b → Begins log m
began log m b is (starts_nothing due alone_due unchanged) = absurd (other is)
  where
    other : beginning.Nothing ≡ beginning.Begun → ⊥
    other e = cc
began log m b is (starts_no_room due room alone_due unchanged) = absurd (other is)
  where
    other : beginning.NoRoom ≡ beginning.Begun → ⊥
    other e = cc
began log m b is (begins how) = how

same_size : (log m : LogValue) → Begins log m → m.journal.size ≡ log.journal.size
same_size log m (with_all none due room) = refl
same_size log m (alone none home some more) = refl
same_size log m (goes_on f is) = refl

is_begun : (log m : LogValue) → Begins log m → IsBegun m
is_begun log m (with_all none due room) = (_, refl)
is_begun log m (alone none home some more) = (_, refl)
is_begun log m (goes_on f is) = (f, is)

module _ (log m : LogValue) (b : Beginning) (is : b ≡ beginning.Begun) (starts : Starts log m b) where
  pub size_then : m.journal.size ≡ log.journal.size
  size_then = same_size log m (began log m b is starts)

  pub begun_now : IsBegun m
  begun_now = is_begun log m (began log m b is starts)

  pub begins_so : (new : LogValue) (bytes : List ℕ) (s : LogStep) → FlushStep m new begun_now.0 bytes s → FlushAnswer log new bytes (Some s)
  begins_so new bytes s stepped = a_step m begun_now.0 s (began log m b is starts) begun_now.1 stepped

-- none does
pub nothing_so : (log m : LogValue) (b : Beginning) → log.flush ≡ None → (bytes : List ℕ) → b ≡ beginning.Nothing → Starts log m b → FlushAnswer log m bytes None
nothing_so log m b none bytes is (starts_nothing due alone_due unchanged) = nothing none due alone_due unchanged
nothing_so log m b none bytes is (starts_no_room due room alone_due unchanged) = absurd (other is)
  where
    other : beginning.NoRoom ≡ beginning.Nothing → ⊥
    other e = cc
nothing_so log m b none bytes is (begins how) = absurd (other is)
  where
    other : beginning.Begun ≡ beginning.Nothing → ⊥
    other e = cc

pub no_room_so : (log m : LogValue) (b : Beginning) → log.flush ≡ None → (bytes : List ℕ) → b ≡ beginning.NoRoom → Starts log m b → FlushAnswer log m bytes (Some step.NoRoom)
no_room_so log m b none bytes is (starts_no_room due room alone_due unchanged) = no_room none due room alone_due unchanged
no_room_so log m b none bytes is (starts_nothing due alone_due unchanged) = absurd (other is)
  where
    other : beginning.Nothing ≡ beginning.NoRoom → ⊥
    other e = cc
no_room_so log m b none bytes is (begins how) = absurd (other is)
  where
    other : beginning.Begun ≡ beginning.NoRoom → ⊥
    other e = cc
