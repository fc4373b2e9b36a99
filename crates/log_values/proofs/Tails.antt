-- Where a flush is written, and what its tail leaves.
use Rattle.std.proofs.Common.{◌≡◌, ℕ, ◌+◌, ◌-◌, ◌<◌, ◌≤◌, Bool, true, false, length, Some, refl, arith}
use Rattle.std.specs.FinMap as table
use Rattle.node_journal.proofs.Lengths.{chunks_length}
use Rattle.log_tables.specs.Kept.{is_home}
use Rattle.log_values.specs.Blocks as set
use Rattle.log_values.specs.Log.{Entry, Flush, LogValue, Version}
use Rattle.log_values.specs.Flushing.{IsNeeded, IsTail, behind_tail, first_place, flush_chunks, free_in}
use Rattle.log_values.specs.Flushing.IsTail.{of_oldest, of_itself, of_none}
use Rattle.log_values.specs.Sound.{Fits, IsSoundLog, used}
use Rattle.log_values.specs.Sound.Fits.{with_room, alone}
use Rattle.log_values.specs.Transactions.{flushed_as}
use Rattle.log_values.proofs.Fitting.{live_used}
use Rattle.log_values.proofs.Landing.{alone_takes, blocks_fit, none_in}
use Rattle.log_values.proofs.Ways.{way_on}

-- as many places are free as its chunks and its header take
pub chunks_fit : (log : LogValue) (f : Flush) → IsSoundLog log → log.flush ≡ Some f → length (flush_chunks log f) + 1 ≤ free_in log
chunks_fit log f sound is = by (sound.fits f is)
  where
    enough : (k s n : ℕ) → k + 1 ≡ s → s + 1 ≤ n → k + 1 ≤ n
    enough k s n e less = omega arith

    none : (k n : ℕ) → k ≡ 0 → 1 ≤ n → k + 1 ≤ n
    none k n e less = omega arith

    by : Fits log f → length (flush_chunks log f) + 1 ≤ free_in log
    by (with_room room) = enough _ _ _ (chunks_length log.journal.size log.journal.jid (flushed_as f) sound.size) room
    by (alone v r home free) = none _ _ (alone_takes log.journal.size log.journal.jid f sound.size v r) free

-- what is live and what the flush logs are fewer blocks than the journal has places
pub landing_fits : (log : LogValue) (f : Flush) → IsSoundLog log → log.flush ≡ Some f → table.len log.live + table.len f.versions ≤ log.journal.length
landing_fits log f sound is = enough _ _ _ _ _ (live_used log sound) (blocks_fit log f sound) (chunks_fit log f sound is)
  where
    enough : (live versions u k n : ℕ) → live ≤ u → versions ≤ k → k + 1 ≤ n - (u + 1) → live + versions ≤ n
    enough live versions u k n a b c = omega arith

-- the place behind the head is one further from the tail
pub first_behind : (log : LogValue) → IsSoundLog log → behind_tail log (first_place log) ≡ used log + 1
first_behind log sound = way_on log.journal.length log.tail log.head 1 sound.tail sound.head (less (used log) log.journal.length sound.free)
  where
    less : (u n : ℕ) → 1 ≤ n - (u + 1) → u + 1 < n
    less u n free = omega arith

module _ (log : LogValue) (f : Flush) (tail : ℕ) (sound : IsSoundLog log) (tells : IsTail log f tail) where
  -- no block that the flush logs is before its tail
  pub logged_behind : (b : ℕ) (v : Version) → table.get f.versions b ≡ Some v → behind_tail log tail ≤ behind_tail log (first_place log)
  logged_behind b v has = by tail tells
    where
      by : (t : ℕ) → IsTail log f t → behind_tail log t ≤ behind_tail log (first_place log)
      by t (of_oldest c e needed least) = let near = (sound.firsts c e needed.live).1 in let first = first_behind log sound in omega arith
      by t (of_itself none some) = omega arith
      by t (of_none none empty) = absurd (none_in f.versions b v empty has)

  -- what is before it, and neither logged nor revoked, is home
  pub home_before : (b : ℕ) (e : Entry) → table.get log.live b ≡ Some e → table.contains_key f.versions b ≡ false → set.contains f.revokes b ≡ false → behind_tail log e.first < behind_tail log tail → is_home e.way ≡ true
  home_before b e live unlogged unrevoked before = by (is_home e.way) refl
    where
      not_needed : (t : ℕ) → IsTail log f t → behind_tail log e.first < behind_tail log t → IsNeeded log f b e → ⊥
      not_needed t (of_oldest c d needed least) less is = let most = least b e is in absurd (omega arith)
      not_needed t (of_itself none some) less is = none b e is
      not_needed t (of_none none empty) less is = none b e is

      by : (t : Bool) → is_home e.way ≡ t → is_home e.way ≡ true
      by true is = is
      by false is = absurd (not_needed tail tells before (record { live = live; away = is; unlogged = unlogged; unrevoked = unrevoked }))
