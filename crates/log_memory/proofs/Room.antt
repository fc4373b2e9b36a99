-- How much a log may keep, whatever it keeps, and once blocks are freed and written.
use Rattle.std.proofs.Common.{ℕ, ◌+◌, ◌<◌, ◌≤◌, List, [], ◌∷◌, length, refl, arith}
use Rattle.std.proofs.lemmas.List.Elements.{All-nil}
use Rattle.std.specs.FinMap as table
use Rattle.drafts.specs.declared.change.Written.{Written}
use Rattle.glock_names.specs.declared.LockName.{LockName}
use Rattle.journal_scan.specs.Said.{logged}
use Rattle.node_journal.specs.Written.{IsLoggable}
use Rattle.log_values.specs.Blocks as set
use Rattle.log_values.specs.Log.{LogValue}
use Rattle.log_values.specs.Changes.{frames_taken, version_of, without_written}
use Rattle.log_values.specs.Sound.{IsSoundLog}
use Rattle.log_values.proofs.Changing.{lists_sound}
use Rattle.log_values.proofs.Fitting.{gone_fits}
use Rattle.log_values.proofs.Growing.{freed_fewer, inserted_len, one_fewer, written_grows, written_within}
use Rattle.log_memory.specs.Adding.{with_freed_all, with_written_all}

fewer_gone : (ws : List Written) (s : set.Blocks) → table.len (without_written ws s) ≤ table.len s
fewer_gone [] s = omega arith
fewer_gone (w ∷ ws) s = let rest = fewer_gone ws (set.remove s w.block) in let less = one_fewer s w.block in omega arith

module _ (log : LogValue) (sound : IsSoundLog log) where
  pub few_fresh : table.len log.fresh ≤ 4096
  few_fresh = let taken : frames_taken log ≤ log.journal.frames = sound.frames in let few = sound.few in omega arith

  pub few_gone : table.len log.gone < 69632
  few_gone = let fits = gone_fits log sound in let few = sound.few in let most = sound.most in omega arith

  module _ (bs : List ℕ) where
    freed_sound : IsSoundLog (with_freed_all log bs)
    freed_sound =
        lists_sound log [] [] bs sound refl (All-nil (λ (w : Written). IsLoggable log.journal.size (logged w)))
        (let fewer = freed_fewer bs log.fresh in let taken : frames_taken log ≤ log.journal.frames = sound.frames in omega arith)

    pub few_freed : table.len (with_freed_all log bs).gone < 69632
    few_freed = let fits = gone_fits (with_freed_all log bs) freed_sound in let few = sound.few in let most = sound.most in omega arith

    module _ (ws : List Written) (ls : List LockName) where
      pub few_left : table.len (with_written_all (with_freed_all log bs) ws ls).gone < 69632
      few_left = let fewer = fewer_gone ws (with_freed_all log bs).gone in let few = few_freed in omega arith

      pub few_written : table.len (with_written_all (with_freed_all log bs) ws ls).fresh ≤ 4096 + length ws
      few_written = let all = few_fresh in let fewer = freed_fewer bs log.fresh in let more = written_within ws ls (with_freed_all log bs).fresh in omega arith

-- there is a frame for the next block that is written
pub next_frame : (log : LogValue) (w : Written) (l : LockName) (ws : List Written) (ls : List LockName) → frames_taken (with_written_all log (w ∷ ws) (l ∷ ls)) ≤ log.journal.frames
    → frames_taken (record log { fresh = table.remove log.fresh w.block }) < log.journal.frames
next_frame log w l ws ls room =
    let more = inserted_len log.fresh w.block (version_of w l) in
    let grows = written_grows ws ls (table.insert log.fresh w.block (version_of w l)) in
    omega arith

-- and one more change than there is without it
pub next_change : (log : LogValue) (w : Written) (l : LockName) (ws : List Written) (ls : List LockName) (most : ℕ) → table.len (with_written_all log (w ∷ ws) (l ∷ ls)).fresh < most
    → table.len (table.remove log.fresh w.block) + 1 < most
next_change log w l ws ls most few =
    let more = inserted_len log.fresh w.block (version_of w l) in
    let grows = written_grows ws ls (table.insert log.fresh w.block (version_of w l)) in
    omega arith
