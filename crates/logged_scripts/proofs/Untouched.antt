-- Where no call changes anything, nothing is written.
use Rattle.std.proofs.Common.{◌≡◌, ◌≢◌, ℕ, inl, inr, true, false, not, true≢false, List, [], ◌∷◌, Option, Some, refl, sym, ap, ◌∙◌, subst}
use Rattle.std.specs.FinMap as table
use Rattle.std.specs.List.{AllByRecursion}
use Rattle.disk_items.proofs.Going.{goes_on}
use Rattle.disk_items.specs.Deeds.{Wrote, deed_told}
use Rattle.glock_names.specs.declared.LockName.{LockName}
use Rattle.log_values.specs.Flushing.{IsDue}
use Rattle.log_values.specs.Homing.{HomeAnswer, goes_home, nothing}
use Rattle.log_values.specs.Laws.{empty_log}
use Rattle.log_values.specs.Log.{Journal, LogValue}
use Rattle.log_values.specs.Transactions.{due}
use Rattle.log_values.specs.declared.steps.LogStep.{LogStep}
use Rattle.log_values.specs.declared.steps.LogStep.TheVariants as step
use Rattle.log_values.proofs.Landing.{none_in, nothing_is}
use Rattle.lone_scripts.proofs.Lists.{all_both}
use Rattle.shared_disk.specs.Disk.{DiskState}
use Rattle.trace_text.specs.declared.item.TraceItem.{TraceItem}
use Rattle.trace_text.specs.declared.item.TraceItem.TheVariants as trace
use Rattle.whole_runs.specs.Fails.{AsItWas, FailsTo, InAWrite}
use Rattle.whole_runs.specs.Points.{Point}
use Rattle.whole_runs.specs.Steps as by
use Rattle.whole_runs.specs.Steps.{Here, Step, Steps, Then, with_write}
use Rattle.whole_runs.proofs.LoggedRunsTelling.{steps_are_told}
use Rattle.logged_calls.proofs.Blocks.{none_some}
use Rattle.logged_scripts.specs.Runs.{is_change}
use Rattle.logged_scripts.proofs.Lists.{all_front, all_last}

abbrev pub IsQuiet : TraceItem → Type 0
IsQuiet it = is_change it ≡ false

-- the log is empty, and nothing of the node is in flight
pub record IsFresh (a : Point) : Type 0 where
  pub log : a.log ≡ empty_log a.log.journal a.log.head a.log.sequence
  pub none : a.disk.in_flight 1 ≡ []

-- the log and the disk are as they were, and so is the list
pub record IsStill (a p : Point) : Type 0 where
  pub log : p.log ≡ a.log
  pub disk : p.disk ≡ a.disk
  pub list : p.list ≡ a.list

-- ---- an empty log

none_due : (log : LogValue) (journal : Journal) (head sequence : ℕ) → log ≡ empty_log journal head sequence → IsDue log → ⊥
none_due log journal head sequence is (inl some) = some (ap (λ (x : LogValue). (due x).blocks) is ∙ ap (λ t. t.blocks) nothing_is)
none_due log journal head sequence is (inr some) = some (ap (λ (x : LogValue). (due x).revokes) is ∙ ap (λ t. t.revokes) nothing_is)

none_flies : (log new : LogValue) (lock : LockName) (bytes : List ℕ) (answer : Option LogStep) (b : ℕ) → HomeAnswer log new lock bytes answer → answer ≡ Some (step.Write b) → log.live ≡ table.empty → ⊥
none_flies log new lock bytes _ b (nothing none same) is empty = none_some is
none_flies log new lock bytes _ b (goes_home c away idle least made) is empty = none_in log.live c away.entry empty away.live

-- ---- steps

module _ (a : Point) (fresh : IsFresh a) where
  module _ (q : Point) (s : IsStill a q) where
    empty_is : q.log ≡ empty_log a.log.journal a.log.head a.log.sequence
    empty_is = s.log ∙ fresh.log

    no_flush : {A : Type 0} {f : _} → q.log.flush ≡ Some f → A
    no_flush is = absurd (none_some (sym (ap (λ (x : LogValue). x.flush) empty_is) ∙ is))

    not_flying : {A : Type 0} → q.disk.in_flight 1 ≢ [] → A
    not_flying some = absurd (some (ap (λ (d : DiskState). d.in_flight 1) s.disk ∙ fresh.none))

    still_step : (time : ℕ) (r : Point) → AllByRecursion IsQuiet r.items → Step time q r → IsStill a r
    still_step time _ quiet (by.Reads is b lock bytes asked absent whole told) = record { log = s.log; disk = s.disk; list = s.list }
    still_step time _ quiet (by.Answers is name call reply change kept done some can fits keeps) =
        absurd (true≢false (sym (done.does.tells ∙ ap not (all_last IsQuiet q.items _ quiet)) ∙ some))
    still_step time _ quiet (by.AnswersQuietly is name call reply change done none no_sync) = record { log = s.log; disk = s.disk; list = s.list }
    still_step time _ quiet (by.Syncs is name all) = record { log = s.log; disk = s.disk; list = s.list }
    still_step time _ quiet (by.TellsFull is call need free less all) = record { log = s.log; disk = s.disk; list = s.list }
    still_step time _ quiet (by.HasNoSpace name call need free next less last) = record { log = s.log; disk = s.disk; list = s.list }
    still_step time _ quiet (by.BeginsFlush next idle due room) = absurd (none_due q.log _ _ _ empty_is due)
    still_step time _ quiet (by.BeginsHeader next idle home some stuck) = absurd (some (ap (λ (x : LogValue). x.live) empty_is))
    still_step time _ quiet (by.WritesLog new f b bytes list is numbers made may gains) = no_flush is
    still_step time _ quiet (by.EndsBlocks new f done bytes list is stage made flies gains) = no_flush is
    still_step time _ quiet (by.WritesHead new f b sequence bytes list is numbers made may gains) = no_flush is
    still_step time _ quiet (by.EndsFlush new f tail bytes list is numbers stage made flies gains) = no_flush is
    still_step time _ quiet (by.Commits b next last) = record { log = s.log; disk = s.disk; list = s.list }
    still_step time _ quiet (by.GoesHome next new lock b bytes list sent may gains) = absurd (none_flies q.log new lock bytes _ b sent refl (ap (λ (x : LogValue). x.live) empty_is))
    still_step time _ quiet (by.Rests new list next no_header settles flies gains) = not_flying flies
    still_step time _ quiet (by.Unmounts is) = record { log = s.log; disk = s.disk; list = s.list }

  quiet_before : (time : ℕ) (q r : Point) → Step time q r → AllByRecursion IsQuiet r.items → AllByRecursion IsQuiet q.items
  quiet_before time q r one quiet =
      let told = steps_are_told goes_on time q r (Then q r Here one) in
      all_front IsQuiet q.items told.more (subst (AllByRecursion IsQuiet) told.items quiet)

  pub still : (time : ℕ) (p : Point) → Steps time a p → AllByRecursion IsQuiet p.items → IsStill a p
  still time _ Here quiet = record { log = refl; disk = refl; list = refl }
  still time _ (Then q r steps one) quiet = still_step q (still time q steps (quiet_before time q r one quiet)) time r quiet one

  -- also where a write failed
  no_change : (item : TraceItem) (b : ℕ) → deed_told item ≡ Some (Wrote 1 b) → is_change item ≡ false
  no_change (trace.Call node name number call reply) b told = absurd (none_some told)
  no_change _ b told = refl

  pub still_failing : (time : ℕ) (p q : Point) → IsStill a p → FailsTo time p q → AllByRecursion IsQuiet q.items → (q.disk ≡ a.disk) × (q.list ≡ a.list)
  still_failing time p _ s AsItWas quiet = (s.disk, s.list)
  still_failing time p _ s (InAWrite b bytes list log item told one) quiet =
      let so = still_step p s time (with_write p b bytes list log item) (all_both IsQuiet p.items (item ∷ []) quiet (no_change item b told, tt)) one in
      (so.disk, so.list)

  -- its journal's head is a clean one
  pub still_clean : (p : Point) → IsStill a p → p.log.clean ≡ true
  still_clean p s = ap (λ (x : LogValue). x.clean) (empty_is p s)
