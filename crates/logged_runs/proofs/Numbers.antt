-- Of the head that the journal is left with the items tell the number of the last call in it.
use Rattle.std.proofs.Common.{◌≡◌, ℕ, ◌+◌, ◌<◌, List, [], ◌∷◌, ◌++◌, length, Option, None, Some, refl, sym, ap, subst, ◌∙◌, arith}
use Rattle.std.specs.Prelude.{◌^◌, false}
use Rattle.std.specs.FinMap as table
use Rattle.std.specs.List.{AllByRecursion}
use Rattle.std.proofs.Math.Nat.{mod-eq_of_lt}
use Rattle.std.proofs.lemmas.List.{length-append}
use Rattle.disk_items.specs.Deeds.{Deed, MadeBarrier, Wrote, deed_told}
use Rattle.glock_names.specs.declared.LockName.{LockName}
use Rattle.log_layout.specs.Transactions.{after}
use Rattle.log_rings.specs.Laws.{HasNumbers}
use Rattle.log_tables.specs.Versions.Way.{Flying}
use Rattle.log_values.specs.Flushing.{FlushStep, at_stage, block_at, head_place}
use Rattle.log_values.specs.Flushing.FlushStep.{a_block, a_header}
use Rattle.log_values.specs.Homing.{HomeAnswer}
use Rattle.log_values.specs.Homing.HomeAnswer.{goes_home}
use Rattle.log_values.specs.Log.{Flush, LogValue}
use Rattle.log_values.specs.Log.Stage.{Ending, Headed}
use Rattle.log_values.specs.declared.steps.LogStep.TheVariants as step
use Rattle.run_rules.specs.Lives.{AcceptedHead, DiskHeads, head_of, items_of, own_from, upto_of}
use Rattle.shared_disk.specs.Disk.{DiskState, Operation}
use Rattle.trace_text.specs.declared.item.TraceItem.{TraceItem}
use Rattle.trace_text.specs.declared.item.TraceItem.TheVariants as trace
use Rattle.logged_steps.specs.Fails.{AsItWas, FailsTo, InAWrite}
use Rattle.logged_steps.specs.Heads.{HeadTold, TellsItsHeads, flying_head, head_of_flush, head_of_log}
use Rattle.logged_steps.specs.Points.{Point}
use Rattle.logged_steps.specs.Steps.{Step, Reads, Answers, AnswersQuietly, Syncs, TellsFull, HasNoSpace, BeginsFlush, BeginsHeader, WritesLog, EndsBlocks, WritesHead, EndsFlush, Commits, GoesHome, Rests, Unmounts, with_write}
use Rattle.logged_steps.proofs.Heads.{at_stage_of, none_begun}
use Rattle.logged_steps.proofs.Telling.{left_same}
use Rattle.logged_runs.specs.Starts.{IsOfReplay, only_life}
use Rattle.logged_runs.proofs.Staying.{NoneIsClean}
use Rattle.logged_runs.proofs.Noting.{NotesItsCalls, note_after, note_is, note_on, note_still, staged}
use Rattle.logged_runs.proofs.Upto.{its_items, note, upto_begun, upto_low, upto_unsaid}

-- ---- a step that writes

-- the log behind it: with no header in flight, and its head as it was; or with the header of a flush
pub data WritesSo (p : Point) (log : LogValue) : Type 0 where
  quiet : flying_head log p.numbers.begun log.flush ≡ [] → head_of_log log p.numbers.low ≡ head_of_log p.log p.numbers.low → WritesSo p log
  header : (f : Flush) (tail : ℕ) → p.log.flush ≡ Some f → f.stage ≡ Ending → p.log.sequence + 1 < 2 ^ 64 → log ≡ at_stage p.log f (Headed tail) → WritesSo p log

no_deed : (d : Deed) → None ≡ Some d → ⊥
no_deed d e = cc

other_deed : (n i b : ℕ) → Some (MadeBarrier n) ≡ Some (Wrote i b) → ⊥
other_deed n i b e = cc

-- the item that came is this one
its_item : (xs : List TraceItem) (x y : TraceItem) → xs ++ x ∷ [] ≡ xs ++ y ∷ [] → x ≡ y
its_item xs x y e = (let same = left_same xs (x ∷ []) (y ∷ []) e in cc)

some_came : (xs : List TraceItem) (y : TraceItem) → xs ≡ xs ++ y ∷ [] → ⊥
some_came xs y e = (let n = ap length e in let m = length-append xs (y ∷ []) in omega (arith, n, m))

module _ (p : Point) (item : TraceItem) (b : ℕ) (told : deed_told item ≡ Some (Wrote 1 b)) where
  -- an item that came and tells of no write
  silent : (x : TraceItem) {A : Type 0} → p.items ++ x ∷ [] ≡ p.items ++ item ∷ [] → deed_told x ≡ None → A
  silent x e none = absurd (no_deed (Wrote 1 b) (sym none ∙ ap deed_told (its_item p.items x item e) ∙ told))

  barrier : {A : Type 0} → p.items ++ trace.Barrier 1 ∷ [] ≡ p.items ++ item ∷ [] → A
  barrier e = absurd (other_deed 1 1 b (ap deed_told (its_item p.items (trace.Barrier 1) item e) ∙ told))

  block : (new : LogValue) (f : Flush) (c : ℕ) (bytes : List ℕ) → FlushStep p.log new f bytes (step.Write c) → WritesSo p new
  block new f c bytes (a_block k stage chunk same) = subst (WritesSo p) (sym same) (quiet refl refl)

  head : (new : LogValue) (f : Flush) (c sequence : ℕ) (bytes : List ℕ) → p.log.flush ≡ Some f → HasNumbers p.log f → FlushStep p.log new f bytes (step.Head c sequence) → WritesSo p new
  head new f c sequence bytes some numbers (a_header tail stage is_tail is_bytes same) = header f tail some stage numbers.sequence same

  home : (new : LogValue) (lock : LockName) (c : ℕ) (bytes : List ℕ) → HomeAnswer p.log new lock bytes (Some (step.Write c)) → WritesSo p new
  home new lock c bytes (goes_home d is none least same) = subst (WritesSo p) (sym same) (quiet (none_begun (record p.log { live = table.insert p.log.live c (record is.entry { way = Flying bytes }) }) p.numbers.begun none) refl)

  pub wrote : (time : ℕ) (q : Point) → Step time p q → q.items ≡ p.items ++ item ∷ [] → WritesSo p q.log
  wrote time _ (Reads ok c lock bytes asked none whole read) e = absurd (some_came p.items item e)
  wrote time _ (Answers ok name call reply change kept done some can room keeps) e = silent _ e refl
  wrote time _ (AnswersQuietly ok name call reply change done none no_sync) e = silent _ e refl
  wrote time _ (Syncs ok name low) e = silent _ e refl
  wrote time _ (TellsFull ok call need free spaceless low) e = silent _ e refl
  wrote time _ (HasNoSpace name call need free awaited spaceless ends) e = silent _ e refl
  wrote time _ (BeginsFlush ok none due room) e = absurd (some_came p.items item e)
  wrote time _ (BeginsHeader ok none home some no_more) e = absurd (some_came p.items item e)
  wrote time _ (WritesLog new f c bytes list flush numbers does may gains) e = block new f c bytes does
  wrote time _ (EndsBlocks new f done bytes list flush stage does flies gains) e = barrier e
  wrote time _ (WritesHead new f c sequence bytes list flush numbers does may gains) e = head new f c sequence bytes flush numbers does
  wrote time _ (EndsFlush new f tail bytes list flush numbers stage does flies gains) e = barrier e
  wrote time _ (Commits c awaited ends) e = silent _ e refl
  wrote time _ (GoesHome ok new lock c bytes list answer may gains) e = home new lock c bytes answer
  wrote time _ (Rests new list ok no_header settles flies gains) e = barrier e
  wrote time _ (Unmounts ok) e = silent _ e refl

-- ---- the head that is left

-- its block and sequence are those of the log's head, or of the header in flight; and this is the number of the last call in it
pub data IsLeftAs (q : Point) (h : AcceptedHead) (n : ℕ) : Type 0 where
  old : n ≡ q.numbers.low → h.block ≡ block_at q.log.journal q.log.head → h.sequence ≡ q.log.sequence → IsLeftAs q h n
  new : (f : Flush) (tail : ℕ) → q.log.flush ≡ Some f → f.stage ≡ Headed tail → n ≡ q.numbers.begun → h.block ≡ block_at q.log.journal (head_place q.log f) → h.sequence ≡ after q.log.sequence → h.is_clean ≡ false
      → IsLeftAs q h n

module _ (a p : Point) (replays : List TraceItem) (of_replay : AllByRecursion IsOfReplay replays) (told : TellsItsHeads a p) (noted : NotesItsCalls note a p) (same_more : noted.more ≡ told.more)
    (stay : NoneIsClean (its_items a p replays of_replay told)) (disks : DiskHeads) (items : List TraceItem) (h : AcceptedHead)
    (its : items_of only_life items ≡ its_items a p replays of_replay told) (there : head_of disks only_life items ≡ h)
    (first_at : (disks.behind 1 (own_from only_life items)).sequence ≡ a.log.sequence) (zero : a.numbers.low ≡ 0) (n : ℕ) where
  at_head : h.block ≡ (head_of_log p.log p.numbers.low).block → h.sequence ≡ p.log.sequence → n ≡ p.numbers.low → upto_of disks only_life items ≡ n
  at_head block sequence is = upto_low a p replays of_replay told stay disks items h its there first_at zero block sequence ∙ sym is

  -- the note behind all items
  note_there : (note_after note (its_items a p replays of_replay told)) ≡ note_after note noted.more
  note_there = note_on note replays told.more ∙ ap (λ m. note_after m told.more) (note_still note replays of_replay) ∙ ap (note_after note) (sym same_more)

  -- of the header that is due the items tell what it has
  unsaid : (f : Flush) → p.log.flush ≡ Some f → f.stage ≡ Ending → p.log.sequence + 1 < 2 ^ 64 → h.sequence ≡ after p.log.sequence → h.is_clean ≡ false → upto_of disks only_life items ≡ p.numbers.begun
  unsaid f some stage more sequence dirty =
      upto_unsaid a p replays of_replay told stay disks items h its there first_at (at_stage_of p.log p.numbers.begun f Ending some stage) (sequence ∙ mod-eq_of_lt more) dirty
      ∙ note_is note (its_items a p replays of_replay told) ∙ ap (λ m. m.upto) note_there ∙ staged p (note_after note noted.more) noted.noted f Ending some stage

  one_flies : (log : LogValue) (f : Flush) (tail : ℕ) → log.flush ≡ Some f → f.stage ≡ Headed tail → flying_head log p.numbers.begun log.flush ≡ [] → ⊥
  one_flies log f tail some stage none = (let e : head_of_flush log f p.numbers.begun ∷ [] ≡ [] = sym (at_stage_of log p.numbers.begun f (Headed tail) some stage) ∙ none in absurd (some_none e))
    where
      some_none : {x : HeadTold} → x ∷ [] ≡ [] → ⊥
      some_none e = cc

  behind : (list : Option (List Operation)) (disk : DiskState) (log : LogValue) → WritesSo p log → IsLeftAs (record p { disk = disk; list = list; log = log }) h n → upto_of disks only_life items ≡ n
  behind list disk log (quiet none same) (old is block sequence) = at_head (block ∙ ap (λ (g : HeadTold). g.block) same) (sequence ∙ ap (λ (g : HeadTold). g.sequence) same) is
  behind list disk log (quiet none same) (new f tail some stage is block sequence dirty) = absurd (one_flies log f tail some stage none)
  behind list disk log (header f tail some stage more same) (old is block sequence) = at_head (block ∙ ap (λ (l : LogValue). block_at l.journal l.head) same) (sequence ∙ ap (λ (l : LogValue). l.sequence) same) is
  behind list disk log (header f tail some stage more same) (new g other its_flush its_stage is block sequence dirty) =
      unsaid f some stage more (sequence ∙ ap (λ (l : LogValue). after l.sequence) same) dirty ∙ sym is

  pub number : (time : ℕ) (q : Point) → FailsTo time p q → IsLeftAs q h n → upto_of disks only_life items ≡ n
  number time q AsItWas (old is block sequence) = at_head block sequence is
  number time q AsItWas (new f tail some stage is block sequence dirty) =
      upto_begun a p replays of_replay told stay disks items h its there first_at f tail some stage block sequence ∙ sym is
  number time q (InAWrite b bytes list log item tells does) left = behind list _ log (wrote p item b tells time (with_write p b bytes list log item) does refl) left
