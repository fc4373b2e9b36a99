-- What the items tell of a header that has no item yet.
use Rattle.std.proofs.Common.{◌≡◌, ℕ, zero, suc, ◌<◌, ◌≤◌, Bool, true, false, List, [], ◌∷◌, ◌++◌, length, Option, None, Some, refl, sym, ap, subst, ◌∙◌, arith}
use Rattle.std.specs.Prelude.{◌==◌, if◌then◌else◌}
use Rattle.std.specs.List.{AllByRecursion}
use Rattle.file_tree.specs.declared.call.Call.{Call}
use Rattle.file_tree.specs.declared.call.Call.TheVariants as calls
use Rattle.file_tree.specs.declared.reply.Reply.{Reply}
use Rattle.file_tree.specs.declared.reply.Reply.TheVariants as replies
use Rattle.glock_names.specs.declared.LockName.{LockName}
use Rattle.log_values.specs.Changes.{with_change}
use Rattle.log_values.specs.Flushing.{FlushStep, flush_chunks}
use Rattle.log_values.specs.Flushing.FlushStep.{a_barrier, a_block, a_header, the_last}
use Rattle.log_values.specs.Homing.{HomeAnswer, Settles}
use Rattle.log_values.specs.Homing.HomeAnswer.{goes_home}
use Rattle.log_values.specs.Log.{Flush, Journal, LogValue, Stage}
use Rattle.log_values.specs.Log.Stage.{Ending, Headed, Writing}
use Rattle.log_values.specs.Transactions.{flushed_as}
use Rattle.log_values.specs.declared.steps.LogStep.TheVariants as step
use Rattle.logged_steps.specs.LoggedLaws.{counted}
use Rattle.logged_steps.specs.States.{Numbers}
use Rattle.logged_steps.proofs.Stages.{writing_headed}
use Rattle.node_journal.specs.Encoding.{chunks}
use Rattle.run_rules.specs.Lives.{Unnamed, last_number, unnamed}
use Rattle.shared_disk.specs.Disk.{Operation}
use Rattle.trace_text.specs.declared.item.TraceItem.{TraceItem}
use Rattle.trace_text.specs.declared.item.TraceItem.TheVariants as trace
use Rattle.logged_steps.specs.Points.{Anything, ItsCommit, ItsNoSpace, Point, call_item}
use Rattle.logged_steps.specs.Steps.{Step, Steps, with_barrier, with_write, Reads, Answers, AnswersQuietly, Syncs, TellsFull, HasNoSpace, BeginsFlush, BeginsHeader, WritesLog, EndsBlocks, WritesHead, EndsFlush, Commits, GoesHome, Rests, Unmounts, Here, Then}
use Rattle.logged_steps.proofs.Chunks.{DueIsSome}
use Rattle.logged_steps.proofs.Telling.{append_assoc, append_nil}
use Rattle.logged_runs.specs.Starts.{IsOfReplay}

-- ---- the note behind items

abbrev pub note_with : Unnamed → TraceItem → Unnamed
note_with s (trace.Call i name number call reply) = if i == 1 then record s { last = number } else s
note_with s (trace.WriteHead i block sequence upto) = if i == 1 then record s { upto = upto; is_logged = false } else s
note_with s (trace.WriteLog i block) = if i == 1 then (if s.is_logged then s else record s { upto = s.last; is_logged = true }) else s
note_with s _ = s

abbrev pub note_after : Unnamed → List TraceItem → Unnamed
note_after s [] = s
note_after s (x ∷ xs) = note_after (note_with s x) xs

pub note_is : (s : Unnamed) (xs : List TraceItem) → unnamed 1 s xs ≡ (note_after s xs).upto
note_is s [] = refl
note_is s (trace.Call i name number call reply ∷ xs) = note_is (note_with s (trace.Call i name number call reply)) xs
note_is s (trace.WriteHead i block sequence upto ∷ xs) = note_is (note_with s (trace.WriteHead i block sequence upto)) xs
note_is s (trace.WriteLog i block ∷ xs) = note_is (note_with s (trace.WriteLog i block)) xs
note_is s (x ∷ xs) = note_is s xs

same_last : (t : Bool) (s r : Unnamed) → s.last ≡ r.last → s.last ≡ (if t then r else s).last
same_last true s r e = e
same_last false s r e = refl

if_last : (t : Bool) (s : Unnamed) (number : ℕ) (xs : List TraceItem) → last_number 1 (if t then number else s.last) xs ≡ last_number 1 (if t then record s { last = number } else s).last xs
if_last true s number xs = refl
if_last false s number xs = refl

-- it has the number of the last call
pub last_is : (s : Unnamed) (xs : List TraceItem) → last_number 1 s.last xs ≡ (note_after s xs).last
last_is s [] = refl
last_is s (trace.Call i name number call reply ∷ xs) = if_last (i == 1) s number xs ∙ last_is (note_with s (trace.Call i name number call reply)) xs
last_is s (trace.WriteHead i block sequence upto ∷ xs) = ap (λ n. last_number 1 n xs) (same_last (i == 1) s (record s { upto = upto; is_logged = false }) refl) ∙ last_is (note_with s (trace.WriteHead i block sequence upto)) xs
last_is s (trace.WriteLog i block ∷ xs) =
    ap (λ n. last_number 1 n xs) (same_last (i == 1) s (if s.is_logged then s else record s { upto = s.last; is_logged = true }) (same_last s.is_logged (record s { upto = s.last; is_logged = true }) s refl))
    ∙ last_is (note_with s (trace.WriteLog i block)) xs
last_is s (x ∷ xs) = last_is s xs

pub note_on : (s : Unnamed) (xs ys : List TraceItem) → note_after s (xs ++ ys) ≡ note_after (note_after s xs) ys
note_on s [] ys = refl
note_on s (x ∷ xs) ys = note_on (note_with s x) xs ys

pub note_still : (s : Unnamed) (xs : List TraceItem) → AllByRecursion IsOfReplay xs → note_after s xs ≡ s
note_still s [] all = refl
note_still s (trace.Call i name number call reply ∷ xs) all = absurd all.0
note_still s (trace.WriteHead i block sequence upto ∷ xs) all = absurd all.0
note_still s (trace.WriteLog i block ∷ xs) all = absurd all.0
note_still s (x ∷ xs) all = note_still s xs all.1

-- ---- what it is at a stage of a flush

-- Until the first block is written it is that of the calls in the journal; from then on, that of the flush.
abbrev pub IsNotedAt : Numbers → Journal → Flush → Unnamed → Stage → Type 0
IsNotedAt n journal f m (Writing done) = (1 ≤ length (chunks journal.size journal.jid (flushed_as f))) × (done ≡ 0 → (m.is_logged ≡ false) × (n.begun ≡ n.answered)) × (0 < done → (m.is_logged ≡ true) × (m.upto ≡ n.begun))
IsNotedAt n journal f m Ending = m.upto ≡ n.begun
IsNotedAt n journal f m (Headed tail) = (m.is_logged ≡ false) × (m.upto ≡ n.begun)

abbrev pub IsNotedBy : Numbers → Journal → Unnamed → Option Flush → Type 0
IsNotedBy n journal m None = (m.is_logged ≡ false) × (m.upto ≡ n.low)
IsNotedBy n journal m (Some f) = IsNotedAt n journal f m f.stage

pub record IsNoted (p : Point) (m : Unnamed) : Type 0 where
  pub last : m.last ≡ p.numbers.answered
  pub by : IsNotedBy p.numbers p.log.journal m p.log.flush
  pub spaceless : (call : Call) (need free : ℕ) → p.next ≡ ItsNoSpace call need free → p.log.flush ≡ None

some_none : {A : Type 0} {a : A} → None ≡ Some a → ⊥
some_none e = cc

anything_else : (call : Call) (need free : ℕ) → Anything ≡ ItsNoSpace call need free → ⊥
anything_else call need free e = cc

commit_else : (call : Call) (need free : ℕ) → ItsCommit ≡ ItsNoSpace call need free → ⊥
commit_else call need free e = cc

module _ (p : Point) (m : Unnamed) (had : IsNoted p m) where
  idle : p.log.flush ≡ None → (m.is_logged ≡ false) × (m.upto ≡ p.numbers.low)
  idle none = subst (IsNotedBy p.numbers p.log.journal m) none had.by

  pub staged : (f : Flush) (stage : Stage) → p.log.flush ≡ Some f → f.stage ≡ stage → IsNotedAt p.numbers p.log.journal f m stage
  staged f stage some is = subst (IsNotedAt p.numbers p.log.journal f m) is (subst (IsNotedBy p.numbers p.log.journal m) some had.by)

  -- nothing else is to come while a flush is under way
  busy : (f : Flush) → p.log.flush ≡ Some f → {A : Type 0} (call : Call) (need free : ℕ) → p.next ≡ ItsNoSpace call need free → A
  busy f some call need free next = absurd (some_none (sym (had.spaceless call need free next) ∙ some))

  -- a call is answered, while no flush is under way
  answered : (log : LogValue) (n : Numbers) (name : List ℕ) (call : Call) (reply : Reply) → log.flush ≡ None → p.log.flush ≡ None → n.low ≡ p.numbers.low
      → IsNotedBy n log.journal (note_with m (trace.Call 1 name (suc p.numbers.answered) call reply)) log.flush
  answered log n name call reply none was low = subst (IsNotedBy n log.journal (note_with m (trace.Call 1 name (suc p.numbers.answered) call reply))) (sym none) ((idle was).0, (idle was).1 ∙ sym low)

  writes : (new : LogValue) (f : Flush) (b : ℕ) (bytes : List ℕ) (list : Option (List Operation)) → p.log.flush ≡ Some f → FlushStep p.log new f bytes (step.Write b)
      → IsNoted (with_write p b bytes list new (trace.WriteLog 1 b)) (note_with m (trace.WriteLog 1 b))
  writes new f b bytes list some (a_block k stage chunk same) =
      subst (λ l. IsNoted (with_write p b bytes list l (trace.WriteLog 1 b)) (note_with m (trace.WriteLog 1 b))) (sym same) (record {
        last = by_last m.is_logged;
        by = (was.0, (λ e. absurd (omega (arith, e))), λ above. written k refl);
        spaceless = busy f some;
      })
    where
      was : IsNotedAt p.numbers p.log.journal f m (Writing k)
      was = staged f (Writing k) some stage

      by_last : (t : Bool) → (if t then m else record m { upto = m.last; is_logged = true }).last ≡ p.numbers.answered
      by_last true = had.last
      by_last false = had.last

      first : (t : Bool) → t ≡ false → ((if t then m else record m { upto = m.last; is_logged = true }).is_logged ≡ true) × ((if t then m else record m { upto = m.last; is_logged = true }).upto ≡ m.last)
      first false e = (refl, refl)
      first true e = absurd (let bad : true ≡ false = e in cc)

      later : (t : Bool) → t ≡ true → (if t then m else record m { upto = m.last; is_logged = true }) ≡ m
      later true e = refl
      later false e = absurd (let bad : false ≡ true = e in cc)

      written : (n : ℕ) → k ≡ n → ((note_with m (trace.WriteLog 1 b)).is_logged ≡ true) × ((note_with m (trace.WriteLog 1 b)).upto ≡ p.numbers.begun)
      written zero e = (let its = was.1 e in let so = first m.is_logged its.0 in (so.0, so.1 ∙ had.last ∙ sym its.1))
      written (suc n) e = (let its = was.2 (omega (arith, e)) in let so = later m.is_logged its.0 in (ap (λ (u : Unnamed). u.is_logged) so ∙ its.0, ap (λ (u : Unnamed). u.upto) so ∙ its.1))

  ends_blocks : (new : LogValue) (f : Flush) (done : ℕ) (bytes : List ℕ) (list : Option (List Operation)) → p.log.flush ≡ Some f → f.stage ≡ Writing done → FlushStep p.log new f bytes step.Barrier → IsNoted (with_barrier p list new) m
  ends_blocks new f done bytes list some stage (the_last tail at same live) = absurd (writing_headed done tail (sym stage ∙ at))
  ends_blocks new f done bytes list some stage (a_barrier reached same live) =
      let was = staged f (Writing (length (flush_chunks p.log f))) some reached in
      subst (λ l. IsNoted (with_barrier p list l) m) (sym same) (record { last = had.last; by = (was.2 was.0).1; spaceless = busy f some })

  writes_head : (new : LogValue) (f : Flush) (b sequence : ℕ) (bytes : List ℕ) (list : Option (List Operation)) → p.log.flush ≡ Some f → FlushStep p.log new f bytes (step.Head b sequence)
      → IsNoted (with_write p b bytes list new (trace.WriteHead 1 b sequence p.numbers.begun)) (note_with m (trace.WriteHead 1 b sequence p.numbers.begun))
  writes_head new f b sequence bytes list some (a_header tail stage is_tail is_bytes same) =
      subst (λ l. IsNoted (with_write p b bytes list l (trace.WriteHead 1 b sequence p.numbers.begun)) (note_with m (trace.WriteHead 1 b sequence p.numbers.begun))) (sym same) (record {
        last = had.last;
        by = (refl, refl);
        spaceless = busy f some;
      })

  ends_flush : (new : LogValue) (f : Flush) (tail : ℕ) (bytes : List ℕ) (list : Option (List Operation)) → p.log.flush ≡ Some f → f.stage ≡ Headed tail → FlushStep p.log new f bytes step.Barrier
      → IsNoted (record (with_barrier p list new) { numbers = record p.numbers { low = p.numbers.begun }; next = ItsCommit }) m
  ends_flush new f tail bytes list some stage (a_barrier reached same live) = absurd (writing_headed _ tail (sym reached ∙ stage))
  ends_flush new f tail bytes list some stage (the_last other at same live) =
      subst (λ l. IsNoted (record (with_barrier p list l) { numbers = record p.numbers { low = p.numbers.begun }; next = ItsCommit }) m) (sym same)
      (record { last = had.last; by = staged f (Headed tail) some stage; spaceless = λ call need free e. absurd (commit_else call need free e) })

  sends_home : (new : LogValue) (lock : LockName) (b : ℕ) (bytes : List ℕ) (list : Option (List Operation)) → HomeAnswer p.log new lock bytes (Some (step.Write b)) → IsNoted (with_write p b bytes list new (trace.WriteHome 1 b)) m
  sends_home new lock b bytes list (goes_home c is none least same) = subst (λ l. IsNoted (with_write p b bytes list l (trace.WriteHome 1 b)) m) (sym same) (record { last = had.last; by = had.by; spaceless = had.spaceless })

  rests : (new : LogValue) (list : Option (List Operation)) → Settles p.log new → IsNoted (with_barrier p list new) m
  rests new list settles = subst (λ l. IsNoted (with_barrier p list l) m) (sym settles.same) (record { last = had.last; by = had.by; spaceless = had.spaceless })

-- ---- along steps

-- the items since a point, and the note behind them
pub record NotesItsCalls (m : Unnamed) (a p : Point) : Type 0 where
  pub more : List TraceItem
  pub items : p.items ≡ a.items ++ more
  pub noted : IsNoted p (note_after m more)

module _ (start : Unnamed) (a : Point) where
  with_item : (p q : Point) (had : NotesItsCalls start a p) (item : TraceItem) → q.items ≡ p.items ++ item ∷ [] → IsNoted q (note_with (note_after start had.more) item) → NotesItsCalls start a q
  with_item p q had item items noted = record {
    more = had.more ++ item ∷ [];
    items = items ∙ ap (λ (is : List TraceItem). is ++ item ∷ []) had.items ∙ append_assoc a.items had.more (item ∷ []);
    noted = subst (IsNoted q) (sym (note_on start had.more (item ∷ []))) noted;
  }

  one : (time : ℕ) (p q : Point) → DueIsSome p.log → NotesItsCalls start a p → Step time p q → NotesItsCalls start a q
  one time p q some had (Reads ok b lock bytes asked none whole read) = record { more = had.more; items = had.items; noted = record { last = had.noted.last; by = had.noted.by; spaceless = had.noted.spaceless } }
  one time p q some had (Answers ok name call reply change kept done changes can room keeps) = with_item p _ had (call_item p name call reply) refl
      (let n = had.noted in record { last = refl; by = answered p _ n (with_change p.log change) (counted p.numbers (λ k. suc k.answered)) name call reply ok.0 ok.0 refl; spaceless = λ c need free e. ok.0 })
  one time p q some had (AnswersQuietly ok name call reply change done none no_sync) = with_item p _ had (call_item p name call reply) refl
      (record { last = refl; by = answered p _ had.noted p.log (counted p.numbers (λ k. k.changed)) name call reply ok.0 ok.0 refl; spaceless = λ c need free e. ok.0 })
  one time p q some had (Syncs ok name low) = with_item p _ had (call_item p name calls.Sync replies.Ok) refl
      (record { last = refl; by = answered p _ had.noted p.log (counted p.numbers (λ k. k.changed)) name calls.Sync replies.Ok ok.0 ok.0 refl; spaceless = λ c need free e. ok.0 })
  one time p q some had (TellsFull ok call need free spaceless low) = with_item p _ had (trace.Full 1 need free) refl (record { last = had.noted.last; by = had.noted.by; spaceless = λ c n f e. ok.0 })
  one time p q some had (HasNoSpace name call need free awaited spaceless ends) = with_item p _ had (call_item p name call replies.NoSpace) refl
      (let none = had.noted.spaceless call need free awaited in record { last = refl; by = answered p _ had.noted p.log (counted p.numbers (λ k. k.changed)) name call replies.NoSpace none none refl; spaceless = λ c n f e. absurd (anything_else c n f e) })
  one time p q some had (BeginsFlush ok none is_due room) = record {
    more = had.more;
    items = had.items;
    noted = record { last = had.noted.last; by = (some is_due, (λ e. ((idle p _ had.noted none).0, refl)), λ e. absurd (omega (arith, e))); spaceless = λ c n f e. absurd (anything_else c n f (sym ok ∙ e)) };
  }
  one time p q some had (BeginsHeader ok none home live no_more) = record {
    more = had.more;
    items = had.items;
    noted = record { last = had.noted.last; by = (idle p _ had.noted none).1; spaceless = λ c n f e. absurd (anything_else c n f (sym ok ∙ e)) };
  }
  one time p q some had (WritesLog new f b bytes list flush numbers step may gains) = with_item p _ had (trace.WriteLog 1 b) refl (writes p _ had.noted new f b bytes list flush step)
  one time p q some had (EndsBlocks new f done bytes list flush stage step flies gains) = with_item p _ had (trace.Barrier 1) refl (ends_blocks p _ had.noted new f done bytes list flush stage step)
  one time p q some had (WritesHead new f b sequence bytes list flush numbers step may gains) = with_item p _ had (trace.WriteHead 1 b sequence p.numbers.begun) refl (writes_head p _ had.noted new f b sequence bytes list flush step)
  one time p q some had (EndsFlush new f tail bytes list flush numbers stage step flies gains) = with_item p _ had (trace.Barrier 1) refl (ends_flush p _ had.noted new f tail bytes list flush stage step)
  one time p q some had (Commits b awaited ends) = with_item p _ had (trace.Commit 1 p.log.sequence p.numbers.low) refl (record { last = had.noted.last; by = had.noted.by; spaceless = λ c n f e. absurd (anything_else c n f e) })
  one time p q some had (GoesHome ok new lock b bytes list answer may gains) = with_item p _ had (trace.WriteHome 1 b) refl (sends_home p _ had.noted new lock b bytes list answer)
  one time p q some had (Rests new list ok no_header settles flies gains) = with_item p _ had (trace.Barrier 1) refl (rests p _ had.noted new list settles)
  one time p q some had (Unmounts ok) = with_item p _ had (trace.Unmount 1) refl (record { last = had.noted.last; by = had.noted.by; spaceless = had.noted.spaceless })

  pub calls_noted : (time : ℕ) (p : Point) → ((q : Point) → Steps time a q → DueIsSome q.log) → IsNoted a start → Steps time a p → NotesItsCalls start a p
  calls_noted time p some begins Here = record { more = []; items = sym (append_nil a.items); noted = begins }
  calls_noted time p some begins (Then m r before last) = one time m r (some m before) (calls_noted time m some begins before) last
