-- The items of steps tell the headers of the journal, with the numbers that they have.
use Rattle.std.proofs.Common.{◌≡◌, ℕ, ◌+◌, Bool, true, false, List, [], ◌∷◌, ◌++◌, Option, None, Some, refl, sym, ap, subst, ◌∙◌}
use Rattle.std.specs.Prelude.{◌==◌, if◌then◌else◌}
use Rattle.std.specs.FinMap as table
use Rattle.std.specs.Ordering.{nat_cmp}
use Rattle.std.proofs.Math.Nat.{mod-eq_of_lt}
use Rattle.file_tree.specs.declared.call.Call.TheVariants as calls
use Rattle.file_tree.specs.declared.reply.Reply.TheVariants as replies
use Rattle.glock_names.specs.declared.LockName.{LockName}
use Rattle.log_layout.specs.Transactions.{after}
use Rattle.log_rings.specs.Laws.{HasNumbers}
use Rattle.log_values.specs.Flushing.{FlushStep, at_stage, head_place}
use Rattle.log_values.specs.Flushing.FlushStep.{a_barrier, a_block, a_header, the_last}
use Rattle.log_values.specs.Blocks as set
use Rattle.log_values.specs.Changes.{with_change}
use Rattle.log_values.specs.Homing.{HomeAnswer, Settles}
use Rattle.log_values.specs.Homing.HomeAnswer.{goes_home}
use Rattle.log_values.specs.Log.{Entry, Flush, LogValue, Stage}
use Rattle.log_values.specs.Log.Stage.{Ending, Headed, Writing}
use Rattle.log_values.specs.Transactions.{live_among}
use Rattle.log_values.specs.declared.steps.LogStep.TheVariants as step
use Rattle.log_tables.specs.Versions.Way.{Flying}
use Rattle.lone_ends.specs.States.{IsHeaded}
use Rattle.lone_ends.proofs.Stages.{writing_headed}
use Rattle.shared_disk.specs.Disk.{Operation}
use Rattle.trace_text.specs.declared.item.TraceItem.{TraceItem}
use Rattle.trace_text.specs.declared.item.TraceItem.TheVariants as trace
use Rattle.logged_steps.specs.Heads.{AreNext, HeadTold, TellsItsHeads, clean_behind, flying_head, head_of_flush, head_of_log, headed_by, heads_told, last_head}
use Rattle.logged_steps.specs.Laws.{HeadsAreTold}
use Rattle.logged_steps.specs.Points.{ItsCommit, Point, call_item}
use Rattle.logged_steps.specs.Steps.{Step, with_barrier, with_write, Reads, Answers, AnswersQuietly, Syncs, TellsFull, HasNoSpace, BeginsFlush, BeginsHeader, WritesLog, EndsBlocks, WritesHead, EndsFlush, Commits, GoesHome, Rests, Unmounts, Here, Then}
use Rattle.logged_steps.proofs.Telling.{append_assoc, append_nil}

-- ---- lists of headers

own_or_not : (h : HeadTold) (own : Bool) (xs ys : List TraceItem) → heads_told (xs ++ ys) ≡ heads_told xs ++ heads_told ys
    → (if own then h ∷ heads_told (xs ++ ys) else heads_told (xs ++ ys)) ≡ (if own then h ∷ heads_told xs else heads_told xs) ++ heads_told ys
own_or_not h true xs ys behind = ap (λ (hs : List HeadTold). h ∷ hs) behind
own_or_not h false xs ys behind = behind

pub heads_on : (xs ys : List TraceItem) → heads_told (xs ++ ys) ≡ heads_told xs ++ heads_told ys
heads_on [] ys = refl
heads_on (trace.WriteHead node block sequence upto ∷ xs) ys = own_or_not (record { block = block; sequence = sequence; upto = upto }) (node == 1) xs ys (heads_on xs ys)
heads_on (x ∷ xs) ys = heads_on xs ys

pub last_on : (first : HeadTold) (hs : List HeadTold) (h : HeadTold) → last_head first (hs ++ h ∷ []) ≡ h
last_on first [] h = refl
last_on first (g ∷ hs) h = last_on g hs h

next_on : (first : HeadTold) (hs : List HeadTold) (h : HeadTold) → AreNext first.sequence hs → h.sequence ≡ (last_head first hs).sequence + 1 → AreNext first.sequence (hs ++ h ∷ [])
next_on first [] h next e = (e, tt)
next_on first (g ∷ hs) h next e = (next.0, next_on g hs h next.1 e)

dirty_on : (clean : Bool) (hs : List HeadTold) (h : HeadTold) → clean_behind clean (hs ++ h ∷ []) ≡ false
dirty_on clean [] h = refl
dirty_on clean (g ∷ hs) h = refl

-- ---- which header is in flight

pub none_begun : (log : LogValue) (begun : ℕ) → log.flush ≡ None → flying_head log begun log.flush ≡ []
none_begun log begun none = ap (flying_head log begun) none

pub at_stage_of : (log : LogValue) (begun : ℕ) (f : Flush) (stage : Stage) → log.flush ≡ Some f → f.stage ≡ stage → flying_head log begun log.flush ≡ headed_by log begun f stage
at_stage_of log begun f stage some is = ap (flying_head log begun) some ∙ ap (headed_by log begun f) is

unheaded : (log : LogValue) (begun : ℕ) → (IsHeaded log.flush → ⊥) → flying_head log begun log.flush ≡ []
unheaded log begun not = by log.flush refl
  where
    by : (o : Option Flush) → log.flush ≡ o → flying_head log begun o ≡ []
    by None e = refl
    by (Some f) e = staged f.stage refl
      where
        staged : (stage : Stage) → f.stage ≡ stage → headed_by log begun f stage ≡ []
        staged (Writing done) is = refl
        staged Ending is = refl
        staged (Headed tail) is = absurd (not (f, tail, e, is))

-- ---- one step

module _ (a : Point) where
  -- one after which the log's head is as it was, and so is the header in flight
  still : (p q : Point) → TellsItsHeads a p → (more : List TraceItem) → q.items ≡ p.items ++ more → heads_told more ≡ [] → flying_head q.log q.numbers.begun q.log.flush ≡ flying_head p.log p.numbers.begun p.log.flush
      → head_of_log q.log q.numbers.low ≡ head_of_log p.log p.numbers.low → q.log.clean ≡ p.log.clean → q.log.journal ≡ p.log.journal → TellsItsHeads a q
  still p q had more items none flying head clean journal = record {
    more = had.more ++ more;
    items = items ∙ ap (λ (is : List TraceItem). is ++ more) had.items ∙ append_assoc a.items had.more more;
    landed = had.landed;
    told = same ∙ had.told ∙ ap (λ (hs : List HeadTold). had.landed ++ hs) (sym flying);
    next = subst (AreNext a.log.sequence) (sym same) had.next;
    last = head ∙ had.last;
    clean = clean ∙ had.clean;
    journal = journal ∙ had.journal;
  }
    where
      same : heads_told (had.more ++ more) ≡ heads_told had.more
      same = heads_on had.more more ∙ ap (λ (hs : List HeadTold). heads_told had.more ++ hs) none ∙ append_nil (heads_told had.more)

  -- a header goes in flight
  headed : (p : Point) (f : Flush) (tail : ℕ) (bytes : List ℕ) (list : Option (List Operation)) → TellsItsHeads a p → p.log.flush ≡ Some f → f.stage ≡ Ending → HasNumbers p.log f
      → TellsItsHeads a (with_write p (head_of_flush p.log f p.numbers.begun).block bytes list (at_stage p.log f (Headed tail)) (trace.WriteHead 1 (head_of_flush p.log f p.numbers.begun).block (after p.log.sequence) p.numbers.begun))
  headed p f tail bytes list had some stage numbers = record {
    more = had.more ++ item ∷ [];
    items = ap (λ (is : List TraceItem). is ++ item ∷ []) had.items ∙ append_assoc a.items had.more (item ∷ []);
    landed = had.landed;
    told = now;
    next = subst (AreNext a.log.sequence) (sym now) (next_on (head_of_log a.log a.numbers.low) had.landed new (subst (AreNext a.log.sequence) before had.next) sequence);
    last = had.last;
    clean = had.clean;
    journal = had.journal;
  }
    where
      new : HeadTold
      new = head_of_flush p.log f p.numbers.begun

      item : TraceItem
      item = trace.WriteHead 1 new.block (after p.log.sequence) p.numbers.begun

      before : heads_told had.more ≡ had.landed
      before = had.told ∙ ap (λ (hs : List HeadTold). had.landed ++ hs) (at_stage_of p.log p.numbers.begun f Ending some stage) ∙ append_nil had.landed

      now : heads_told (had.more ++ item ∷ []) ≡ had.landed ++ new ∷ []
      now = heads_on had.more (item ∷ []) ∙ ap (λ (hs : List HeadTold). hs ++ new ∷ []) before

      sequence : after p.log.sequence ≡ (last_head (head_of_log a.log a.numbers.low) had.landed).sequence + 1
      sequence = mod-eq_of_lt numbers.sequence ∙ ap (λ (h : HeadTold). h.sequence + 1) had.last

  -- it comes into the journal
  landed : (p : Point) (f : Flush) (tail : ℕ) (gone : set.Blocks) (live : table.FinMap nat_cmp Entry) (list : Option (List Operation)) → TellsItsHeads a p → p.log.flush ≡ Some f → f.stage ≡ Headed tail
      → TellsItsHeads a (record (with_barrier p list (record p.log { head = head_place p.log f; tail = tail; sequence = after p.log.sequence; clean = false; gone = gone; flush = None; live = live }))
      { numbers = record p.numbers { low = p.numbers.begun }; next = ItsCommit })
  landed p f tail gone live list had some stage = record {
    more = had.more ++ trace.Barrier 1 ∷ [];
    items = ap (λ (is : List TraceItem). is ++ trace.Barrier 1 ∷ []) had.items ∙ append_assoc a.items had.more (trace.Barrier 1 ∷ []);
    landed = had.landed ++ new ∷ [];
    told = same ∙ had.told ∙ ap (λ (hs : List HeadTold). had.landed ++ hs) (at_stage_of p.log p.numbers.begun f (Headed tail) some stage) ∙ sym (append_nil (had.landed ++ new ∷ []));
    next = subst (AreNext a.log.sequence) (sym same) had.next;
    last = sym (last_on (head_of_log a.log a.numbers.low) had.landed new);
    clean = sym (dirty_on a.log.clean had.landed new);
    journal = had.journal;
  }
    where
      new : HeadTold
      new = head_of_flush p.log f p.numbers.begun

      same : heads_told (had.more ++ trace.Barrier 1 ∷ []) ≡ heads_told had.more
      same = heads_on had.more (trace.Barrier 1 ∷ []) ∙ append_nil (heads_told had.more)

  -- a block of a flush is written
  writes : (p : Point) (new : LogValue) (f : Flush) (b : ℕ) (bytes : List ℕ) (list : Option (List Operation)) → TellsItsHeads a p → p.log.flush ≡ Some f → FlushStep p.log new f bytes (step.Write b)
      → TellsItsHeads a (with_write p b bytes list new (trace.WriteLog 1 b))
  writes p new f b bytes list had some (a_block k stage chunk same) =
      subst (λ l. TellsItsHeads a (with_write p b bytes list l (trace.WriteLog 1 b))) (sym same)
      (still p (with_write p b bytes list (at_stage p.log f (Writing (k + 1))) (trace.WriteLog 1 b)) had (trace.WriteLog 1 b ∷ []) refl refl (sym (at_stage_of p.log p.numbers.begun f (Writing k) some stage)) refl refl refl)

  -- the barrier behind its blocks is made
  ends_blocks : (p : Point) (new : LogValue) (f : Flush) (done : ℕ) (bytes : List ℕ) (list : Option (List Operation)) → TellsItsHeads a p → p.log.flush ≡ Some f → f.stage ≡ Writing done → FlushStep p.log new f bytes step.Barrier
      → TellsItsHeads a (with_barrier p list new)
  ends_blocks p new f done bytes list had some stage (a_barrier reached same live) =
      subst (λ l. TellsItsHeads a (with_barrier p list l)) (sym same)
      (still p (with_barrier p list (record (at_stage p.log f Ending) { live = new.live })) had (trace.Barrier 1 ∷ []) refl refl (sym (at_stage_of p.log p.numbers.begun f (Writing done) some stage)) refl refl refl)
  ends_blocks p new f done bytes list had some stage (the_last tail at same live) = absurd (writing_headed done tail (sym stage ∙ at))

  writes_head : (p : Point) (new : LogValue) (f : Flush) (b sequence : ℕ) (bytes : List ℕ) (list : Option (List Operation)) → TellsItsHeads a p → p.log.flush ≡ Some f → HasNumbers p.log f
      → FlushStep p.log new f bytes (step.Head b sequence) → TellsItsHeads a (with_write p b bytes list new (trace.WriteHead 1 b sequence p.numbers.begun))
  writes_head p new f b sequence bytes list had some numbers (a_header tail stage is_tail is_bytes same) =
      subst (λ l. TellsItsHeads a (with_write p (head_of_flush p.log f p.numbers.begun).block bytes list l (trace.WriteHead 1 (head_of_flush p.log f p.numbers.begun).block (after p.log.sequence) p.numbers.begun))) (sym same)
      (headed p f tail bytes list had some stage numbers)

  ends_flush : (p : Point) (new : LogValue) (f : Flush) (tail : ℕ) (bytes : List ℕ) (list : Option (List Operation)) → TellsItsHeads a p → p.log.flush ≡ Some f → f.stage ≡ Headed tail → FlushStep p.log new f bytes step.Barrier
      → TellsItsHeads a (record (with_barrier p list new) { numbers = record p.numbers { low = p.numbers.begun }; next = ItsCommit })
  ends_flush p new f tail bytes list had some stage (a_barrier reached same live) = absurd (writing_headed _ tail (sym reached ∙ stage))
  ends_flush p new f tail bytes list had some stage (the_last other at same live) =
      subst (λ l. TellsItsHeads a (record (with_barrier p list l) { numbers = record p.numbers { low = p.numbers.begun }; next = ItsCommit })) (sym same)
      (landed p f other (live_among new.live p.log.gone) new.live list had some at)

  sends_home : (p : Point) (new : LogValue) (lock : LockName) (b : ℕ) (bytes : List ℕ) (list : Option (List Operation)) → TellsItsHeads a p → HomeAnswer p.log new lock bytes (Some (step.Write b))
      → TellsItsHeads a (with_write p b bytes list new (trace.WriteHome 1 b))
  sends_home p new lock b bytes list had (goes_home c is none least same) =
      subst (λ l. TellsItsHeads a (with_write p b bytes list l (trace.WriteHome 1 b))) (sym same)
      (still p (with_write p b bytes list (record p.log { live = table.insert p.log.live b (record is.entry { way = Flying bytes }) }) (trace.WriteHome 1 b)) had (trace.WriteHome 1 b ∷ []) refl refl
      (none_begun (record p.log { live = table.insert p.log.live b (record is.entry { way = Flying bytes }) }) p.numbers.begun none ∙ sym (none_begun p.log p.numbers.begun none)) refl refl refl)

  rests : (p : Point) (new : LogValue) (list : Option (List Operation)) → TellsItsHeads a p → (IsHeaded p.log.flush → ⊥) → Settles p.log new → TellsItsHeads a (with_barrier p list new)
  rests p new list had not settles =
      subst (λ l. TellsItsHeads a (with_barrier p list l)) (sym settles.same)
      (still p (with_barrier p list (record p.log { live = new.live })) had (trace.Barrier 1 ∷ []) refl refl
      (unheaded (record p.log { live = new.live }) p.numbers.begun not ∙ sym (unheaded p.log p.numbers.begun not)) refl refl refl)

  one : (time : ℕ) (p q : Point) → TellsItsHeads a p → Step time p q → TellsItsHeads a q
  one time p q had (Reads ok b lock bytes asked none whole read) = still p _ had [] (sym (append_nil p.items)) refl refl refl refl refl
  one time p q had (Answers ok name call reply change kept done some can room keeps) = still p _ had (call_item p name call reply ∷ []) refl refl (none_begun (with_change p.log change) p.numbers.begun ok.0 ∙ sym (none_begun p.log p.numbers.begun ok.0)) refl refl refl
  one time p q had (AnswersQuietly ok name call reply change done none no_sync) = still p _ had (call_item p name call reply ∷ []) refl refl refl refl refl refl
  one time p q had (Syncs ok name low) = still p _ had (call_item p name calls.Sync replies.Ok ∷ []) refl refl refl refl refl refl
  one time p q had (TellsFull ok call need free spaceless low) = still p _ had (trace.Full 1 need free ∷ []) refl refl refl refl refl refl
  one time p q had (HasNoSpace name call need free awaited spaceless ends) = still p _ had (call_item p name call replies.NoSpace ∷ []) refl refl refl refl refl refl
  one time p q had (BeginsFlush ok none due room) = still p _ had [] (sym (append_nil p.items)) refl (sym (none_begun p.log p.numbers.begun none)) refl refl refl
  one time p q had (BeginsHeader ok none home some no_more) = still p _ had [] (sym (append_nil p.items)) refl (sym (none_begun p.log p.numbers.begun none)) refl refl refl
  one time p q had (WritesLog new f b bytes list flush numbers step may gains) = writes p new f b bytes list had flush step
  one time p q had (EndsBlocks new f done bytes list flush stage step flies gains) = ends_blocks p new f done bytes list had flush stage step
  one time p q had (WritesHead new f b sequence bytes list flush numbers step may gains) = writes_head p new f b sequence bytes list had flush numbers step
  one time p q had (EndsFlush new f tail bytes list flush numbers stage step flies gains) = ends_flush p new f tail bytes list had flush stage step
  one time p q had (Commits b awaited ends) = still p _ had (trace.Commit 1 p.log.sequence p.numbers.low ∷ []) refl refl refl refl refl refl
  one time p q had (GoesHome ok new lock b bytes list answer may gains) = sends_home p new lock b bytes list had answer
  one time p q had (Rests new list ok no_header settles flies gains) = rests p new list had no_header settles
  one time p q had (Unmounts ok) = still p _ had (trace.Unmount 1 ∷ []) refl refl refl refl refl refl

pub heads_are_told : HeadsAreTold
heads_are_told time p q not Here = record {
  more = [];
  items = sym (append_nil p.items);
  landed = [];
  told = sym (unheaded p.log p.numbers.begun not);
  next = tt;
  last = refl;
  clean = refl;
  journal = refl;
}
heads_are_told time p q not (Then m r before last) = one p time m r (heads_are_told time p m not before) last
