-- A run of one node with its log, by its items.
use Rattle.std.proofs.Common.{◌≡◌, ℕ, suc, ◌<◌, List, [], ◌∷◌, ◌++◌, length, None, Some, refl, sym, ap, subst, ◌∙◌, arith}
use Rattle.std.specs.List.{AllByRecursion}
use Rattle.image_machine.specs.Volumes.{Volume, images_of}
use Rattle.image_model.specs.Image.{Image}
use Rattle.image_model.proofs.Held.{some_same}
use Rattle.journal_outcomes.specs.Images.{ring_at}
use Rattle.log_layout.specs.Journal.{head_in}
use Rattle.log_layout.specs.declared.log_header.LogHeader.{LogHeader}
use Rattle.log_rings.proofs.Whole.{fits_in}
use Rattle.log_values.specs.Flushing.{block_at, flush_chunks, head_place}
use Rattle.log_values.specs.Log.{Flush, LogValue}
use Rattle.log_values.specs.Sound.{IsSoundLog}
use Rattle.logged_steps.specs.LoggedLaws.{IsHeadLeft, ItsHistoryIsLegal, ItsOutcomesStand, Remains}
use Rattle.logged_steps.specs.LoggedLaws.IsHeadLeft.{new, old}
use Rattle.logged_steps.specs.States.{Numbers, trees_on}
use Rattle.logged_steps.proofs.Stages.{no_flush}
use Rattle.lone_machine.specs.Alone.{Begun}
use Rattle.run_rules.specs.Follows as run
use Rattle.run_rules.specs.Lives.{AcceptedHead, DiskHeads, head_of, items_of, or_else, own_from, recovered_behind, to_its_end, upto_of}
use Rattle.script_lang.specs.declared.script.Client.{Client}
use Rattle.trace_text.specs.declared.item.TraceItem.{TraceItem}
use Rattle.trace_text.specs.declared.item.TraceItem.TheVariants as trace
use Rattle.tree_histories.specs.Trees.{history_of}
use Rattle.written_journals.proofs.RingsWritten.{on_inside}
use Rattle.logged_steps.specs.Fails.{AsItWas, FailsTo, InAWrite}
use Rattle.logged_steps.specs.Heads.{TellsItsHeads}
use Rattle.logged_steps.specs.Laws.{FailedWritesKeep, HeadsAreTold, IsLoggedAt, StepsAreTold, StepsKeep, TellsWhatItDoes}
use Rattle.logged_steps.specs.Points.{IsOfRun, Point, state_of}
use Rattle.logged_steps.specs.Steps.{Steps}
use Rattle.logged_steps.proofs.Chunks.{due_is_some}
use Rattle.logged_steps.proofs.Telling.{append_nil, left_same}
use Rattle.logged_runs.specs.Laws.{HasItsCalls}
use Rattle.logged_runs.proofs.Counting.{calls_are_counted}
use Rattle.cluster_history.specs.History.{IsNumbered, calls_of}
use Rattle.logged_runs.specs.Heads.{HasFirst, IsAcceptedIn}
use Rattle.logged_runs.specs.Starts.{BeginsAt, only_life}
use Rattle.logged_runs.proofs.Staying.{AllStay, NoneIsClean, no_end, none_clean, stay_on, stay_replays, stay_steps}
use Rattle.logged_runs.proofs.Fronts.{IsFront}
use Rattle.logged_runs.proofs.Losing.{IsItsEnd, its_part}
use Rattle.logged_runs.proofs.Machine.{syncs, within}
use Rattle.logged_runs.proofs.Noting.{IsNoted, IsNotedBy, NotesItsCalls, calls_noted}
use Rattle.logged_runs.proofs.Numbers.{IsLeftAs, number}
use Rattle.logged_runs.proofs.Numbers.{IsLeftAs as left_as}
use Rattle.logged_runs.proofs.Upto.{first_is, its_items, note}

-- a flush's header goes to a place of the journal
head_inside : (log : LogValue) (f : Flush) → IsSoundLog log → log.flush ≡ Some f → head_place log f < log.journal.length
head_inside log f sound some = (let room = fits_in log f sound some in let inside : head_place log f < log.journal.length = on_inside log.journal.length log.head (suc (length (flush_chunks log f))) sound.head (omega (arith, room)) in inside)

-- a write that failed has no item
same_items : (time : ℕ) (p q : Point) → FailsTo time p q → q.items ≡ p.items
same_items time p q AsItWas = refl
same_items time p q (InAWrite b bytes list log item told step) = refl

same_answered : (time : ℕ) (p q : Point) → FailsTo time p q → q.numbers.answered ≡ p.numbers.answered
same_answered time p q AsItWas = refl
same_answered time p q (InAWrite b bytes list log item told step) = refl

module _ (keep : StepsKeep) (fails : FailedWritesKeep) (heads : HeadsAreTold) (tells : StepsAreTold) (legal : ItsHistoryIsLegal)
    (v : Volume) (s : Begun (trees_on v)) (d : ℕ) (clients : List Client) (time : ℕ) (a p q : Point) (begins : BeginsAt v s d clients a) (steps : Steps time a p) (fail : FailsTo time p q) where
  pub at : IsLoggedAt v s d clients q
  at = fails v s d clients time p q (keep v s d clients time a p begins.at steps) fail

  -- ---- its items

  abbrev pub replays : List TraceItem
  replays = begins.replays

  idle : a.log.flush ≡ None
  idle = ap (λ (l : LogValue). l.flush) begins.log

  pub told : TellsItsHeads a p
  told = heads time a p (λ h. no_flush h.0 (sym idle ∙ h.2)) steps

  runs : TellsWhatItDoes a p
  runs = tells time a p steps

  of_run : AllByRecursion IsOfRun told.more
  of_run = subst (AllByRecursion IsOfRun) (left_same a.items runs.more told.more (sym runs.items ∙ told.items)) runs.of_run

  abbrev pub xs : List TraceItem
  xs = its_items a p replays begins.of_replay told

  pub plain : NoneIsClean xs
  plain = none_clean replays told.more begins.of_replay of_run

  pub stay : AllStay xs
  stay = stay_on replays told.more (stay_replays replays begins.of_replay) (stay_steps told.more of_run)

  pub items_are : q.items ≡ trace.Join 1 ∷ xs
  items_are = same_items time p q fail ∙ told.items ∙ ap (λ is. is ++ told.more) begins.items

  pub noted : NotesItsCalls note a p
  noted = calls_noted note a time p (λ m before. due_is_some m.log (keep v s d clients time a m begins.at before).is.sound.size) begins_noted steps
    where
      begins_noted : IsNoted a note
      begins_noted = record {
        last = sym (ap (λ (n : Numbers). n.answered) begins.numbers);
        by = subst (IsNotedBy a.numbers a.log.journal note) (sym idle) (refl, sym (ap (λ (n : Numbers). n.low) begins.numbers));
        spaceless = λ call need free e. idle;
      }

  pub same_noted : noted.more ≡ told.more
  same_noted = left_same a.items noted.more told.more (sym noted.items ∙ told.items)

  own_is : or_else (recovered_behind 1 1 replays) 0 ≡ own_from only_life a.items
  own_is = ap (λ is. or_else (recovered_behind 1 1 is) 0) (sym (no_end replays (stay_replays replays begins.of_replay))) ∙ ap (own_from only_life) (sym begins.items)

  -- ---- its history

  pub history_is : run.history_of clients xs ≡ history_of (images_of v) at.world.items
  history_is = ap (run.history_of clients) (sym items_are) ∙ at.history

  counted : HasItsCalls clients s.tree p
  counted = calls_are_counted keep legal v s d clients time a p begins steps

  pub numbered_is : IsNumbered (run.history_of clients xs)
  numbered_is = subst (λ is. IsNumbered (run.history_of clients is)) (sym (same_items time p q fail) ∙ items_are) counted.numbered

  pub count_is : calls_of 1 (run.history_of clients xs) ≡ q.numbers.answered
  count_is = ap (λ is. calls_of 1 (run.history_of clients is)) (sym (sym (same_items time p q fail) ∙ items_are)) ∙ counted.count ∙ sym (same_answered time p q fail)

  -- ---- the head in an image

  module _ (left : Image) (h : AcceptedHead) (head : LogHeader) (headed : head_in (ring_at left d) ≡ Some head) (its : IsAcceptedIn v d left h) where
    header_is : its.header ≡ head
    header_is = some_same (sym its.headed ∙ headed)

    pub block_is : (place : ℕ) → head.blkno ≡ place → place < q.log.journal.length → h.block ≡ block_at q.log.journal place
    block_is place e low =
        ap (λ (x : AcceptedHead). x.block) its.is ∙ ap (λ (x : LogHeader). v.place d x.blkno) header_is ∙ ap (v.place d) e
        ∙ sym (at.is.journal.place place (subst (λ n. place < n) at.is.journal.places low))

    pub sequence_is : h.sequence ≡ head.sequence
    sequence_is = ap (λ (x : AcceptedHead). x.sequence) its.is ∙ ap (λ (x : LogHeader). x.sequence) header_is

    pub clean_is : h.is_clean ≡ head.clean
    clean_is = ap (λ (x : AcceptedHead). x.is_clean) its.is ∙ ap (λ (x : LogHeader). x.clean) header_is

  -- where the life's own headers begin the disks have the head of the start
  module _ (disks : DiskHeads) (has_first : HasFirst v d a disks.behind) where
    begins_at : (disks.behind 1 (own_from only_life a.items)).sequence ≡ a.log.sequence
    begins_at =
        ap (λ (x : AcceptedHead). x.sequence) has_first.is
        ∙ ap (λ (x : LogHeader). x.sequence) (some_same (sym has_first.headed ∙ begins.at.is.ring.headed)) ∙ begins.at.is.ring.sequence

    pub first_at : (items more : List TraceItem) → ((n : ℕ) → recovered_behind 1 n more ≡ None) → items_of only_life items ≡ xs ++ more
        → (disks.behind 1 (own_from only_life items)).sequence ≡ a.log.sequence
    first_at items more silent its = first_is a p replays begins.of_replay told disks.behind own_is begins_at items more of_run silent its

  -- ---- what remains where the run is

  left_so : (left : Image) (h : AcceptedHead) (rem : Remains v s at.world d q.numbers.answered left (IsHeadLeft (state_of q))) → IsAcceptedIn v d left h → IsHeadLeft (state_of q) rem.head rem.number → IsLeftAs q h rem.number
  left_so left h rem its (old low at_head) = left_as.old low (block_is left h rem.head rem.headed its q.log.head at_head.place at.is.sound.head) (sequence_is left h rem.head rem.headed its ∙ at_head.sequence)
  left_so left h rem its (new f tail some stage begun at_head) =
      left_as.new f tail some stage begun (block_is left h rem.head rem.headed its (head_place q.log f) at_head.place (head_inside q.log f at.is.sound some))
      (sequence_is left h rem.head rem.headed its ∙ at_head.sequence) (clean_is left h rem.head rem.headed its ∙ at_head.clean)

  -- its number is what the items tell
  upto_is : (left : Image) (h : AcceptedHead) (rem : Remains v s at.world d q.numbers.answered left (IsHeadLeft (state_of q))) → IsAcceptedIn v d left h → (disks : DiskHeads) → HasFirst v d a disks.behind
      → (end : List TraceItem) → IsItsEnd clients end → to_its_end 1 end ≡ [] → head_of disks only_life (trace.Join 1 ∷ (xs ++ end)) ≡ h → upto_of disks only_life (trace.Join 1 ∷ (xs ++ end)) ≡ rem.number
  upto_is left h rem its disks has_first end ends cut there =
      let are : items_of only_life (trace.Join 1 ∷ (xs ++ end)) ≡ xs = its_part clients xs end stay ends ∙ ap (λ is. xs ++ is) cut ∙ append_nil xs in
      number a p replays begins.of_replay told noted same_noted plain disks (trace.Join 1 ∷ (xs ++ end)) h are there
      (first_at disks has_first (trace.Join 1 ∷ (xs ++ end)) [] (λ n. refl) (are ∙ sym (append_nil xs)))
      (ap (λ (n : Numbers). n.low) begins.numbers) rem.number time q fail (left_so left h rem its rem.is)

  pub front_of_run : ItsOutcomesStand → IsFront v s d clients a q (IsHeadLeft (state_of q))
  front_of_run outcomes = record {
    tells = at.tells;
    world = at.world;
    st = state_of q;
    is = at.is;
    its = xs;
    items = items_are;
    stay = stay;
    history = history_is;
    numbered = numbered_is;
    count = count_is;
    within = within v s at.world d (state_of q) at.is;
    syncs = syncs v s at.world d (state_of q) at.is (legal v s at.world d (state_of q) at.is);
    remains = λ left may. outcomes v s at.world d (state_of q) left at.is may.outcome may.no_false;
    upto = upto_is;
  }
