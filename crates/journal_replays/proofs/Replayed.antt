-- A replay and its items, put together from its parts.
use Rattle.std.proofs.Common.{◌≡◌, ℕ, ◌+◌, ◌<◌, List, [], ◌∷◌, ◌++◌, length, take, get_or, Option, None, Some, refl, sym, ap, subst, ◌∙◌, append_assoc, arith}
use Rattle.std.specs.Prelude.{IfNone, IfSome, MatchOption}
use Rattle.std.proofs.lemmas.List.{append-nil}
use Rattle.std.proofs.lemmas.Option.{slice_get-get_or, slice_get_within}
use Rattle.drafts.specs.declared.change.Written.{Written}
use Rattle.log_layout.specs.declared.log_header.LogHeader.{LogHeader}
use Rattle.peer_replay.specs.declared.planned.Plan.{Plan}
use Rattle.shared_disk.specs.Disk.{DiskState, Gains, Operation, Write}
use Rattle.trace_text.specs.declared.item.TraceItem.{TraceItem}
use Rattle.trace_text.specs.declared.item.TraceItem.TheVariants as trace
use Rattle.disk_items.specs.Deeds.{AreTold, AreToldButOne, but_one, each}
use Rattle.disk_items.proofs.Going.{goes_on}
use Rattle.fault_counts.specs.declared.Rise.{Rise}
use Rattle.disk_turns.specs.Faults as turns
use Rattle.disk_turns.specs.declared.faults.TurnFault.{TurnFault}
use Rattle.disk_turns.specs.Turns.{Moment, StopsAt, at_barrier, before_it, behind_it, writes_of}
use Rattle.disk_turns.specs.Writing.{AreOfDisk}
use Rattle.disk_turns.proofs.Gaining.{gains_join, gains_none, writes_more}
use Rattle.journal_replays.specs.Bringing.{HasBrought, HasCrashedBringing, HasStoppedBringing}
use Rattle.journal_replays.specs.Crashes.{HasCrashed, NoneFailed}
use Rattle.journal_replays.specs.Faults.{HasCause, IfCrashed, IfDiskFailed, fault_of, stop_by}
use Rattle.journal_replays.specs.Headers.{clean_block}
use Rattle.journal_replays.specs.Items.{items_of}
use Rattle.journal_replays.specs.Replays.{HasFailed, HasReplayed, IsReplayWith, StopsBringing, StopsReplay, at_header, at_home}
use Rattle.journal_replays.proofs.Told.{done_items, done_recovered}

-- ---- what the items tell

same_some : {A : Type 0} {x y : A} → ◌≡◌ {A = Option A} (Some x) (Some y) → x ≡ y
same_some e = cc

told_on : (node : ℕ) (a b c : Option (List Operation)) (xs ys : List TraceItem) → AreTold a b xs → AreToldButOne node b c ys → AreToldButOne node a c (xs ++ ys)
told_on node a b c xs ys first (each (later, done, gains)) = each (first.0 ++ later, goes_on xs ys first.0 later first.1 done, gains_join a b c first.0 later first.2 gains)
told_on node a b c xs ys first (but_one later block bytes done gains) =
    but_one (first.0 ++ later) block bytes (goes_on xs ys first.0 later first.1 done)
    (subst (Gains a c) (sym (append_assoc first.0 later (Write node block bytes ∷ []))) (gains_join a b c first.0 (later ++ Write node block bytes ∷ []) first.2 gains))

-- in the turn that stopped, all but a write that failed
told_turn : (node : ℕ) (b c : Option (List Operation)) (some : List Written) (block : Option ℕ) (wrote flying : List Written) → StopsAt some block wrote flying → Gains b c (writes_of node flying)
    → AreToldButOne node b c (items_of (writes_of node wrote))
told_turn node b c some block wrote flying (before_it i w is) gains = each (writes_of node (take i some), done_items (writes_of node (take i some)), gains)
told_turn node b c some block wrote flying (behind_it i w is) gains =
    let low = slice_get_within some i w is in
    let at : w ≡ get_or some i w = same_some (sym is ∙ slice_get-get_or some i w low) in
    but_one (writes_of node (take i some)) w.block w.bytes (done_items (writes_of node (take i some))) (subst (Gains b c) (sym (writes_more node some i w w low at)) gains)
told_turn node b c some block wrote flying at_barrier gains = each (writes_of node some, done_items (writes_of node some), gains)

told_stopped : (node : ℕ) (before after : Moment) (blocks : List Written) (block : Option ℕ) (items : List TraceItem) → StopsBringing node before after blocks block items
    → AreToldButOne node before.list after.list items
told_stopped node before after blocks block items is =
    let brought = is.stopped.brought in
    let turn = is.stopped.stopped in
    subst (AreToldButOne node before.list after.list) (sym is.told)
    (told_on node before.list is.stopped.between.list after.list (items_of brought.operations) (items_of (writes_of node turn.wrote)) (brought.operations, done_items brought.operations, brought.gains)
    (told_turn node is.stopped.between.list after.list is.stopped.some block turn.wrote turn.flying turn.stops turn.gains))

told_join : (a b c : Option (List Operation)) (xs ys : List TraceItem) → AreTold a b xs → AreTold b c ys → AreTold a c (xs ++ ys)
told_join a b c xs ys first later = (first.0 ++ later.0, goes_on xs ys first.0 later.0 first.1 later.1, gains_join a b c first.0 later.0 first.2 later.2)

-- without a write that failed the items tell of all
told_crashed : (node : ℕ) (before after : Moment) (blocks : List Written) (block : Option ℕ) (items : List TraceItem) (is : StopsBringing node before after blocks block items) → NoneFailed is → AreTold before.list after.list items
told_crashed node before after blocks block items is exactly =
    let brought = is.stopped.brought in
    let turn = is.stopped.stopped in
    subst (AreTold before.list after.list) (sym is.told)
    (told_join before.list is.stopped.between.list after.list (items_of brought.operations) (items_of (writes_of node turn.wrote)) (brought.operations, done_items brought.operations, brought.gains)
    (writes_of node turn.wrote, done_items (writes_of node turn.wrote), subst (λ (ws : List Written). Gains is.stopped.between.list after.list (writes_of node ws)) exactly turn.gains))

-- ---- the replay

module _ (node slot dinode : ℕ) (blocks : List ℕ) (time : ℕ) (before between after : Moment) (p : Plan) (header : LogHeader) (is : p.clean ≡ Some header) where
  abbrev last : Written
  last = clean_block before.disk.size (get_or blocks header.blkno 0) slot dinode time header

  pub replayed : (items one two three : List TraceItem) → HasBrought node before between p.home.items items one → HasBrought node between after (last ∷ []) one two
      → three ≡ two ++ trace.Recovered slot node ∷ [] → HasReplayed node slot dinode blocks time before after p items three
  replayed items one two three home head end = record {
    added = added;
    are = end ∙ ap (λ (xs : List TraceItem). xs ++ trace.Recovered slot node ∷ []) (head.are ∙ ap (λ (xs : List TraceItem). xs ++ second) home.are ∙ append_assoc items first second)
        ∙ append_assoc items (first ++ second) (trace.Recovered slot node ∷ [])
        ∙ ap (λ (xs : List TraceItem). items ++ xs) (append_assoc first second (trace.Recovered slot node ∷ []));
    replay = subst (λ (c : Option LogHeader). IsReplayWith node slot dinode blocks time before after p.home.items c added) (sym is)
        (record { between = between; homes = home.brings; headed = head.brings; told = refl });
    told = (
      home.brings.operations ++ head.brings.operations,
      done_recovered node slot home.brings.operations head.brings.operations,
      gains_join before.list between.list after.list home.brings.operations head.brings.operations home.brings.gains head.brings.gains,
    );
  }
    where
      first : List TraceItem
      first = items_of home.brings.operations

      second : List TraceItem
      second = items_of head.brings.operations

      added : List TraceItem
      added = first ++ (second ++ trace.Recovered slot node ∷ [])

  -- the disk failed on the way home
  pub failed_home : (items one : List TraceItem) (block : Option ℕ) → HasStoppedBringing node before after p.home.items items one block
      → HasFailed node slot dinode blocks time before after p items one block
  failed_home items one block stop = record {
    added = stop.added;
    are = stop.are;
    stopped = subst (λ (c : Option LogHeader). MatchOption c ⊥ (λ (h : LogHeader). StopsReplay node before after p.home.items (clean_block before.disk.size (get_or blocks h.blkno 0) slot dinode time h) block stop.added)) (sym is)
        (at_home stop.stops);
    told = told_stopped node before after p.home.items block stop.added stop.stops;
  }

  -- or at the header
  pub failed_header : (items one two : List TraceItem) (block : Option ℕ) → HasBrought node before between p.home.items items one → HasStoppedBringing node between after (last ∷ []) one two block
      → HasFailed node slot dinode blocks time before after p items two block
  failed_header items one two block home stop = record {
    added = items_of home.brings.operations ++ stop.added;
    are = stop.are ∙ ap (λ (xs : List TraceItem). xs ++ stop.added) home.are ∙ append_assoc items (items_of home.brings.operations) stop.added;
    stopped = subst (λ (c : Option LogHeader). MatchOption c ⊥ (λ (h : LogHeader). StopsReplay node before after p.home.items (clean_block before.disk.size (get_or blocks h.blkno 0) slot dinode time h) block
        (items_of home.brings.operations ++ stop.added))) (sym is)
        (at_header between home.brings stop.added stop.stops refl);
    told = told_on node before.list between.list after.list (items_of home.brings.operations) stop.added (home.brings.operations, done_items home.brings.operations, home.brings.gains)
        (told_stopped node between after (last ∷ []) block stop.added stop.stops);
  }

  -- the node crashed on the way home
  pub crashed_home : (items one : List TraceItem) → HasCrashedBringing node before after p.home.items items one → HasCrashed node slot dinode blocks time before after p items one
  crashed_home items one stop = record {
    block = stop.block;
    header = header;
    has = is;
    added = stop.stopped.added;
    are = stop.stopped.are;
    stopped = at_home stop.stopped.stops;
    exactly = stop.exactly;
    told = told_crashed node before after p.home.items stop.block stop.stopped.added stop.stopped.stops stop.exactly;
  }

  -- or at the header
  pub crashed_header : (items one two : List TraceItem) → HasBrought node before between p.home.items items one → HasCrashedBringing node between after (last ∷ []) one two → HasCrashed node slot dinode blocks time before after p items two
  crashed_header items one two home stop = record {
    block = stop.block;
    header = header;
    has = is;
    added = items_of home.brings.operations ++ stop.stopped.added;
    are = stop.stopped.are ∙ ap (λ (xs : List TraceItem). xs ++ stop.stopped.added) home.are ∙ append_assoc items (items_of home.brings.operations) stop.stopped.added;
    stopped = at_header between home.brings stop.stopped.added stop.stopped.stops refl;
    exactly = stop.exactly;
    told = told_join before.list between.list after.list (items_of home.brings.operations) stop.stopped.added (home.brings.operations, done_items home.brings.operations, home.brings.gains)
        (told_crashed node between after (last ∷ []) stop.block stop.stopped.added stop.stopped.stops stop.exactly);
  }

-- all that is known of a replay in which the disk failed is known of one in which the node crashed
pub crashed_is_failed : (node slot dinode : ℕ) (blocks : List ℕ) (time : ℕ) (before after : Moment) (p : Plan) (items items' : List TraceItem)
    → (is : HasCrashed node slot dinode blocks time before after p items items') → HasFailed node slot dinode blocks time before after p items items' is.block
crashed_is_failed node slot dinode blocks time before after p items items' is = record {
  added = is.added;
  are = is.are;
  stopped = subst (λ (c : Option LogHeader). MatchOption c ⊥ (λ (h : LogHeader). StopsReplay node before after p.home.items (clean_block before.disk.size (get_or blocks h.blkno 0) slot dinode time h) is.block is.added)) (sym is.has)
      is.stopped;
  told = each is.told;
}

-- ---- the fault

pub if_failed : (fault : TurnFault) (P : Option ℕ → Type 0) → P fault.block → IfDiskFailed (fault_of fault) P
if_failed fault P is = by fault.rise
  where
    by : (r : Option Rise) → IfDiskFailed (stop_by fault.block r) P
    by None = tt
    by (Some r) = is

pub if_crashed : (fault : TurnFault) {P Q : Type 0} → (P → Q) → IfNone fault.rise P → IfCrashed (fault_of fault) Q
if_crashed fault {P} {Q} f = by fault.rise
  where
    by : (r : Option Rise) → IfNone r P → IfCrashed (stop_by fault.block r) Q
    by None is = f is
    by (Some r) is = tt

pub cause_of : (node count : ℕ) (before now : ℕ → ℕ) (fault : TurnFault) → turns.HasCause node count before now fault → HasCause node count before now (fault_of fault)
cause_of node count before now fault = by fault.rise
  where
    by : (r : Option Rise) → IfSome r (turns.IsCause node count before now fault.block) → HasCause node count before now (stop_by fault.block r)
    by None is = tt
    by (Some r) is = (is.rise, is.block)

-- nothing was done
pub replayed_none : (node slot dinode : ℕ) (blocks : List ℕ) (time : ℕ) (m : Moment) (p : Plan) (items : List TraceItem) → p.clean ≡ None → HasReplayed node slot dinode blocks time m m p items items
replayed_none node slot dinode blocks time m p items is = record {
  added = [];
  are = sym (append-nil items);
  replay = subst (λ (c : Option LogHeader). IsReplayWith node slot dinode blocks time m m p.home.items c []) (sym is) (refl, refl);
  told = ([], refl, gains_none m.list);
}

-- the block of the header is one of the disk
pub of_disk_one : (d mid : DiskState) (w : Written) → mid.size ≡ d.size → mid.count ≡ d.count → w.block < d.count → length w.bytes ≡ d.size → AreOfDisk mid (w ∷ [])
of_disk_one d mid w size count inside whole = record {
  rise = (omega arith, tt);
  inside = (subst (λ n. w.block < n) (sym count) inside, tt);
  whole = (whole ∙ sym size, tt);
}
