-- How a node leaves its journal: ready to end it, and ended by a clean header.
use Rattle.std.proofs.Common.{◌≡◌, ◌≤◌, ◌<◌, ◌+◌, ◌-◌, ◌^◌, ℕ, ◌⊎◌, inl, inr, true, false, List, [], ◌∷◌, ◌++◌, length, Option, None, Some, Ok, Err, refl, sym, ap, ap₂, subst, subst₂, ◌∙◌, arith}
use Rattle.std.specs.Prelude.{IfErr, OnOk, Result}
use Rattle.std.proofs.Math.Nat.{mod-eq_of_lt}
use Rattle.std.proofs.lemmas.List.{append_assoc}
use Rattle.log_layout.specs.Headers.{as_read, log_put, log_read}
use Rattle.log_layout.specs.Transactions.{after}
use Rattle.log_layout.specs.declared.log_header.LogHeader.{LogHeader}
use Rattle.log_memory.specs.Ending.{last_header}
use Rattle.log_values.specs.Flushing.{block_at, first_place}
use Rattle.log_values.specs.Log.{LogValue}
use Rattle.journal_replays.specs.Headers.{filled}
use Rattle.logged_steps.specs.NodeEnds.{CleanBlocksAreLast, IsDone, IsLastHeader}
use Rattle.node_journal.specs.Encoding.{zeros}
use Rattle.peer_replay.specs.Plans.{clean_after}
use Rattle.shared_disk.specs.Disk.{DiskState, Flight, Gains, Operation, Write, after_barrier, after_write, flight_to}
use Rattle.trace_text.specs.declared.item.TraceItem.{TraceItem}
use Rattle.trace_text.specs.declared.item.TraceItem.TheVariants as trace
use Rattle.logged_steps.specs.Ends.{EndsTo, FliesClean, Landed, Said, Unsaid, clean_item, last_block}
use Rattle.logged_steps.specs.Fails.{AsItWas, FailsTo}
use Rattle.logged_steps.specs.Points.{Point, state_of}
use Rattle.logged_steps.specs.Steps.{GainsBarrier, GainsWrite, Here, Steps, Then, Unmounts, with_barrier, with_write}
use Rattle.logged_steps.proofs.Disks.{flies_besides}
use Rattle.logged_steps.proofs.Telling.{steps_go_on}
use Rattle.logged_node.specs.declared.ends.Stop.{Stop}
use Rattle.logged_node.specs.declared.ends.Stop.TheVariants as stop
use Rattle.logged_node.specs.declared.node.Node.{Node}
use Rattle.logged_node.specs.Deeds.{MayBeWritten, a_write, no_write}
use Rattle.logged_node.specs.Ends.{FailedAt, IfCrashed, IfFailed, IfMade, IsOfDisk}
use Rattle.logged_node.specs.Flushing.{GoesBySteps}
use Rattle.logged_node.specs.Homing.{HasGoneHome, RestsAsDue}
use Rattle.logged_node.specs.Leaving.{FliesLastHeader, HasLastHeader, HasLeft, HasLeftWithAll, IsReady, LeavesBySteps, StopsAtHeader, before_it, behind_it, in_it}
use Rattle.logged_node.specs.Nodes.{Awaits, IsBeforeCrash, IsResting, KeepsCallsAt, StopsBehind, StopsByCrash, crash_at, crash_of, point_of, writes_in}
use Rattle.logged_node.specs.Rooms.{HasBroughtIn, SentForRoom}
use Rattle.logged_node.proofs.Arming.{before_still, crash_stays}
use Rattle.logged_node.proofs.Disks.{same_disk}
use Rattle.logged_node.proofs.Ended.{goes_behind}
use Rattle.logged_node.proofs.Flushes.{first_inside}
use Rattle.logged_node.proofs.Going.{kept_on}
use Rattle.logged_node.proofs.MakingRoom.{moved_kept, was_due}
use Rattle.logged_node.proofs.Onward.{kept_here, kept_there, stops_on}

-- ---- it leaves

pub has_left : (n m : Node) → m ≡ record n { items = m.items; unmounts = true } → m.items.items ≡ n.items.items ++ trace.Unmount 1 ∷ [] → HasLeft n m
has_left n m m_is items = record { node = m_is; told = items }

-- what it has at a point is what it had
kept_left : (n m : Node) (p : Point) → HasLeft n m → KeepsCallsAt m p → KeepsCallsAt n p
kept_left n m p left at = record {
  view = at.view ∙ ap (λ (x : Node). x.view) left.node;
  answered = at.answered ∙ ap (λ (x : Node). x.numbers.answered) left.node;
  changed = at.changed ∙ ap (λ (x : Node). x.numbers.changed) left.node;
  journal = at.journal ∙ ap (λ (x : Node). x.log.journal) left.node;
  next = at.next;
}

module _ (d : DiskState) (l : Option (List Operation)) (n m : Node) (rest : IsResting d n) (mounted : n.unmounts ≡ false) (m_is : m ≡ record n { items = m.items; unmounts = true }) (items : m.items.items ≡ n.items.items ++ trace.Unmount 1 ∷ []) where
  left_point : point_of d l m ≡ record (point_of d l n) { items = n.items.items ++ trace.Unmount 1 ∷ []; unmounts = true }
  left_point = ap (point_of d l) m_is ∙ ap (λ (is : List TraceItem). record (point_of d l n) { items = is; unmounts = true }) items

  pub goes_leaving : GoesBySteps d l n d l m
  goes_leaving = record {
    steps = λ time. subst (Steps time (point_of d l n)) (sym left_point) (Then (point_of d l n) _ Here (Unmounts (rest.idle, refl, mounted)));
    disk = same_disk d;
    armed = ap (λ (a : Option ℕ). crash_of a m.items.items) (ap (λ (x : Node). x.armed) m_is) ∙ crash_stays n.armed n.items.items m.items.items (trace.Unmount 1) refl items;
  }

  pub rests_leaving : IsResting d m
  rests_leaving = subst (IsResting d) (sym m_is) (record {
    on = record {
      sound = rest.on.sound;
      widths = rest.on.widths;
      blocks = rest.on.blocks;
      block = rest.on.block;
      journal = rest.on.journal;
      view = rest.on.view;
      places = rest.on.places;
      apart = rest.on.apart;
      some = rest.on.some;
      groups = rest.on.groups;
      kept = rest.on.kept;
      unfenced = rest.on.unfenced;
      flying = rest.on.flying;
      few = rest.on.few;
      awaits = rest.on.awaits;
    };
    idle = rest.idle;
    none = rest.none;
    home = rest.home;
    small = rest.small;
  })

pub left_with_all : (d e : DiskState) (l k : Option (List Operation)) (n m o : Node) → HasLeft n m → HasBroughtIn d l m e k o → SentForRoom m o.items.items → HasLeftWithAll d l n e k o
left_with_all d e l k n m o left brought sent = record { left = m; leaves = left; brought = brought; sent = sent }

pub is_ready : (d e f : DiskState) (l k h : Option (List Operation)) (n m o p : Node) → GoesBySteps d l n d l m → HasLeft n m → HasBroughtIn d l m e k o → SentForRoom m o.items.items → HasGoneHome e k o f h p → RestsAsDue o.items.items p.items.items → IsReady d l n f h p
is_ready d e f l k h n m o p goes left brought sent home rests = record {
  flushed_disk = e;
  flushed_list = k;
  flushed = o;
  first = record { left = m; leaves = left; brought = brought; sent = sent };
  homes = home;
  rests = rests;
  goes = goes_behind d d f l l h n m p goes (goes_behind d e f l k h m o p brought.goes home.goes);
  resting = home.resting;
  done = record { flush = home.resting.idle; due = λ is. brought.none (was_due o p home.moves is); home = home.home; still = λ b. ap (λ fs. flight_to fs b) home.resting.none };
  kept = kept_on m o p brought.kept (moved_kept o p home.moves);
  unmounts = home.moves.unmounts ∙ brought.kept.unmounts ∙ ap (λ (x : Node). x.unmounts) left.node;
  none = λ is. brought.none (was_due o p home.moves is);
  home = home.home;
  answered = ap (λ x. x.answered) home.moves.numbers ∙ brought.kept.answered ∙ ap (λ (x : Node). x.numbers.answered) left.node;
  sequence = (
      let last : p.log.sequence ≡ o.log.sequence = ap (λ (x : LogValue). x.sequence) home.moves.log in
      let first : m.log.sequence ≡ n.log.sequence = ap (λ (x : Node). x.log.sequence) left.node in
      let few = brought.sequence in
      omega (arith, last, first, few)
      );
}

-- ---- by steps, and then as a run fails or ends

-- it is where it was
pub leaves_here : (d : DiskState) (l : Option (List Operation)) (n : Node) (items : List TraceItem) → items ≡ n.items.items → LeavesBySteps d l n d l items
leaves_here d l n items same = record {
  last = point_of d l n;
  left = point_of d l n;
  steps = λ time. Here;
  ends = λ time. inl AsItWas;
  disk = refl;
  listed = refl;
  told = sym same;
  kept = kept_here d l n;
  sequence = omega arith;
}

-- it left, and then stopped
pub leaves_left : (d e : DiskState) (l k : Option (List Operation)) (n m : Node) (items : List TraceItem) (why : Stop) → GoesBySteps d l n d l m → HasLeft n m → StopsBehind 2 d l m e k items why → LeavesBySteps d l n e k items
leaves_left d e l k n m items why goes left stops = record {
  last = stops.last;
  left = stops.left;
  steps = λ time. steps_go_on time (point_of d l n) (point_of d l m) stops.last (goes.steps time) (stops.steps time);
  ends = λ time. inl (stops.fails time);
  disk = stops.disk;
  listed = stops.listed;
  told = stops.told;
  kept = kept_left n m stops.last left stops.kept;
  sequence = (let first : m.log.sequence ≡ n.log.sequence = ap (λ (x : Node). x.log.sequence) left.node in let few = stops.sequence in omega (arith, first, few));
}

-- also behind what was due
pub leaves_flushed : (d e f : DiskState) (l k h : Option (List Operation)) (n m o : Node) (items : List TraceItem) (why : Stop) → GoesBySteps d l n d l m → HasLeft n m → HasBroughtIn d l m e k o → StopsBehind 0 e k o f h items why
    → LeavesBySteps d l n f h items
leaves_flushed d e f l k h n m o items why goes left brought stops =
    leaves_left d f l h n m items why goes left (stops_on d e f l k h m o items why 0 2 (let few = brought.sequence in omega (arith, few)) brought.goes.steps brought.goes.armed brought.kept stops)

pub crashes_flushed : (d e f : DiskState) (l k h : Option (List Operation)) (n m o : Node) (items : List TraceItem) (why : Stop) → GoesBySteps d l n d l m → HasBroughtIn d l m e k o → StopsBehind 0 e k o f h items why → StopsByCrash (crash_at n) items why
crashes_flushed d e f l k h n m o items why goes brought stops = subst (λ (c : Option ℕ). StopsByCrash c items why) (brought.goes.armed ∙ goes.armed) stops.crashes

-- it is ready
ready_kept : (d e : DiskState) (l k : Option (List Operation)) (n m : Node) → IsReady d l n e k m → KeepsCallsAt n (point_of e k m)
ready_kept d e l k n m ready = kept_left n ready.first.left (point_of e k m) ready.first.leaves (kept_there e k ready.first.left m ready.kept)

pub leaves_ready : (d e : DiskState) (l k : Option (List Operation)) (n m : Node) → IsReady d l n e k m → LeavesBySteps d l n e k m.items.items
leaves_ready d e l k n m ready = record {
  last = point_of e k m;
  left = point_of e k m;
  steps = ready.goes.steps;
  ends = λ time. inl AsItWas;
  disk = refl;
  listed = refl;
  told = refl;
  kept = ready_kept d e l k n m ready;
  sequence = ready.sequence;
}

-- and writes its last header
module _ (d e f : DiskState) (l k h : Option (List Operation)) (n m : Node) (items : List TraceItem) (ready : IsReady d l n e k m) where
  by_point : (left : Point) → ((time : ℕ) → FailsTo time (point_of e k m) left ⊎ EndsTo (point_of e k m) left) → left.disk ≡ f → left.list ≡ h → left.items ≡ items → LeavesBySteps d l n f h items
  by_point left ends disk listed told = record { last = point_of e k m; left = left; steps = ready.goes.steps; ends = ends; disk = disk; listed = listed; told = told; kept = ready_kept d e l k n m ready; sequence = ready.sequence }

  pub leaves_stopped : (why : Stop) → StopsAtHeader (point_of e k m) (crash_at n) f h items why → LeavesBySteps d l n f h items
  leaves_stopped why (before_it is listed told off failed_at before) = by_point (point_of e k m) (λ time. inl AsItWas) (sym is) (sym listed) (sym told)
  leaves_stopped why (in_it bytes flies told of failed_at before) = by_point _ (λ time. inr (Unsaid bytes h flies.flies)) (sym flies.disk) refl (sym told)
  leaves_stopped why (behind_it bytes flies told off failed_at crashes) = by_point _ (λ time. inr (Said bytes h flies.flies)) (sym flies.disk) refl (sym told)

  pub leaves_ended : HasLastHeader (point_of e k m) f h items → LeavesBySteps d l n f h items
  leaves_ended has = by_point _ (λ time. inr (Landed has.bytes h has.flies.flies)) (ap (λ (x : DiskState). after_barrier x 1) (sym has.flies.disk) ∙ sym has.disk) refl (sym has.tells)

-- where it is behind its write
pub header_crashes : (last : Point) (crash : Option ℕ) (f : DiskState) (h : Option (List Operation)) (items : List TraceItem) (why : Stop) → StopsAtHeader last crash f h items why → StopsByCrash crash items why
header_crashes last crash f h items stop.Crashed (before_it is listed told off failed_at before) = absurd (off refl)
header_crashes last crash f h items (stop.DiskFailed block rise) (before_it is listed told off failed_at before) = before
header_crashes last crash f h items stop.NoMemory (before_it is listed told off failed_at before) = before
header_crashes last crash f h items stop.Crashed (in_it bytes flies told of failed_at before) = absurd of
header_crashes last crash f h items (stop.DiskFailed block rise) (in_it bytes flies told of failed_at before) = before
header_crashes last crash f h items stop.NoMemory (in_it bytes flies told of failed_at before) = before
header_crashes last crash f h items why (behind_it bytes flies told off failed_at crashes) = crashes

pub header_next : (d e : DiskState) (l k : Option (List Operation)) (n m : Node) (bytes : List ℕ) → IsReady d l n e k m → FliesClean (point_of e k m) bytes → after m.log.sequence ≤ n.log.sequence + 3
header_next d e l k n m bytes ready flies = (let next : after m.log.sequence ≡ m.log.sequence + 1 = mod-eq_of_lt flies.is.more in let few = ready.sequence in omega (arith, next, few))

-- ---- its last header

-- the log's head, as far as it tells
abbrev head_of : LogValue → LogHeader
head_of log = record { jid = 0; sequence = log.sequence; clean = log.clean; tail = log.tail; blkno = log.head; later = None }

header_is : (log : LogValue) → filled (block_at log.journal (first_place log)) (log.journal.jid + 1) log.journal.jinode log.journal.time (clean_after log.journal.length (head_of log)) ≡ last_header log
header_is log = (let same : (log.journal.jid + 1) - 1 ≡ log.journal.jid = omega arith in ap (λ (j : ℕ). record (last_header log) { jid = j }) same)

pub is_last : CleanBlocksAreLast → (log : LogValue) (bytes : List ℕ) → log.sequence + 1 < 2 ^ 64 → bytes ≡ log_put (last_header log) (zeros log.journal.size) → log_read bytes ≡ Ok (as_read (last_header log) bytes) → IsLastHeader log bytes
is_last law log bytes more bytes_are read =
    let same = ap (λ (h : LogHeader). log_put h (zeros log.journal.size)) (header_is log) ∙ sym bytes_are in
    subst (IsLastHeader log) same
    (law log (head_of log) (block_at log.journal (first_place log)) (log.journal.jid + 1) log.journal.jinode log.journal.time refl refl more
    (subst₂ (λ (h : LogHeader) (b : List ℕ). log_read b ≡ Ok (as_read h b)) (sym (header_is log)) (sym same) read))

module _ (d d' : DiskState) (l l' : Option (List Operation)) (n r m n' : Node) (b sequence : ℕ) (rest : IsResting d n) (done : IsDone (state_of (point_of d l n))) (r_is : r ≡ record n { items = r.items }) (same : r.items.items ≡ n.items.items)
    (m_is : m ≡ record r { block = m.block }) (long : length m.block.items ≡ length r.block.items) (b_is : b ≡ block_at r.log.journal (first_place r.log)) (sequence_is : sequence ≡ after r.log.sequence) (last : IsLastHeader r.log m.block.items)
    (put : m.block.items ≡ log_put (last_header r.log) (zeros r.log.journal.size)) where
  abbrev p : Point
  p = point_of d l n

  abbrev bytes : List ℕ
  bytes = m.block.items

  abbrev item : TraceItem
  item = trace.WriteClean 1 b sequence m.numbers.answered

  log_is : r.log ≡ n.log
  log_is = ap (λ (x : Node). x.log) r_is

  b_at : b ≡ last_block p
  b_at = b_is ∙ ap (λ (x : LogValue). block_at x.journal (first_place x)) log_is

  m_items : m.items.items ≡ n.items.items
  m_items = ap (λ (x : Node). x.items.items) m_is ∙ same

  item_is : item ≡ clean_item p
  item_is =
      let s : sequence ≡ after n.log.sequence = sequence_is ∙ ap (λ (x : LogValue). after x.sequence) log_is in
      let a : m.numbers.answered ≡ n.numbers.answered = ap (λ (x : Node). x.numbers.answered) m_is ∙ ap (λ (x : Node). x.numbers.answered) r_is in
      (λ i. trace.WriteClean 1 (b_at i) (s i) (a i))

  its_last : IsLastHeader n.log bytes
  its_last = subst (λ (x : LogValue). IsLastHeader x bytes) log_is last

  its_bytes : bytes ≡ log_put (last_header n.log) (zeros n.log.journal.size)
  its_bytes = put ∙ ap (λ (x : LogValue). log_put (last_header x) (zeros x.journal.size)) log_is

  last_inside : last_block p < d.count
  last_inside = rest.on.places (first_place n.log) (first_inside n.log rest.on.sound)

  pub inside : b < d.count
  inside = subst (λ (x : ℕ). x < d.count) (sym b_at) last_inside

  -- it alone is in flight then
  its_flight : FliesClean p bytes
  its_flight = record {
    done = done;
    bytes = bytes;
    is = its_last;
    flies = flies_besides p (last_block p) bytes (record {
      inside = last_inside;
      whole = long ∙ ap (λ (x : Node). length x.block.items) r_is ∙ rest.on.block;
      free = ap (λ (fs : List Flight). flight_to fs (last_block p)) rest.none;
    });
  }

  abbrev Wrote : Type 0
  Wrote = point_of d' l' n' ≡ with_write (point_of d l m) b bytes l' m.log item

  abbrev Gained : Type 0
  Gained = GainsWrite (point_of d l m) b bytes l'

  flies_by : d' ≡ after_write d 1 b bytes → Gains l l' (Write 1 b bytes ∷ []) → FliesLastHeader p bytes d' l'
  flies_by disk gains = record { put = its_bytes; is = its_last; flies = its_flight; disk = disk ∙ ap (λ (x : ℕ). after_write d 1 x bytes) b_at; gains = subst (λ (x : ℕ). Gains l l' (Write 1 x bytes ∷ [])) b_at gains }

  pub flies_now : Wrote → Gained → FliesLastHeader p bytes d' l'
  flies_now wrote gained = flies_by (ap (λ (x : Point). x.disk) wrote) gained

  pub items_now : Wrote → n'.items.items ≡ n.items.items ++ clean_item p ∷ []
  items_now wrote = ap (λ (x : Point). x.items) wrote ∙ ap₂ (λ (is : List TraceItem) (it : TraceItem). is ++ it ∷ []) m_items item_is

  pub armed_still : crash_at m ≡ crash_at n
  armed_still = ap₂ crash_of (ap (λ (x : Node). x.armed) m_is ∙ ap (λ (x : Node). x.armed) r_is) m_items

  before_still_here : (items : List TraceItem) → items ≡ m.items.items → IsBeforeCrash (crash_at n) items
  before_still_here items is = before_still n.armed n.items.items items rest.on.awaits (is ∙ m_items)

  -- it stops in the write of the header
  pub stops_writing : (why : Stop) → IfMade (Err why) Wrote → IfMade (Err why) Gained → IfCrashed why (crash_at m ≡ Some (writes_in n'.items.items)) → IfFailed why (MayBeWritten d l b bytes d' l') → FailedAt why (Some b) → IfFailed why (n'.items.items ≡ m.items.items)
      → StopsAtHeader p (crash_at n) d' l' n'.items.items why
  stops_writing stop.Crashed wrote gained crashed failed failed_at kept = behind_it bytes (flies_now wrote gained) (items_now wrote) (λ e. (cc)) tt (record { before = n.items.items; it = clean_item p; told = items_now wrote; write = refl; is = sym armed_still ∙ crashed })
  stops_writing (stop.DiskFailed block rise) wrote gained crashed (no_write is told) failed_at kept = before_it is told (kept ∙ m_items) (λ e. (cc)) (failed_at ∙ ap (λ (x : ℕ). Some x) b_at) (before_still_here n'.items.items kept)
  stops_writing (stop.DiskFailed block rise) wrote gained crashed (a_write is told) failed_at kept = in_it bytes (flies_by is told) (kept ∙ m_items) tt (failed_at ∙ ap (λ (x : ℕ). Some x) b_at) (before_still_here n'.items.items kept)
  stops_writing stop.NoMemory wrote gained crashed failed failed_at kept = absurd wrote

  -- and behind it, in the barrier
  module _ (d2 : DiskState) (l2 : Option (List Operation)) (n2 : Node) (wrote : Wrote) (gained : Gained) where
    pub has_last : point_of d2 l2 n2 ≡ with_barrier (point_of d' l' n') l2 n'.log → GainsBarrier (point_of d' l' n') l2 → HasLastHeader p d2 l2 n2.items.items
    has_last made gains = record {
      bytes = bytes;
      written = d';
      told = l';
      flies = flies_now wrote gained;
      disk = ap (λ (x : Point). x.disk) made;
      gains = gains;
      tells = ap (λ (x : Point). x.items) made ∙ ap (λ (is : List TraceItem). is ++ trace.Barrier 1 ∷ []) (items_now wrote) ∙ append_assoc n.items.items (clean_item p ∷ []) (trace.Barrier 1 ∷ []);
    }

    flies_then : d2 ≡ d' → l2 ≡ l' → FliesLastHeader p bytes d2 l2
    flies_then disk told = subst₂ (FliesLastHeader p bytes) (sym disk) (sym told) (flies_now wrote gained)

    before_then : Awaits n'.armed → crash_at n' ≡ crash_at m → (items : List TraceItem) → items ≡ n'.items.items → IsBeforeCrash (crash_at n) items
    before_then awaits armed items is = subst (λ (c : Option ℕ). IsBeforeCrash c items) (armed ∙ armed_still) (before_still n'.armed n'.items.items items awaits is)

    pub stops_ending : (why : Stop) → Awaits n'.armed → crash_at n' ≡ crash_at m → IsOfDisk why → FailedAt why None → d2 ≡ d' → l2 ≡ l' → n2 ≡ n' → StopsAtHeader p (crash_at n) d2 l2 n2.items.items why
    stops_ending (stop.DiskFailed block rise) awaits armed of failed_at disk told is = behind_it bytes (flies_then disk told) (ap (λ (x : Node). x.items.items) is ∙ items_now wrote) (λ e. (cc)) failed_at (before_then awaits armed n2.items.items (ap (λ (x : Node). x.items.items) is))
    stops_ending stop.Crashed awaits armed of failed_at disk told is = absurd of
    stops_ending stop.NoMemory awaits armed of failed_at disk told is = absurd of

-- before anything was done
pub stops_before : (d : DiskState) (l : Option (List Operation)) (n : Node) (items : List TraceItem) (why : Stop) → Awaits n.armed → why ≡ stop.NoMemory → items ≡ n.items.items → StopsAtHeader (point_of d l n) (crash_at n) d l items why
stops_before d l n items why awaits is same = before_it refl refl same (λ e. (let no : stop.Crashed ≡ stop.NoMemory = sym e ∙ is in cc)) (subst (λ (w : Stop). FailedAt w (Some (last_block (point_of d l n)))) (sym is) tt) (before_still n.armed n.items.items items awaits same)

pub stops_first : (n : Node) (items : List TraceItem) (why : Stop) → Awaits n.armed → why ≡ stop.NoMemory → items ≡ n.items.items → StopsByCrash (crash_at n) items why
stops_first n items why awaits is same = subst (StopsByCrash (crash_at n) items) (sym is) (before_still n.armed n.items.items items awaits same)

-- whatever came of it
pub result_both : (r : Result (Unit {0}) Stop) (P : Type 0) (Q : Stop → Type 0) (R : Type 0) → (P → R) → ((why : Stop) → Q why → R) → OnOk r P → IfErr r Q → R
result_both (Ok _) P Q R so stops p q = so p
result_both (Err why) P Q R so stops p q = stops why q
