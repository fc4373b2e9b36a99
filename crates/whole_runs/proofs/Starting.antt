-- What stands within the start of a run.
use Rattle.std.proofs.Common.{◌≡◌, ℕ, zero, suc, ◌+◌, ◌≤◌, List, [], ◌∷◌, ◌++◌, length, take, drop, get_or, Option, None, Some, refl, sym, ap, subst, ◌∙◌, inl, inr, arith}
use Rattle.std.specs.Prelude.{IsTrue, MatchOption, slice_get}
use Rattle.std.specs.List.{AllByRecursion}
use Rattle.std.proofs.lemmas.List.{append_assoc, length-append, take-append-drop}
use Rattle.cut_replays.specs.Failed.{FailedReplaysStand, StandsInEachOutcome}
use Rattle.cut_replays.specs.Stopped.{StoppedReplaysStand}
use Rattle.disk_items.specs.Deeds.{each}
use Rattle.disk_items.proofs.Going.{goes_on}
use Rattle.disk_turns.specs.Turns.{AreBrought, Moment, moment}
use Rattle.disk_turns.proofs.Gaining.{gains_join}
use Rattle.file_tree.specs.Tree.{Tree}
use Rattle.image_machine.specs.Volumes.{Volume, volume_of}
use Rattle.image_model.specs.Image.{Image, image_of}
use Rattle.image_model.specs.Replays.{StandsReplayed}
use Rattle.image_mount.specs.Mounted.{Journal, MountedValue}
use Rattle.cut_replays.specs.Recoveries.{CanReplayAll, HaveFailed, HaveReplayedSome}
use Rattle.journal_outcomes.specs.Disks.{FencesLeaveOutcomes, flown_by}
use Rattle.journal_outcomes.specs.Images.{IsImageOutcome}
use Rattle.journal_replays.specs.Headers.{clean_block}
use Rattle.journal_replays.specs.Replays.{StopsReplay, StopsReplayBy}
use Rattle.log_layout.specs.declared.log_header.LogHeader.{LogHeader}
use Rattle.logged_runs.specs.Laws.{MayLeave}
use Rattle.logged_runs.specs.Starts.{IsOfReplay}
use Rattle.logged_runs.specs.Disks.{disk_after, first_told, told_count, with_operation}
use Rattle.logged_runs.proofs.Telling.{left_same, take_front}
use Rattle.peer_replay.specs.declared.planned.Plan.{Plan}
use Rattle.run_rules.specs.Lives.{DiskHeads}
use Rattle.script_lang.specs.declared.script.Client.{Client}
use Rattle.shared_disk.specs.Disk.{DiskState, Flight, Gains, Operation, Write, Barrier, Fence, after_fence, flight_to}
use Rattle.trace_text.specs.declared.item.TraceItem.{TraceItem}
use Rattle.trace_text.specs.declared.item.TraceItem.TheVariants as trace
use Rattle.whole_runs.specs.Starts.{FailedFrontsStand, FailedReplaysAreTold, IsStart, NothingStands, ReplayFrontsStand, StartStands, its_volume, joined}
use Rattle.whole_runs.proofs.Items.{all_join, all_taken, counted, fewer, of_replays, of_stopped}
use Rattle.whole_runs.proofs.Quiet.{fenced_so, lost_so, nothing_stands, stopped_so, told_so}
use Rattle.whole_runs.proofs.Replaying.{AllRise, FailsIn, HasOps, IsFrontOf, OpsOf, StoppedOps, can_have, fronts, head_of, join_ops, ops_of, replay_stopped, same_size}
use Rattle.whole_runs.proofs.Replaying.HasOps.{replays}

-- ---- disks

pub tells_on : (d : DiskState) (operations : List Operation) → (disk_after d operations).tells ≡ d.tells
tells_on d [] = refl
tells_on d (o ∷ os) = tells_on (with_operation d o) os ∙ same o
  where
    same : (o : Operation) → (with_operation d o).tells ≡ d.tells
    same (Write node block bytes) = refl
    same (Barrier node) = refl
    same (Fence node became) = refl

-- with nothing in flight the image stays
pub only_itself : (im left : Image) (flying : ℕ → Option (List ℕ)) → ((b : ℕ) → flying b ≡ None) → IsImageOutcome im flying left → left ≡ im
only_itself im left flying none outcome = λ i. record { size = outcome.size i; count = outcome.count i; at = λ b. outcome.still b (none b) i }

-- ---- plans

-- what each puts home has rising numbers
pub rises : (disk : DiskState) (js : List Journal) (ps : List Plan) → CanReplayAll disk js ps → AllRise ps
rises disk [] [] can = tt
rises disk [] (p ∷ ps) can = absurd can
rises disk (j ∷ js) [] can = absurd can
rises disk (j ∷ js) (p ∷ ps) can = (can.0.home.rise, rises disk js ps can.1)

pub as_many : (disk : DiskState) (js : List Journal) (ps : List Plan) → CanReplayAll disk js ps → length js ≡ length ps
as_many disk [] [] can = refl
as_many disk [] (p ∷ ps) can = absurd can
as_many disk (j ∷ js) [] can = absurd can
as_many disk (j ∷ js) (p ∷ ps) can = let rest = as_many disk js ps can.1 in omega (arith, rest)

-- ---- what stands, with items of replays

module _ (fences : FencesLeaveOutcomes) (v : Volume) (clients : List Client) (disks : DiskHeads) (disk : DiskState) (tells : IsTrue disk.tells) (t : Tree) (stands : (left : Image) → MayLeave v disk left → StandsReplayed left t)
    (xs : List TraceItem) (all : AllByRecursion IsOfReplay xs) where
  start_stands : StartStands v clients disks disk (trace.Join 1 ∷ xs) t
  start_stands = record {
    told = λ left may. told_so clients disks t left (stands left may) xs all;
    stops = λ x left is_stop may. stopped_so clients disks t left (stands left may) xs all x is_stop;
    fences = λ x became is_stop settles no_false.
        let left = image_of (after_fence disk 1 became) in
        let may : MayLeave v disk left = record { outcome = (fences disk 1 became tells settles).outcome; no_false = no_false } in
        (fenced_so clients disks t left (stands left may) xs all x is_stop, lost_so clients disks t left (stands left may) xs all x is_stop);
  }

-- ---- from the operations to the laws of replays that are cut short

-- items of a replay that stopped, and operations
pub stopped_by : (slot time dinode : ℕ) (blocks : List ℕ) (before after : Moment) (p : Plan) (block : Option ℕ) (items : List TraceItem) → StopsReplayBy 1 slot dinode blocks time before after p block items
    → (header : LogHeader) × (p.clean ≡ Some header) × StopsReplay 1 before after p.home.items (clean_block before.disk.size (get_or blocks header.blkno 0) slot dinode time header) block items
stopped_by slot time dinode blocks before after p block items is = by p.clean refl is
  where
    by : (o : Option LogHeader) → p.clean ≡ o → MatchOption o ⊥ (λ (header : LogHeader). StopsReplay 1 before after p.home.items (clean_block before.disk.size (get_or blocks header.blkno 0) slot dinode time header) block items)
        → (header : LogHeader) × (p.clean ≡ Some header) × StopsReplay 1 before after p.home.items (clean_block before.disk.size (get_or blocks header.blkno 0) slot dinode time header) block items
    by None clean never = absurd never
    by (Some header) clean it = (header, clean, it)

module _ (failing : FailedReplaysStand) (stopping : StoppedReplaysStand) (disk : DiskState) (m : MountedValue) (plans : List Plan) (time : ℕ) (t : Tree) (is : IsStart disk m plans time t) where
  abbrev v : Volume
  v = volume_of (image_of disk) is.mounted.layout

  have_failed : (left : DiskState) (f : FailsIn time 1 disk m.journals plans left) → HaveFailed 1 time (moment disk None) (moment left None) m.journals plans joined ((joined ++ f.items) ++ f.more) f.block
  have_failed left f = record {
    count = f.count;
    between = moment f.there None;
    its_items = joined ++ f.items;
    replayed = record { added = f.items; are = refl; replays = f.before; told = (so.operations, so.done, tt) };
    journal = f.journal;
    plan = f.plan;
    at_journal = f.at_journal;
    at_plan = f.at_plan;
    failed = record { added = f.more; are = refl; stopped = stopped; told = each (its.wrote, its.done, tt) };
  }
    where
      so : OpsOf time 1 (moment disk None) (moment f.there None) (take f.count m.journals) (take f.count plans) f.items
      so = ops_of time 1 (moment disk None) (moment f.there None) (take f.count m.journals) (take f.count plans) f.items f.before

      stopped : StopsReplayBy 1 (f.count + 1) f.journal.dinode f.journal.blocks time (moment f.there None) (moment left None) f.plan f.block f.more
      stopped = subst (λ n. StopsReplayBy 1 n f.journal.dinode f.journal.blocks time (moment f.there None) (moment left None) f.plan f.block f.more) (omega arith) f.stopped

      at : (header : LogHeader) × (f.plan.clean ≡ Some header) × StopsReplay 1 (moment f.there None) (moment left None) f.plan.home.items (clean_block f.there.size (get_or f.journal.blocks header.blkno 0) (f.count + 1) f.journal.dinode time header) f.block f.more
      at = stopped_by (f.count + 1) time f.journal.dinode f.journal.blocks (moment f.there None) (moment left None) f.plan f.block f.more stopped

      its : StoppedOps (moment f.there None) (moment left None) f.plan.home.items (clean_block f.there.size (get_or f.journal.blocks at.0.blkno 0) (f.count + 1) f.journal.dinode time at.0) f.more
      its = replay_stopped (moment f.there None) (moment left None) f.plan.home.items (clean_block f.there.size (get_or f.journal.blocks at.0.blkno 0) (f.count + 1) f.journal.dinode time at.0) f.block f.more at.2

  front_stands : (left_disk : DiskState) → IsFrontOf time 1 disk m.journals plans left_disk → (left : Image) → MayLeave v left_disk left → StandsReplayed left t
  front_stands left_disk (inl f) left may =
      (failing 1 time (moment disk None) (moment left_disk None) m plans joined ((joined ++ f.items) ++ f.more) f.block t is.tells is.idle is.sized is.mounted is.planned is.can is.read (have_failed left_disk f) is.stands).stands left
      (record { outcome = may.outcome; true_headers = may.no_false })
  front_stands left_disk (inr p) left may =
      let so = ops_of time 1 (moment disk None) (moment left_disk None) (take p.count m.journals) (take p.count plans) p.items p.before in
      let some : HaveReplayedSome 1 time (moment disk None) (moment left_disk None) m.journals plans joined (joined ++ p.items)
      = record { count = p.count; replayed = record { added = p.items; are = refl; replays = p.before; told = (so.operations, so.done, tt) } } in
      let there = stopping 1 time (moment disk None) (moment left_disk None) m plans joined (joined ++ p.items) t is.tells is.idle is.sized is.mounted is.planned is.can is.read some is.stands in
      let same : left ≡ image_of left_disk = only_itself (image_of left_disk) left (flown_by left_disk 1) (λ b. ap (λ (fs : List Flight). flight_to fs b) (p.idle.none_in_flight 1)) may.outcome in
      subst (λ im. StandsReplayed im t) (sym same) there.1

  -- ---- fronts of the operations of a whole replay

  pub all_stand : (operations : List Operation) → HasOps disk.size time 1 m.journals plans operations → (n : ℕ) (left : Image) → MayLeave v (disk_after disk (take n operations)) left → StandsReplayed left t
  all_stand operations has n left may =
      front_stands (disk_after disk (take n operations)) (fronts disk.size time 1 m.journals plans operations has disk refl is.idle (rises disk m.journals plans is.can) n) left may

  -- the same of some of its operations, with others behind them
  pub some_stand : (operations : List Operation) (N : ℕ) (whole : List Operation) → HasOps disk.size time 1 m.journals plans whole → take N operations ≡ take N whole → (n : ℕ) → n ≤ N → (left : Image)
      → MayLeave v (disk_after disk (take n operations)) left → StandsReplayed left t
  some_stand operations N whole has same n low left may =
      all_stand whole has n left (subst (λ os. MayLeave v (disk_after disk os) left) (sym (take_take n N operations low) ∙ ap (take n) same ∙ take_take n N whole low) may)
    where
      take_take : {A : Type 0} (n N : ℕ) (xs : List A) → n ≤ N → take n (take N xs) ≡ take n xs
      take_take zero N xs low = refl
      take_take (suc n) zero xs low = absurd (omega (arith, low))
      take_take (suc n) (suc N) [] low = refl
      take_take (suc n) (suc N) (x ∷ xs) low = ap (λ ys. x ∷ ys) (take_take n N xs (omega (arith, low)))

-- ---- of the operations that were made

-- of a list that is told it gained these
pub gained : (before after : Option (List Operation)) (was operations its : List Operation) → before ≡ Some was → after ≡ Some (was ++ operations) → Gains before after its → operations ≡ its
gained before after was operations its first last gains =
    left_same was operations its (subst (λ o. Gains (Some was) o its) last (subst (λ o. Gains o after its) first gains))

-- the parts of a list at one of its places
parts_at : {A : Type 0} (xs : List A) (k : ℕ) (x : A) → slice_get xs k ≡ Some x → take k xs ++ x ∷ drop (suc k) xs ≡ xs
parts_at [] k x at = cc
parts_at (y ∷ xs) zero x at = ap (λ z. z ∷ xs) (same at)
  where
    same : Some y ≡ Some x → x ≡ y
    same e = cc
parts_at (y ∷ xs) (suc k) x at = ap (λ zs. y ∷ zs) (parts_at xs k x at)

long_at : {A : Type 0} (xs : List A) (k : ℕ) (x : A) → slice_get xs k ≡ Some x → length (take k xs) ≡ k
long_at [] k x at = cc
long_at (y ∷ xs) zero x at = refl
long_at (y ∷ xs) (suc k) x at = ap suc (long_at xs k x at)

module _ (failing : FailedReplaysStand) (stopping : StoppedReplaysStand) (fences : FencesLeaveOutcomes) (clients : List Client) (disks : DiskHeads) (before after : Moment) (m : MountedValue) (plans : List Plan) (time : ℕ) (t : Tree)
    (is : IsStart before.disk m plans time t) where
  abbrev d : DiskState
  d = before.disk

  many : length m.journals ≡ length plans
  many = as_many d m.journals plans is.can

  -- a front of items of replays, of which fronts of operations stand
  front_so : (xs : List TraceItem) (operations : List Operation) (count : ℕ) → AllByRecursion IsOfReplay xs
      → ((n : ℕ) → n ≤ told_count xs → (left : Image) → MayLeave (its_volume d m plans time t is) (disk_after d (take n operations)) left → StandsReplayed left t) → 1 ≤ count
      → StartStands (its_volume d m plans time t is) clients disks (disk_after d (first_told (take count (trace.Join 1 ∷ xs)) operations)) (take count (trace.Join 1 ∷ xs)) t
  front_so xs operations zero all stands low = absurd (omega (arith, low))
  front_so xs operations (suc c) all stands low =
      start_stands fences (its_volume d m plans time t is) clients disks (disk_after d (take (told_count (take c xs)) operations))
      (subst IsTrue (sym (tells_on d (take (told_count (take c xs)) operations))) is.tells) t (stands (told_count (take c xs)) (fewer c xs)) (take c xs) (all_taken c xs all)

  -- ---- where some journals were replayed

  module _ (items : List TraceItem) (was operations : List Operation) (some : HaveReplayedSome 1 time before after m.journals plans joined items) (first : before.list ≡ Some was) (last : after.list ≡ Some (was ++ operations)) where
    so : OpsOf time 1 before after (take some.count m.journals) (take some.count plans) some.replayed.added
    so = ops_of time 1 before after (take some.count m.journals) (take some.count plans) some.replayed.added some.replayed.replays

    same_length : length (drop some.count m.journals) ≡ length (drop some.count plans)
    same_length = dropped some.count m.journals plans many
      where
        dropped : (n : ℕ) (js : List Journal) (ps : List Plan) → length js ≡ length ps → length (drop n js) ≡ length (drop n ps)
        dropped zero js ps same = same
        dropped (suc n) [] [] same = refl
        dropped (suc n) [] (p ∷ ps) same = absurd (omega (arith, same))
        dropped (suc n) (j ∷ js) [] same = absurd (omega (arith, same))
        dropped (suc n) (j ∷ js) (p ∷ ps) same = dropped n js ps (omega (arith, same))

    rest : (later : List Operation) × HasOps d.size time (1 + length (take some.count m.journals)) (drop some.count m.journals) (drop some.count plans) later
    rest = can_have d.size time (1 + length (take some.count m.journals)) (drop some.count m.journals) (drop some.count plans) same_length

    whole : HasOps d.size time 1 m.journals plans (so.operations ++ rest.0)
    whole = subst (λ js. HasOps d.size time 1 js plans (so.operations ++ rest.0)) (take-append-drop some.count m.journals)
        (subst (λ ps. HasOps d.size time 1 (take some.count m.journals ++ drop some.count m.journals) ps (so.operations ++ rest.0)) (take-append-drop some.count plans)
        (join_ops d.size time 1 (take some.count m.journals) (take some.count plans) so.operations (drop some.count m.journals) (drop some.count plans) rest.0 so.has rest.1))

    same_front : take (length so.operations) operations ≡ take (length so.operations) (so.operations ++ rest.0)
    same_front = ap (take (length so.operations)) (gained before.list after.list was operations so.operations first last so.gains) ∙ sym (take_front (length so.operations) so.operations rest.0 (omega arith))

    pub replay_fronts : (count : ℕ) → 1 ≤ count → StartStands (its_volume d m plans time t is) clients disks (disk_after d (first_told (take count items) operations)) (take count items) t
    replay_fronts count low =
        subst (λ is'. StartStands (its_volume d m plans time t is) clients disks (disk_after d (first_told (take count is') operations)) (take count is') t) (sym some.replayed.are)
        (front_so some.replayed.added operations count (of_replays 1 time before after (take some.count m.journals) (take some.count plans) some.replayed.added some.replayed.replays)
        (λ n few left may. some_stand failing stopping d m plans time t is operations (length so.operations) (so.operations ++ rest.0) whole same_front n (let all = counted some.replayed.added so.operations so.done in omega (arith, few, all)) left may) low)

  -- ---- where the disk failed in the replay of one

  module _ (items : List TraceItem) (block : Option ℕ) (was operations : List Operation) (f : HaveFailed 1 time before after m.journals plans joined items block) (first : before.list ≡ Some was)
      (last : after.list ≡ Some (was ++ operations)) where
    abbrev js : List Journal
    js = take f.count m.journals

    abbrev ps : List Plan
    ps = take f.count plans

    abbrev js_behind : List Journal
    js_behind = drop (suc f.count) m.journals

    abbrev ps_behind : List Plan
    ps_behind = drop (suc f.count) plans

    before_it : OpsOf time 1 before f.between js ps f.replayed.added
    before_it = ops_of time 1 before f.between js ps f.replayed.added f.replayed.replays

    size_is : f.between.disk.size ≡ d.size
    size_is = same_size 1 time before f.between js ps f.replayed.added f.replayed.replays

    at : (header : LogHeader) × (f.plan.clean ≡ Some header) × StopsReplay 1 f.between after f.plan.home.items (clean_block f.between.disk.size (get_or f.journal.blocks header.blkno 0) (f.count + 1) f.journal.dinode time header) block f.failed.added
    at = stopped_by (f.count + 1) time f.journal.dinode f.journal.blocks f.between after f.plan block f.failed.added f.failed.stopped

    in_it : StoppedOps f.between after f.plan.home.items (clean_block f.between.disk.size (get_or f.journal.blocks at.0.blkno 0) (f.count + 1) f.journal.dinode time at.0) f.failed.added
    in_it = replay_stopped f.between after f.plan.home.items (clean_block f.between.disk.size (get_or f.journal.blocks at.0.blkno 0) (f.count + 1) f.journal.dinode time at.0) block f.failed.added at.2

    slot_is : f.count + 1 ≡ 1 + length js
    slot_is = let long = long_at m.journals f.count f.journal f.at_journal in omega (arith, long)

    at_heads : AreBrought 1 (head_of d.size (1 + length js) time f.journal at.0 ∷ []) in_it.heads
    at_heads = subst (λ n. AreBrought 1 (clean_block n (get_or f.journal.blocks at.0.blkno 0) (1 + length js) f.journal.dinode time at.0 ∷ []) in_it.heads) size_is
        (subst (λ n. AreBrought 1 (clean_block f.between.disk.size (get_or f.journal.blocks at.0.blkno 0) n f.journal.dinode time at.0 ∷ []) in_it.heads) slot_is in_it.at_heads)

    behind_long : length js_behind ≡ length ps_behind
    behind_long =
        let all_js = ap length (parts_at m.journals f.count f.journal f.at_journal) in
        let all_ps = ap length (parts_at plans f.count f.plan f.at_plan) in
        let sum_js = length-append js (f.journal ∷ js_behind) in
        let sum_ps = length-append ps (f.plan ∷ ps_behind) in
        let long_js = long_at m.journals f.count f.journal f.at_journal in
        let long_ps = long_at plans f.count f.plan f.at_plan in
        let all = many in
        omega (arith, all_js, all_ps, sum_js, sum_ps, long_js, long_ps, all)

    others : (later : List Operation) × HasOps d.size time ((1 + length js) + 1) js_behind ps_behind later
    others = can_have d.size time ((1 + length js) + 1) js_behind ps_behind behind_long

    abbrev whole_ops : List Operation
    whole_ops = before_it.operations ++ ((in_it.homes ++ in_it.heads) ++ others.0)

    whole_failed : HasOps d.size time 1 m.journals plans whole_ops
    whole_failed = subst (λ xs. HasOps d.size time 1 xs plans whole_ops) (parts_at m.journals f.count f.journal f.at_journal)
        (subst (λ xs. HasOps d.size time 1 (js ++ f.journal ∷ js_behind) xs whole_ops) (parts_at plans f.count f.plan f.at_plan)
        (join_ops d.size time 1 js ps before_it.operations (f.journal ∷ js_behind) (f.plan ∷ ps_behind) ((in_it.homes ++ in_it.heads) ++ others.0) before_it.has
        (replays (1 + length js) f.journal js_behind f.plan ps_behind at.0 in_it.homes in_it.heads others.0 at.1 in_it.at_homes at_heads others.1)))

    -- those that the items tell
    abbrev told_ops : List Operation
    told_ops = before_it.operations ++ in_it.wrote

    operations_are : operations ≡ told_ops ++ in_it.further
    operations_are =
        gained before.list after.list was operations (before_it.operations ++ (in_it.wrote ++ in_it.further)) first last
        (gains_join before.list f.between.list after.list before_it.operations (in_it.wrote ++ in_it.further) before_it.gains in_it.gains)
        ∙ sym (append_assoc before_it.operations in_it.wrote in_it.further)

    whole_are : whole_ops ≡ told_ops ++ (in_it.rest ++ others.0)
    whole_are =
        ap (λ os. before_it.operations ++ os) (ap (λ os. os ++ others.0) in_it.whole ∙ append_assoc in_it.wrote in_it.rest others.0)
        ∙ sym (append_assoc before_it.operations in_it.wrote (in_it.rest ++ others.0))

    same_told : take (length told_ops) operations ≡ take (length told_ops) whole_ops
    same_told =
        ap (take (length told_ops)) operations_are ∙ take_front (length told_ops) told_ops in_it.further (omega arith)
        ∙ sym (take_front (length told_ops) told_ops (in_it.rest ++ others.0) (omega arith)) ∙ ap (take (length told_ops)) (sym whole_are)

    abbrev all_items : List TraceItem
    all_items = f.replayed.added ++ f.failed.added

    items_are : items ≡ trace.Join 1 ∷ all_items
    items_are = f.failed.are ∙ ap (λ is'. is' ++ f.failed.added) f.replayed.are

    of_replay : AllByRecursion IsOfReplay all_items
    of_replay = all_join f.replayed.added f.failed.added (of_replays 1 time before f.between js ps f.replayed.added f.replayed.replays)
        (of_stopped f.between after f.plan.home.items (clean_block f.between.disk.size (get_or f.journal.blocks at.0.blkno 0) (f.count + 1) f.journal.dinode time at.0) block f.failed.added at.2)

    told_all : told_count all_items ≡ length told_ops
    told_all = counted all_items told_ops (goes_on f.replayed.added f.failed.added before_it.operations in_it.wrote before_it.done in_it.done)

    pub failed_fronts : (count : ℕ) → 1 ≤ count → StartStands (its_volume d m plans time t is) clients disks (disk_after d (first_told (take count items) operations)) (take count items) t
    failed_fronts count low =
        subst (λ is'. StartStands (its_volume d m plans time t is) clients disks (disk_after d (first_told (take count is') operations)) (take count is') t) (sym items_are)
        (front_so all_items operations count of_replay
        (λ n few left may. some_stand failing stopping d m plans time t is operations (length told_ops) whole_ops whole_failed same_told n (let all = told_all in omega (arith, few, all)) left may) low)

-- ---- with all items, on the disk that a replay left in which the disk failed

module _ (failing : FailedReplaysStand) (fences : FencesLeaveOutcomes) where
  pub failed_replays_are_told : FailedReplaysAreTold
  failed_replays_are_told clients disks before after m plans time t items block is f =
      subst (λ is'. StartStands (its_volume before.disk m plans time t is) clients disks after.disk is' t) (sym (f.failed.are ∙ ap (λ is'. is' ++ f.failed.added) f.replayed.are))
      (start_stands fences (its_volume before.disk m plans time t is) clients disks after.disk each_one.tells t (λ left may. each_one.stands left (record { outcome = may.outcome; true_headers = may.no_false }))
      (f.replayed.added ++ f.failed.added) of_replay)
    where
      each_one : StandsInEachOutcome after.disk 1 is.mounted.layout t
      each_one = failing 1 time before after m plans joined items block t is.tells is.idle is.sized is.mounted is.planned is.can is.read f is.stands

      at : (header : LogHeader) × (f.plan.clean ≡ Some header)
          × StopsReplay 1 f.between after f.plan.home.items (clean_block f.between.disk.size (get_or f.journal.blocks header.blkno 0) (f.count + 1) f.journal.dinode time header) block f.failed.added
      at = stopped_by (f.count + 1) time f.journal.dinode f.journal.blocks f.between after f.plan block f.failed.added f.failed.stopped

      of_replay : AllByRecursion IsOfReplay (f.replayed.added ++ f.failed.added)
      of_replay = all_join f.replayed.added f.failed.added (of_replays 1 time before f.between (take f.count m.journals) (take f.count plans) f.replayed.added f.replayed.replays)
          (of_stopped f.between after f.plan.home.items (clean_block f.between.disk.size (get_or f.journal.blocks at.0.blkno 0) (f.count + 1) f.journal.dinode time at.0) block f.failed.added at.2)

-- ---- the laws

pub nothing_at_all : NothingStands
nothing_at_all clients disks disk m plans time t is = nothing_stands clients disks t (image_of disk) is.stands

module _ (failing : FailedReplaysStand) (stopping : StoppedReplaysStand) (fences : FencesLeaveOutcomes) where
  pub replay_fronts_stand : ReplayFrontsStand
  replay_fronts_stand clients disks before after m plans time t items was operations count is some first last low high =
      replay_fronts failing stopping fences clients disks before after m plans time t is items was operations some first last count low

  pub failed_fronts_stand : FailedFrontsStand
  failed_fronts_stand clients disks before after m plans time t items block was operations count is f first last low high =
      failed_fronts failing stopping fences clients disks before after m plans time t is items block was operations f first last count low
