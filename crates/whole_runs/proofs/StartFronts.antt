-- Starts stand front by front, with all that came behind them.
use Rattle.std.proofs.Common.{◌≡◌, ℕ, zero, suc, ◌+◌, ◌≤◌, List, [], ◌∷◌, ◌++◌, length, take, get_or, Option, Some, refl, sym, ap, subst, ◌∙◌, arith}
use Rattle.std.specs.Prelude.{IsTrue, slice_get}
use Rattle.std.specs.List.{AllByRecursion}
use Rattle.std.proofs.lemmas.List.{append_assoc}
use Rattle.cluster_history.specs.History.{Legal, calls_of}
use Rattle.cluster_history.specs.declared.Item.{Item}
use Rattle.cluster_history.specs.declared.Item.TheVariants as item
use Rattle.cut_replays.specs.Failed.{FailedReplaysStand}
use Rattle.cut_replays.specs.Recoveries.{HaveFailed, HaveReplayedSome}
use Rattle.cut_replays.specs.Stopped.{StoppedReplaysStand}
use Rattle.cut_replays.proofs.Stopped as stopping_proofs
use Rattle.disk_items.specs.Deeds.{AreDoneBy}
use Rattle.disk_items.proofs.Going.{goes_on}
use Rattle.disk_turns.specs.Turns.{Moment}
use Rattle.disk_turns.proofs.Gaining.{gains_join}
use Rattle.file_tree.specs.Tree.{Tree}
use Rattle.file_tree.specs.declared.call.Call.{Call}
use Rattle.file_tree.specs.declared.reply.Reply.{Reply}
use Rattle.image_machine.specs.Volumes.{Volume}
use Rattle.image_model.specs.Image.{Image, image_of}
use Rattle.image_model.specs.Replays.{StandsReplayed}
use Rattle.image_mount.specs.Mounted.{Journal, MountedValue}
use Rattle.journal_outcomes.specs.Disks.{FencesLeaveOutcomes, flown_by}
use Rattle.journal_replays.specs.Headers.{clean_block}
use Rattle.journal_replays.specs.Replays.{StopsReplay}
use Rattle.log_layout.specs.declared.log_header.LogHeader.{LogHeader}
use Rattle.logged_runs.specs.Disks.{disk_after, first_told, told_count}
use Rattle.logged_runs.specs.Laws.{IsStop, MayLeave, StandsLost, to_fence}
use Rattle.logged_runs.specs.Standing.{StandsAsTold}
use Rattle.logged_runs.specs.Starts.{IsOfReplay}
use Rattle.logged_runs.proofs.Starting.{no_calls}
use Rattle.logged_runs.proofs.Telling.{append_nil, take_all, take_front}
use Rattle.peer_replay.specs.declared.planned.Plan.{Plan}
use Rattle.run_rules.specs.Follows.{history_of}
use Rattle.run_rules.specs.Lives.{DiskHeads}
use Rattle.script_lang.specs.declared.script.Client.{Client}
use Rattle.shared_disk.specs.Disk.{DiskState, Flight, IsIdle, Operation, after_fence, flight_to}
use Rattle.trace_text.specs.declared.item.TraceItem.{TraceItem}
use Rattle.trace_text.specs.declared.item.TraceItem.TheVariants as trace
use Rattle.whole_runs.specs.Fronts.{FailedStartsStand, HasStartWhole, IsRightLoss, SettlesRight, StartsStand, disk_left}
use Rattle.whole_runs.specs.Starts.{IsStart, StartStands, its_volume, joined}
use Rattle.whole_runs.specs.Wholes.{Course, HasCourse, disk_behind, going_on, heads_of, no_write, stopped_course}
use Rattle.whole_runs.proofs.Bringing.{after_on}
use Rattle.whole_runs.proofs.Fronts.{IsNoLoss, StandsOfItself, each_front, silent}
use Rattle.whole_runs.proofs.Items.{all_join, counted, fewer, of_replays, of_stopped}
use Rattle.whole_runs.proofs.Quiet.{none_legal, nothing_stands}
use Rattle.whole_runs.proofs.Replaying.{AllRise, OpsOf, StoppedOps, ops_of, replay_stopped}
use Rattle.whole_runs.proofs.Resting.{idle_behind}
use Rattle.whole_runs.proofs.Starting.{failed_fronts_stand, failed_replays_are_told, gained, only_itself, replay_fronts_stand, rises, stopped_by}
use Rattle.whole_runs.proofs.Wholes.{behind_front}

-- ---- what a start has by itself

pub replays_lose_nothing : (xs : List TraceItem) → AllByRecursion IsOfReplay xs → AllByRecursion IsNoLoss xs
replays_lose_nothing [] all = tt
replays_lose_nothing (trace.Lost node kept ∷ xs) all = absurd all.0
replays_lose_nothing (x ∷ xs) all = (no_loss x all.0, replays_lose_nothing xs all.1)
  where
    no_loss : (x : TraceItem) → IsOfReplay x → IsNoLoss x
    no_loss (trace.Lost node kept) of = of
    no_loss x of = tt

module _ (clients : List Client) (d : ℕ) (v : Volume) (start : DiskState) (tree : Tree) (c : Course) (xs : List TraceItem) (items_are : c.items ≡ trace.Join 1 ∷ xs) (all : AllByRecursion IsOfReplay xs) (idle : IsIdle start)
    (stands : StandsReplayed (image_of start) tree) (fronts : (disks : DiskHeads) (count : ℕ) → 1 ≤ count → count ≤ length c.items → StartStands v clients disks (disk_behind start c count) (take count c.items) tree)
    (whole : (disks : DiskHeads) → StartStands v clients disks (disk_left start c) c.items tree) where
  no_history : history_of clients c.items ≡ []
  no_history = ap (history_of clients) items_are ∙ no_calls clients xs all

  front_stands : (end : List TraceItem) (later : List Operation) (count : ℕ) (left : Image) → count ≤ length c.items → MayLeave v (disk_behind start c count) left
      → StandsAsTold clients (heads_of v d start (going_on c end later) left) (take count c.items) tree left
  front_stands end later zero left low may =
      let there = subst (λ s. MayLeave v s left) (behind_front start c 0 low) may in
      let same : left ≡ image_of start = only_itself (image_of start) left (flown_by start 1) (λ b. ap (λ (fs : List Flight). flight_to fs b) (idle.none_in_flight 1)) there.outcome in
      nothing_stands clients (heads_of v d start (going_on c end later) left) tree left (subst (λ im. StandsReplayed im tree) (sym same) stands)
  front_stands end later (suc n) left low may = (fronts (heads_of v d start (going_on c end later) left) (suc n) (omega arith) low).told left may

  none_kept : (kept : ℕ) → kept ≤ calls_of 1 (history_of clients c.items) → kept ≡ 0
  none_kept kept low = let none = ap (calls_of 1) no_history in omega (arith, low, none)

  lost_right : (x : TraceItem) (became : List Flight) (kept : ℕ) → IsStop x → SettlesRight v (disk_left start c) became → IsRightLoss v d clients start c x became kept
      → let left = image_of (after_fence (disk_left start c) 1 became) in StandsLost clients (heads_of v d start (stopped_course c x became (trace.Lost 1 kept ∷ [])) left) x c.items tree left kept
  lost_right x became kept is_stop settles right =
      let left = image_of (after_fence (disk_left start c) 1 became) in
      subst (λ k. StandsLost clients (heads_of v d start (stopped_course c x became (trace.Lost 1 k ∷ [])) left) x c.items tree left k) (sym (none_kept kept right.below))
      ((whole (heads_of v d start (stopped_course c x became (trace.Lost 1 0 ∷ [])) left)).fences x became is_stop settles.outcome settles.no_false).1

  none_called : (history : List Item) (p client number : ℕ) (call : Call) (reply : Reply) → history ≡ [] → slice_get history p ≡ Some (item.Call 1 client number call reply) → ⊥
  none_called [] p client number call reply none at = cc
  none_called (i ∷ is) p client number call reply none at = cc

  pub loss_found : (x : TraceItem) (became : List Flight) → IsStop x → SettlesRight v (disk_left start c) became → IsRightLoss v d clients start c x became 0
  loss_found x became is_stop settles =
      let left = image_of (after_fence (disk_left start c) 1 became) in
      let told = ((whole (heads_of v d start (stopped_course c x became (trace.Lost 1 0 ∷ [])) left)).fences x became is_stop settles.outcome settles.no_false).0 in
      let none : calls_of 1 (history_of clients (to_fence x c.items)) ≡ 0 = ap (calls_of 1) ((silent clients c.items x is_stop).1 ∙ no_history) in
      let within = told.within in
      record {
        order = omega (arith, within, none);
        below = omega arith;
        between = λ p client number call reply at above low. absurd (none_called (history_of clients c.items) p client number call reply no_history at);
        next = λ p client number call reply at is. absurd (none_called (history_of clients c.items) p client number call reply no_history at);
      }

  pub start_of_itself : StandsOfItself v d clients start tree c
  start_of_itself = record {
    legal = subst (λ h. Legal h tree) (sym no_history) (none_legal tree);
    none = subst (AllByRecursion IsNoLoss) (sym items_are) (tt, replays_lose_nothing xs all);
    fronts = front_stands;
    whole = λ end later left may. (whole (heads_of v d start (going_on c end later) left)).told left may;
    stops = λ end later x left is_stop may. (whole (heads_of v d start (going_on c end later) left)).stops x left is_stop may;
    fences = λ x became more is_stop settles. ((whole (heads_of v d start (stopped_course c x became more) (image_of (after_fence (disk_left start c) 1 became)))).fences x became is_stop settles.outcome settles.no_false).0;
    lost = lost_right;
  }

-- the first ones rise too
front_rises : (n : ℕ) (ps : List Plan) → AllRise ps → AllRise (take n ps)
front_rises zero ps all = tt
front_rises (suc n) [] all = tt
front_rises (suc n) (p ∷ ps) all = (all.0, front_rises n ps all.1)

module _ (failing : FailedReplaysStand) (stopping : StoppedReplaysStand) (fences : FencesLeaveOutcomes) (clients : List Client) (before after : Moment) (m : MountedValue) (plans : List Plan) (time : ℕ) (t : Tree) (items : List TraceItem)
    (was operations : List Operation) (is : IsStart before.disk m plans time t) (first : before.list ≡ Some was) (last : after.list ≡ Some (was ++ operations)) where
  abbrev v : Volume
  v = its_volume before.disk m plans time t is

  all_rise : AllRise plans
  all_rise = rises before.disk m.journals plans is.can

  -- ---- where some journals were replayed, or all

  module _ (some : HaveReplayedSome 1 time before after m.journals plans joined items) where
    so : OpsOf time 1 before after (take some.count m.journals) (take some.count plans) some.replayed.added
    so = ops_of time 1 before after (take some.count m.journals) (take some.count plans) some.replayed.added some.replayed.replays

    abbrev some_course : Course
    some_course = record { items = items; end = []; operations = operations; further = []; later = [] }

    operations_so : operations ≡ so.operations
    operations_so = gained before.list after.list was operations so.operations first last so.gains

    some_disk : after.disk ≡ disk_after before.disk operations
    some_disk = so.disk is.tells is.idle (front_rises some.count plans all_rise) ∙ ap (disk_after before.disk) (sym operations_so)

    some_done : AreDoneBy items operations
    some_done = subst (λ is'. AreDoneBy is' operations) (sym some.replayed.are) (subst (AreDoneBy (joined ++ some.replayed.added)) (sym operations_so) so.done)

    has_some_course : HasCourse before items after.disk operations some_course
    has_some_course = record { items = refl; all = append_nil operations; told = some_done; one = no_write; disk = some_disk }

    some_front : (disks : DiskHeads) (count : ℕ) → 1 ≤ count → count ≤ length items → StartStands v clients disks (disk_behind before.disk some_course count) (take count items) t
    some_front disks count low high =
        subst (λ s. StartStands v clients disks s (take count items) t) (sym (behind_front before.disk some_course count high))
        (replay_fronts_stand failing stopping fences clients disks before after m plans time t items was operations count is some first last low high)

    some_whole : (disks : DiskHeads) → StartStands v clients disks (disk_left before.disk some_course) items t
    some_whole disks =
        let long : 1 ≤ length items = (let is_long = ap length some.replayed.are in omega (arith, is_long)) in
        let all = replay_fronts_stand failing stopping fences clients disks before after m plans time t items was operations (length items) is some first last long (omega arith) in
        let front = take_all (length items) items (omega arith) in
        let told : first_told items operations ≡ operations ++ [] = (let count = counted items operations some_done in take_all (told_count items) operations (omega (arith, count)) ∙ sym (append_nil operations)) in
        subst (λ os. StartStands v clients disks (disk_after before.disk os) items t) told (subst (λ is'. StartStands v clients disks (disk_after before.disk (first_told is' operations)) is' t) front all)

    pub some_start_stands : HasStartWhole before v clients t items after.disk operations
    some_start_stands = record {
      course = some_course;
      has = has_some_course;
      stands = λ d c behind. each_front v d clients before.disk t some_course
          (start_of_itself clients d v before.disk t some_course some.replayed.added some.replayed.are (of_replays 1 time before after (take some.count m.journals) (take some.count plans) some.replayed.added some.replayed.replays) is.idle
          is.stands some_front some_whole) c behind;
      lost = λ d. loss_found clients d v before.disk t some_course some.replayed.added some.replayed.are (of_replays 1 time before after (take some.count m.journals) (take some.count plans) some.replayed.added some.replayed.replays) is.idle
          is.stands some_front some_whole;
    }

  -- ---- where the replay of one was cut short

  module _ (block : Option ℕ) (f : HaveFailed 1 time before after m.journals plans joined items block) where
    abbrev js : List Journal
    js = take f.count m.journals

    abbrev ps : List Plan
    ps = take f.count plans

    before_it : OpsOf time 1 before f.between js ps f.replayed.added
    before_it = ops_of time 1 before f.between js ps f.replayed.added f.replayed.replays

    at : (header : LogHeader) × (f.plan.clean ≡ Some header) × StopsReplay 1 f.between after f.plan.home.items (clean_block f.between.disk.size (get_or f.journal.blocks header.blkno 0) (f.count + 1) f.journal.dinode time header) block f.failed.added
    at = stopped_by (f.count + 1) time f.journal.dinode f.journal.blocks f.between after f.plan block f.failed.added f.failed.stopped

    in_it : StoppedOps f.between after f.plan.home.items (clean_block f.between.disk.size (get_or f.journal.blocks at.0.blkno 0) (f.count + 1) f.journal.dinode time at.0) f.failed.added
    in_it = replay_stopped f.between after f.plan.home.items (clean_block f.between.disk.size (get_or f.journal.blocks at.0.blkno 0) (f.count + 1) f.journal.dinode time at.0) block f.failed.added at.2

    abbrev told_ops : List Operation
    told_ops = before_it.operations ++ in_it.wrote

    abbrev failed_course : Course
    failed_course = record { items = items; end = []; operations = told_ops; further = in_it.further; later = [] }

    operations_are : operations ≡ told_ops ++ in_it.further
    operations_are =
        gained before.list after.list was operations (before_it.operations ++ (in_it.wrote ++ in_it.further)) first last
        (gains_join before.list f.between.list after.list before_it.operations (in_it.wrote ++ in_it.further) before_it.gains in_it.gains)
        ∙ sym (append_assoc before_it.operations in_it.wrote in_it.further)

    between_is : f.between.disk ≡ disk_after before.disk before_it.operations
    between_is = before_it.disk is.tells is.idle (front_rises f.count plans all_rise)

    between_tells : IsTrue f.between.disk.tells
    between_tells = subst IsTrue (sym (stopping_proofs.tells_all 1 1 time before f.between js ps f.replayed.added f.replayed.replays)) is.tells

    failed_disk : after.disk ≡ disk_after before.disk (told_ops ++ in_it.further)
    failed_disk =
        in_it.disk between_tells (idle_behind 1 time before f.between js ps f.replayed.added f.replayed.replays is.idle) (rise_at plans f.count f.plan all_rise f.at_plan).0
        ∙ ap (λ s. disk_after s (in_it.wrote ++ in_it.further)) between_is
        ∙ sym (after_on before.disk before_it.operations (in_it.wrote ++ in_it.further))
        ∙ ap (disk_after before.disk) (sym (append_assoc before_it.operations in_it.wrote in_it.further))
      where
        rise_at : (qs : List Plan) (k : ℕ) (p : Plan) → AllRise qs → slice_get qs k ≡ Some p → AllRise (p ∷ [])
        rise_at [] k p all at_k = cc
        rise_at (q ∷ qs) zero p all at_k = subst (λ r. AllRise (r ∷ [])) (same at_k) (all.0, tt)
          where
            same : Some q ≡ Some p → q ≡ p
            same e = cc
        rise_at (q ∷ qs) (suc k) p all at_k = rise_at qs k p all.1 at_k

    abbrev added : List TraceItem
    added = f.replayed.added ++ f.failed.added

    items_are : items ≡ trace.Join 1 ∷ added
    items_are = f.failed.are ∙ ap (λ is'. is' ++ f.failed.added) f.replayed.are

    of_replay : AllByRecursion IsOfReplay added
    of_replay = all_join f.replayed.added f.failed.added (of_replays 1 time before f.between js ps f.replayed.added f.replayed.replays)
        (of_stopped f.between after f.plan.home.items (clean_block f.between.disk.size (get_or f.journal.blocks at.0.blkno 0) (f.count + 1) f.journal.dinode time at.0) block f.failed.added at.2)

    failed_done : AreDoneBy items told_ops
    failed_done = subst (λ is'. AreDoneBy is' told_ops) (sym items_are) (goes_on f.replayed.added f.failed.added before_it.operations in_it.wrote before_it.done in_it.done)

    has_failed_course : HasCourse before items after.disk operations failed_course
    has_failed_course = record { items = refl; all = sym operations_are; told = failed_done; one = in_it.most; disk = failed_disk ∙ ap (disk_after before.disk) (sym operations_are) }

    same_told : (count : ℕ) → first_told (take count items) operations ≡ first_told (take count items) told_ops
    same_told count =
        let few = fewer count items in
        let all = counted items told_ops failed_done in
        ap (take (told_count (take count items))) operations_are ∙ take_front (told_count (take count items)) told_ops in_it.further (omega (arith, few, all))

    failed_front : (disks : DiskHeads) (count : ℕ) → 1 ≤ count → count ≤ length items → StartStands v clients disks (disk_behind before.disk failed_course count) (take count items) t
    failed_front disks count low high =
        subst (λ s. StartStands v clients disks s (take count items) t) (ap (disk_after before.disk) (same_told count) ∙ sym (behind_front before.disk failed_course count high))
        (failed_fronts_stand failing stopping fences clients disks before after m plans time t items block was operations count is f first last low high)

    failed_whole : (disks : DiskHeads) → StartStands v clients disks (disk_left before.disk failed_course) items t
    failed_whole disks = subst (λ s. StartStands v clients disks s items t) failed_disk (failed_replays_are_told failing fences clients disks before after m plans time t items block is f)

    pub failed_start_stands : HasStartWhole before v clients t items after.disk operations
    failed_start_stands = record {
      course = failed_course;
      has = has_failed_course;
      stands = λ d c behind. each_front v d clients before.disk t failed_course
          (start_of_itself clients d v before.disk t failed_course added items_are of_replay is.idle is.stands failed_front failed_whole) c behind;
      lost = λ d. loss_found clients d v before.disk t failed_course added items_are of_replay is.idle is.stands failed_front failed_whole;
    }

pub starts_stand : FailedReplaysStand → StoppedReplaysStand → FencesLeaveOutcomes → StartsStand
starts_stand failing stopping fences clients before after m plans time t items was operations is some first last =
    some_start_stands failing stopping fences clients before after m plans time t items was operations is first last some

pub failed_starts_stand : FailedReplaysStand → StoppedReplaysStand → FencesLeaveOutcomes → FailedStartsStand
failed_starts_stand failing stopping fences clients before after m plans time t items block was operations is f first last =
    failed_start_stands failing stopping fences clients before after m plans time t items was operations is first last block f
