-- A whole run stands throughout.
use Rattle.std.proofs.Common.{◌≡◌, ◌⊎◌, ℕ, zero, suc, ◌+◌, ◌-◌, ◌<◌, ◌≤◌, List, [], ◌∷◌, ◌++◌, length, take, drop, Some, refl, sym, ap, subst, ◌∙◌, inl, inr, arith}
use Rattle.std.specs.Prelude.{IsTrue}
use Rattle.std.specs.List.{AllByRecursion}
use Rattle.std.proofs.lemmas.Bool.{cases_lt}
use Rattle.std.proofs.lemmas.List.{append_assoc, length-append, length-take-le}
use Rattle.cut_replays.specs.Failed.{FailedReplaysStand}
use Rattle.cut_replays.specs.Stopped.{StoppedReplaysStand}
use Rattle.disk_items.specs.Deeds.{AreDoneBy}
use Rattle.disk_items.proofs.Going.{goes_on}
use Rattle.disk_turns.specs.Turns.{Moment, moment}
use Rattle.disk_turns.proofs.Gaining.{gains_join}
use Rattle.file_tree.specs.Tree.{Tree}
use Rattle.image_machine.specs.Volumes.{Volume, volume_of}
use Rattle.image_model.specs.Image.{Image, image_of}
use Rattle.image_model.specs.Owners.{Owners}
use Rattle.image_model.specs.Replays.{StandsReplayed}
use Rattle.image_model.specs.Stands.{IsJournalAt, Layout}
use Rattle.image_model.proofs.Replaying.{journals_of_standing, same_journals}
use Rattle.image_mount.specs.Mounted.{Journal, MountedValue}
use Rattle.cut_replays.proofs.Found.{FindsTheSame}
use Rattle.cut_replays.specs.Recoveries.{AreReplays, HaveReplayedSome}
use Rattle.journal_outcomes.specs.Disks.{FencesLeaveOutcomes, flown_by}
use Rattle.journal_outcomes.specs.Images.{NoFalseHeader, ring_at}
use Rattle.journal_replays.specs.Replays.{IsReplayWith}
use Rattle.log_layout.specs.Journal.{head_in}
use Rattle.log_layout.specs.Laws.{HeadersReadBack}
use Rattle.logged_runs.specs.StepEnds.{EndsTo}
use Rattle.logged_runs.specs.Heads.{HasFirst, IsAcceptedIn}
use Rattle.logged_runs.specs.Laws.{EndsAreTold, FencesAreTold, FrontStands, FrontsStand, HeadsAreThere, IsStop, LossesGoByHeads, MayLeave, RunsBeginSo, StandsFenced, StopsAreTold, WhatRemainsIsTold, to_fence}
use Rattle.logged_runs.specs.LoggedLaws.{IsInItsBlocks}
use Rattle.logged_runs.specs.Standing.{StandsAsTold}
use Rattle.logged_runs.specs.Starts.{BeginsAt, IsOfReplay, only_life}
use Rattle.logged_runs.proofs.Staying.{no_end, stay_replays}
use Rattle.logged_runs.specs.Disks.{disk_after, first_told, told_count}
use Rattle.logged_runs.specs.Fails.{AsItWas, FailsTo, InAWrite}
use Rattle.logged_runs.specs.StepLaws.{StepsAreTold, TellsWhatItDoes}
use Rattle.logged_runs.specs.Points.{Point}
use Rattle.logged_runs.specs.StepStarts.{starting}
use Rattle.logged_runs.specs.Steps.{Steps}
use Rattle.logged_runs.proofs.Telling.{append_nil, left_same, take_all, take_front}
use Rattle.lone_images.specs.Lone.{begun_on}
use Rattle.logged_runs.specs.States.{trees_on}
use Rattle.lone_machine.specs.Alone.{Begun}
use Rattle.peer_replay.specs.declared.planned.Plan.{Plan}
use Rattle.run_rules.specs.Lives.{or_else, own_from, recovered_behind}
use Rattle.script_lang.specs.declared.script.Client.{Client}
use Rattle.shared_disk.specs.Disk.{DiskState, Fence, Flight, Gains, IsOutcome, Operation, after_fence, flight_to}
use Rattle.trace_text.specs.declared.item.TraceItem.{TraceItem}
use Rattle.trace_text.specs.declared.item.TraceItem.TheVariants as trace
use Rattle.whole_runs.specs.Starts.{its_volume, joined}
use Rattle.whole_runs.specs.Wholes.{Course, HasCourse, HasItsHeads, HasRunWhole, IsRun, WholeRunsStand, accepted_as, disk_behind, ends_with, going_on, head_at, heads_of, stopped_course}
use Rattle.whole_runs.proofs.Bringing.{after_on}
use Rattle.whole_runs.proofs.Heads.{finds, same_head}
use Rattle.whole_runs.proofs.Items.{counted, fewer, of_replays}
use Rattle.whole_runs.proofs.Last.{EndFront, LastOps, end_front, ended_ops, failed_ops}
use Rattle.whole_runs.proofs.Owning.{FirstOwn, first_own}
use Rattle.whole_runs.proofs.Quiet.{nothing_stands}
use Rattle.whole_runs.proofs.Replaying.{AllRise}
use Rattle.whole_runs.proofs.Starting.{as_many, gained, only_itself, replay_fronts_stand, rises, tells_on}
use Rattle.whole_runs.proofs.Wholes.{ToldBefore, behind_first, behind_part, behind_stop, told_before, told_on}

-- ---- the replay of the first journal, and of the others

record StartParts (time : ℕ) (before after : Moment) (js : List Journal) (ps : List Plan) (added : List TraceItem) : Type 0 where
  j : Journal
  js' : List Journal
  p : Plan
  ps' : List Plan
  next : Moment
  first : List TraceItem
  later : List TraceItem
  js_are : js ≡ j ∷ js'
  ps_are : ps ≡ p ∷ ps'
  are : added ≡ first ++ later
  one : IsReplayWith 1 1 j.dinode j.blocks time before next p.home.items p.clean first
  rest : AreReplays 1 2 time next js' ps' after later

start_parts : (time : ℕ) (before after : Moment) (js : List Journal) (ps : List Plan) (added : List TraceItem) → 1 ≤ length js → AreReplays 1 1 time before js ps after added → StartParts time before after js ps added
start_parts time before after [] ps added some so = absurd (omega (arith, some))
start_parts time before after (j ∷ js) [] added some so = absurd so
start_parts time before after (j ∷ js) (p ∷ ps) added some (next, first, later, are, one, rest) =
    record { j = j; js' = js; p = p; ps' = ps; next = next; first = first; later = later; js_are = refl; ps_are = refl; are = are; one = one; rest = rest }

drop_front : {A : Type 0} (xs ys : List A) → drop (length xs) (xs ++ ys) ≡ ys
drop_front [] ys = refl
drop_front (x ∷ xs) ys = drop_front xs ys

stop_tells_none : (x : TraceItem) → IsStop x → told_count (x ∷ trace.Fence 1 ∷ []) ≡ 1
stop_tells_none (trace.Crash node) is = refl
stop_tells_none (trace.Withdraw node before after) is = refl
stop_tells_none x is = absurd is

failed_items : (time : ℕ) (p q : Point) → FailsTo time p q → q.items ≡ p.items
failed_items time p q AsItWas = refl
failed_items time p q (InAWrite b bytes list log item told step) = refl

-- it begins as runs do
pub run_begins : RunsBeginSo → (clients : List Client) (before : Moment) (m : MountedValue) (plans : List Plan) (time : ℕ) (start : Tree) (o : Owners) (l : Layout) (d : ℕ) (a p q : Point) → IsRun clients before m plans time start o l d a p q
    → BeginsAt (volume_of (image_of a.disk) l) (begun_on (image_of a.disk) o l start) d clients a
run_begins begin clients before m plans time start o l d a p q run =
    let added = run.replays.added in
    subst (BeginsAt (volume_of (image_of a.disk) l) (begun_on (image_of a.disk) o l start) d clients) (sym (run.begins ∙ ap (starting a.disk a.list run.journal run.head run.view) run.replays.are))
    (begin a.disk o l start d run.journal run.head run.view clients a.list added run.rest (of_replays 1 time before (moment a.disk a.list) m.journals plans added run.replays.replays))

module _ (given : HeadersReadBack) (failing : FailedReplaysStand) (stopping : StoppedReplaysStand) (leave : FencesLeaveOutcomes) (tells : StepsAreTold) (begin : RunsBeginSo) (remain : WhatRemainsIsTold) (fronts_stand : FrontsStand)
    (ends_told : EndsAreTold) (stops_told : StopsAreTold) (fences_told : FencesAreTold) (loses : LossesGoByHeads) (heads_there : HeadsAreThere)
    (clients : List Client) (before : Moment) (m : MountedValue) (plans : List Plan) (time : ℕ) (start : Tree) (o : Owners) (l : Layout) (d : ℕ) (a p q : Point) (was operations : List Operation)
    (run : IsRun clients before m plans time start o l d a p q) (first : before.list ≡ Some was) (last : q.list ≡ Some (was ++ operations)) where
  abbrev v : Volume
  v = volume_of (image_of a.disk) l

  abbrev s : Begun (trees_on v)
  s = begun_on (image_of a.disk) o l start

  abbrev after : Moment
  after = moment a.disk a.list

  abbrev added : List TraceItem
  added = run.replays.added

  of_replay : AllByRecursion IsOfReplay added
  of_replay = of_replays 1 time before after m.journals plans added run.replays.replays

  begins : BeginsAt v s d clients a
  begins = run_begins begin clients before m plans time start o l d a p q run

  -- ---- the replays

  some_journals : 1 ≤ length m.journals
  some_journals = let same = run.from.mounted.count in let some = run.from.mounted.found.some in omega (arith, same, some)

  parts : StartParts time before after m.journals plans added
  parts = start_parts time before after m.journals plans added some_journals run.replays.replays

  rise : AllRise (parts.p ∷ parts.ps')
  rise = subst AllRise parts.ps_are (rises before.disk m.journals plans run.from.can)

  own : FirstOwn time before parts.next after (parts.j ∷ parts.js') (parts.p ∷ parts.ps') added
  own = first_own time before parts.next after parts.j parts.js' parts.p parts.ps' parts.first parts.later added parts.are parts.one parts.rest run.from.tells run.from.idle rise

  abbrev ops0 : List Operation
  ops0 = own.ops.operations

  disk0 : a.disk ≡ disk_after before.disk ops0
  disk0 = own.ops.disk run.from.tells run.from.idle rise

  all_so : AreReplays 1 1 time before (take (length m.journals) m.journals) (take (length m.journals) plans) after added
  all_so = subst (λ js. AreReplays 1 1 time before js (take (length m.journals) plans) after added) (sym (take_all (length m.journals) m.journals (omega arith)))
      (subst (λ ps. AreReplays 1 1 time before m.journals ps after added) (sym (take_all (length m.journals) plans (let same = as_many before.disk m.journals plans run.from.can in omega (arith, same)))) run.replays.replays)

  one_so : AreReplays 1 1 time before (take 1 m.journals) (take 1 plans) parts.next parts.first
  one_so = subst (λ js. AreReplays 1 1 time before (take 1 js) (take 1 plans) parts.next parts.first) (sym parts.js_are)
      (subst (λ ps. AreReplays 1 1 time before (parts.j ∷ []) (take 1 ps) parts.next parts.first) (sym parts.ps_are) (parts.next, parts.first, [], sym (append_nil parts.first), parts.one, (refl, refl)))

  -- ---- the journals

  found : FindsTheSame (image_of before.disk) run.from.mounted.layout (image_of a.disk)
  found = finds given time before m plans start run.from (length m.journals) after added all_so

  to_found : (j k : ℕ) → IsJournalAt l j k → IsJournalAt run.from.mounted.layout j k
  to_found j k at = same_journals (image_of a.disk) l run.from.mounted.layout (journals_of_standing (image_of a.disk) o l run.rest.stands.laid) found.journals j k at

  of_found : (j k : ℕ) → IsJournalAt run.from.mounted.layout j k → IsJournalAt l j k
  of_found j k at = same_journals (image_of a.disk) run.from.mounted.layout l found.journals (journals_of_standing (image_of a.disk) o l run.rest.stands.laid) j k at

  head_is : head_in (ring_at (image_of parts.next.disk) d) ≡ Some run.head
  head_is =
      same_head given time before m plans start run.from parts.next after parts.j parts.js' parts.p parts.ps' parts.first parts.later parts.js_are parts.ps_are one_so
      (subst (AreReplays 1 1 time before (take (length m.journals) m.journals) (take (length m.journals) plans) after) parts.are all_so) parts.rest d (to_found 0 d run.rest.its_journal.is)
      ∙ run.rest.headed

  -- ---- items and operations

  does : TellsWhatItDoes a p
  does = tells time a p run.steps

  last_ops : LastOps p q
  last_ops = elim run.last [ inl fail ↦ failed_ops tells time p q fail | inr end ↦ ended_ops p q end.0 end.1 ]

  abbrev ops2 : List Operation
  ops2 = does.operations

  abbrev course : Course
  course = record { items = q.items; end = []; operations = ops0 ++ (ops2 ++ last_ops.operations); further = last_ops.further; later = [] }

  items_are : q.items ≡ a.items ++ (does.more ++ last_ops.extra)
  items_are = last_ops.items ∙ ap (λ is. is ++ last_ops.extra) does.items ∙ append_assoc a.items does.more last_ops.extra

  start_done : AreDoneBy a.items ops0
  start_done = subst (λ is. AreDoneBy is ops0) (sym run.replays.are) own.ops.done

  all_done : AreDoneBy q.items (ops0 ++ (ops2 ++ last_ops.operations))
  all_done = subst (λ is. AreDoneBy is (ops0 ++ (ops2 ++ last_ops.operations))) (sym items_are)
      (goes_on a.items (does.more ++ last_ops.extra) ops0 (ops2 ++ last_ops.operations) start_done (goes_on does.more last_ops.extra ops2 last_ops.operations does.told last_ops.told))

  -- ---- lists

  gains_last : Gains a.list q.list (ops2 ++ (last_ops.operations ++ last_ops.further))
  gains_last = gains_join a.list p.list q.list ops2 (last_ops.operations ++ last_ops.further) does.gains last_ops.gains

  abbrev whole_ops : List Operation
  whole_ops = ops0 ++ (ops2 ++ (last_ops.operations ++ last_ops.further))

  operations_are : operations ≡ whole_ops
  operations_are = gained before.list q.list was operations whole_ops first last (gains_join before.list a.list q.list ops0 (ops2 ++ (last_ops.operations ++ last_ops.further)) own.ops.gains gains_last)

  in_two : (ops0 ++ (ops2 ++ last_ops.operations)) ++ last_ops.further ≡ whole_ops
  in_two = append_assoc ops0 (ops2 ++ last_ops.operations) last_ops.further ∙ ap (λ os. ops0 ++ os) (append_assoc ops2 last_ops.operations last_ops.further)

  a_told : ToldBefore a.list (was ++ operations) (ops2 ++ (last_ops.operations ++ last_ops.further))
  a_told = told_before a.list (was ++ operations) (ops2 ++ (last_ops.operations ++ last_ops.further)) (subst (λ x. Gains a.list x (ops2 ++ (last_ops.operations ++ last_ops.further))) last gains_last)

  p_told : ToldBefore p.list (was ++ operations) (last_ops.operations ++ last_ops.further)
  p_told = told_before p.list (was ++ operations) (last_ops.operations ++ last_ops.further) (subst (λ x. Gains p.list x (last_ops.operations ++ last_ops.further)) last last_ops.gains)

  p_list : p.list ≡ Some (a_told.was ++ ops2)
  p_list = p_told.is ∙ ap Some (subst (λ x. Gains x (Some p_told.was) ops2) a_told.is (subst (λ x. Gains a.list x ops2) p_told.is does.gains))

  a_list : a.list ≡ Some (was ++ ops0)
  a_list = a_told.is ∙ ap Some (subst (λ x. Gains x (Some a_told.was) ops0) first (subst (λ x. Gains before.list x ops0) a_told.is own.ops.gains))

  -- ---- disks

  p_disk : p.disk ≡ disk_after before.disk (ops0 ++ ops2)
  p_disk = does.disk ∙ ap (λ x. disk_after x ops2) disk0 ∙ sym (after_on before.disk ops0 ops2)

  whole_disk : q.disk ≡ disk_after before.disk whole_ops
  whole_disk =
      last_ops.disk ∙ ap (λ x. disk_after x (last_ops.operations ++ last_ops.further)) p_disk ∙ sym (after_on before.disk (ops0 ++ ops2) (last_ops.operations ++ last_ops.further))
      ∙ ap (disk_after before.disk) (append_assoc ops0 ops2 (last_ops.operations ++ last_ops.further))

  q_disk : q.disk ≡ disk_after before.disk (course.operations ++ course.further)
  q_disk = whole_disk ∙ ap (disk_after before.disk) (sym in_two)

  q_tells : IsTrue q.disk.tells
  q_tells = subst IsTrue (sym (ap (λ (x : DiskState). x.tells) whole_disk ∙ tells_on before.disk whole_ops)) run.from.tells

  has_course : HasCourse before q.items q.disk operations course
  has_course = record {
    items = refl;
    all = in_two ∙ sym operations_are;
    told = all_done;
    one = last_ops.one;
    disk = whole_disk ∙ ap (disk_after before.disk) (sym operations_are);
  }

  -- ---- the first head

  own_is : own_from only_life a.items ≡ own.own
  own_is = ap (own_from only_life) run.replays.are ∙ ap (λ is. or_else (recovered_behind 1 1 is) 0) (no_end added (stay_replays added of_replay)) ∙ own.own_is

  -- of any course with these items and operations
  module _ (c : Course) (same_items : c.items ≡ q.items) (same_ops : c.operations ≡ course.operations) where
    own_disk : disk_behind before.disk c (own_from only_life a.items) ≡ parts.next.disk
    own_disk =
        ap (disk_behind before.disk c) own_is
        ∙ behind_first before.disk c own.own (trace.Join 1 ∷ added) (does.more ++ last_ops.extra) ops0 (ops2 ++ last_ops.operations)
        (same_items ∙ items_are ∙ ap (λ is. is ++ (does.more ++ last_ops.extra)) run.replays.are) same_ops own.low own.few
        ∙ sym own.disk

    has_first : (left : Image) → HasFirst v d a (heads_of v d before.disk c left).behind
    has_first left = record {
      header = run.head;
      headed = run.rest.headed;
      is = ap (λ (x : DiskState). head_at v d (image_of x)) own_disk ∙ ap (accepted_as v d) head_is;
    }

    accepted : (p' r : Point) (left : Image) → Steps time a p' → FailsTo time p' r ⊎ EndsTo p' r → MayLeave v r.disk left → IsAcceptedIn v d left (head_at v d left)
    accepted p' r left steps end may = (let h = heads_there v s d clients time a p' r left begins steps end may in record { header = h.header; headed = h.headed; is = ap (accepted_as v d) h.headed })

    -- wherever the run is
    at_point : (p' r : Point) (left : Image) → Steps time a p' → FailsTo time p' r ⊎ EndsTo p' r → MayLeave v r.disk left → StandsAsTold clients (heads_of v d before.disk c left) r.items start left
    at_point p' r left steps (inl fail) may = (remain v s d clients time a p' r (heads_of v d before.disk c left) left begins steps fail (has_first left) may (accepted p' r left steps (inl fail) may)).stands
    at_point p' r left steps (inr end) may = (ends_told v s d clients time a p' r (heads_of v d before.disk c left) left begins steps end (has_first left) may (accepted p' r left steps (inr end) may)).stands

  -- ---- within the start

  may_there : (disk : DiskState) (left : Image) → MayLeave v disk left → MayLeave (its_volume before.disk m plans time start run.from) disk left
  may_there disk left may = record { outcome = may.outcome; no_false = λ j k place bytes at low flies. may.no_false j k place bytes (of_found j k at) low flies }

  all_replayed : HaveReplayedSome 1 time before after m.journals plans joined a.items
  all_replayed = record { count = length m.journals; replayed = record { added = added; are = run.replays.are; replays = all_so; told = run.replays.told } }

  start_count : told_count a.items ≡ length ops0
  start_count = counted a.items ops0 start_done

  start_front : (end : List TraceItem) (later : List Operation) (count : ℕ) (left : Image) → count ≤ length a.items → MayLeave v (disk_behind before.disk course count) left → StandsAsTold clients (heads_of v d before.disk (going_on course end later) left) (take count q.items) start left
  start_front end later count left low may =
      subst (λ is. StandsAsTold clients (heads_of v d before.disk (going_on course end later) left) is start left) (sym front) (by count low (subst (λ x. MayLeave v x left) disk_is may))
    where
      front : take count q.items ≡ take count a.items
      front = ap (take count) items_are ∙ take_front count a.items (does.more ++ last_ops.extra) low

      disk_is : disk_behind before.disk course count ≡ disk_after before.disk (first_told (take count a.items) ops0)
      disk_is = behind_first before.disk course count a.items (does.more ++ last_ops.extra) ops0 (ops2 ++ last_ops.operations) items_are refl low (let few = fewer count a.items in let all = start_count in omega (arith, few, all))

      by : (count : ℕ) → count ≤ length a.items → MayLeave v (disk_after before.disk (first_told (take count a.items) ops0)) left → StandsAsTold clients (heads_of v d before.disk (going_on course end later) left) (take count a.items) start left
      by zero low may =
          let same : left ≡ image_of before.disk = only_itself (image_of before.disk) left (flown_by before.disk 1) (λ b. ap (λ (fs : List Flight). flight_to fs b) (run.from.idle.none_in_flight 1)) may.outcome in
          nothing_stands clients (heads_of v d before.disk (going_on course end later) left) start left (subst (λ im. StandsReplayed im start) (sym same) run.from.stands)
      by (suc n) low may =
          (replay_fronts_stand failing stopping leave clients (heads_of v d before.disk (going_on course end later) left) before after m plans time start a.items was ops0 (suc n) run.from all_replayed first a_list (omega arith) low).told left
          (may_there (disk_after before.disk (first_told (take (suc n) a.items) ops0)) left may)

  -- ---- among the steps

  step_front : (end : List TraceItem) (later : List Operation) (count : ℕ) (left : Image) → length a.items ≤ count → count ≤ length p.items → MayLeave v (disk_behind before.disk course count) left
      → StandsAsTold clients (heads_of v d before.disk (going_on course end later) left) (take count q.items) start left
  step_front end later count left low high may =
      subst (λ is. StandsAsTold clients (heads_of v d before.disk (going_on course end later) left) is start left) (sym front)
      (stands.stands (heads_of v d before.disk (going_on course end later) left) left (has_first (going_on course end later) refl refl left) there (accepted (going_on course end later) refl refl stands.came.point stands.came.point left stands.came.before (inl AsItWas) there)).stands
    where
      stands : FrontStands v s d clients time a p count
      stands = fronts_stand v s d clients time a p count begins run.steps low high

      so_far : TellsWhatItDoes a stands.came.point
      so_far = tells time a stands.came.point stands.came.before

      behind : TellsWhatItDoes stands.came.point p
      behind = tells time stands.came.point p stands.came.behind

      front : take count q.items ≡ take count p.items
      front = ap (take count) last_ops.items ∙ take_front count p.items last_ops.extra high

      more_are : does.more ≡ so_far.more ++ behind.more
      more_are = left_same a.items does.more (so_far.more ++ behind.more) (sym does.items ∙ behind.items ∙ ap (λ is. is ++ behind.more) so_far.items ∙ append_assoc a.items so_far.more behind.more)

      count_is : count ≡ length (a.items ++ so_far.more)
      count_is = sym (length-take-le count p.items high) ∙ ap length (stands.came.items ∙ so_far.items)

      few : told_count so_far.more ≤ length ops2
      few =
          let all = counted does.more ops2 does.told in
          let sum = ap told_count more_are ∙ told_on so_far.more behind.more in
          omega (arith, all, sum)

      these : q.items ≡ (a.items ++ so_far.more) ++ (behind.more ++ last_ops.extra)
      these =
          items_are ∙ ap (λ is. a.items ++ (is ++ last_ops.extra)) more_are ∙ ap (λ is. a.items ++ is) (append_assoc so_far.more behind.more last_ops.extra)
          ∙ sym (append_assoc a.items so_far.more (behind.more ++ last_ops.extra))

      dropped : drop (length a.items) stands.came.point.items ≡ so_far.more
      dropped = ap (drop (length a.items)) so_far.items ∙ drop_front a.items so_far.more

      disk_is : disk_behind before.disk course count ≡ stands.came.point.disk
      disk_is =
          behind_part before.disk course count a.items so_far.more (behind.more ++ last_ops.extra) ops0 ops2 last_ops.operations these refl count_is start_count few
          ∙ ap (λ x. disk_after x (first_told so_far.more ops2)) (sym disk0) ∙ ap (λ is. disk_after a.disk (first_told is ops2)) (sym dropped) ∙ sym (stands.came.disk a_told.was ops2 a_told.is p_list)

      there : MayLeave v stands.came.point.disk left
      there = subst (λ x. MayLeave v x left) disk_is may

  -- ---- at the end

  p_done : told_count p.items ≡ length (ops0 ++ ops2)
  p_done = counted p.items (ops0 ++ ops2) (subst (λ is. AreDoneBy is (ops0 ++ ops2)) (sym does.items) (goes_on a.items does.more ops0 ops2 start_done does.told))

  -- behind so many items it had come to this point
  end_at : (end : List TraceItem) (later : List Operation) (count : ℕ) (left : Image) → EndFront p q last_ops.extra last_ops.operations count → MayLeave v (disk_behind before.disk course count) left → StandsAsTold clients (heads_of v d before.disk (going_on course end later) left) (take count q.items) start left
  end_at end later count left f may =
      subst (λ is. StandsAsTold clients (heads_of v d before.disk (going_on course end later) left) is start left) (sym front) (at_point (going_on course end later) refl refl p f.point left run.steps (inr f.ends) (subst (λ x. MayLeave v x left) disk_is may))
    where
      these : q.items ≡ (p.items ++ f.rest) ++ f.more
      these = last_ops.items ∙ ap (λ is. p.items ++ is) f.parts ∙ sym (append_assoc p.items f.rest f.more)

      front : take count q.items ≡ f.point.items
      front =
          (λ i. take (f.at i) (these i)) ∙ take_front (length (p.items ++ f.rest)) (p.items ++ f.rest) f.more (omega arith)
          ∙ take_all (length (p.items ++ f.rest)) (p.items ++ f.rest) (omega arith) ∙ sym f.items

      ops_are : ops0 ++ (ops2 ++ last_ops.operations) ≡ (ops0 ++ ops2) ++ (last_ops.operations ++ [])
      ops_are = sym (append_assoc ops0 ops2 last_ops.operations) ∙ ap (λ os. (ops0 ++ ops2) ++ os) (sym (append_nil last_ops.operations))

      disk_is : disk_behind before.disk course count ≡ f.point.disk
      disk_is =
          behind_part before.disk course count p.items f.rest f.more (ops0 ++ ops2) last_ops.operations [] these ops_are f.at p_done f.few
          ∙ ap (λ x. disk_after x (first_told f.rest last_ops.operations)) (sym p_disk) ∙ sym f.disk

  last_front : (count : ℕ) → length p.items < count → count ≤ length q.items → EndFront p q last_ops.extra last_ops.operations count
  unfolding last_ops
  last_front count low high = by run.last low high
    where
      by : (e : FailsTo time p q ⊎ ((ends : EndsTo p q) × Gains p.list q.list (ends_with p q ends))) → length p.items < count → count ≤ length q.items
          → let ops : LastOps p q = elim e [ inl fail ↦ failed_ops tells time p q fail | inr end ↦ ended_ops p q end.0 end.1 ] in EndFront p q ops.extra ops.operations count
      by (inl fail) low high = absurd (let none = ap length (failed_items time p q fail) in omega (arith, low, high, none))
      by (inr end) low high = end_front p q end.0 end.1 count low high

  -- ---- behind each front

  each_front : (end : List TraceItem) (later : List Operation) (count : ℕ) (left : Image) → count ≤ length q.items → MayLeave v (disk_behind before.disk course count) left → StandsAsTold clients (heads_of v d before.disk (going_on course end later) left) (take count q.items) start left
  each_front end later count left high may = elim (cases_lt (length a.items) count) [
    | inr not ↦ start_front end later count left (omega (arith, not)) may
    | inl past ↦ elim (cases_lt (length p.items) count) [
      | inr not ↦ step_front end later count left (omega (arith, past)) (omega (arith, not)) may
      | inl at_end ↦ end_at end later count left (last_front count at_end high) may
    ]
  ]

  -- ---- on the disk that the run left

  ends_so : FailsTo time p q ⊎ EndsTo p q
  ends_so = elim run.last [ inl fail ↦ inl fail | inr end ↦ inr end.0 ]

  whole_left : (end : List TraceItem) (later : List Operation) (left : Image) → MayLeave v (disk_after before.disk (course.operations ++ course.further)) left → StandsAsTold clients (heads_of v d before.disk (going_on course end later) left) q.items start left
  whole_left end later left may = at_point (going_on course end later) refl refl p q left run.steps ends_so (subst (λ x. MayLeave v x left) (sym q_disk) may)

  with_stop : (end : List TraceItem) (later : List Operation) (x : TraceItem) (left : Image) → IsStop x → MayLeave v (disk_after before.disk (course.operations ++ course.further)) left → StandsAsTold clients (heads_of v d before.disk (going_on course end later) left) (q.items ++ x ∷ []) start left
  with_stop end later x left is_stop may =
      let there = subst (λ y. MayLeave v y left) (sym q_disk) may in
      (stops_told v s d clients time a p q x (heads_of v d before.disk (going_on course end later) left) left begins run.steps ends_so is_stop (has_first (going_on course end later) refl refl left) there (accepted (going_on course end later) refl refl p q left run.steps ends_so there)).stands

  -- ---- behind the fence

  module _ (x : TraceItem) (became : List Flight) (more : List TraceItem) (is_stop : IsStop x) where
    abbrev c : Course
    c = stopped_course course x became more

    long : length (to_fence x q.items) ≡ length q.items + 2
    long = length-append q.items (x ∷ trace.Fence 1 ∷ [])

    -- the disk behind its item
    fence_disk : disk_behind before.disk c (length (to_fence x q.items)) ≡ after_fence q.disk 1 became
    fence_disk =
        behind_stop before.disk c (length (to_fence x q.items)) (omega (arith, long))
        ∙ ap (λ n. disk_after before.disk ((course.operations ++ course.further) ++ first_told (take n (x ∷ trace.Fence 1 ∷ more)) (Fence 1 became ∷ []))) (let two : length (to_fence x q.items) - length q.items ≡ 2 = omega (arith, long) in two)
        ∙ ap (λ n. disk_after before.disk ((course.operations ++ course.further) ++ take n (Fence 1 became ∷ []))) (stop_tells_none x is_stop)
        ∙ after_on before.disk (course.operations ++ course.further) (Fence 1 became ∷ [])
        ∙ ap (λ y. after_fence y 1 became) (sym q_disk)

    fenced_there : IsOutcome q.disk 1 became → NoFalseHeader (image_of q.disk) l (flown_by q.disk 1) (image_of (after_fence q.disk 1 became))
        → StandsFenced v d clients (heads_of v d before.disk c (image_of (after_fence q.disk 1 became))) x q.items start (image_of (after_fence q.disk 1 became))
    fenced_there settles no_false =
        let left = image_of (after_fence q.disk 1 became) in
        let may : MayLeave v q.disk left = record { outcome = (leave q.disk 1 became q_tells settles).outcome; no_false = no_false } in
        let here = accepted course refl refl p q left run.steps ends_so may in
        fences_told v s d clients time a p q x (heads_of v d before.disk c left) became begins run.steps ends_so is_stop settles (has_first c refl refl left) no_false
        (subst (λ y. IsAcceptedIn v d left (head_at v d (image_of y))) (sym fence_disk) here)

    fenced : IsOutcome (disk_after before.disk (course.operations ++ course.further)) 1 became
        → NoFalseHeader (image_of (disk_after before.disk (course.operations ++ course.further))) l (flown_by (disk_after before.disk (course.operations ++ course.further)) 1)
        (image_of (after_fence (disk_after before.disk (course.operations ++ course.further)) 1 became))
        → StandsFenced v d clients (heads_of v d before.disk c (image_of (after_fence (disk_after before.disk (course.operations ++ course.further)) 1 became))) x q.items start
        (image_of (after_fence (disk_after before.disk (course.operations ++ course.further)) 1 became))
    fenced = subst
        (λ y. IsOutcome y 1 became → NoFalseHeader (image_of y) l (flown_by y 1) (image_of (after_fence y 1 became))
        → StandsFenced v d clients (heads_of v d before.disk c (image_of (after_fence y 1 became))) x q.items start (image_of (after_fence y 1 became)))
        q_disk fenced_there

    -- the head there is that by which the loss goes
    its_heads : (left : Image) → HasItsHeads v d (heads_of v d before.disk c left) a.log.sequence (to_fence x q.items) (image_of (after_fence (disk_after before.disk (course.operations ++ course.further)) 1 became))
    its_heads left =
        let by = loses v s d clients time a p q x (heads_of v d before.disk c left) begins run.steps ends_so is_stop (has_first c refl refl left) in
        record {
          head = by.head ∙ ap (λ y. head_at v d (image_of y)) fence_disk ∙ ap (λ y. head_at v d (image_of (after_fence y 1 became))) q_disk;
          first = by.first;
        }

  -- behind the fence the journal is in its blocks
  placed_there : (became : List Flight) → IsOutcome q.disk 1 became → NoFalseHeader (image_of q.disk) l (flown_by q.disk 1) (image_of (after_fence q.disk 1 became)) → IsInItsBlocks v d (image_of (after_fence q.disk 1 became))
  placed_there became settles no_false =
      (heads_there v s d clients time a p q (image_of (after_fence q.disk 1 became)) begins run.steps ends_so (record { outcome = (leave q.disk 1 became q_tells settles).outcome; no_false = no_false })).blocks

  has_run_whole : HasRunWhole before o l d clients start a q operations
  has_run_whole = record {
    course = course;
    has = has_course;
    stands = record {
      fronts = each_front;
      whole = whole_left;
      stops = with_stop;
      fences = λ x became more is_stop. fenced x became more is_stop;
    };
    heads = λ x became more left is_stop. its_heads x became more is_stop left;
    placed = λ became. subst (λ y. IsOutcome y 1 became → NoFalseHeader (image_of y) l (flown_by y 1) (image_of (after_fence y 1 became)) → IsInItsBlocks v d (image_of (after_fence y 1 became))) q_disk (placed_there became);
  }

pub whole_runs_stand : HeadersReadBack → FailedReplaysStand → StoppedReplaysStand → FencesLeaveOutcomes → StepsAreTold → RunsBeginSo → WhatRemainsIsTold → FrontsStand → EndsAreTold → StopsAreTold → FencesAreTold → LossesGoByHeads → HeadsAreThere
    → WholeRunsStand
whole_runs_stand given failing stopping leave tells begin remain fronts ends stops fences loses heads clients before m plans time start o l d a p q was operations run first last =
    has_run_whole given failing stopping leave tells begin remain fronts ends stops fences loses heads clients before m plans time start o l d a p q was operations run first last
