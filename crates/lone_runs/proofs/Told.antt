-- The list of operations gained what a run's items tell, on every disk.
use Rattle.std.proofs.Common.{◌≡◌, ℕ, List, [], ◌∷◌, ◌++◌, Option, refl, sym, ap, subst, inl, inr}
use Rattle.std.specs.List.{AllByRecursion}
use Rattle.std.proofs.lemmas.List.{append_assoc}
use Rattle.disk_items.specs.Deeds.{AreDoneBy, AreTold, AreToldButOne, but_one, each}
use Rattle.disk_items.proofs.Going.{goes_on}
use Rattle.disk_turns.specs.Turns.{Moment}
use Rattle.disk_turns.proofs.Gaining.{gains_join, gains_none}
use Rattle.image_mount.specs.Mounted.{Journal}
use Rattle.image_recovery.specs.Recoveries.{HaveCrashed, HaveFailed, HaveReplayed, HaveReplayedSome}
use Rattle.logged_scripts.proofs.Telling.{append_nil, steps_are_told}
use Rattle.logged_scripts.specs.Points.{Point}
use Rattle.logged_scripts.specs.Steps.{Steps}
use Rattle.logged_scripts.specs.StepEnds.{clean_item, last_block}
use Rattle.logged_scripts.specs.Ends.{NothingUntold, at_the_header, at_the_point}
use Rattle.logged_scripts.specs.Runs.{IsBehind, LastGoes, crash, fence, loss, nothing}
use Rattle.logged_scripts.proofs.Beginning.{members}
use Rattle.lone_fences.specs.Fencing.{EndsAt, HasFenced, IsFenced, with_crash, with_fence}
use Rattle.lone_fences.specs.declared.ends.FenceEnd.{FenceEnd}
use Rattle.lone_fences.specs.declared.ends.FenceEnd.TheVariants as fence_end
use Rattle.lone_scripts.specs.Runs.{IsOfMember, Runs}
use Rattle.peer_replay.specs.declared.planned.Plan.{Plan}
use Rattle.run_rules.specs.History.{NoneStopped}
use Rattle.shared_disk.specs.Disk.{DiskState, Fence, Gains, Operation, Write}
use Rattle.trace_text.specs.declared.item.TraceItem.{TraceItem}
use Rattle.trace_text.specs.declared.item.TraceItem.TheVariants as trace
use Rattle.logged_scripts.specs.WholeRunsStarts.{joined}
use Rattle.logged_scripts.specs.Wholes.{IsOneWrite, no_write, one_write}
use Rattle.logged_scripts.proofs.Last.{LastOps, ended_ops, failed_ops}
use Rattle.lone_runs.specs.Laws.{GainsAsTold, RunsAreTold}
use Rattle.lone_runs.specs.Runs.{crashed, disk_failed, no_memory, not_fenced, not_joined, ran}
use Rattle.lone_runs.proofs.Members.{IsOfStart, failed_start}

-- ---- one behind another

told_join : (a b c : Option (List Operation)) (xs ys : List TraceItem) → AreTold a b xs → AreTold b c ys → AreTold a c (xs ++ ys)
told_join a b c xs ys first later = (first.0 ++ later.0, goes_on xs ys first.0 later.0 first.1 later.1, gains_join a b c first.0 later.0 first.2 later.2)

told_on : (a b c : Option (List Operation)) (xs ys : List TraceItem) → AreTold a b xs → AreToldButOne 1 b c ys → AreToldButOne 1 a c (xs ++ ys)
told_on a b c xs ys first (each later) = each (told_join a b c xs ys first later)
told_on a b c xs ys first (but_one later block bytes done gains) =
    but_one (first.0 ++ later) block bytes (goes_on xs ys first.0 later first.1 done)
    (subst (Gains a c) (sym (append_assoc first.0 later (Write 1 block bytes ∷ []))) (gains_join a b c first.0 (later ++ Write 1 block bytes ∷ []) first.2 gains))

-- nothing was done
told_none : (a b : Option (List Operation)) → b ≡ a → AreTold a b []
told_none a b same = ([], refl, subst (λ x. Gains a x []) (sym same) (gains_none a))

told_same : (a b c : Option (List Operation)) (xs ys : List TraceItem) → AreTold a b xs → c ≡ b → ys ≡ xs → AreTold a c ys
told_same a b c xs ys told same are = subst (λ x. AreTold a x ys) (sym same) (subst (AreTold a b) (sym are) told)

but_one_same : (a b c : Option (List Operation)) (xs ys : List TraceItem) → AreToldButOne 1 a b xs → c ≡ b → ys ≡ xs → AreToldButOne 1 a c ys
but_one_same a b c xs ys told same are = subst (λ x. AreToldButOne 1 a x ys) (sym same) (subst (AreToldButOne 1 a b) (sym are) told)

-- ---- a member stops nowhere

member_runs : (xs : List TraceItem) → AllByRecursion IsOfMember xs → NoneStopped xs
member_runs [] all = tt
member_runs (trace.Crash node ∷ xs) all = absurd all.0
member_runs (trace.Withdraw node before after ∷ xs) all = absurd all.0
member_runs (x ∷ xs) all = member_runs xs all.1

-- ---- the fence

fence_told : (a b c : Option (List Operation)) (d d' : DiskState) (xs : List TraceItem) → AreTold a b xs → IsFenced d b d' c → AreTold a c (with_fence xs)
fence_told a b c d d' xs told fenced = told_join a b c xs (trace.Crash 1 ∷ trace.Fence 1 ∷ []) told (Fence 1 fenced.became ∷ [], refl, fenced.gains)

loss_told : (a b c : Option (List Operation)) (d d' : DiskState) (xs ys : List TraceItem) (blocks : List ℕ) (first : ℕ) → AreTold a b xs → HasFenced d b xs blocks first d' c ys → AreTold a c ys
loss_told a b c d d' xs ys blocks first told hf =
    subst (AreTold a c) (sym hf.told) (told_join a b c xs (trace.Crash 1 ∷ trace.Fence 1 ∷ trace.Lost 1 hf.kept ∷ []) told (Fence 1 hf.fenced.became ∷ [], refl, hf.fenced.gains))

crash_told : (a b : Option (List Operation)) (xs : List TraceItem) → AreTold a b xs → AreTold a b (with_crash xs)
crash_told a b xs told = told_join a b b xs (trace.Crash 1 ∷ []) told ([], refl, gains_none b)

ends_told : (a b c : Option (List Operation)) (d d' : DiskState) (xs ys : List TraceItem) → AreTold a b xs → (e : FenceEnd) → EndsAt d b xs d' c ys e → AreTold a c ys
ends_told a b c d d' xs ys told (fence_end.NotFenced rise) ends = told_same a b c (with_crash xs) ys (crash_told a b xs told) ends.operations ends.are
ends_told a b c d d' xs ys told (fence_end.ReadFailed block rise) ends = told_same a c c (with_fence xs) ys (fence_told a b c d d' xs told ends.fenced) refl ends.told
ends_told a b c d d' xs ys told fence_end.NoMemory (inl ends) = told_same a b c xs ys told ends.operations ends.are
ends_told a b c d d' xs ys told fence_end.NoMemory (inr ends) = told_same a c c (with_fence xs) ys (fence_told a b c d d' xs told ends.fenced) refl ends.told

-- ---- steps, and the last

by_write : (a b : Option (List Operation)) (xs : List TraceItem) (operations further : List Operation) → IsOneWrite further → AreDoneBy xs operations → Gains a b (operations ++ further) → AreToldButOne 1 a b xs
by_write a b xs operations _ no_write done gains = each (operations, done, subst (Gains a b) (append_nil operations) gains)
by_write a b xs operations _ (one_write block bytes) done gains = but_one operations block bytes done gains

module _ (time : ℕ) (first : Option (List Operation)) (a p q : Point) (begun : AreTold first a.list a.items) (steps : Steps time a p) where
  steps_told : AreTold first p.list p.items
  steps_told =
      let does = steps_are_told goes_on time a p steps in
      subst (AreTold first p.list) (sym does.items) (told_join first a.list p.list a.items does.more begun (does.operations, does.told, does.gains))

  last_told : LastGoes time p q → AreToldButOne 1 first q.list q.items
  last_told last =
      let ops : LastOps p q = elim last [ inl fail ↦ failed_ops (λ t x y. steps_are_told goes_on t x y) time p q fail | inr end ↦ ended_ops p q end.1 end.2 ] in
      subst (AreToldButOne 1 first q.list) (sym ops.items) (told_on first p.list q.list p.items ops.extra steps_told (by_write p.list q.list ops.extra ops.operations ops.further ops.one ops.told ops.gains))

  -- with nothing that no item tells
  untold_told : NothingUntold p q → AreTold first q.list q.items
  untold_told (at_the_point same) = told_same first p.list q.list p.items q.items steps_told (ap (λ (x : Point). x.list) same) (ap (λ (x : Point). x.items) same)
  untold_told (at_the_header bytes list flies gains same) =
      told_same first list q.list (p.items ++ clean_item p ∷ []) q.items (told_join first p.list list p.items (clean_item p ∷ []) steps_told (Write 1 (last_block p) bytes ∷ [], refl, gains)) (ap (λ (x : Point). x.list) same)
      (ap (λ (x : Point). x.items) same)

  behind_told : (d : DiskState) (list : Option (List Operation)) (items : List TraceItem) → NoneStopped q.items → LastGoes time p q → IsBehind a p q d list items → GainsAsTold first list items
  behind_told d list items none last (nothing same listed are) =
      inr (subst NoneStopped (sym are) none, but_one_same first q.list list q.items items (last_told last) listed are)
  behind_told d list items none last (crash untold same listed are) = inl (told_same first q.list list (with_crash q.items) items (crash_told first q.list q.items (untold_told untold)) listed are)
  behind_told d list items none last (fence untold fenced are) = inl (told_same first list list (with_fence q.items) items (fence_told first q.list list q.disk d q.items (untold_told untold) fenced) refl are)
  behind_told d list items none last (loss untold hf) = inl (loss_told first q.list list q.disk d q.items items a.log.journal.places a.log.sequence (untold_told untold) hf)

-- ---- replays

module _ (time : ℕ) (before after : Moment) (journals : List Journal) (plans : List Plan) (items : List TraceItem) where
  replayed_told : HaveReplayed 1 time before after journals plans joined items → AreTold before.list after.list items
  replayed_told have = subst (AreTold before.list after.list) (sym have.are) (told_join before.list before.list after.list joined have.added (told_none before.list before.list refl) have.told)

some_told : (time : ℕ) (before after : Moment) (journals : List Journal) (plans : List Plan) (items : List TraceItem) → HaveReplayedSome 1 time before after journals plans joined items → AreTold before.list after.list items
some_told time before after journals plans items some =
    subst (AreTold before.list after.list) (sym some.replayed.are) (told_join before.list before.list after.list joined some.replayed.added (told_none before.list before.list refl) some.replayed.told)

replays_told : (time : ℕ) (before between : Moment) (journals : List Journal) (plans : List Plan) (items : List TraceItem) → HaveReplayed 1 time before between journals plans joined items → AreTold before.list between.list items
replays_told time before between journals plans items have = replayed_told time before between journals plans items have

failed_told : (time : ℕ) (before after : Moment) (journals : List Journal) (plans : List Plan) (items : List TraceItem) (block : Option ℕ) → HaveFailed 1 time before after journals plans joined items block
    → AreToldButOne 1 before.list after.list items
failed_told time before after journals plans items block it =
    subst (AreToldButOne 1 before.list after.list) (sym it.failed.are)
    (told_on before.list it.between.list after.list it.its_items it.failed.added (subst (AreTold before.list it.between.list) (sym it.replayed.are)
    (told_join before.list before.list it.between.list joined it.replayed.added (told_none before.list before.list refl) it.replayed.told)) it.failed.told)

crashed_told : (time : ℕ) (before after : Moment) (journals : List Journal) (plans : List Plan) (items : List TraceItem) → HaveCrashed 1 time before after journals plans joined items → AreTold before.list after.list items
crashed_told time before after journals plans items it =
    subst (AreTold before.list after.list) (sym it.crashed.are)
    (told_join before.list it.between.list after.list it.its_items it.crashed.added (subst (AreTold before.list it.between.list) (sym it.replayed.are)
    (told_join before.list before.list it.between.list joined it.replayed.added (told_none before.list before.list refl) it.replayed.told)) it.crashed.told)

-- ---- all of it

start_none_stopped : (items : List TraceItem) → IsOfStart items → NoneStopped items
start_none_stopped items is = subst NoneStopped (sym is.are) (member_runs is.replays (members is.replays is.of_replay))

pub runs_are_told : RunsAreTold
runs_are_told s time frames before view journals plans own plan after items _ (not_joined e same none may) = inl (told_same before.list before.list after.list [] items (told_none before.list before.list refl) (ap (λ (x : Moment). x.list) same) none)
runs_are_told s time frames before view journals plans own plan after items _ (no_memory some early) = inl (some_told time before after journals plans items some)
runs_are_told s time frames before view journals plans own plan after items _ (disk_failed block rise failed early) =
    inr (start_none_stopped items (failed_start time before after journals plans items block failed), failed_told time before after journals plans items block failed)
runs_are_told s time frames before view journals plans own plan after items _ (crashed stopped told it at hf) =
    inl (loss_told before.list stopped.list after.list stopped.disk after.disk told items own.blocks own.head.sequence (crashed_told time before stopped journals plans told it) hf)
runs_are_told s time frames before view journals plans own plan after items _ (not_fenced stopped told e it at ends) =
    inl (ends_told before.list stopped.list after.list stopped.disk after.disk told items (crashed_told time before stopped journals plans told it) e ends)
runs_are_told s time frames before view journals plans own plan after items _ (ran replayed begun r have sound run) =
    behind_told time before.list _ run.last run.left (replays_told time before replayed journals plans begun have) run.goes.steps after.disk after.list items (runs_on run.goes.runs) run.goes.goes run.behind
  where
    runs_on : Runs s run.count run.left.items → NoneStopped run.left.items
    runs_on runs = subst NoneStopped (sym runs.member.are) (member_runs runs.member.more runs.member.stays)
