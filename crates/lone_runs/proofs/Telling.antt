-- What a run tells on every disk: an induction over its steps.
use Rattle.std.proofs.Common.{◌≡◌, ◌⊎◌, inl, inr, ℕ, List, [], ◌∷◌, ◌++◌, Bool, true, false, None, Some, Option, refl, sym, ap, ◌∙◌, subst, append_assoc, append-nil}
use Rattle.std.specs.Prelude.{Result, Ok, Err, length}
use Rattle.std.specs.List.{AllByRecursion}
use Rattle.disk_turns.specs.Turns.{Moment}
use Rattle.image_mount.specs.Mounted.{Journal}
use Rattle.image_recovery.specs.Recoveries.{HaveReplayed}
use Rattle.logged_scripts.specs.Faults.{IsDamagedFor}
use Rattle.lone_view.specs.Seeing.{Lone, seen_alone}
use Rattle.glock_names.specs.declared.LockName.{LockName}
use Rattle.log_values.specs.Flushing.{FlushStep, a_block, a_barrier, a_header, flush_chunks, the_last}
use Rattle.log_values.specs.Homing.{HomeAnswer, goes_home, nothing}
use Rattle.log_values.specs.Log.{Flush, LogValue}
use Rattle.log_values.specs.Log.Stage.{Ending, Headed, Writing}
use Rattle.log_values.specs.declared.steps.LogStep.{LogStep}
use Rattle.log_values.specs.declared.steps.LogStep.TheVariants as step
use Rattle.logged_scripts.specs.Fails.{FailsTo}
use Rattle.logged_scripts.specs.StepEnds.{EndsTo, clean_item}
use Rattle.logged_scripts.specs.Points.{Anything, ItsCommit, Next, Point}
use Rattle.logged_scripts.specs.Steps.{Answers, AnswersQuietly, BeginsFlush, BeginsHeader, Commits, EndsBlocks, EndsFlush, GoesHome, HasNoSpace, Here, Reads, Rests, Step, Steps, Syncs, TellsFull, Then, Unmounts, WritesHead, WritesLog}
use Rattle.logged_scripts.specs.Ends.{IsEndAt, end_of}
use Rattle.logged_scripts.specs.Runs as behind
use Rattle.logged_scripts.specs.Runs.{HasRun, HasUnmounted, IsBehind, IsThrough, clean_still, crashed, unmounted, with_header}
use Rattle.logged_scripts.specs.declared.ends.RunEnd.{RunEnd as ScriptEnd}
use Rattle.logged_scripts.specs.declared.ends.RunEnd.TheVariants as script
use Rattle.lone_fences.specs.declared.ends.FenceEnd.{FenceEnd}
use Rattle.lone_fences.specs.declared.ends.FenceEnd.TheVariants as fence_end
use Rattle.shared_disk.specs.Disk.{DiskState}
use Rattle.peer_replay.specs.declared.planned.Plan.{Plan}
use Rattle.run_rules.specs.History.{NoneStopped}
use Rattle.script_lang.specs.Script.{ScriptValue}
use Rattle.trace_text.specs.declared.item.TraceItem.{TraceItem}
use Rattle.trace_text.specs.declared.item.TraceItem.TheVariants as trace
use Rattle.logged_scripts.specs.WholeRunsStarts.{joined}
use Rattle.lone_runs.specs.Beginning.{start_point}
use Rattle.lone_runs.specs.Runs as stages
use Rattle.lone_runs.specs.Runs.{GoesSo, as_end}
use Rattle.lone_runs.specs.Telling.{EndsClean, IsNoCommit, IsNoRecovery, RunsSeeTheirDamage, RunsTellTheirReplays, SeesDamage, TellsItsReplays, clean_header, no_commit}
use Rattle.lone_runs.specs.declared.ends.RunEnd.{RunEnd}
use Rattle.lone_runs.specs.declared.ends.RunEnd.TheVariants as end
use Rattle.lone_runs.proofs.Silent.{no_stop_behind}

all_with : (P : TraceItem → Type 0) (xs : List TraceItem) (it : TraceItem) → AllByRecursion P xs → P it → AllByRecursion P (xs ++ it ∷ [])
all_with P [] it all is = (is, tt)
all_with P (x ∷ xs) it all is = (all.0, all_with P xs it all.1 is)

-- From one point to the other: what mounting told is as it was, and the device as large; more items came, none a recovery, and while the journal's head is a clean one, behind which nothing was written, no commit; it isn't where a
-- commit has to come next.
record Went (a p : Point) : Type 0 where
  size : p.view.size ≡ a.view.size
  root : p.view.root ≡ a.view.root
  groups : p.view.groups ≡ a.view.groups
  count : p.disk.count ≡ a.disk.count
  more : List TraceItem
  are : p.items ≡ a.items ++ more
  no_recovery : AllByRecursion IsNoRecovery more
  commits : p.log.clean ≡ true → AllByRecursion IsNoCommit more
  due : p.next ≡ ItsCommit → p.log.clean ≡ false

never_both : (b : Bool) → b ≡ true → b ≡ false → ⊥
never_both b is isnt = cc

not_due : (next : Next) → next ≡ Anything → next ≡ ItsCommit → ⊥
not_due next one other = cc

module _ (a p q : Point) (w : Went a p) where
  -- what a step is that tells nothing; that tells this
  quietly : q.view.size ≡ p.view.size → q.view.root ≡ p.view.root → q.view.groups ≡ p.view.groups → q.disk.count ≡ p.disk.count → q.items ≡ p.items → q.log.clean ≡ p.log.clean → (q.next ≡ ItsCommit → q.log.clean ≡ false) → Went a q
  quietly size root groups count items clean due = record {
    size = size ∙ w.size;
    root = root ∙ w.root;
    groups = groups ∙ w.groups;
    count = count ∙ w.count;
    more = w.more;
    are = items ∙ w.are;
    no_recovery = w.no_recovery;
    commits = λ is. w.commits (sym clean ∙ is);
    due = due;
  }

  telling_so : (it : TraceItem) → q.view.size ≡ p.view.size → q.view.root ≡ p.view.root → q.view.groups ≡ p.view.groups → q.disk.count ≡ p.disk.count → q.items ≡ p.items ++ it ∷ [] → IsNoRecovery it
      → (q.log.clean ≡ true → (p.log.clean ≡ true) × IsNoCommit it) → (q.next ≡ ItsCommit → q.log.clean ≡ false) → Went a q
  telling_so it size root groups count items none clean due = record {
    size = size ∙ w.size;
    root = root ∙ w.root;
    groups = groups ∙ w.groups;
    count = count ∙ w.count;
    more = w.more ++ it ∷ [];
    are = items ∙ ap (λ xs. xs ++ it ∷ []) w.are ∙ append_assoc a.items w.more (it ∷ []);
    no_recovery = all_with IsNoRecovery w.more it w.no_recovery none;
    commits = λ is. let both = clean is in all_with IsNoCommit w.more it (w.commits both.0) both.1;
    due = due;
  }

-- a step of a flush leaves the head a clean one if it was, but the last, with which its header is the head
data KeepsHead (log new : LogValue) (f : Flush) (s : LogStep) : Type 0 where
  keeps : new.clean ≡ log.clean → ((tail : ℕ) → f.stage ≡ Headed tail → ⊥) → KeepsHead log new f s
  moves : (tail : ℕ) → f.stage ≡ Headed tail → s ≡ step.Barrier → new.clean ≡ false → KeepsHead log new f s

head_step : (log new : LogValue) (f : Flush) (bytes : List ℕ) (s : LogStep) → FlushStep log new f bytes s → KeepsHead log new f s
head_step log new f bytes _ (a_block k at is same) = keeps (ap (λ (l : LogValue). l.clean) same) (λ tail other. let both : Writing k ≡ Headed tail = sym at ∙ other in cc)
head_step log new f bytes _ (a_barrier at same settles) = keeps (ap (λ (l : LogValue). l.clean) same) (λ tail other. let both : Writing (length (flush_chunks log f)) ≡ Headed tail = sym at ∙ other in cc)
head_step log new f bytes _ (a_header to at tail_is are same) = keeps (ap (λ (l : LogValue). l.clean) same) (λ tail other. let both : Ending ≡ Headed tail = sym at ∙ other in cc)
head_step log new f bytes _ (the_last tail at same live) = moves tail at refl (ap (λ (l : LogValue). l.clean) same)

kept_at : (log new : LogValue) (f : Flush) (s : LogStep) → (s ≡ step.Barrier → ⊥) → KeepsHead log new f s → new.clean ≡ log.clean
kept_at log new f s other (keeps same never) = same
kept_at log new f s other (moves tail at is moved) = absurd (other is)

kept_blocks : (log new : LogValue) (f : Flush) (s : LogStep) (done : ℕ) → f.stage ≡ Writing done → KeepsHead log new f s → new.clean ≡ log.clean
kept_blocks log new f s done at (keeps same never) = same
kept_blocks log new f s done at (moves tail other is moved) = let both : Writing done ≡ Headed tail = sym at ∙ other in cc

moved_last : (log new : LogValue) (f : Flush) (s : LogStep) (tail : ℕ) → f.stage ≡ Headed tail → KeepsHead log new f s → new.clean ≡ false
moved_last log new f s tail at (keeps same never) = absurd (never tail at)
moved_last log new f s tail at (moves to other is moved) = moved

home_keeps : (log new : LogValue) (lock : LockName) (bytes : List ℕ) (o : Option LogStep) → HomeAnswer log new lock bytes o → new.clean ≡ log.clean
home_keeps log new lock bytes _ (nothing none same) = ap (λ (l : LogValue). l.clean) same
home_keeps log new lock bytes _ (goes_home b is still least same) = ap (λ (l : LogValue). l.clean) same

write_no_barrier : (b : ℕ) → step.Write b ≡ step.Barrier → ⊥
write_no_barrier b same = cc

head_no_barrier : (b sequence : ℕ) → step.Head b sequence ≡ step.Barrier → ⊥
head_no_barrier b sequence same = cc

went_step : (time : ℕ) (a p q : Point) → Went a p → Step time p q → Went a q
went_step time a p q w (Reads answers b lock bytes asked absent whole told) = quietly a p q w refl refl refl refl refl refl w.due
went_step time a p q w (Answers answers name call reply change kept is some can room stays) = telling_so a p q w _ refl refl refl refl refl tt (λ is. (is, tt)) w.due
went_step time a p q w (AnswersQuietly answers name call reply change is none no_sync) = telling_so a p q w _ refl refl refl refl refl tt (λ is. (is, tt)) w.due
went_step time a p q w (Syncs answers name low) = telling_so a p q w _ refl refl refl refl refl tt (λ is. (is, tt)) w.due
went_step time a p q w (TellsFull answers call need free is low) = telling_so a p q w _ refl refl refl refl refl tt (λ is. (is, tt)) (λ other. cc)
went_step time a p q w (HasNoSpace name call need free next is ends) = telling_so a p q w _ refl refl refl refl refl tt (λ is. (is, tt)) (λ other. cc)
went_step time a p q w (BeginsFlush next still is room) = quietly a p q w refl refl refl refl refl refl w.due
went_step time a p q w (BeginsHeader next still home live none) = quietly a p q w refl refl refl refl refl refl w.due
went_step time a p q w (WritesLog new f b bytes list is numbers step' may gains) =
    let same = kept_at p.log new f _ (write_no_barrier b) (head_step p.log new f bytes _ step') in
    telling_so a p q w _ refl refl refl refl refl tt (λ clean. (sym same ∙ clean, tt)) (λ due. same ∙ w.due due)
went_step time a p q w (EndsBlocks new f done bytes list is at step' flies gains) =
    let same = kept_blocks p.log new f _ done at (head_step p.log new f bytes _ step') in
    telling_so a p q w _ refl refl refl refl refl tt (λ clean. (sym same ∙ clean, tt)) (λ due. same ∙ w.due due)
went_step time a p q w (WritesHead new f b sequence bytes list is numbers step' may gains) =
    let same = kept_at p.log new f _ (head_no_barrier b sequence) (head_step p.log new f bytes _ step') in
    telling_so a p q w _ refl refl refl refl refl tt (λ clean. (sym same ∙ clean, tt)) (λ due. same ∙ w.due due)
went_step time a p q w (EndsFlush new f tail bytes list is numbers at step' flies gains) =
    let moved = moved_last p.log new f _ tail at (head_step p.log new f bytes _ step') in
    telling_so a p q w _ refl refl refl refl refl tt (λ clean. absurd (never_both new.clean clean moved)) (λ due. moved)
went_step time a p q w (Commits b next ends) = telling_so a p q w _ refl refl refl refl refl tt (λ clean. absurd (never_both p.log.clean clean (w.due next))) (λ due. w.due next)
went_step time a p q w (GoesHome next new lock b bytes list home may gains) =
    let same = home_keeps p.log new lock bytes _ home in
    telling_so a p q w _ refl refl refl refl refl tt (λ clean. (sym same ∙ clean, tt)) (λ due. same ∙ w.due due)
went_step time a p q w (Rests new list next headed settles flies gains) =
    let same = ap (λ (l : LogValue). l.clean) settles.same in
    telling_so a p q w _ refl refl refl refl refl tt (λ clean. (sym same ∙ clean, tt)) (λ due. same ∙ w.due due)
went_step time a p q w (Unmounts answers) = telling_so a p q w _ refl refl refl refl refl tt (λ is. (is, tt)) w.due

went : (time : ℕ) (a p : Point) → (a.next ≡ ItsCommit → a.log.clean ≡ false) → Steps time a p → Went a p
went time a p due Here = record { size = refl; root = refl; groups = refl; count = refl; more = []; are = sym (append-nil a.items); no_recovery = tt; commits = λ is. tt; due = due }
went time a p due (Then q r steps last) = went_step time a q r (went time a q due steps) last

-- ---- its items

ok_err : (e : RunEnd) → ◌≡◌ {A = Result (Unit {0}) RunEnd} (Err e) (Ok tt) → ⊥
ok_err e same = cc

-- behind a start nothing is due
nothing_due : (next : Next) → next ≡ Anything → next ≡ ItsCommit → {P : Type 0} → P
nothing_due next one other = cc

module _ (s : ScriptValue) (time : ℕ) (before after : Moment) (journals : List Journal) (plans : List Plan) (items : List TraceItem) (none : NoneStopped items) where
  module _ (replayed : Moment) (begun : List TraceItem) (have : HaveReplayed 1 time before replayed journals plans joined begun) (a : Point) (starts : a.items ≡ begun) (next : a.next ≡ Anything) where
    tells : (count : ℕ) (p q : Point) → Steps time a p → IsThrough s a count p q after.disk after.list items → TellsItsReplays time before journals plans items
    tells count p q steps (crashed crashes hf) = absurd (no_stop_behind q.items (trace.Fence 1 ∷ trace.Lost 1 hf.kept ∷ []) (subst NoneStopped hf.told none))
    tells count p q steps (unmounted whole has same listed are) = by has
      where
        w : Went a p
        w = went time a p (λ other. nothing_due a.next next other) steps

        by : HasUnmounted p q → TellsItsReplays time before journals plans items
        by (clean_still unmounts done clean left_is) = record {
          replayed = replayed;
          begun = begun;
          replays = have;
          more = w.more;
          are = are ∙ ap (λ (x : Point). x.items) left_is ∙ w.are ∙ ap (λ xs. xs ++ w.more) starts;
          no_recovery = w.no_recovery;
          clean = no_commit w.more (w.commits clean);
        }
        by (with_header bytes list unmounts flies left_is) = record {
          replayed = replayed;
          begun = begun;
          replays = have;
          more = w.more ++ clean_item p ∷ trace.Barrier 1 ∷ [];
          are = are ∙ ap (λ (x : Point). x.items) left_is ∙ ap (λ xs. xs ++ clean_item p ∷ trace.Barrier 1 ∷ []) (w.are ∙ ap (λ xs. xs ++ w.more) starts) ∙ append_assoc begun w.more (clean_item p ∷ trace.Barrier 1 ∷ []);
          no_recovery = all_both w.more w.no_recovery;
          clean = clean_header w.more _ _ _;
        }
          where
            all_both : (xs : List TraceItem) → AllByRecursion IsNoRecovery xs → AllByRecursion IsNoRecovery (xs ++ clean_item p ∷ trace.Barrier 1 ∷ [])
            all_both [] all = (tt, (tt, tt))
            all_both (x ∷ xs) all = (all.0, all_both xs all.1)

pub runs_tell_their_replays : RunsTellTheirReplays
runs_tell_their_replays s time frames before view journals plans own plan after items goes none = by (Ok tt) goes refl
  where
    by_script : (replayed : Moment) (begun : List TraceItem) (r : Result (Unit {0}) ScriptEnd) → HaveReplayed 1 time before replayed journals plans joined begun → HasRun s time (start_point replayed view own plan time frames begun) after.disk after.list items r
        → as_end r ≡ Ok tt → TellsItsReplays time before journals plans items
    by_script replayed begun (Ok u) have run is = tells s time before after journals plans items none replayed begun have (start_point replayed view own plan time frames begun) refl refl run.count run.last run.left run.goes.steps run.out
    by_script replayed begun (Err e) have run is = absurd (ok_err (end.Script e) is)

    by : (r : Result (Unit {0}) RunEnd) → GoesSo s time frames before view journals plans own plan after items r → r ≡ Ok tt → TellsItsReplays time before journals plans items
    by _ (stages.not_joined e same empty may) is = absurd (ok_err e is)
    by _ (stages.no_memory some early) is = absurd (ok_err _ is)
    by _ (stages.disk_failed block rise failed early) is = absurd (ok_err _ is)
    by _ (stages.crashed stopped told it at hf) is = absurd (no_stop_behind told (trace.Fence 1 ∷ trace.Lost 1 hf.kept ∷ []) (subst NoneStopped hf.told none))
    by _ (stages.not_fenced stopped told e it at ends) is = absurd (ok_err _ is)
    by _ (stages.ran replayed begun r have sound run) is = by_script replayed begun r have run is

-- ---- its damage

same_end : (x e : ScriptEnd) → ◌≡◌ {A = Result (Unit {0}) RunEnd} (Err (end.Script x)) (Err (end.Script e)) → x ≡ e
same_end x e same = cc

pub runs_see_their_damage : RunsSeeTheirDamage
runs_see_their_damage s time frames before view journals plans own plan after items block rule counted goes = by (Err (end.Script (script.Damaged block rule))) goes refl
  where
    not_at_start : (e : RunEnd) → stages.MayNotBegin before.disk.count before.disk.size time frames own plan e → ◌≡◌ {A = Result (Unit {0}) RunEnd} (Err e) (Err (end.Script (script.Damaged block rule))) → ⊥
    not_at_start (end.Misplaced dinode) may is = cc
    not_at_start (end.Script x) may is = let both : script.NoMemory ≡ script.Damaged block rule = sym may ∙ same_end x (script.Damaged block rule) is in cc
    not_at_start (end.ReplayFailed b rise) may is = may

    not_of_fence : (e : FenceEnd) → ◌≡◌ {A = Result (Unit {0}) RunEnd} (Err (end.Script (end_of e))) (Err (end.Script (script.Damaged block rule))) → ⊥
    not_of_fence (fence_end.NotFenced rise) is = cc
    not_of_fence (fence_end.ReadFailed b rise) is = cc
    not_of_fence fence_end.NoMemory is = cc

    as_large : (a last left : Point) → IsBehind a last left after.disk after.list items → after.disk.count ≡ left.disk.count
    as_large a last left (behind.nothing same listed are) = ap (λ (d : DiskState). d.count) same
    as_large a last left (behind.crash untold same listed are) = ap (λ (d : DiskState). d.count) same
    as_large a last left (behind.fence untold fenced are) = ap (λ (d : DiskState). d.count) fenced.disk
    as_large a last left (behind.loss untold hf) = ap (λ (d : DiskState). d.count) hf.fenced.disk

    at_end : (replayed : Moment) (begun : List TraceItem) (e : ScriptEnd) → HasRun s time (start_point replayed view own plan time frames begun) after.disk after.list items (Err e) → e ≡ script.Damaged block rule → SeesDamage view before.disk.count block rule
    at_end replayed begun e run is =
        let at = subst (IsEndAt s time (start_point replayed view own plan time frames begun) run.count run.last run.left) is run.out.0 in
        let w = went time (start_point replayed view own plan time frames begun) run.last (λ other. nothing_due Anything refl other) run.goes.steps in
        let large : run.last.disk.count ≡ before.disk.count = ap (λ (x : Point). x.disk.count) (sym at.0) ∙ sym (as_large _ run.last run.left run.behind) ∙ counted in
        record {
          seen = run.last.view;
          size = w.size;
          root = w.root;
          groups = w.groups;
          call = at.1.call;
          shown = subst (λ n. IsDamagedFor (seen_alone run.last.view) n at.1.call block rule) large at.1.holds;
        }

    by_script : (replayed : Moment) (begun : List TraceItem) (r : Result (Unit {0}) ScriptEnd) → HasRun s time (start_point replayed view own plan time frames begun) after.disk after.list items r
        → as_end r ≡ Err (end.Script (script.Damaged block rule)) → SeesDamage view before.disk.count block rule
    by_script replayed begun (Ok u) run is = cc
    by_script replayed begun (Err e) run is = at_end replayed begun e run (same_end e (script.Damaged block rule) is)

    by : (r : Result (Unit {0}) RunEnd) → GoesSo s time frames before view journals plans own plan after items r → r ≡ Err (end.Script (script.Damaged block rule)) → SeesDamage view before.disk.count block rule
    by _ (stages.not_joined e same empty may) is = absurd (not_at_start e may is)
    by _ (stages.no_memory some early) is = cc
    by _ (stages.disk_failed b rise failed early) is = cc
    by _ (stages.crashed stopped told it at hf) is = cc
    by _ (stages.not_fenced stopped told e it at ends) is = absurd (not_of_fence e is)
    by _ (stages.ran replayed begun r have sound run) is = by_script replayed begun r run is
