-- It stays the same disk, and the other nodes have no part in it.
use Rattle.std.proofs.Common.{◌≡◌, ℕ, ◌+◌, List, [], ◌∷◌, Option, None, Some, get_or, take, refl, sym, ap, subst, ◌∙◌, inl, inr}
use Rattle.std.proofs.lemmas.Bool.{cond-false, ne_eqb}
use Rattle.disk_turns.specs.Turns.{BringsTo, HasStopped, Moment}
use Rattle.drafts.specs.declared.change.Written.{Written}
use Rattle.image_mount.specs.Mounted.{Journal}
use Rattle.image_recovery.specs.Recoveries.{AreReplays, HaveCrashed, HaveFailed, HaveReplayed, HaveReplayedSome}
use Rattle.journal_replays.specs.Headers.{clean_block}
use Rattle.journal_replays.specs.Replays.{IsReplayWith, StopsReplay, at_header, at_home}
use Rattle.log_layout.specs.declared.log_header.LogHeader.{LogHeader}
use Rattle.logged_scripts.specs.Fails.{AsItWas, FailsTo, InAWrite}
use Rattle.logged_scripts.specs.Points.{Point}
use Rattle.logged_scripts.specs.StepEnds.{EndsTo, Landed, Said, Unsaid, with_clean}
use Rattle.logged_scripts.specs.Steps as by
use Rattle.logged_scripts.specs.Steps.{Here, Step, Steps, Then}
use Rattle.logged_scripts.specs.Runs.{IsBehind, LastGoes, crash, fence, loss, nothing}
use Rattle.lone_fences.specs.Fencing.{EndsAt, IsFenced}
use Rattle.lone_fences.specs.declared.ends.FenceEnd.{FenceEnd}
use Rattle.lone_fences.specs.declared.ends.FenceEnd.TheVariants as fence_end
use Rattle.peer_replay.specs.declared.planned.Plan.{Plan}
use Rattle.shared_disk.specs.Disk.{DiskState, Flight, Operation, after_barrier, after_fence, after_write}
use Rattle.trace_text.specs.declared.item.TraceItem.{TraceItem}
use Rattle.logged_scripts.specs.WholeRunsStarts.{joined}
use Rattle.logged_scripts.proofs.Starting.{stopped_by}
use Rattle.lone_runs.specs.Runs.{IsSameDisk}

-- nothing is in flight of any node
abbrev pub IsStill : DiskState → Type 0
IsStill d = (i : ℕ) → d.in_flight i ≡ []

pub same_here : (d : DiskState) → IsSameDisk d d
same_here d = record { size = refl; count = refl; tells = refl; fenced = λ node other. refl; flying = λ node other. refl }

pub same_as : (d e : DiskState) → e ≡ d → IsSameDisk d e
same_as d e same = subst (λ x. IsSameDisk d x) (sym same) (same_here d)

pub same_on : (a b c : DiskState) → IsSameDisk a b → IsSameDisk b c → IsSameDisk a c
same_on a b c first then = record {
  size = then.size ∙ first.size;
  count = then.count ∙ first.count;
  tells = then.tells ∙ first.tells;
  fenced = λ node other. then.fenced node other ∙ first.fenced node other;
  flying = λ node other. then.flying node other ∙ first.flying node other;
}

-- ---- replays

brings : (before after : Moment) (blocks : List Written) → BringsTo 1 before after blocks → IsStill before.disk → IsSameDisk before.disk after.disk
brings before after blocks it still = record {
  size = it.written.size;
  count = it.written.count;
  tells = it.written.tells;
  fenced = λ node other. ap (λ f. f node) it.written.fenced;
  flying = λ node other. it.written.idle node ∙ sym (still node);
}

replay_same : (slot dinode : ℕ) (blocks : List ℕ) (time : ℕ) (before after : Moment) (home : List Written) (header : Option LogHeader) (items : List TraceItem)
    → IsReplayWith 1 slot dinode blocks time before after home header items → IsStill before.disk → IsSameDisk before.disk after.disk × IsStill after.disk
replay_same slot dinode blocks time before after home None items is still = (same_as before.disk after.disk (ap (λ (m : Moment). m.disk) is.0), subst (λ (m : Moment). IsStill m.disk) (sym is.0) still)
replay_same slot dinode blocks time before after home (Some header) items is still = (
  same_on before.disk is.between.disk after.disk (brings before is.between home is.homes still)
      (brings is.between after (clean_block before.disk.size (get_or blocks header.blkno 0) slot dinode time header ∷ []) is.headed is.homes.written.idle),
  is.headed.written.idle,
)

pub replays_same : (slot time : ℕ) (before after : Moment) (js : List Journal) (ps : List Plan) (items : List TraceItem) → AreReplays 1 slot time before js ps after items → IsStill before.disk
    → IsSameDisk before.disk after.disk × IsStill after.disk
replays_same slot time before after [] [] items is still = (same_as before.disk after.disk (ap (λ (m : Moment). m.disk) is.0), subst (λ (m : Moment). IsStill m.disk) (sym is.0) still)
replays_same slot time before after [] (p ∷ ps) items is still = absurd is
replays_same slot time before after (j ∷ js) [] items is still = absurd is
replays_same slot time before after (j ∷ js) (p ∷ ps) items (next, first, later, are, one, others) still =
    let now : IsSameDisk before.disk next.disk × IsStill next.disk = replay_same slot j.dinode j.blocks time before next p.home.items p.clean first one still in
    let rest : IsSameDisk next.disk after.disk × IsStill after.disk = replays_same (slot + 1) time next after js ps later others now.1 in
    (same_on before.disk next.disk after.disk now.0 rest.0, rest.1)

stopped_same : (before after : Moment) (blocks : List Written) (block : Option ℕ) → HasStopped 1 before after blocks block → IsStill before.disk → IsSameDisk before.disk after.disk
stopped_same before after blocks block it still =
    same_on before.disk it.between.disk after.disk (brings before it.between it.done it.brought still)
    (record {
      size = it.stopped.disk.size;
      count = it.stopped.disk.count;
      tells = it.stopped.disk.tells;
      fenced = λ node other. ap (λ f. f node) it.stopped.disk.fenced;
      flying = λ node other. it.stopped.disk.others node other;
    })

pub stops_same : (before after : Moment) (home : List Written) (header : Written) (block : Option ℕ) (items : List TraceItem) → StopsReplay 1 before after home header block items → IsStill before.disk
    → IsSameDisk before.disk after.disk
stops_same before after home header block items (at_home is) still = stopped_same before after home block is.stopped still
stops_same before after home header block items (at_header between homes more is are) still =
    same_on before.disk between.disk after.disk (brings before between home homes still) (stopped_same between after (header ∷ []) block is.stopped homes.written.idle)

-- ---- steps

-- a write of node 1, and its barrier
written_same : (d : DiskState) (b : ℕ) (bytes : List ℕ) → IsSameDisk d (after_write d 1 b bytes)
written_same d b bytes = record { size = refl; count = refl; tells = refl; fenced = λ node other. refl; flying = λ node other. cond-false _ _ _ (ne_eqb node 1 other) }

barrier_same : (d : DiskState) → IsSameDisk d (after_barrier d 1)
barrier_same d = record { size = refl; count = refl; tells = refl; fenced = λ node other. refl; flying = λ node other. cond-false _ _ _ (ne_eqb node 1 other) }

step_same : (time : ℕ) (p q : Point) → Step time p q → IsSameDisk p.disk q.disk
step_same time p _ (by.Reads is b lock bytes asked absent whole told) = same_here p.disk
step_same time p _ (by.Answers is name call reply change kept done some can fits keeps) = same_here p.disk
step_same time p _ (by.AnswersQuietly is name call reply change done empty no_sync) = same_here p.disk
step_same time p _ (by.Syncs is name all) = same_here p.disk
step_same time p _ (by.TellsFull is call need free less all) = same_here p.disk
step_same time p _ (by.HasNoSpace name call need free next less last) = same_here p.disk
step_same time p _ (by.BeginsFlush next idle due room) = same_here p.disk
step_same time p _ (by.BeginsHeader next idle home some stuck) = same_here p.disk
step_same time p _ (by.WritesLog new f b bytes list is numbers made may gains) = written_same p.disk b bytes
step_same time p _ (by.EndsBlocks new f done bytes list is stage made flies gains) = barrier_same p.disk
step_same time p _ (by.WritesHead new f b sequence bytes list is numbers made may gains) = written_same p.disk b bytes
step_same time p _ (by.EndsFlush new f tail bytes list is numbers stage made flies gains) = barrier_same p.disk
step_same time p _ (by.Commits b next last) = same_here p.disk
step_same time p _ (by.GoesHome next new lock b bytes list sent may gains) = written_same p.disk b bytes
step_same time p _ (by.Rests new list next no_header settles flies gains) = barrier_same p.disk
step_same time p _ (by.Unmounts is) = same_here p.disk

pub steps_same : (time : ℕ) (p q : Point) → Steps time p q → IsSameDisk p.disk q.disk
steps_same time p _ Here = same_here p.disk
steps_same time p _ (Then q r steps step) = same_on p.disk q.disk r.disk (steps_same time p q steps) (step_same time q r step)

failing_same : (time : ℕ) (p q : Point) → FailsTo time p q → IsSameDisk p.disk q.disk
failing_same time p _ AsItWas = same_here p.disk
failing_same time p _ (InAWrite b bytes list log item told step) = written_same p.disk b bytes

clean_same : (p : Point) (bytes : List ℕ) → IsSameDisk p.disk (with_clean p bytes)
clean_same p bytes = record { size = refl; count = refl; tells = refl; fenced = λ node other. refl; flying = λ node other. cond-false _ _ _ (ne_eqb node 1 other) }

ending_same : (p q : Point) → EndsTo p q → IsSameDisk p.disk q.disk
ending_same p _ (Unsaid bytes list clean) = clean_same p bytes
ending_same p _ (Said bytes list clean) = clean_same p bytes
ending_same p _ (Landed bytes list clean) = same_on p.disk (with_clean p bytes) (after_barrier (with_clean p bytes) 1) (clean_same p bytes) (barrier_same (with_clean p bytes))

last_same : (time : ℕ) (p q : Point) → LastGoes time p q → IsSameDisk p.disk q.disk
last_same time p q (inl fails) = failing_same time p q fails
last_same time p q (inr ends) = ending_same p q ends.1

-- ---- the fence

fence_same : (d : DiskState) (became : List Flight) → IsSameDisk d (after_fence d 1 became)
fence_same d became = record { size = refl; count = refl; tells = refl; fenced = λ node other. cond-false _ _ _ (ne_eqb node 1 other); flying = λ node other. cond-false _ _ _ (ne_eqb node 1 other) }

pub fenced_same : (d d' : DiskState) (list list' : Option (List Operation)) → IsFenced d list d' list' → IsSameDisk d d'
fenced_same d d' list list' is = subst (λ x. IsSameDisk d x) (sym is.disk) (fence_same d is.became)

pub ends_same : (d d' : DiskState) (list list' : Option (List Operation)) (items items' : List TraceItem) (e : FenceEnd) → EndsAt d list items d' list' items' e → IsSameDisk d d'
ends_same d d' list list' items items' (fence_end.NotFenced rise) is = same_as d d' is.disk
ends_same d d' list list' items items' (fence_end.ReadFailed block rise) is = fenced_same d d' list list' is.fenced
ends_same d d' list list' items items' fence_end.NoMemory (inl is) = same_as d d' is.disk
ends_same d d' list list' items items' fence_end.NoMemory (inr is) = fenced_same d d' list list' is.fenced

-- ---- a script that was carried out

behind_same : (a p q : Point) (d : DiskState) (list : Option (List Operation)) (items : List TraceItem) → IsBehind a p q d list items → IsSameDisk q.disk d
behind_same a p q d list items (nothing same listed are) = same_as q.disk d same
behind_same a p q d list items (crash untold same listed are) = same_as q.disk d same
behind_same a p q d list items (fence untold fenced are) = fenced_same q.disk d q.list list fenced
behind_same a p q d list items (loss untold hf) = fenced_same q.disk d q.list list hf.fenced

goes_same : (time : ℕ) (a p q : Point) → Steps time a p → LastGoes time p q → IsSameDisk a.disk q.disk
goes_same time a p q steps last = same_on a.disk p.disk q.disk (steps_same time a p steps) (last_same time p q last)

pub behind_run_same : (time : ℕ) (a p q : Point) (d : DiskState) (list : Option (List Operation)) (items : List TraceItem) → Steps time a p → LastGoes time p q → IsBehind a p q d list items → IsSameDisk a.disk d
behind_run_same time a p q d list items steps last behind = same_on a.disk q.disk d (goes_same time a p q steps last) (behind_same a p q d list items behind)

-- ---- replays, and what stopped them

module _ (time : ℕ) (before after : Moment) (journals : List Journal) (plans : List Plan) (items : List TraceItem) (still : IsStill before.disk) where
  pub replayed_same : HaveReplayed 1 time before after journals plans joined items → IsSameDisk before.disk after.disk
  replayed_same have = (replays_same 1 time before after journals plans have.added have.replays still).0

  pub some_same : HaveReplayedSome 1 time before after journals plans joined items → IsSameDisk before.disk after.disk
  some_same some = (replays_same 1 time before after (take some.count journals) (take some.count plans) some.replayed.added some.replayed.replays still).0

  pub crashed_same : HaveCrashed 1 time before after journals plans joined items → IsSameDisk before.disk after.disk
  crashed_same it =
      let first : IsSameDisk before.disk it.between.disk × IsStill it.between.disk
      = replays_same 1 time before it.between (take it.count journals) (take it.count plans) it.replayed.added it.replayed.replays still in
      same_on before.disk it.between.disk after.disk first.0 (stops_same it.between after it.plan.home.items _ it.crashed.block it.crashed.added it.crashed.stopped first.1)

  pub failed_same : (block : Option ℕ) → HaveFailed 1 time before after journals plans joined items block → IsSameDisk before.disk after.disk
  failed_same block it =
      let first : IsSameDisk before.disk it.between.disk × IsStill it.between.disk
      = replays_same 1 time before it.between (take it.count journals) (take it.count plans) it.replayed.added it.replayed.replays still in
      let at = stopped_by (it.count + 1) time it.journal.dinode it.journal.blocks it.between after it.plan block it.failed.added it.failed.stopped in
      same_on before.disk it.between.disk after.disk first.0 (stops_same it.between after it.plan.home.items _ block it.failed.added at.2 first.1)
