-- What is done behind the node's own run.
use Rattle.std.proofs.Common.{◌≡◌, ◌≤◌, ◌<◌, ◌^◌, ℕ, suc, inl, inr, List, [], ◌∷◌, ◌++◌, length, Option, Ok, Err, sym, ap, ◌∙◌, subst, arith}
use Rattle.std.specs.Prelude.{IfErr, OnOk, Result, slice_index}
use Rattle.std.specs.List.{All, AllByRecursion}
use Rattle.std.proofs.lemmas.List.Elements.{All-from_recursion}
use Rattle.fault_counts.specs.Causes.{WentUp}
use Rattle.lone_fences.specs.Ends as fences
use Rattle.lone_fences.specs.Fencing.{EndsAt, HasFenced, IsFencedLast, IsUntouched, with_crash}
use Rattle.lone_fences.specs.declared.ends.FenceEnd.{FenceEnd}
use Rattle.lone_fences.specs.declared.ends.FenceEnd.TheVariants as fence
use Rattle.lone_scripts.specs.Runs as lone
use Rattle.lone_scripts.specs.Runs.{Crashes, HasCrashed, IsBehindCrash, IsLoneRun, IsWholeLoneRun, Runs}
use Rattle.script_lang.specs.Script.{ScriptValue}
use Rattle.shared_disk.specs.Disk.{DiskState, Operation}
use Rattle.trace_text.specs.declared.item.TraceItem.{TraceItem}
use Rattle.trace_text.specs.declared.item.TraceItem.TheVariants as trace
use Rattle.whole_runs.specs.Points.{Point}
use Rattle.logged_calls.specs.Nodes.{IsNodeOn, IsSameDisk, point_of}
use Rattle.logged_calls.specs.node.Node.{Node}
use Rattle.logged_scripts.specs.declared.ends.RunEnd.{RunEnd}
use Rattle.logged_scripts.specs.declared.ends.RunEnd.TheVariants as end
use Rattle.logged_scripts.specs.declared.halts.Halt.{Halt}
use Rattle.logged_scripts.specs.declared.halts.Halt.TheVariants as halt
use Rattle.logged_scripts.specs.Ends.{EndsFenced, HasCause, IsAtItsCrash, IsEndAt, IsOwnEnd, end_of}
use Rattle.logged_scripts.specs.Runs.{HasHalted, HasRun, IsBehind, TellsUntil, crash, crashed, fence as fenced_behind, loss, nothing, unmounted}

-- ---- items behind a crash

has_crashed : (s : ScriptValue) (count : ℕ) (items items' more : List TraceItem) → Runs s count items → Crashes s count items → IsBehindCrash more → items' ≡ items ++ trace.Crash 1 ∷ more → HasCrashed s count items'
has_crashed s count items items' more runs crashes is_behind are = record { before = items; runs = runs; crashes = crashes; behind = more; is_behind = is_behind; are = are }

-- nothing came behind what the node left
told_until : (e : RunEnd) (items items' : List TraceItem) → IsOwnEnd e → items' ≡ items → TellsUntil e items items'
told_until (end.ReadFailed block rise) items items' own same = same
told_until (end.WriteFailed block rise) items items' own same = same
told_until (end.NotFenced rise) items items' own same = absurd own
told_until (end.HeadUnread block rise) items items' own same = absurd own
told_until (end.Damaged block rule) items items' own same = same
told_until (end.NotBuilt line) items items' own same = same
told_until (end.LogTooSmall line) items items' own same = same
told_until (end.NotLoggable line) items items' own same = same
told_until end.NoMemory items items' own same = inl same

-- behind a crash it ended at the crash
of_crash : (s : ScriptValue) (time : ℕ) (a : Point) (count : ℕ) (last left : Point) (e : FenceEnd) → IsAtItsCrash s count last left → IsEndAt s time a count last left (end_of e)
of_crash s time a count last left (fence.NotFenced rise) at = at
of_crash s time a count last left (fence.ReadFailed block rise) at = at
of_crash s time a count last left fence.NoMemory at = inr at

-- ---- the run

module _ (s : ScriptValue) (time : ℕ) (a : Point) (d : DiskState) (l : Option (List Operation)) (items : List TraceItem) where
  -- nothing came behind it
  pub runs_through : HasHalted s time a d l items halt.Unmounted → HasRun s time a d l items (Ok tt)
  runs_through h = record {
    count = h.count;
    last = h.last;
    left = h.left;
    goes = h.goes;
    behind = nothing (sym h.disk) (sym h.listed) (sym h.told);
    run = lone.running h.count items (subst (Runs s h.count) h.told h.goes.runs);
    out = unmounted h.why.0 h.why.1 (sym h.disk) (sym h.listed) (sym h.told);
  }

  pub whole_through : HasHalted s time a d l items halt.Unmounted → IsWholeLoneRun s items
  whole_through h = lone.taken (subst (λ (k : ℕ). Runs s k items) h.why.0 (subst (Runs s h.count) h.told h.goes.runs))

  pub runs_out : (e : RunEnd) → HasHalted s time a d l items (halt.Ended e) → HasRun s time a d l items (Err e)
  runs_out e h = record {
    count = h.count;
    last = h.last;
    left = h.left;
    goes = h.goes;
    behind = nothing (sym h.disk) (sym h.listed) (sym h.told);
    run = lone.running h.count items (subst (Runs s h.count) h.told h.goes.runs);
    out = (h.why.1, told_until e h.left.items items h.why.0 (sym h.told));
  }

  -- it crashed
  module _ (way : Halt) (h : HasHalted s time a d l items way) (at : IsAtItsCrash s h.count h.last h.left) (e : DiskState) (k : Option (List Operation)) (items' : List TraceItem) where
    -- by the disk, the list and the items that the node left
    at_left : (P : DiskState → Option (List Operation) → List TraceItem → Type 0) → P d l items → P h.left.disk h.left.list h.left.items
    at_left P p = subst (λ (x : DiskState). P x h.left.list h.left.items) (sym h.disk) (subst (λ (x : Option (List Operation)). P d x h.left.items) (sym h.listed) (subst (λ (x : List TraceItem). P d l x) (sym h.told) p))

    is_fenced : HasFenced d l items a.log.journal.places a.log.sequence e k items' → HasFenced h.left.disk h.left.list h.left.items a.log.journal.places a.log.sequence e k items'
    is_fenced = at_left (λ x y z. HasFenced x y z a.log.journal.places a.log.sequence e k items')

    lost : HasFenced d l items a.log.journal.places a.log.sequence e k items' → HasCrashed s h.count items'
    lost has = (let is = is_fenced has in has_crashed s h.count h.left.items items' (trace.Fence 1 ∷ trace.Lost 1 is.kept ∷ []) h.goes.runs at.0 (lone.lost is.kept) is.told)

    runs_crashed : (u : Unit {0}) → HasFenced d l items a.log.journal.places a.log.sequence e k items' → HasRun s time a e k items' (Ok u)
    runs_crashed u has = record {
      count = h.count;
      last = h.last;
      left = h.left;
      goes = h.goes;
      behind = loss at.1 (is_fenced has);
      run = lone.crashed h.count items' (lost has);
      out = crashed at (is_fenced has);
    }

    whole_crashed : HasFenced d l items a.log.journal.places a.log.sequence e k items' → IsWholeLoneRun s items'
    whole_crashed has = lone.stopped h.count (lost has)

    -- but wasn't fenced, or what it lost isn't told
    left_here : IsUntouched h.left.disk h.left.list e k h.left.items items' → IsBehind a h.last h.left e k items' × IsLoneRun s h.count items'
    left_here is = (nothing is.disk is.operations is.are, lone.running h.count items' (subst (Runs s h.count) (sym is.are) h.goes.runs))

    crash_told : IsUntouched h.left.disk h.left.list e k (with_crash h.left.items) items' → IsBehind a h.last h.left e k items' × IsLoneRun s h.count items'
    crash_told is = (crash at.1 is.disk is.operations is.are, lone.crashed h.count items' (has_crashed s h.count h.left.items items' [] h.goes.runs at.0 lone.nothing is.are))

    fence_told : IsFencedLast h.left.disk h.left.list h.left.items e k items' → IsBehind a h.last h.left e k items' × IsLoneRun s h.count items'
    fence_told is = (fenced_behind at.1 is.fenced is.told, lone.crashed h.count items' (has_crashed s h.count h.left.items items' (trace.Fence 1 ∷ []) h.goes.runs at.0 lone.fenced is.told))

    behind_crash : (why : FenceEnd) → EndsAt h.left.disk h.left.list h.left.items e k items' why → IsBehind a h.last h.left e k items' × IsLoneRun s h.count items'
    behind_crash (fence.NotFenced rise) is = crash_told is
    behind_crash (fence.ReadFailed block rise) is = fence_told is
    behind_crash fence.NoMemory (inl is) = left_here is
    behind_crash fence.NoMemory (inr is) = fence_told is

    ends_told : (why : FenceEnd) → EndsAt h.left.disk h.left.list h.left.items e k items' why → TellsUntil (end_of why) h.left.items items'
    ends_told (fence.NotFenced rise) is = is.are
    ends_told (fence.ReadFailed block rise) is = is.told
    ends_told fence.NoMemory (inl is) = inl is.are
    ends_told fence.NoMemory (inr is) = inr is.told

    runs_unfenced : (why : FenceEnd) → EndsAt d l items e k items' why → HasRun s time a e k items' (Err (end_of why))
    runs_unfenced why ends =
        let is = at_left (λ x y z. EndsAt x y z e k items' why) ends in
        let came = behind_crash why is in
        record {
          count = h.count;
          last = h.last;
          left = h.left;
          goes = h.goes;
          behind = came.0;
          run = came.1;
          out = (of_crash s time a h.count h.last h.left why at, ends_told why is);
        }

    -- so by the blocks and the sequence that the fence was given
    module _ (blocks : List ℕ) (first : ℕ) (blocks_are : blocks ≡ a.log.journal.places) (first_is : first ≡ a.log.sequence) where
      given : HasFenced d l items blocks first e k items' → HasFenced d l items a.log.journal.places a.log.sequence e k items'
      given has = subst (λ (bs : List ℕ). HasFenced d l items bs a.log.sequence e k items') blocks_are (subst (λ (q : ℕ). HasFenced d l items blocks q e k items') first_is has)

      pub fence_runs : (r : Result (Unit {0}) RunEnd) → OnOk r (HasFenced d l items blocks first e k items') → IfErr r (EndsFenced d l items e k items') → HasRun s time a e k items' r
      fence_runs (Ok u) has ends = runs_crashed u (given has)
      fence_runs (Err x) has ends = subst (λ (y : RunEnd). HasRun s time a e k items' (Err y)) (sym ends.is) (runs_unfenced ends.why ends.ends)

      pub fence_is_whole : (r : Result (Unit {0}) RunEnd) → OnOk r (HasFenced d l items blocks first e k items') → OnOk r (IsWholeLoneRun s items')
      fence_is_whole (Ok u) has = whole_crashed (given has)
      fence_is_whole (Err x) has = tt

-- ---- what the fence asks for

low_all : (xs : List ℕ) (count : ℕ) → ((p : ℕ) → p < length xs → slice_index xs p < count) → AllByRecursion (λ (b : ℕ). b < count) xs
low_all [] count low = tt
low_all (x ∷ xs) count low = (low 0 (omega arith), low_all xs count (λ p less. low (suc p) (omega (arith, less))))

module _ (s : ScriptValue) (time : ℕ) (d e : DiskState) (l k : Option (List Operation)) (n : Node) (items : List TraceItem) (way : Halt) (on : IsNodeOn d n) (h : HasHalted s time (point_of d l n) e k items way) where
  pub same_still : IsSameDisk d e
  same_still = subst (IsSameDisk d) h.disk h.goes.same

  pub journal_inside : (blocks : List ℕ) → blocks ≡ n.log.journal.places → All (λ (b : ℕ). b < e.count) blocks
  journal_inside blocks are =
      All-from_recursion (λ (b : ℕ). b < e.count) blocks
      (subst (λ (bs : List ℕ). AllByRecursion (λ (b : ℕ). b < e.count) bs) (sym are)
      (subst (λ (count : ℕ). AllByRecursion (λ (b : ℕ). b < count) n.log.journal.places) (sym same_still.count)
      (low_all n.log.journal.places d.count (λ p less. on.places p (subst (λ (long : ℕ). p < long) on.sound.places less)))))

  pub journal_few : (blocks : List ℕ) → blocks ≡ n.log.journal.places → length blocks < 2 ^ 32
  journal_few blocks are = few (length blocks) n.log.journal.length (ap length are ∙ on.sound.places) on.sound.most
    where
      few : (x y : ℕ) → x ≡ y → y ≤ 65536 → x < 2 ^ 32
      few x y is low = omega (arith, is, low)

-- ---- causes

went_up : (before mid now later x y : ℕ) → before ≤ mid → now ≤ later → WentUp mid now x y → WentUp before later x y
went_up before mid now later x y low high up = record { from = (let f = up.from in omega (arith, f, low)); rose = up.rose; to = (let t = up.to in omega (arith, t, high)) }

pub cause_on : (count : ℕ) (blocks : List ℕ) (before mid now later : ℕ → ℕ) (e : RunEnd) → ((i : ℕ) → before i ≤ mid i) → ((i : ℕ) → now i ≤ later i) → HasCause count blocks mid now e → HasCause count blocks before later e
cause_on count blocks before mid now later (end.ReadFailed block rise) low high cause = (went_up (before 1) (mid 1) (now 1) (later 1) rise.before rise.after (low 1) (high 1) cause.0, cause.1)
cause_on count blocks before mid now later (end.WriteFailed block rise) low high cause = (went_up (before 1) (mid 1) (now 1) (later 1) rise.before rise.after (low 1) (high 1) cause.0, cause.1)
cause_on count blocks before mid now later (end.NotFenced rise) low high cause = went_up (before 0) (mid 0) (now 0) (later 0) rise.before rise.after (low 0) (high 0) cause
cause_on count blocks before mid now later (end.HeadUnread block rise) low high cause = (went_up (before 0) (mid 0) (now 0) (later 0) rise.before rise.after (low 0) (high 0) cause.0, cause.1)
cause_on count blocks before mid now later (end.Damaged block rule) low high cause = tt
cause_on count blocks before mid now later (end.NotBuilt line) low high cause = tt
cause_on count blocks before mid now later (end.LogTooSmall line) low high cause = tt
cause_on count blocks before mid now later (end.NotLoggable line) low high cause = tt
cause_on count blocks before mid now later end.NoMemory low high cause = tt

pub cause_of_fence : (count : ℕ) (blocks : List ℕ) (before mid now : ℕ → ℕ) (e : FenceEnd) → ((i : ℕ) → before i ≤ mid i) → fences.HasCause blocks mid now e → HasCause count blocks before now (end_of e)
cause_of_fence count blocks before mid now (fence.NotFenced rise) low cause = went_up (before 0) (mid 0) (now 0) (now 0) rise.before rise.after (low 0) (omega arith) cause
cause_of_fence count blocks before mid now (fence.ReadFailed block rise) low cause = (went_up (before 0) (mid 0) (now 0) (now 0) rise.before rise.after (low 0) (omega arith) cause.0, cause.1)
cause_of_fence count blocks before mid now fence.NoMemory low cause = tt

-- so it is of a fence behind the lines
pub cause_behind : (count count' : ℕ) (blocks : List ℕ) (before mid now : ℕ → ℕ) (r : Result (Unit {0}) RunEnd) → count' ≡ count → ((i : ℕ) → before i ≤ mid i) → IfErr r (HasCause count' blocks mid now) → IfErr r (HasCause count blocks before now)
cause_behind count count' blocks before mid now (Ok u) same low cause = tt
cause_behind count count' blocks before mid now (Err e) same low cause = cause_on count blocks before mid now now e low (λ i. omega arith) (subst (λ (c : ℕ). HasCause c blocks mid now e) same cause)
