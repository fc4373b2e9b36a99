-- How many journals a run left not clean.
use Rattle.std.proofs.Common.{◌≡◌, ◌⊎◌, inl, inr, ℕ, zero, suc, ◌+◌, List, [], ◌∷◌, ◌++◌, Bool, true, false, cond, Some, refl, sym, ap, ◌∙◌, subst, arith}
use Rattle.std.specs.Prelude.{◌<◌, ◌≤◌, ◌==◌, IfErr, IfOk, MatchResult, Result, Ok, Err, Contains, get_or, length, count_by, if◌then◌else◌, not, slice_get}
use Rattle.std.specs.List.{AllByRecursion, list_any, range_with_len}
use Rattle.std.proofs.lemmas.Bool.{cond-false}
use Rattle.std.proofs.lemmas.List.Elements.{Contains-get_or}
use Rattle.std.proofs.lemmas.List.Sums.{sum_by-cons}
use Rattle.disk_turns.specs.Turns.{Moment}
use Rattle.image_model.specs.Image.{Image, image_of}
use Rattle.image_mount.specs.Mounted.{IsMounted, Journal, MountedValue}
use Rattle.journal_reads.specs.Reading.{HasCause}
use Rattle.journal_reads.specs.declared.faults.ReadFault.{ReadFault}
use Rattle.journal_reads.specs.declared.faults.ReadFault.TheVariants as read
use Rattle.kept_profiles.specs.Starts.{IsOfReplay}
use Rattle.kept_profiles.specs.Telling.{EndsClean, IsNoCommit, TellsItsReplays, clean_header, no_commit}
use Rattle.peer_replay.specs.declared.planned.Plan.{Plan}
use Rattle.run_rules.specs.History.{NoneStopped}
use Rattle.script_lang.specs.Script.{ScriptValue}
use Rattle.shared_disk.specs.Disk.{DiskState}
use Rattle.trace_text.specs.declared.item.TraceItem.{TraceItem}
use Rattle.trace_text.specs.declared.item.TraceItem.TheVariants as trace
use Rattle.kept_profiles.proofs.Items.{of_replays}
use Rattle.run_reports.specs.Dirty.{dirty_by, is_left_dirty}
use Rattle.run_reports.specs.Out.{is_stop}
use Rattle.cluster_program.specs.Dirty.{IsCountLeft, IsUnreadHead, UnreadBlock, UnreadForMemory, dirty_in}
use Rattle.cluster_program.specs.EndStatuses.{status_of_read}
use Rattle.cluster_program.specs.Mounting.{is_clean_in}
use Rattle.cluster_program.specs.Runs.{AreCleanOn, own_of}
use Rattle.run_reports.specs.declared.status.Status.{Status}
use Rattle.run_reports.specs.declared.status.Status.TheVariants as status

-- none passes a test that no element passes
count_none : {X : Type 0} (test : X → Bool) (xs : List X) → ((k : ℕ) (x : X) → slice_get xs k ≡ Some x → test x ≡ false) → count_by test xs ≡ 0
count_none test [] none = refl
count_none test (x ∷ xs) none =
    add (count_by test (x ∷ xs)) (cond (test x) 1 0) (count_by test xs) (sum_by-cons (λ y. cond (test y) 1 0) x xs) (cond-false {A = ℕ} _ 1 0 (none 0 x refl))
    (count_none test xs (λ k y is. none (suc k) y is))
  where
    add : (all first others : ℕ) → all ≡ first + others → first ≡ 0 → others ≡ 0 → all ≡ 0
    add all first others sum none_first none_others = omega (arith, sum, none_first, none_others)

clean_is : (b : Bool) → b ≡ true → not b ≡ false
clean_is true is = refl
clean_is false is = cc

none_dirty : (im : Image) (m : MountedValue) → ((j : ℕ) (journal : Journal) → slice_get m.journals j ≡ Some journal → is_clean_in im journal ≡ true) → dirty_in im m ≡ 0
none_dirty im m clean = count_none (λ (j : Journal). not (is_clean_in im j)) m.journals (λ k j is. clean_is (is_clean_in im j) (clean k j is))

pub none_left : (given left : DiskState) (m : MountedValue) → IsMounted (image_of given) m → AreCleanOn left m → IsCountLeft given left 0
none_left given left m mounted clean = (m, (mounted, sym (none_dirty (image_of left) m clean)))

-- ---- by the items

some_same : {A : Type 0} {x y : A} → Some x ≡ Some y → x ≡ y
some_same e = cc

-- the items of a replay commit nothing
past_replays : (node : ℕ) (is rs : List TraceItem) → AllByRecursion IsOfReplay rs → is_left_dirty node false (rs ++ is) ≡ is_left_dirty node false is
past_replays node is [] of = refl
past_replays node is (trace.WriteReplay n block ∷ rs) of = past_replays node is rs of.1
past_replays node is (trace.Barrier n ∷ rs) of = past_replays node is rs of.1
past_replays node is (trace.Recovered n by ∷ rs) of = same (n == node) ∙ past_replays node is rs of.1
  where
    same : (b : Bool) → is_left_dirty node (if b then false else false) (rs ++ is) ≡ is_left_dirty node false (rs ++ is)
    same true = refl
    same false = refl
past_replays node is (_ ∷ rs) of = absurd of.0

-- nor do items without a commit
uncommitted : (node : ℕ) (is : List TraceItem) → AllByRecursion IsNoCommit is → is_left_dirty node false is ≡ false
uncommitted node [] none = refl
uncommitted node (trace.Commit i sequence upto ∷ is) none = absurd none.0
uncommitted node (trace.WriteClean i block sequence upto ∷ is) none = same (i == node) ∙ uncommitted node is none.1
  where
    same : (b : Bool) → is_left_dirty node (if b then false else false) is ≡ is_left_dirty node false is
    same true = refl
    same false = refl
uncommitted node (trace.Recovered i by ∷ is) none = same (i == node) ∙ uncommitted node is none.1
  where
    same : (b : Bool) → is_left_dirty node (if b then false else false) is ≡ is_left_dirty node false is
    same true = refl
    same false = refl
uncommitted node (_ ∷ is) none = uncommitted node is none.1

-- node 1's clean header ends all that it committed
ended : (now : Bool) (block sequence upto : ℕ) (before : List TraceItem) → is_left_dirty 1 now (before ++ trace.WriteClean 1 block sequence upto ∷ trace.Barrier 1 ∷ []) ≡ false
ended now block sequence upto [] = refl
ended now block sequence upto (trace.Commit i s u ∷ is) = ended (if i == 1 then true else now) block sequence upto is
ended now block sequence upto (trace.WriteClean i b s u ∷ is) = ended (if i == 1 then false else now) block sequence upto is
ended now block sequence upto (trace.Recovered i by ∷ is) = ended (if i == 1 then false else now) block sequence upto is
ended now block sequence upto (_ ∷ is) = ended now block sequence upto is

by_end : (more : List TraceItem) → EndsClean more → is_left_dirty 1 false more ≡ false
by_end _ (no_commit more none) = uncommitted 1 more none
by_end _ (clean_header before block sequence upto) = ended false block sequence upto before

module _ (time : ℕ) (before : Moment) (journals : List Journal) (plans : List Plan) (s : ScriptValue) (one : s.nodes ≡ 1) (items : List TraceItem) (tells : TellsItsReplays time before journals plans items) where
  node_one : is_left_dirty 1 false items ≡ false
  node_one =
      ap (is_left_dirty 1 false) (tells.are ∙ ap (λ (l : List TraceItem). l ++ tells.more) tells.replays.are)
      ∙ past_replays 1 tells.more tells.replays.added (of_replays 1 time before tells.replayed journals plans tells.replays.added tells.replays.replays)
      ∙ by_end tells.more tells.clean

  -- so the items leave no journal dirty
  pub none_by_items : 0 ≡ dirty_by s items
  none_by_items = sym (ap (λ n. count_by (λ node. is_left_dirty node false items) (range_with_len 1 n)) one ∙ count_one)
    where
      count_one : count_by (λ node. is_left_dirty node false items) (range_with_len 1 1) ≡ 0
      count_one = count_none (λ node. is_left_dirty node false items) (range_with_len 1 1) (λ k node is. at k node is)
        where
          at : (k node : ℕ) → slice_get (range_with_len 1 1) k ≡ Some node → is_left_dirty node false items ≡ false
          at zero node is = subst (λ n. is_left_dirty n false items ≡ false) (some_same is) node_one
          at (suc k) node is = cc

-- ---- stops

-- no item is a stop where no node stopped
pub no_stop : (items : List TraceItem) → NoneStopped items → list_any is_stop items ≡ true → ⊥
no_stop [] none is = cc
no_stop (trace.Crash node ∷ is) none any = none
no_stop (trace.Withdraw node before now ∷ is) none any = none
no_stop (_ ∷ is) none any = no_stop is none any

pub none_stopped : (items : List TraceItem) → list_any is_stop items ≡ false → NoneStopped items
none_stopped [] none = tt
none_stopped (trace.Crash node ∷ is) none = cc
none_stopped (trace.Withdraw node before now ∷ is) none = cc
none_stopped (_ ∷ is) none = none_stopped is none

-- ---- heads that couldn't be read

pub unread_head : (journals : List Journal) (k : ℕ) (journal : Journal) (f : ReadFault) (first before now : ℕ) → k < length journals → journal ≡ get_or journals k journal → first ≤ before → HasCause journal.blocks before now f
    → IsUnreadHead journals first now (status_of_read f)
unread_head journals k journal (read.DiskFailed block rise) first before now low is earlier cause =
    UnreadBlock journal block rise.before rise.after (subst (Contains journals) (sym is) (Contains-get_or journals k journal low)) cause.1 (record { from = omega (arith, earlier, cause.0.from); rose = cause.0.rose; to = cause.0.to })
unread_head journals k journal read.NoMemory first before now low is earlier cause = UnreadForMemory

pub unread_since : (journals : List Journal) (first before now : ℕ) → first ≤ before → (own : Status) → IsUnreadHead journals before now own → IsUnreadHead journals first now own
unread_since journals first before now earlier _ (UnreadBlock journal block x y has within up) = UnreadBlock journal block x y has within (record { from = omega (arith, earlier, up.from); rose = up.rose; to = up.to })
unread_since journals first before now earlier _ UnreadForMemory = UnreadForMemory

-- ---- what the count comes to

pub stopped_or_not : (items : List TraceItem) → NoneStopped items ⊎ (NoneStopped items → ⊥)
stopped_or_not items = by (list_any is_stop items) refl
  where
    by : (b : Bool) → list_any is_stop items ≡ b → NoneStopped items ⊎ (NoneStopped items → ⊥)
    by false is = inl (none_stopped items is)
    by true is = inr (λ none. no_stop items none is)

pub of_none : (r : Result ℕ Status) (P : Status → Type 0) → MatchResult r (λ dirty. dirty ≡ 0) (λ own. ⊥) → P status.Done → P (own_of r)
of_none (Ok dirty) P is done = done
of_none (Err own) P is done = absurd is

pub of_stopped : {A : ℕ → Type 0} {B : Status → Type 0} (r : Result ℕ Status) (P : Status → Type 0) → MatchResult r A B → ((dirty : ℕ) → A dirty → P status.Done) → ((own : Status) → B own → P own) → P (own_of r)
of_stopped (Ok dirty) P is done early = done dirty is
of_stopped (Err own) P is done early = early own is

pub counted_none : (r : Result ℕ Status) (P : ℕ → Type 0) → MatchResult r (λ dirty. dirty ≡ 0) (λ own. ⊥) → P 0 → IfOk r P
counted_none (Ok dirty) P is clean = subst P (sym is) clean
counted_none (Err own) P is clean = tt

pub counted_stopped : {A : ℕ → Type 0} (B : Status → Type 0) (r : Result ℕ Status) (P : ℕ → Type 0) → MatchResult r A B → ((dirty : ℕ) → A dirty → P dirty) → IfOk r P
counted_stopped B (Ok dirty) P is found = found dirty is
counted_stopped B (Err own) P is found = tt

-- so many are told, where all was done
pub as_counted : (r : Result ℕ Status) (P : ℕ → Type 0) → IfOk r P → IfErr r (λ own. own ≡ status.Done → ⊥) → own_of r ≡ status.Done → {told : ℕ} → IfOk r (λ dirty. told ≡ dirty) → P told
as_counted (Ok dirty) P counted never done same = subst P (sym same) counted
as_counted (Err own) P counted never done same = absurd (never done)

pub unread_early : (journals : List Journal) (before now : ℕ) (own : Status) → IsUnreadHead journals before now own → own ≡ status.Done → ⊥
unread_early journals before now _ (UnreadBlock journal block x y has within up) is = cc
unread_early journals before now _ UnreadForMemory is = cc

pub early_count : (A : ℕ → Type 0) (B : Status → Type 0) (r : Result ℕ Status) → MatchResult r A B → ((own : Status) → B own → own ≡ status.Done → ⊥) → IfErr r (λ own. own ≡ status.Done → ⊥)
early_count A B (Ok dirty) is early = tt
early_count A B (Err own) is early = early own is

pub none_early : (r : Result ℕ Status) → MatchResult r (λ dirty. dirty ≡ 0) (λ own. ⊥) → IfErr r (λ own. own ≡ status.Done → ⊥)
none_early (Ok dirty) is = tt
none_early (Err own) is = absurd is
