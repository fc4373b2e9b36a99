-- A run of lines begins.
use Rattle.std.proofs.Common.{◌≡◌, ◌<◌, ◌≤◌, ◌+◌, ◌*◌, ℕ, List, [], ◌∷◌, Option, refl, sym, ap, ◌∙◌, subst, arith}
use Rattle.std.specs.List.{AllByRecursion, filter}
use Rattle.cluster_history.specs.History.{calls_of}
use Rattle.lone_scripts.specs.Runs.{IsOfMember, Runs, is_call}
use Rattle.lone_scripts.proofs.GoingOn.{lone_runs_begin, other_items_go_on}
use Rattle.run_rules.specs.Follows.{history_of}
use Rattle.script_lang.specs.Script.{ScriptValue}
use Rattle.shared_disk.specs.Disk.{DiskState, Operation}
use Rattle.trace_text.specs.declared.item.TraceItem.{TraceItem}
use Rattle.trace_text.specs.declared.item.TraceItem.TheVariants as trace
use Rattle.whole_runs.specs.LoggedRunsStarts.{IsOfReplay}
use Rattle.whole_runs.proofs.LoggedRunsStarting.{no_calls}
use Rattle.whole_runs.specs.Steps.{Here}
use Rattle.logged_calls.specs.Nodes.{IsBeforeCrash, crash_at, point_of, writes_in}
use Rattle.logged_calls.specs.node.CallNumbers.{CallNumbers}
use Rattle.logged_calls.specs.node.Node.{Node}
use Rattle.logged_calls.proofs.Arming.{before_crash}
use Rattle.logged_calls.specs.Calls.{IsReady}
use Rattle.logged_scripts.specs.Beginning.{HasBegun, IsUnderWay}
use Rattle.logged_scripts.specs.Crashes.{first_crash}
use Rattle.logged_scripts.proofs.Crashing.{none_past}
use Rattle.logged_scripts.proofs.Untouched.{IsFresh}

replay_member : (x : TraceItem) → IsOfReplay x → IsOfMember x
replay_member (trace.Join node) is = absurd is
replay_member (trace.Crash node) is = absurd is
replay_member (trace.Withdraw node before after) is = absurd is
replay_member (trace.Lost node kept) is = absurd is
replay_member _ is = tt

pub members : (xs : List TraceItem) → AllByRecursion IsOfReplay xs → AllByRecursion IsOfMember xs
members [] all = tt
members (x ∷ xs) all = (replay_member x all.0, members xs all.1)

pub no_call_lines : (xs : List TraceItem) → AllByRecursion IsOfReplay xs → filter is_call xs ≡ []
no_call_lines [] all = refl
no_call_lines (trace.Call i name number call reply ∷ xs) all = absurd all.0
no_call_lines (x ∷ xs) all = no_call_lines xs all.1

-- a node that awaits its crash hasn't come to it
pub before_first : (n : Node) (s : ScriptValue) → crash_at n ≡ first_crash s.armed → (d : DiskState) → IsReady d n → IsBeforeCrash (first_crash s.armed) n.items.items
before_first n s crash d ready = subst (λ (c : Option ℕ). IsBeforeCrash c n.items.items) crash (before_crash n.armed n.items.items ready.resting.on.awaits)

module _ (s : ScriptValue) (time : ℕ) (d : DiskState) (list : Option (List Operation)) (n : Node) (begun : HasBegun s d n) where
  pub fresh : IsFresh (point_of d list n)
  fresh = record { log = begun.log; none = begun.resting.none }

  pub begins_ready : IsReady d n
  begins_ready = record {
    resting = begun.resting;
    counted = record { changed = low; owing = λ owes. absurd (none_owed owes) };
    mounted = begun.mounted;
  }
    where
      changed : n.numbers.changed ≡ 0
      changed = ap (λ (x : CallNumbers). x.changed) begun.numbers

      low : n.numbers.changed ≤ n.numbers.answered
      low = omega (arith, changed)

      none_owed : n.numbers.low < n.numbers.changed → ⊥
      none_owed owes = omega (arith, changed, owes)

  before : IsBeforeCrash (first_crash s.armed) n.items.items
  before = before_first n s begun.crash d begins_ready

  at_first : IsBeforeCrash (first_crash s.armed) (trace.Join 1 ∷ [])
  at_first k is = some_more (writes_in n.items.items) k (before k is)
    where
      some_more : (w k : ℕ) → w < k → 0 < k
      some_more w k low = omega (arith, low)

  run : Runs s 0 (trace.Join 1 ∷ begun.replays)
  run = other_items_go_on s 0 (trace.Join 1 ∷ []) begun.replays (lone_runs_begin s (none_past s.armed (trace.Join 1 ∷ []) at_first)) (members begun.replays begun.of_replay) (no_call_lines begun.replays begun.of_replay)
      (none_past s.armed (trace.Join 1 ∷ begun.replays) (subst (IsBeforeCrash (first_crash s.armed)) begun.items before))

  pub begins : IsUnderWay s time (point_of d list n) 0 d list n
  begins = record {
    steps = Here;
    ready = begins_ready;
    runs = subst (Runs s 0) (sym begun.items) run;
    numbered = answered ∙ sym (ap (λ (is : List TraceItem). calls_of 1 (history_of s.clients is)) begun.items ∙ ap (calls_of 1) (no_calls s.clients begun.replays begun.of_replay));
    few = low n.numbers.answered answered;
    sequence = same n.log.sequence;
    crash = begun.crash;
  }
    where
      answered : n.numbers.answered ≡ 0
      answered = ap (λ (x : CallNumbers). x.answered) begun.numbers

      low : (x : ℕ) → x ≡ 0 → x ≤ 0
      low x e = omega (arith, e)

      same : (x : ℕ) → x ≤ x + 3 * 0
      same x = omega arith
