-- The runs of one node are of one node, whether it runs or has crashed.
use Rattle.std.proofs.Common.{◌≡◌, ℕ, suc, List, [], ◌∷◌, ◌++◌, Bool, true, false, Option, None, refl, sym, ap, ◌∙◌}
use Rattle.std.specs.Prelude.{◌==◌, ◌&&◌}
use Rattle.std.specs.List.{AllByRecursion}
use Rattle.trace_text.specs.declared.item.TraceItem.{TraceItem}
use Rattle.trace_text.specs.declared.item.TraceItem.TheVariants as trace
use Rattle.script_lang.specs.Script.{ScriptValue}
use Rattle.script_lang.specs.declared.script.Line.{Line}
use Rattle.script_lang.specs.declared.script.Line.TheVariants as line
use Rattle.lone_scripts.specs.Runs.{HasCrashed, IsBehindCrash, IsLoneRun, IsMember, IsOfMember, crashed, fenced, lost, not_begun, nothing, running}
use Rattle.run_reports.specs.Laws.{LoneRunsAreOfOneNode, NothingIsOfOneNode}
use Rattle.run_reports.specs.Orders.{has_use_below, line_for, orders, uses, uses_from, with_line_for}
use Rattle.run_reports.specs.Out.{is_stopped}

-- ---- while the node runs no line is carried out

-- no line orders the first join, which is one of the start
no_order : (s : ScriptValue) (x : Line) → s.nodes ≡ 1 → orders s 0 (trace.Join 1) x ≡ false
no_order s (line.Call client call) one = refl
no_order s line.Wait one = refl
no_order s (line.Crash nodes) one = refl
no_order s (line.Join node) one = rw one (and_false (node == 1))
  where
    and_false : (b : Bool) → (b && false) ≡ false
    and_false true = refl
    and_false false = refl

no_line : (s : ScriptValue) (items : List TraceItem) (l : ℕ) (lines : List Line) → s.nodes ≡ 1 → line_for s items 0 1 (trace.Join 1) [] l lines ≡ None
no_line s items l [] one = refl
no_line s items l (x ∷ xs) one = rw (no_order s x one) (no_line s items (suc l) xs one)

no_use : (s : ScriptValue) (items xs : List TraceItem) (p : ℕ) → AllByRecursion IsOfMember xs → uses_from s items p xs [] ≡ []
no_use s items [] p of = refl
no_use s items (trace.Join node ∷ xs) p of = absurd of.0
no_use s items (trace.Crash node ∷ xs) p of = absurd of.0
no_use s items (_ ∷ xs) p of = no_use s items xs (suc p) of.1

uses_none : (s : ScriptValue) (items : List TraceItem) → s.nodes ≡ 1 → IsMember items → uses s items ≡ []
uses_none s items one member =
    let joined : List TraceItem = trace.Join 1 ∷ member.more in
    ap (uses s) member.are ∙ ap (λ (l : Option ℕ). uses_from s joined 1 member.more (with_line_for 1 l [])) (no_line s joined 0 s.lines one) ∙ no_use s joined member.more 1 member.stays

-- ---- a crash stops it

stays_so : (now : Bool) (xs rest : List TraceItem) → AllByRecursion IsOfMember xs → is_stopped 1 now (xs ++ rest) ≡ is_stopped 1 now rest
stays_so now [] rest of = refl
stays_so now (trace.Join node ∷ xs) rest of = absurd of.0
stays_so now (trace.Crash node ∷ xs) rest of = absurd of.0
stays_so now (trace.Withdraw node before after ∷ xs) rest of = absurd of.0
stays_so now (_ ∷ xs) rest of = stays_so now xs rest of.1

behind_crash : (behind : List TraceItem) → IsBehindCrash behind → is_stopped 1 true behind ≡ true
behind_crash _ nothing = refl
behind_crash _ fenced = refl
behind_crash _ (lost kept) = refl

is_down : (s : ScriptValue) (count : ℕ) (items : List TraceItem) → HasCrashed s count items → is_stopped 1 false items ≡ true
is_down s count items has =
    let member = has.runs.member in
    ap (is_stopped 1 false) (has.are ∙ ap (λ (l : List TraceItem). l ++ trace.Crash 1 ∷ has.behind) member.are)
    ∙ stays_so false member.more (trace.Crash 1 ∷ has.behind) member.stays ∙ behind_crash has.behind has.is_behind

-- ---- both

never : (used : Bool) → used ≡ false → used ≡ true → ⊥
never used isnt is = let both : true ≡ false = sym is ∙ isnt in cc

by_run : (s : ScriptValue) (count : ℕ) (items : List TraceItem) → s.nodes ≡ 1 → IsLoneRun s count items → (l : ℕ) → has_use_below l (uses s items) ≡ true → is_stopped 1 false items ≡ true
by_run s _ _ one not_begun l used = absurd (never (has_use_below l (uses s [])) refl used)
by_run s _ _ one (running count items runs) l used = absurd (never (has_use_below l (uses s items)) (ap (has_use_below l) (uses_none s items one runs.member)) used)
by_run s _ _ one (crashed count items has) l used = is_down s count items has

pub lone_runs : LoneRunsAreOfOneNode
lone_runs s count items form run = record { clients = form.clients; orders = by_run s count items form.nodes run }

pub nothing_run : NothingIsOfOneNode
nothing_run = record { clients = tt; orders = λ l used. absurd (never false refl used) }
