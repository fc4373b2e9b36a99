-- Items among which no life begins or ends.
use Rattle.std.proofs.Common.{◌≡◌, ℕ, ◌+◌, suc, List, [], ◌∷◌, ◌++◌, length, None, Some, refl, sym, ap, ◌∙◌, arith}
use Rattle.std.specs.Prelude.{◌==◌, if◌then◌else◌, Bool, true, false, ⊤}
use Rattle.std.specs.List.{AllByRecursion}
use Rattle.trace_text.specs.declared.item.TraceItem.{TraceItem}
use Rattle.trace_text.specs.declared.item.TraceItem.TheVariants as trace
use Rattle.run_rules.specs.Lives.{fenced_behind, lives_from, losses_of, recovered_behind, to_its_end}
use Rattle.logged_steps.specs.Points.{IsOfRun}
use Rattle.logged_steps.proofs.Telling.{append_nil}
use Rattle.logged_runs.specs.Starts.{IsOfReplay}

-- no join, crash, withdraw, fence or loss
abbrev pub Stays : TraceItem → Type 0
Stays (trace.Join node) = ⊥
Stays (trace.Crash node) = ⊥
Stays (trace.Withdraw node before after) = ⊥
Stays (trace.Fence node) = ⊥
Stays (trace.Lost node kept) = ⊥
Stays _ = ⊤

abbrev pub AllStay : List TraceItem → Type 0
AllStay xs = AllByRecursion Stays xs

of_run : (x : TraceItem) → IsOfRun x → Stays x
of_run (trace.Join node) is = is
of_run (trace.Crash node) is = is
of_run (trace.Withdraw node before after) is = is
of_run (trace.Fence node) is = is
of_run (trace.Lost node kept) is = is
of_run _ is = tt

of_replay : (x : TraceItem) → IsOfReplay x → Stays x
of_replay (trace.Join node) is = is
of_replay (trace.Crash node) is = is
of_replay (trace.Withdraw node before after) is = is
of_replay (trace.Fence node) is = is
of_replay (trace.Lost node kept) is = is
of_replay _ is = tt

pub stay_replays : (xs : List TraceItem) → AllByRecursion IsOfReplay xs → AllStay xs
stay_replays [] all = tt
stay_replays (x ∷ xs) all = (of_replay x all.0, stay_replays xs all.1)

pub stay_steps : (xs : List TraceItem) → AllByRecursion IsOfRun xs → AllStay xs
stay_steps [] all = tt
stay_steps (x ∷ xs) all = (of_run x all.0, stay_steps xs all.1)

pub stay_on : (xs ys : List TraceItem) → AllStay xs → AllStay ys → AllStay (xs ++ ys)
stay_on [] ys all more = more
stay_on (x ∷ xs) ys all more = (all.0, stay_on xs ys all.1 more)

-- ---- no clean header

abbrev pub IsNoClean : TraceItem → Type 0
IsNoClean (trace.WriteClean node block sequence upto) = ⊥
IsNoClean _ = ⊤

abbrev pub NoneIsClean : List TraceItem → Type 0
NoneIsClean xs = AllByRecursion IsNoClean xs

no_clean_run : (x : TraceItem) → IsOfRun x → IsNoClean x
no_clean_run (trace.WriteClean node block sequence upto) is = is
no_clean_run _ is = tt

no_clean_replay : (x : TraceItem) → IsOfReplay x → IsNoClean x
no_clean_replay (trace.WriteClean node block sequence upto) is = is
no_clean_replay _ is = tt

pub none_clean : (xs ys : List TraceItem) → AllByRecursion IsOfReplay xs → AllByRecursion IsOfRun ys → NoneIsClean (xs ++ ys)
none_clean [] [] all more = tt
none_clean [] (y ∷ ys) all more = (no_clean_run y more.0, none_clean [] ys tt more.1)
none_clean (x ∷ xs) ys all more = (no_clean_replay x all.0, none_clean xs ys all.1 more)

-- ---- the life's end

pub end_on : (xs ys : List TraceItem) → AllStay xs → to_its_end 1 (xs ++ ys) ≡ xs ++ to_its_end 1 ys
end_on [] ys all = refl
end_on (trace.Crash i ∷ xs) ys all = absurd all.0
end_on (trace.Withdraw i before after ∷ xs) ys all = absurd all.0
end_on (x ∷ xs) ys all = ap (λ is. x ∷ is) (end_on xs ys all.1)

pub no_end : (xs : List TraceItem) → AllStay xs → to_its_end 1 xs ≡ xs
no_end xs all = ap (to_its_end 1) (sym (append_nil xs)) ∙ end_on xs [] all ∙ append_nil xs

-- ---- its fence

pub fence_on : (node p : ℕ) (xs ys : List TraceItem) → AllStay xs → fenced_behind node p (xs ++ ys) ≡ fenced_behind node (p + length xs) ys
fence_on node p [] ys all = ap (λ n. fenced_behind node n ys) (omega arith)
fence_on node p (trace.Fence i ∷ xs) ys all = absurd all.0
fence_on node p (x ∷ xs) ys all = fence_on node (suc p) xs ys all.1 ∙ ap (λ n. fenced_behind node n ys) (omega arith)

-- ---- joins and losses

pub no_lives : (p : ℕ) (xs ys : List TraceItem) → AllStay xs → lives_from p (xs ++ ys) ≡ lives_from (p + length xs) ys
no_lives p [] ys all = ap (λ n. lives_from n ys) (omega arith)
no_lives p (trace.Join i ∷ xs) ys all = absurd all.0
no_lives p (x ∷ xs) ys all = no_lives (suc p) xs ys all.1 ∙ ap (λ n. lives_from n ys) (omega arith)

pub no_losses : (node : ℕ) (xs ys : List TraceItem) → AllStay xs → losses_of node (xs ++ ys) ≡ losses_of node ys
no_losses node [] ys all = refl
no_losses node (trace.Lost i kept ∷ xs) ys all = absurd all.0
no_losses node (x ∷ xs) ys all = no_losses node xs ys all.1

-- ---- recoveries

-- steps recover no slot
pub none_recovered : (node p : ℕ) (xs : List TraceItem) → AllByRecursion IsOfRun xs → recovered_behind node p xs ≡ None
none_recovered node p [] all = refl
none_recovered node p (trace.Recovered i r ∷ xs) all = absurd all.0
none_recovered node p (x ∷ xs) all = none_recovered node (suc p) xs all.1

same_recovered : (node p i : ℕ) (t : Bool) (xs ys : List TraceItem) → recovered_behind node (suc p) (xs ++ ys) ≡ recovered_behind node (suc p) xs
    → (if t then Some (suc p) else recovered_behind node (suc p) (xs ++ ys)) ≡ (if t then Some (suc p) else recovered_behind node (suc p) xs)
same_recovered node p i true xs ys behind = refl
same_recovered node p i false xs ys behind = behind

-- where nothing is recovered behind items, it is as it was
pub recovered_on : (node p : ℕ) (xs ys : List TraceItem) → ((n : ℕ) → recovered_behind node n ys ≡ None) → recovered_behind node p (xs ++ ys) ≡ recovered_behind node p xs
recovered_on node p [] ys none = none p
recovered_on node p (trace.Recovered i r ∷ xs) ys none = same_recovered node p i (i == node) xs ys (recovered_on node (suc p) xs ys none)
recovered_on node p (x ∷ xs) ys none = recovered_on node (suc p) xs ys none
