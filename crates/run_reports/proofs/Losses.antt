-- Which calls losses take out, by the least number that they keep.
use Rattle.std.proofs.Common.{◌≡◌, ℕ, ◌+◌, ◌-◌, ◌<◌, ◌≤◌, ◌^◌, List, [], ◌∷◌, Bool, true, false, length, drop, replicate, get_or, sym, ap, ◌∙◌, arith}
use Rattle.std.specs.Prelude.{◌==◌, ◌&&◌, ◌||◌, min, nat_lt, if◌then◌else◌, slice_index}
use Rattle.std.proofs.lemmas.Bool.Decides.{nat_tests}
use Rattle.std.proofs.lemmas.List.{drop_all, drop_more, get_or-replicate}
use Rattle.cluster_history.specs.History.{any_drops, lost_count}
use Rattle.file_tree.specs.declared.call.Call.{Call}
use Rattle.file_tree.specs.declared.reply.Reply.{Reply}
use Rattle.run_rules.specs.Follows.{history_of}
use Rattle.script_lang.specs.declared.script.Client.{Client}
use Rattle.trace_text.specs.declared.item.TraceItem.{TraceItem}
use Rattle.trace_text.specs.declared.item.TraceItem.TheVariants as trace
use Rattle.run_reports.specs.Losses.{HasLeast, least_kept}

-- ---- what is taken out is above the least number

below_least : (kept least number : ℕ) → (nat_lt kept number || nat_lt least number) ≡ nat_lt (min kept least) number
below_least kept least number = grind (arith, nat_tests)

none_above : (number : ℕ) → number < 2 ^ 64 → false ≡ nat_lt (2 ^ 64 - 1) number
none_above number small = grind (arith, nat_tests)

one_more : (of_node : Bool) (kept least number : ℕ) (rest : Bool) → rest ≡ nat_lt least number → ((of_node && nat_lt kept number) || rest) ≡ nat_lt (if of_node then min kept least else least) number
one_more false kept least number rest is = is
one_more true kept least number rest is = ap (λ (b : Bool). nat_lt kept number || b) is ∙ below_least kept least number

any_above : (clients : List Client) (node number : ℕ) → number < 2 ^ 64 → (items : List TraceItem) → any_drops node number (history_of clients items) ≡ nat_lt (least_kept node items) number
any_above clients node number small [] = none_above number small
any_above clients node number small (trace.Lost i kept ∷ is) = one_more (i == node) kept (least_kept node is) number (any_drops node number (history_of clients is)) (any_above clients node number small is)
any_above clients node number small (_ ∷ is) = any_above clients node number small is

-- a call counts, if its number is above that of its node
pub counts_one : (clients : List Client) (table : List ℕ) (rest : List TraceItem) (node number : ℕ) (name : List ℕ) (call : Call) (reply : Reply) (lost : Bool) → HasLeast table rest → node < 256 → number < 2 ^ 64
    → lost ≡ nat_lt (slice_index table node) number → lost_count (history_of clients (trace.Call node name number call reply ∷ rest)) ≡ (if lost then 1 else 0) + lost_count (history_of clients rest)
counts_one clients table rest node number name call reply lost has inside small is =
    ap (λ (b : Bool). (if b then 1 else 0) + lost_count (history_of clients rest))
    (any_above clients node number small rest ∙ ap (λ (k : ℕ). nat_lt k number) (sym (has node inside)) ∙ sym is)

-- ---- from the end to the start

-- behind the last item there is none
pub none_yet : (items : List TraceItem) → HasLeast (replicate 256 (2 ^ 64 - 1)) (drop (length items) items)
none_yet items node inside = get_or-replicate 256 node (2 ^ 64 - 1) 0 inside ∙ ap (least_kept node) (sym (drop_all (length items) items (omega arith)))

pub none_lost : (clients : List Client) (items : List TraceItem) → 0 ≡ lost_count (history_of clients (drop (length items) items))
none_lost clients items = ap (λ (l : List TraceItem). lost_count (history_of clients l)) (sym (drop_all (length items) items (omega arith)))

-- one item more
pub one_before : (items : List TraceItem) (place : ℕ) (d : TraceItem) → 1 ≤ place → place ≤ length items → d ≡ get_or items (place - 1) d → drop (place - 1) items ≡ d ∷ drop place items
one_before items place d some within is =
    let count : place - 1 + 1 ≡ place = omega (arith, some) in
    drop_more items (place - 1) d (omega (arith, some, within)) ∙ ap (λ (i : TraceItem). i ∷ drop (place - 1 + 1) items) (sym is) ∙ ap (λ (k : ℕ). d ∷ drop k items) count
