-- What the calls among the items of a run are.
use Rattle.std.proofs.Common.{◌≡◌, ℕ, zero, suc, ◌+◌, ◌≤◌, ◌<◌, Bool, true, false, cond, List, [], ◌∷◌, ◌++◌, length, take, drop, map, Option, None, Some, inl, inr, refl, sym, ap, ◌∙◌, arith}
use Rattle.std.specs.Prelude.{◌==◌, if◌then◌else◌}
use Rattle.std.specs.List.{AllByRecursion, filter}
use Rattle.std.proofs.lemmas.Bool.{cases_lt}
use Rattle.std.proofs.lemmas.List.{take-append-drop}
use Rattle.cluster_history.specs.declared.Item.{Item}
use Rattle.cluster_history.specs.declared.Item.TheVariants as item
use Rattle.file_tree.specs.declared.call.Call.{Call}
use Rattle.run_rules.specs.Follows.{IsOnItsNode, call_items, history_of, place_of}
use Rattle.script_lang.specs.OneNode.{HaveOwnClientNames}
use Rattle.script_lang.specs.Script.{call_by, calls_by}
use Rattle.script_lang.specs.declared.script.Client.{Client}
use Rattle.script_lang.specs.declared.script.Line.{Line}
use Rattle.script_lang.specs.declared.script.Line.TheVariants as line
use Rattle.trace_text.specs.declared.item.TraceItem.{TraceItem}
use Rattle.trace_text.specs.declared.item.TraceItem.TheVariants as trace
use Rattle.lone_scripts.specs.Runs.{Answered, IsOfMember, calls_from, is_call, is_call_line, line_of, name_at}
use Rattle.lone_scripts.proofs.Clients.{place_is}
use Rattle.lone_scripts.proofs.Lists.{is_front, take_front, take_past}

-- ---- a client's calls among lines

abbrev onto : Option Call → List Call → List Call
onto o calls = elim o [ None ↦ calls | Some call ↦ call ∷ calls ]

onto-append : (o : Option Call) (xs ys : List Call) → onto o xs ++ ys ≡ onto o (xs ++ ys)
onto-append None xs ys = refl
onto-append (Some call) xs ys = refl

onto_longer : (o : Option Call) (xs ys : List Call) → length xs ≤ length ys → length (onto o xs) ≤ length (onto o ys)
onto_longer None xs ys less = less
onto_longer (Some call) xs ys less = omega (arith, less)

module _ (client : ℕ) where
  pub calls_by-append : (xs ys : List Line) → calls_by client (xs ++ ys) ≡ calls_by client xs ++ calls_by client ys
  calls_by-append [] ys = refl
  calls_by-append (l ∷ ls) ys = ap (onto (call_by client l)) (calls_by-append ls ys) ∙ sym (onto-append (call_by client l) (calls_by client ls) (calls_by client ys))

  -- the lines that are no calls count for nothing
  pub calls_of_filter : (ls : List Line) → calls_by client (filter is_call_line ls) ≡ calls_by client ls
  calls_of_filter [] = refl
  calls_of_filter (line.Call c call ∷ ls) = ap (onto (call_by client (line.Call c call))) (calls_of_filter ls)
  calls_of_filter (line.Wait ∷ ls) = calls_of_filter ls
  calls_of_filter (line.Crash nodes ∷ ls) = calls_of_filter ls
  calls_of_filter (line.Join node ∷ ls) = calls_of_filter ls

  pub calls_front : (n : ℕ) (ls : List Line) → calls_by client (take n ls) ≡ take (length (calls_by client (take n ls))) (calls_by client ls)
  calls_front n ls = is_front (calls_by client (take n ls)) (calls_by client (drop n ls)) (calls_by client ls) (sym (calls_by-append (take n ls) (drop n ls)) ∙ ap (calls_by client) (take-append-drop n ls))

  -- the longer front has no fewer
  pub calls_rise : (a b : ℕ) (ls : List Line) → a ≤ b → length (calls_by client (take a ls)) ≤ length (calls_by client (take b ls))
  calls_rise zero b ls less = omega arith
  calls_rise (suc a) zero ls less = absurd (omega (arith, less))
  calls_rise (suc a) (suc b) [] less = omega arith
  calls_rise (suc a) (suc b) (l ∷ ls) less = onto_longer (call_by client l) (calls_by client (take a ls)) (calls_by client (take b ls)) (calls_rise a b ls (omega (arith, less)))

  -- a front of a front has no more than that of the whole
  pub calls_within : (a k : ℕ) (ls : List Line) → length (calls_by client (take a (take k ls))) ≤ length (calls_by client (take a ls))
  calls_within a k ls = elim (cases_lt k a) [
    | inl past ↦ let same = ap (λ (ms : List Line). length (calls_by client ms)) (take_past k a ls (omega (arith, past))) in omega (arith, same, calls_rise k a ls (omega (arith, past)))
    | inr within ↦ let same = ap (λ (ms : List Line). length (calls_by client ms)) (take_front k a ls within) in omega (arith, same)
  ]

-- ---- how many calls are among the first items

abbrev pub told : List TraceItem → ℕ → ℕ
told is q = length (filter is_call (take q is))

told_step : (b : Bool) (i : TraceItem) (xs ys : List TraceItem) → length xs ≤ length ys + 1 → length (cond b (i ∷ xs) xs) ≤ length (cond b (i ∷ ys) ys) + 1
told_step true i xs ys most = omega (arith, most)
told_step false i xs ys most = most

-- one more item is one more call at most
pub told_more : (q : ℕ) (is : List TraceItem) → told is (suc q) ≤ told is q + 1
told_more zero [] = omega arith
told_more zero (i ∷ is) = one_most (is_call i)
  where
    one_most : (b : Bool) → length (cond b (i ∷ []) []) ≤ 0 + 1
    one_most true = omega arith
    one_most false = omega arith
told_more (suc q) [] = omega arith
told_more (suc q) (i ∷ is) = told_step (is_call i) i (filter is_call (take (suc q) is)) (filter is_call (take q is)) (told_more q is)

-- ---- the items that are no calls count for nothing

-- what a client's calls are with this item before them
item_onto : (clients : List Client) (client : ℕ) (i : TraceItem) (xs ys : List TraceItem) → call_items clients client xs ≡ call_items clients client ys
    → call_items clients client (cond (is_call i) (i ∷ xs) xs) ≡ call_items clients client (i ∷ ys)
item_onto clients client (trace.Call node name number call reply) xs ys same = ap (λ (cs : List Call). if place_of clients name == client then call ∷ cs else cs) same
item_onto clients client _ xs ys same = same

pub calls_filter : (clients : List Client) (client : ℕ) (is : List TraceItem) → call_items clients client (filter is_call is) ≡ call_items clients client is
calls_filter clients client [] = refl
calls_filter clients client (i ∷ is) = item_onto clients client i (filter is_call is) is (calls_filter clients client is)

-- and what the history is, where no call is lost
history_onto : (clients : List Client) (i : TraceItem) (xs ys : List TraceItem) → IsOfMember i → history_of clients xs ≡ history_of clients ys
    → history_of clients (cond (is_call i) (i ∷ xs) xs) ≡ history_of clients (i ∷ ys)
history_onto clients (trace.Call node name number call reply) xs ys of same = ap (λ (h : List Item). item.Call node (place_of clients name) number call reply ∷ h) same
history_onto clients (trace.Lost node kept) xs ys of same = absurd of
history_onto clients _ xs ys of same = same

pub history_filter : (clients : List Client) (is : List TraceItem) → AllByRecursion IsOfMember is → history_of clients (filter is_call is) ≡ history_of clients is
history_filter clients [] of = refl
history_filter clients (i ∷ is) of = history_onto clients i (filter is_call is) is of.0 (history_filter clients is of.1)

history_item : (clients : List Client) (i : TraceItem) (xs ys hs : List TraceItem) → history_of clients xs ++ history_of clients hs ≡ history_of clients ys
    → history_of clients (i ∷ xs) ++ history_of clients hs ≡ history_of clients (i ∷ ys)
history_item clients (trace.Call node name number call reply) xs ys hs same = ap (λ (h : List Item). item.Call node (place_of clients name) number call reply ∷ h) same
history_item clients (trace.Lost node kept) xs ys hs same = ap (λ (h : List Item). item.Lost node kept ∷ h) same
history_item clients _ xs ys hs same = same

pub history_of-append : (clients : List Client) (xs ys : List TraceItem) → history_of clients xs ++ history_of clients ys ≡ history_of clients (xs ++ ys)
history_of-append clients [] ys = refl
history_of-append clients (i ∷ is) ys = history_item clients i is (is ++ ys) ys (history_of-append clients is ys)

-- an item that is no call stands on every node
silent_on : (clients : List Client) (i : TraceItem) → is_call i ≡ false → IsOnItsNode clients i
silent_on clients (trace.Call node name number call reply) silent = absurd (cc)
silent_on clients _ silent = tt

on_past : (clients : List Client) (i : TraceItem) (is : List TraceItem) (b : Bool) → is_call i ≡ b → AllByRecursion (IsOnItsNode clients) (cond b (i ∷ filter is_call is) (filter is_call is))
    → IsOnItsNode clients i × AllByRecursion (IsOnItsNode clients) (filter is_call is)
on_past clients i is true call all = all
on_past clients i is false silent all = (silent_on clients i silent, all)

pub all_on : (clients : List Client) (is : List TraceItem) → AllByRecursion (IsOnItsNode clients) (filter is_call is) → AllByRecursion (IsOnItsNode clients) is
all_on clients [] all = tt
all_on clients (i ∷ is) all = let past = on_past clients i is (is_call i) refl all in (past.0, all_on clients is past.1)

-- ---- answered calls, and their items

-- those of clients that there are
abbrev pub AreOf : List Client → List Answered → Type 0
AreOf clients rs = AllByRecursion (λ (r : Answered). r.client < length clients) rs

abbrev pub hist : ℕ → List Answered → List Item
hist n [] = []
hist n (r ∷ rs) = item.Call 1 r.client n r.call r.reply ∷ hist (n + 1) rs

call_of_line : (client c : ℕ) (call : Call) (xs : List Call) (b : Bool) → (c == client) ≡ b
    → (if c == client then call ∷ xs else xs) ≡ (elim (call_by client (line.Call c call)) [ None ↦ xs | Some made ↦ made ∷ xs ])
call_of_line client c call xs true is = rw is refl
call_of_line client c call xs false is = rw is refl

module _ (clients : List Client) (own : HaveOwnClientNames clients) where
  pub history_from : (n : ℕ) (rs : List Answered) → AreOf clients rs → history_of clients (calls_from clients n rs) ≡ hist n rs
  history_from n [] of = refl
  history_from n (r ∷ rs) of =
      ap (λ (p : ℕ). item.Call 1 p n r.call r.reply ∷ history_of clients (calls_from clients (n + 1) rs)) (place_is clients r.client own of.0)
      ∙ ap (λ (h : List Item). item.Call 1 r.client n r.call r.reply ∷ h) (history_from (n + 1) rs of.1)

  module _ (client : ℕ) where
    first_call : (n : ℕ) (r : Answered) (is : List TraceItem) (xs : List Call) → r.client < length clients → call_items clients client is ≡ xs
        → call_items clients client (trace.Call 1 (name_at clients r.client) n r.call r.reply ∷ is) ≡ (elim (call_by client (line_of r)) [ None ↦ xs | Some made ↦ made ∷ xs ])
    first_call n r is xs below more =
        (λ i. if place_is clients r.client own below i == client then r.call ∷ more i else more i) ∙ call_of_line client r.client r.call xs (r.client == client) refl

    -- the calls of a client in the first so many
    pub calls_up_to : (n k : ℕ) (rs : List Answered) → AreOf clients rs → call_items clients client (take k (calls_from clients n rs)) ≡ calls_by client (take k (map line_of rs))
    calls_up_to n zero rs of = refl
    calls_up_to n (suc k) [] of = refl
    calls_up_to n (suc k) (r ∷ rs) of = first_call n r (take k (calls_from clients (n + 1) rs)) (calls_by client (take k (map line_of rs))) of.0 (calls_up_to (n + 1) k rs of.1)

    -- and in all of them
    pub calls_in : (n : ℕ) (rs : List Answered) → AreOf clients rs → call_items clients client (calls_from clients n rs) ≡ calls_by client (map line_of rs)
    calls_in n [] of = refl
    calls_in n (r ∷ rs) of = first_call n r (calls_from clients (n + 1) rs) (calls_by client (map line_of rs)) of.0 (calls_in (n + 1) rs of.1)

pub length_from : (clients : List Client) (n : ℕ) (rs : List Answered) → length (calls_from clients n rs) ≡ length rs
length_from clients n [] = refl
length_from clients n (r ∷ rs) = ap suc (length_from clients (n + 1) rs)

pub length_lines : (rs : List Answered) → length (map line_of rs) ≡ length rs
length_lines [] = refl
length_lines (r ∷ rs) = ap suc (length_lines rs)
