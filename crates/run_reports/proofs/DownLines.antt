-- The lines of a client that are down, line by line of the script.
use Rattle.std.proofs.Common.{◌≡◌, ℕ, zero, suc, ◌-◌, ◌≤◌, List, [], ◌∷◌, ◌++◌, Bool, true, false, Option, None, Some, length, take, drop, get_or, refl, sym, ap, ◌∙◌, arith}
use Rattle.std.specs.Prelude.{◌==◌, if◌then◌else◌}
use Rattle.std.specs.List.{flat_map}
use Rattle.std.proofs.lemmas.Grind.{flat_map-append}
use Rattle.file_tree.specs.declared.call.Call.{Call}
use Rattle.script_lang.specs.declared.script.Line.{Line}
use Rattle.script_lang.specs.declared.script.Line.TheVariants as line
use Rattle.script_lang.specs.Script.{call_by, calls_by}
use Rattle.run_reports.specs.Out.{down_line, is_line_of}
use Rattle.run_reports.proofs.Passing.{first_of}

-- the calls of the first line, and those of the others
first_and_others : (client : ℕ) (x : Line) (xs : List Line) → calls_by client (x ∷ xs) ≡ calls_by client (x ∷ []) ++ calls_by client xs
first_and_others client x xs = by_call (call_by client x)
  where
    by_call : (o : Option Call) → elim o [ None ↦ calls_by client xs | Some call ↦ call ∷ calls_by client xs ] ≡ elim o [ None ↦ [] | Some call ↦ call ∷ [] ] ++ calls_by client xs
    by_call None = refl
    by_call (Some call) = refl

-- the next line's call stands before those of the others
pub next_line : (name : List ℕ) (client : ℕ) (xs : List Line) (d : Line) (all done : List ℕ) → 1 ≤ length xs → d ≡ get_or xs 0 d → all ≡ done ++ flat_map (down_line name) (calls_by client xs)
    → all ≡ done ++ (flat_map (down_line name) (calls_by client (d ∷ [])) ++ flat_map (down_line name) (calls_by client (take (length xs - 1) (drop 1 xs))))
next_line name client xs d all done some is split =
    let rest : List Line = take (length xs - 1) (drop 1 xs) in
    split ∙ ap (λ (l : List ℕ). done ++ l)
    (ap (λ (ls : List Line). flat_map (down_line name) (calls_by client ls)) (first_of xs d some is)
    ∙ ap (flat_map (down_line name)) (first_and_others client d rest) ∙ flat_map-append (down_line name) (calls_by client (d ∷ [])) (calls_by client rest))

pub positive : (n : ℕ) → (n ≡ 0 → ⊥) → 1 ≤ n
positive zero some = absurd (some refl)
positive (suc n) some = omega arith

-- behind one of the client's lines there is one less
mine : (client : ℕ) (x : Line) (xs : List Line) (n : ℕ) → is_line_of client x ≡ true → drop (suc n) (calls_by client (x ∷ xs)) ≡ drop n (calls_by client xs)
mine client (line.Call c call) xs n is = by_test (c == client) is
  where
    by_test : (b : Bool) → b ≡ true → drop (suc n) (elim (if b then Some call else None) [ None ↦ calls_by client xs | Some call' ↦ call' ∷ calls_by client xs ]) ≡ drop n (calls_by client xs)
    by_test true is' = refl
    by_test false is' = cc
mine client line.Wait xs n is = cc
mine client (line.Crash nodes) xs n is = cc
mine client (line.Join node) xs n is = cc

pub one_less : (client n : ℕ) (xs : List Line) (d : Line) (left : List Call) → 1 ≤ length xs → d ≡ get_or xs 0 d → is_line_of client d ≡ true → 1 ≤ n → drop n (calls_by client xs) ≡ left
    → drop (n - 1) (calls_by client (take (length xs - 1) (drop 1 xs))) ≡ left
one_less client n xs d left some is own more same =
    let rest : List Line = take (length xs - 1) (drop 1 xs) in
    let count : suc (n - 1) ≡ n = omega (arith, more) in
    sym (mine client d rest (n - 1) own) ∙ ap (λ (ls : List Line). drop (suc (n - 1)) (calls_by client ls)) (sym (first_of xs d some is)) ∙ ap (λ (k : ℕ). drop k (calls_by client xs)) count ∙ same
