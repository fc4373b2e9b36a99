-- Fewer than 64 clients leave a name of two letters.
use Rattle.std.proofs.Common.{◌≡◌, ℕ, ◌+◌, ◌<◌, ◌≤◌, Bool, true, false, ◌&&◌, not, if◌then◌else◌, List, [], ◌∷◌, length, map, refl, sym, ap, subst, arith}
use Rattle.std.specs.Prelude.{◌||◌, nat_le}
use Rattle.std.specs.List.{list_all, list_any, flat_map}
use Rattle.std.specs.Str.{bytes_eq}
use Rattle.std.proofs.lemmas.Bool.{and_parts, or_parts, not-true}
use Rattle.std.proofs.lemmas.Bool.Decides.{nat_tests}
use Rattle.std.proofs.lemmas.Slice.Eq.{bytes_eq-Decides}
use Rattle.script_lang.specs.declared.script.Client.{Client}
use Rattle.script_lang.specs.Script.{ScriptValue}
use Rattle.script_lang.specs.Words.{is_client_name}
use Rattle.script_lang.specs.Grammar.{client_limit, has_client}
use Rattle.script_laws.proofs.Inks.{both, ink-client}
use Rattle.script_laws.proofs.Begins.{FreshName, solid-ink}

abbrev letters : List ℕ
letters = 97 ∷ 98 ∷ 99 ∷ 100 ∷ 101 ∷ 102 ∷ 103 ∷ 104 ∷ []

abbrev pairs : List (List ℕ)
pairs = flat_map (λ a. map (λ b. a ∷ b ∷ []) letters) letters

-- no two are the same
abbrev own : List (List ℕ) → Bool
own [] = true
own (x ∷ xs) = not (list_any (bytes_eq x) xs) && own xs

abbrev without : List ℕ → List (List ℕ) → List (List ℕ)
without n [] = []
without n (x ∷ xs) = if bytes_eq n x then without n xs else x ∷ without n xs

none_left : (n : List ℕ) (xs : List (List ℕ)) → list_any (bytes_eq n) xs ≡ false → length (without n xs) ≡ length xs
none_left n [] none = refl
none_left n (x ∷ xs) none =
    let parts = or_parts (bytes_eq n x) (list_any (bytes_eq n) xs) none in
    let rest = none_left n xs parts.1 in
    rw parts.0 (omega (arith, rest))

count : (n : List ℕ) (xs : List (List ℕ)) → own xs ≡ true → length xs ≤ length (without n xs) + 1
count n [] all = omega arith
count n (x ∷ xs) all = by_test (bytes_eq n x) refl (count n xs parts.1)
  where
    parts : ((not (list_any (bytes_eq x) xs)) ≡ true) × (own xs ≡ true)
    parts = and_parts (not (list_any (bytes_eq x) xs)) (own xs) all

    by_test : (t : Bool) → bytes_eq n x ≡ t → length xs ≤ length (without n xs) + 1 → length (x ∷ xs) ≤ length (without n (x ∷ xs)) + 1
    by_test true e less =
        let same : x ≡ n = sym ((bytes_eq-Decides n x).0 e) in
        let none : list_any (bytes_eq n) xs ≡ false = subst (λ (y : List ℕ). list_any (bytes_eq y) xs ≡ false) same (not-true (list_any (bytes_eq x) xs) parts.0) in
        let size = none_left n xs none in
        rw e (omega (arith, size))
    by_test false e less = rw e (omega (arith, less))

any-without : (p : List ℕ → Bool) (n : List ℕ) (xs : List (List ℕ)) → list_any p xs ≡ false → list_any p (without n xs) ≡ false
any-without p n [] none = refl
any-without p n (x ∷ xs) none = by_test (bytes_eq n x) refl (any-without p n xs parts.1)
  where
    parts : (p x ≡ false) × (list_any p xs ≡ false)
    parts = or_parts (p x) (list_any p xs) none

    by_test : (t : Bool) → bytes_eq n x ≡ t → list_any p (without n xs) ≡ false → list_any p (without n (x ∷ xs)) ≡ false
    by_test true e less = rw e less
    by_test false e less = rw (e, parts.0) less

own-without : (n : List ℕ) (xs : List (List ℕ)) → own xs ≡ true → own (without n xs) ≡ true
own-without n [] all = refl
own-without n (x ∷ xs) all = by_test (bytes_eq n x) refl (own-without n xs parts.1)
  where
    parts : ((not (list_any (bytes_eq x) xs)) ≡ true) × (own xs ≡ true)
    parts = and_parts (not (list_any (bytes_eq x) xs)) (own xs) all

    by_test : (t : Bool) → bytes_eq n x ≡ t → own (without n xs) ≡ true → own (without n (x ∷ xs)) ≡ true
    by_test true e less = rw e less
    by_test false e less =
        let none : list_any (bytes_eq x) (without n xs) ≡ false = any-without (bytes_eq x) n xs (not-true (list_any (bytes_eq x) xs) parts.0) in
        rw (e, none) less

-- those that are left pass the test, and are not the name
all-without : (p : List ℕ → Bool) (n : List ℕ) (xs : List (List ℕ)) → list_all p xs ≡ true → list_all (λ x. p x && not (bytes_eq n x)) (without n xs) ≡ true
all-without p n [] all = refl
all-without p n (x ∷ xs) all = by_test (bytes_eq n x) refl (all-without p n xs parts.1)
  where
    parts : (p x ≡ true) × (list_all p xs ≡ true)
    parts = and_parts (p x) (list_all p xs) all

    by_test : (t : Bool) → bytes_eq n x ≡ t → list_all (λ x. p x && not (bytes_eq n x)) (without n xs) ≡ true → list_all (λ x. p x && not (bytes_eq n x)) (without n (x ∷ xs)) ≡ true
    by_test true e less = rw e less
    by_test false e less =
        let here : (p x && not (bytes_eq n x)) ≡ true = both (p x) (not (bytes_eq n x)) parts.0 (ap not e) in
        rw e (both (p x && not (bytes_eq n x)) (list_all (λ y. p y && not (bytes_eq n y)) (without n xs)) here less)

neither : (a b : Bool) → a ≡ false → b ≡ false → (a || b) ≡ false
neither true b one two = one
neither false b one two = two

abbrev Picked : (List ℕ → Bool) → List Client → Type 0
Picked p cs = (x : List ℕ) × ((p x ≡ true) × (has_client cs x ≡ false))

pick : (cs : List Client) (p : List ℕ → Bool) (xs : List (List ℕ)) → own xs ≡ true → list_all p xs ≡ true → length cs < length xs → Picked p cs
pick [] p [] mine all more = absurd (omega arith)
pick [] p (x ∷ xs) mine all more = (x, ((and_parts (p x) (list_all p xs) all).0, refl))
pick (c ∷ cs) p xs mine all more =
    let size = count c.name xs mine in
    let x = pick cs (λ y. p y && not (bytes_eq c.name y)) (without c.name xs) (own-without c.name xs mine) (all-without p c.name xs all) (omega (arith, size, more)) in
    let parts = and_parts (p x.0) (not (bytes_eq c.name x.0)) x.1.0 in
    (x.0, (parts.0, neither _ _ (not-true (bytes_eq c.name x.0) parts.1) x.1.1))

pub fresh_name : (s : ScriptValue) → length s.clients < client_limit → FreshName s
fresh_name s room =
    let x = pick s.clients (λ n. is_client_name n && nat_le (length n) 2) pairs refl refl (omega (arith, room)) in
    let parts = and_parts (is_client_name x.0) (nat_le (length x.0) 2) x.1.0 in
    let short : nat_le (length x.0) 2 ≡ true = parts.1 in
    record { name = x.0; new = rw (x.1.1, parts.0) refl; solid = solid-ink x.0 (ink-client x.0 parts.0); short = grind (arith, nat_tests) }
