-- The tree of the locks, seen as a finite map.
use Rattle.std.proofs.Common.{◌≡◌, Bool, true, false, cond, List, [], ◌∷◌, Option, None, Some, is_some, refl, sym, ap, subst, ◌∙◌, true≢false}
use Rattle.std.specs.declared.cmp.Ordering.{Ordering}
use Rattle.std.specs.declared.cmp.Ordering.TheVariants.{Less, Equal, Greater}
use Rattle.std.specs.Ordering.{nat_cmp, ordering_then, ordering_reverse, eq_by_cmp, is_eq, is_lt}
use Rattle.std.specs.Cmp.{IsTotalOrder, nat_cmp_total, then_total}
use Rattle.std.specs.Map.{lookup}
use Rattle.std.specs.FinMap.{IsAntisymmetric, from_entries, get, insert, nat_cmp-IsAntisymmetric}
use Rattle.std.specs.Prelude.{option_and_then, unwrap_or}
use Rattle.std.specs.Option.{option_map_or}
use Rattle.std.specs.List.Sorted.{IsStrictlySortedBy}
use Rattle.std.specs.List.{AllByRecursion}
use Rattle.std.specs.Map.{keys_of}
use Rattle.finite_maps.proofs.Seen.{get-seen, seen_insert}
use Rattle.finite_maps.proofs.Keys.{tied}
use Rattle.glock_names.specs.declared.State.{State}
use Rattle.glock_machine.specs.declared.glock.Glock.{Glock}
use Rattle.glock_machine.specs.Keys.{Key, key_cmp}
use Rattle.glock_machine.specs.Table.{down_of}

first_total : IsTotalOrder (λ (a b : Key). nat_cmp a.0 b.0)
first_total = record {
  antisymm = λ a b. nat_cmp_total.antisymm a.0 b.0;
  trans = λ a b c. nat_cmp_total.trans a.0 b.0 c.0;
  congr = λ a b c. nat_cmp_total.congr a.0 b.0 c.0;
}

second_total : IsTotalOrder (λ (a b : Key). nat_cmp a.1 b.1)
second_total = record {
  antisymm = λ a b. nat_cmp_total.antisymm a.1 b.1;
  trans = λ a b c. nat_cmp_total.trans a.1 b.1 c.1;
  congr = λ a b c. nat_cmp_total.congr a.1 b.1 c.1;
}

pub key_total : IsTotalOrder key_cmp
key_total = then_total first_total second_total

pub key_exact : IsAntisymmetric key_cmp
key_exact a b e = by (nat_cmp a.0 b.0) refl e
  where
    by : (o : Ordering) → nat_cmp a.0 b.0 ≡ o → ordering_then o (nat_cmp a.1 b.1) ≡ Equal → a ≡ b
    by Less is e' = cc
    by Equal is e' = λ i. (nat_cmp-IsAntisymmetric a.0 b.0 is i, nat_cmp-IsAntisymmetric a.1 b.1 e' i)
    by Greater is e' = cc

module _ {V : Type 0} where
  pub get-locks : (es : List (Key × V)) (q : Key) → get (from_entries {R = key_cmp} es) q ≡ lookup (λ k. is_eq (key_cmp q k)) es
  get-locks = get-seen key_total key_exact (eq_by_cmp key_cmp) (λ a b. refl)

  pub locks_insert : (es fs : List (Key × V)) (k : Key) (v : V)
      → ((q : Key) → lookup (λ x. is_eq (key_cmp q x)) fs ≡ cond (is_eq (key_cmp k q)) (Some v) (lookup (λ x. is_eq (key_cmp q x)) es))
      → from_entries {R = key_cmp} fs ≡ insert (from_entries es) k v
  locks_insert = seen_insert key_total key_exact (eq_by_cmp key_cmp) (λ a b. refl)

-- ---- the first of the entries that goes down, where the key may have a say in whether one does

abbrev pub Down : Type 0
Down = Key → Glock → Option State

abbrev pub any_down : Bool → Down
any_down u k = down_of u

abbrev pub down_behind : Key → Bool → Down
down_behind after u k g = cond (is_lt (key_cmp after k)) (down_of u g) None

abbrev pub first_down : Down → List (Key × Glock) → Option (Key × State)
first_down down [] = None
first_down down (e ∷ es) = option_map_or (λ to. Some (e.0, to)) (down e.0 e.1) (first_down down es)

reversed : (a b : Key) → key_cmp a b ≡ Less → key_cmp b a ≡ Greater
reversed a b e = key_total.antisymm b a ∙ ap ordering_reverse e

equal_from : (o : Ordering) → is_eq o ≡ true → o ≡ Equal
equal_from Less e = absurd (true≢false (sym e))
equal_from Equal e = refl
equal_from Greater e = absurd (true≢false (sym e))

equal_keys : (q k : Key) → is_eq (key_cmp q k) ≡ true → q ≡ k
equal_keys q k e = key_exact q k (equal_from (key_cmp q k) e)

own_key : (k : Key) → is_eq (key_cmp k k) ≡ true
own_key = tied key_total

some_pair : (x k : Key) (t to : State) → ◌≡◌ {A = Option (Key × State)} (Some (x, t)) (Some (k, to)) → (x ≡ k) × (t ≡ to)
some_pair x k t to e = (ap (λ o. (unwrap_or {T = Key × State} o (x, t)).0) e, ap (λ o. (unwrap_or {T = Key × State} o (x, t)).1) e)

-- a key that is found is one of the list
found_in : (P : Key → Type 0) (q : Key) (es : List (Key × Glock)) → is_some (lookup (λ x. is_eq (key_cmp q x)) es) ≡ true → AllByRecursion P (keys_of es) → P q
found_in P q [] h all = absurd (true≢false (sym h))
found_in P q (e ∷ es) h all = by (is_eq (key_cmp q e.0)) refl h (λ h'. found_in P q es h' all.1)
  where
    by : (t : Bool) → is_eq (key_cmp q e.0) ≡ t → is_some (cond t (Some e.1) (lookup (λ x. is_eq (key_cmp q x)) es)) ≡ true
        → (is_some (lookup (λ x. is_eq (key_cmp q x)) es) ≡ true → P q) → P q
    by true is h' rest = subst P (sym (equal_keys q e.0 is)) all.0
    by false is h' rest = rest h'

module _ (down : Down) where
  abbrev Found : List (Key × Glock) → Key → Option State
  Found es q = option_and_then (down q) (lookup (λ x. is_eq (key_cmp q x)) es)

  first_in : (P : Key → Type 0) (k : Key) (to : State) (es : List (Key × Glock)) → first_down down es ≡ Some (k, to) → AllByRecursion P (keys_of es) → P k
  first_in P k to [] h all = cc
  first_in P k to (e ∷ es) h all = by (down e.0 e.1) h (λ h'. first_in P k to es h' all.1)
    where
      by : (o : Option State) → option_map_or (λ t. Some (e.0, t)) o (first_down down es) ≡ Some (k, to) → (first_down down es ≡ Some (k, to) → P k) → P k
      by None h' rest = rest h'
      by (Some t) h' rest = let same : e.0 ≡ k = (some_pair e.0 k t to h').0 in subst P same all.0

  pub goes_at : (es : List (Key × Glock)) → IsStrictlySortedBy key_cmp (keys_of es) → (k : Key) (to : State) → first_down down es ≡ Some (k, to) → Found es k ≡ Some to
  unfolding IsStrictlySortedBy
  goes_at [] s k to h = cc
  goes_at (e ∷ es) s k to h = by (down e.0 e.1) refl h (goes_at es s.1 k to)
    where
      by : (o : Option State) → down e.0 e.1 ≡ o → option_map_or (λ t. Some (e.0, t)) o (first_down down es) ≡ Some (k, to)
          → (first_down down es ≡ Some (k, to) → Found es k ≡ Some to) → Found (e ∷ es) k ≡ Some to
      by None is h' rest =
          let above : key_cmp k e.0 ≡ Greater = reversed e.0 k (first_in (λ y. key_cmp e.0 y ≡ Less) k to es h' s.0) in
          ap (λ o. option_and_then (down k) (cond (is_eq o) (Some e.1) (lookup (λ x. is_eq (key_cmp k x)) es))) above ∙ rest h'
      by (Some t) is h' rest =
          let same : e.0 ≡ k = (some_pair e.0 k t to h').0 in
          let at : is_eq (key_cmp k e.0) ≡ true = subst (λ x. is_eq (key_cmp x e.0) ≡ true) same (own_key e.0) in
          ap (λ b. option_and_then (down k) (cond b (Some e.1) (lookup (λ x. is_eq (key_cmp k x)) es))) at ∙ ap (λ x. down x e.1) (sym same) ∙ is ∙ ap Some (some_pair e.0 k t to h').1

  pub least_at : (es : List (Key × Glock)) → IsStrictlySortedBy key_cmp (keys_of es) → (k : Key) (to : State) → first_down down es ≡ Some (k, to)
      → (q : Key) → is_some (Found es q) ≡ true → key_cmp q k ≡ Less → ⊥
  unfolding IsStrictlySortedBy
  least_at [] s k to h q goes less = true≢false (sym goes)
  least_at (e ∷ es) s k to h q goes less = by (down e.0 e.1) refl h (is_eq (key_cmp q e.0)) refl goes (λ h' g. least_at es s.1 k to h' q g less)
    where
      some_found : (o : Option Glock) → is_some (option_and_then (down q) o) ≡ true → is_some o ≡ true
      some_found None g = g
      some_found (Some x) g = refl

      by : (o : Option State) → down e.0 e.1 ≡ o → option_map_or (λ t. Some (e.0, t)) o (first_down down es) ≡ Some (k, to)
          → (t : Bool) → is_eq (key_cmp q e.0) ≡ t → is_some (option_and_then (down q) (cond t (Some e.1) (lookup (λ x. is_eq (key_cmp q x)) es))) ≡ true
          → (first_down down es ≡ Some (k, to) → is_some (Found es q) ≡ true → ⊥) → ⊥
      by None is h' true at g rest = true≢false (sym g ∙ ap is_some (ap (λ x. down x e.1) (equal_keys q e.0 at) ∙ is))
      by None is h' false at g rest = rest h' g
      by (Some t) is h' true at g rest =
          let same : e.0 ≡ k = (some_pair e.0 k t to h').0 in
          let tie : key_cmp q k ≡ Equal = subst (λ x. key_cmp q x ≡ Equal) same (equal_from (key_cmp q e.0) at) in
          let not : Less ≡ Equal = sym less ∙ tie in cc
      by (Some t) is h' false at g rest =
          let same : e.0 ≡ k = (some_pair e.0 k t to h').0 in
          let above : key_cmp q e.0 ≡ Greater = reversed e.0 q (found_in (λ y. key_cmp e.0 y ≡ Less) q es (some_found _ g) s.0) in
          let not : Less ≡ Greater = sym less ∙ subst (λ x. key_cmp q x ≡ Greater) same above in cc

  pub nothing_at : (es : List (Key × Glock)) → first_down down es ≡ None → (q : Key) → Found es q ≡ None
  nothing_at [] h q = refl
  nothing_at (e ∷ es) h q = by (down e.0 e.1) refl h (is_eq (key_cmp q e.0)) refl (λ h'. nothing_at es h' q)
    where
      by : (o : Option State) → down e.0 e.1 ≡ o → option_map_or (λ t. Some (e.0, t)) o (first_down down es) ≡ None
          → (t : Bool) → is_eq (key_cmp q e.0) ≡ t → (first_down down es ≡ None → Found es q ≡ None)
          → option_and_then (down q) (cond t (Some e.1) (lookup (λ x. is_eq (key_cmp q x)) es)) ≡ None
      by None is h' true at rest = ap (λ x. down x e.1) (equal_keys q e.0 at) ∙ is
      by None is h' false at rest = rest h'
      by (Some t) is h' b at rest = cc
