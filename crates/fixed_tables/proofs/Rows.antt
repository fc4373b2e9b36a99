-- Rows by rising number, as the finite map that they stand for: what a search finds, and what a row more or less leaves.
use Rattle.std.proofs.Common.{◌≡◌, ℕ, zero, suc, ◌+◌, ◌<◌, ◌≤◌, Bool, true, false, cond, T, ◌&&◌, not, List, [], ◌∷◌, None, Some, Result, Ok, Err, inl, inr, IfOk, IfErr, refl, sym, ap, subst, ◌∙◌, length, get_or, set, arith}
use Rattle.std.specs.declared.cmp.Ordering.{Ordering}
use Rattle.std.specs.declared.cmp.Ordering.TheVariants.{Less, Equal, Greater}
use Rattle.std.specs.Cmp.{nat_cmp_is}
use Rattle.std.specs.List.{insert, remove}
use Rattle.std.specs.List.Sorted.{IsBinarySearchResult, IsNonDecreasingBy, IsSearchInRange}
use Rattle.std.specs.Ordering.{nat_cmp, is_eq, is_lt, eq_by_cmp, ordering_index}
use Rattle.std.specs.Result.{MatchResult}
use Rattle.std.specs.FinMap.{find, put, is_sorted}
use Rattle.std.specs.FinMap.Entries.{below_all, by_order, where_key}
use Rattle.std.proofs.lemmas.Bool.{cases_lt}
use Rattle.std.proofs.lemmas.Cmp.{nat_cmp_total, ranked}
use Rattle.std.proofs.lemmas.List.Sorted.{searchable_from_sorted}
use Rattle.fixed_tables.specs.Rows.{IsAt, IsBetween}

pub both : (a b : Bool) → T a → T b → T (a && b)
both true b p q = q
both false b p q = p

pub first : (a b : Bool) → T (a && b) → T a
first true b h = tt
first false b h = h

pub second : (a b : Bool) → T (a && b) → T b
second true b h = h
second false b h = absurd h

below : (x y : ℕ) → x < y → nat_cmp x y ≡ Less
below x y h = sym (nat_cmp_is x y Less h)

same : (x y : ℕ) → x ≡ y → nat_cmp x y ≡ Equal
same x y e = sym (nat_cmp_is x y Equal e)

above : (x y : ℕ) → y < x → nat_cmp x y ≡ Greater
above x y h = sym (nat_cmp_is x y Greater h)

less_tells : (x y : ℕ) → T (is_lt (nat_cmp x y)) → x < y
less_tells x y = by (nat_cmp x y) refl
  where
    by : (r : Ordering) → r ≡ nat_cmp x y → T (is_lt r) → x < y
    by Less e h = ranked x y Less e
    by Equal e h = absurd h
    by Greater e h = absurd h

equal_tells : (x y : ℕ) → nat_cmp x y ≡ Equal → x ≡ y
equal_tells x y e = ranked x y Equal (sym e)

pub tied : (q k : ℕ) → q ≡ k → eq_by_cmp nat_cmp q k ≡ true
tied q k e = ap is_eq (same q k e)

pub untied : (q k : ℕ) → (q ≡ k → ⊥) → eq_by_cmp nat_cmp q k ≡ false
untied q k ne = by (nat_cmp q k) refl
  where
    by : (r : Ordering) → r ≡ nat_cmp q k → is_eq r ≡ false
    by Less e = refl
    by Equal e = absurd (ne (ranked q k Equal e))
    by Greater e = refl

apart : (k x : ℕ) → x < k → eq_by_cmp nat_cmp k x ≡ false
apart k x h = ap is_eq (above k x h)

-- a result's own part
module _ {A B : Type 0} (P : A → Type 0) (Q : B → Type 0) where
  pub ok_part : (r : Result A B) → MatchResult r P Q → IfOk r P
  ok_part (Ok x) h = h
  ok_part (Err e) h = tt

  pub err_part : (r : Result A B) → MatchResult r P Q → IfErr r Q
  err_part (Ok x) h = tt
  err_part (Err e) h = h

module _ {V : Type 0} where
  pub above_all : (k : ℕ) (es : List (ℕ × V)) → T (below_all nat_cmp k es) → (i : ℕ) (d : ℕ × V) → i < length es → k < (get_or es i d).0
  above_all k [] h i d inn = absurd (omega arith)
  above_all k (e ∷ es) h zero d inn = less_tells k e.0 (first _ _ h)
  above_all k (e ∷ es) h (suc i) d inn = above_all k es (second _ _ h) i d (omega arith)

  -- the numbers rise
  pub rising : (es : List (ℕ × V)) → T (is_sorted nat_cmp es) → (i j : ℕ) (d : ℕ × V) → i < j → j < length es → (get_or es i d).0 < (get_or es j d).0
  rising [] h i j d less inn = absurd (omega arith)
  rising (e ∷ es) h zero zero d less inn = absurd (omega arith)
  rising (e ∷ es) h zero (suc j) d less inn = above_all e.0 es (first _ _ h) j d (omega arith)
  rising (e ∷ es) h (suc i) zero d less inn = absurd (omega arith)
  rising (e ∷ es) h (suc i) (suc j) d less inn = rising es (second _ _ h) i j d (omega arith) (omega arith)

  searchable : (es : List (ℕ × V)) (k : ℕ) → T (is_sorted nat_cmp es) → IsNonDecreasingBy (λ (y : ℕ × V). ordering_index (nat_cmp y.0 k)) es
  searchable es k h =
      searchable_from_sorted nat_cmp_total (λ (e : ℕ × V). e.0) es k (λ i d low inn. ap is_lt (above _ _ (rising es h i (i + 1) d (omega arith) inn)))

  -- what a binary search by the numbers finds
  pub searched : (es : List (ℕ × V)) (k : ℕ) (r : Result ℕ ℕ) → T (is_sorted nat_cmp es) → IsSearchInRange r (length es) → IsBinarySearchResult (λ (y : ℕ × V). nat_cmp y.0 k) es r
      → MatchResult r (λ i. IsAt es i k) (λ i. IsBetween es i k)
  searched es k (Ok i) h inn is = record { inside = inn; here = λ d. equal_tells _ k (is d) }
  searched es k (Err i) h inn is =
      let parts = is (searchable es k h) in
      record {
        inside = inn;
        below = λ j d less. ranked _ k Less (sym (parts.0 j d (omega arith) less));
        above = λ j d from to. ranked _ k Greater (sym (parts.1 j d from to));
      }

  -- ---- where the number stands

  pub find_at : (es : List (ℕ × V)) (k i : ℕ) (d : ℕ × V) → T (is_sorted nat_cmp es) → i < length es → (get_or es i d).0 ≡ k → find nat_cmp k es ≡ Some (get_or es i d).1
  find_at [] k i d h inn here = absurd (omega arith)
  find_at (e ∷ es) k zero d h inn here = ap (λ (o : Ordering). cond (is_eq o) (Some e.1) (find nat_cmp k es)) (same k e.0 (sym here))
  find_at (e ∷ es) k (suc i) d h inn here =
      ap (λ b. cond b (Some e.1) (find nat_cmp k es)) (apart k e.0 (subst (λ n. e.0 < n) here (above_all e.0 es (first _ _ h) i d (omega arith))))
      ∙ find_at es k i d (second _ _ h) (omega arith) here

  pub put_at : (es : List (ℕ × V)) (k i : ℕ) (v : V) (d : ℕ × V) → T (is_sorted nat_cmp es) → i < length es → (get_or es i d).0 ≡ k → put nat_cmp k v es ≡ set es i ((get_or es i d).0, v)
  put_at [] k i v d h inn here = absurd (omega arith)
  put_at (e ∷ es) k zero v d h inn here = ap (λ (o : Ordering). by_order o ((k, v) ∷ e ∷ es) ((e.0, v) ∷ es) (e ∷ put nat_cmp k v es)) (same k e.0 (sym here))
  put_at (e ∷ es) k (suc i) v d h inn here =
      ap (λ (o : Ordering). by_order o ((k, v) ∷ e ∷ es) ((e.0, v) ∷ es) (e ∷ put nat_cmp k v es)) (above k e.0 (subst (λ n. e.0 < n) here (above_all e.0 es (first _ _ h) i d (omega arith))))
      ∙ ap (λ (xs : List (ℕ × V)). e ∷ xs) (put_at es k i v d (second _ _ h) (omega arith) here)

  none_goes : (k : ℕ) (es : List (ℕ × V)) → T (below_all nat_cmp k es) → where_key nat_cmp (λ x. not (eq_by_cmp nat_cmp k x)) es ≡ es
  none_goes k [] h = refl
  none_goes k (e ∷ es) h =
      ap (λ (o : Ordering). cond (not (is_eq o)) (e ∷ where_key nat_cmp (λ x. not (eq_by_cmp nat_cmp k x)) es) (where_key nat_cmp (λ x. not (eq_by_cmp nat_cmp k x)) es)) (below k e.0 (less_tells k e.0 (first _ _ h)))
      ∙ ap (λ (xs : List (ℕ × V)). e ∷ xs) (none_goes k es (second _ _ h))

  pub remove_at : (es : List (ℕ × V)) (k i : ℕ) (d : ℕ × V) → T (is_sorted nat_cmp es) → i < length es → (get_or es i d).0 ≡ k → where_key nat_cmp (λ x. not (eq_by_cmp nat_cmp k x)) es ≡ remove es i
  remove_at [] k i d h inn here = absurd (omega arith)
  remove_at (e ∷ es) k zero d h inn here =
      ap (λ (o : Ordering). cond (not (is_eq o)) (e ∷ where_key nat_cmp (λ x. not (eq_by_cmp nat_cmp k x)) es) (where_key nat_cmp (λ x. not (eq_by_cmp nat_cmp k x)) es)) (same k e.0 (sym here))
      ∙ none_goes k es (subst (λ n. T (below_all nat_cmp n es)) here (first _ _ h))
  remove_at (e ∷ es) k (suc i) d h inn here =
      ap (λ (o : Ordering). cond (not (is_eq o)) (e ∷ where_key nat_cmp (λ x. not (eq_by_cmp nat_cmp k x)) es) (where_key nat_cmp (λ x. not (eq_by_cmp nat_cmp k x)) es))
      (above k e.0 (subst (λ n. e.0 < n) here (above_all e.0 es (first _ _ h) i d (omega arith))))
      ∙ ap (λ (xs : List (ℕ × V)). e ∷ xs) (remove_at es k i d (second _ _ h) (omega arith) here)

  -- ---- where it stands nowhere

  pub find_between : (es : List (ℕ × V)) (k : ℕ) → ((j : ℕ) (d : ℕ × V) → j < length es → (get_or es j d).0 ≡ k → ⊥) → find nat_cmp k es ≡ None
  find_between [] k none = refl
  find_between (e ∷ es) k none =
      ap (λ b. cond b (Some e.1) (find nat_cmp k es)) (by (nat_cmp k e.0) refl) ∙ find_between es k (λ j d inn. none (suc j) d (omega arith))
    where
      by : (r : Ordering) → r ≡ nat_cmp k e.0 → is_eq r ≡ false
      by Less q = refl
      by Equal q = absurd (none zero e (omega arith) (sym (ranked k e.0 Equal q)))
      by Greater q = refl

  pub put_between : (es : List (ℕ × V)) (k i : ℕ) (v : V) → i ≤ length es → ((j : ℕ) (d : ℕ × V) → j < i → (get_or es j d).0 < k) → ((j : ℕ) (d : ℕ × V) → i ≤ j → j < length es → k < (get_or es j d).0)
      → put nat_cmp k v es ≡ insert es i (k, v)
  put_between [] k zero v inn lower higher = refl
  put_between [] k (suc i) v inn lower higher = absurd (omega arith)
  put_between (e ∷ es) k zero v inn lower higher =
      ap (λ (o : Ordering). by_order o ((k, v) ∷ e ∷ es) ((e.0, v) ∷ es) (e ∷ put nat_cmp k v es)) (below k e.0 (higher zero e (omega arith) (omega arith)))
  put_between (e ∷ es) k (suc i) v inn lower higher =
      ap (λ (o : Ordering). by_order o ((k, v) ∷ e ∷ es) ((e.0, v) ∷ es) (e ∷ put nat_cmp k v es)) (above k e.0 (lower zero e (omega arith)))
      ∙ ap (λ (xs : List (ℕ × V)). e ∷ xs) (put_between es k i v (omega arith) (λ j d less. lower (suc j) d (omega arith)) (λ j d from to. higher (suc j) d (omega arith) (omega arith)))

  pub remove_between : (es : List (ℕ × V)) (k : ℕ) → ((j : ℕ) (d : ℕ × V) → j < length es → (get_or es j d).0 ≡ k → ⊥) → where_key nat_cmp (λ x. not (eq_by_cmp nat_cmp k x)) es ≡ es
  remove_between [] k none = refl
  remove_between (e ∷ es) k none =
      ap (λ b. cond b (e ∷ where_key nat_cmp (λ x. not (eq_by_cmp nat_cmp k x)) es) (where_key nat_cmp (λ x. not (eq_by_cmp nat_cmp k x)) es)) (by (nat_cmp k e.0) refl)
      ∙ ap (λ (xs : List (ℕ × V)). e ∷ xs) (remove_between es k (λ j d inn. none (suc j) d (omega arith)))
    where
      by : (r : Ordering) → r ≡ nat_cmp k e.0 → not (is_eq r) ≡ true
      by Less q = refl
      by Equal q = absurd (none zero e (omega arith) (sym (ranked k e.0 Equal q)))
      by Greater q = refl

  -- a number that would stand between rows stands at none
  pub nowhere : (es : List (ℕ × V)) (k i : ℕ) → IsBetween es i k → (j : ℕ) (d : ℕ × V) → j < length es → (get_or es j d).0 ≡ k → ⊥
  nowhere es k i between j d inn e = elim (cases_lt j i) [
    | inl low ↦ let less : (get_or es j d).0 < k = between.below j d low in absurd (omega arith)
    | inr high ↦ let more : k < (get_or es j d).0 = between.above j d high inn in absurd (omega arith)
  ]
