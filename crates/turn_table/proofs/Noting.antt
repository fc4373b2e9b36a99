-- Lemmas on notes.
use Rattle.std.proofs.Common.{◌≡◌, ◌≢◌, ℕ, zero, suc, ◌<◌, eq-eqb, ne_eqb, List, [], ◌∷◌, length, ◌⊎◌, inl, inr, ⊎_elim, Option, slice_index_or, refl, sym, ap, ◌∙◌, subst, arith, Some, None, Contains}
use native.Mathlib.Decide.{ℕ_discrete}
use Rattle.turn_table.specs.Notes.{noted, without, brought, keys, emptied, AllBelow}
use Rattle.turn_table.specs.Keeping.{Apart}

module _ {X : Type 0} where
  pub noted_here : (p : ℕ) (x : X) (ts : List (ℕ × X)) → noted p ((p, x) ∷ ts) ≡ Some x
  noted_here p x ts = rw (eq-eqb p p refl)

  pub noted_else : (q : ℕ) (t : ℕ × X) (ts : List (ℕ × X)) → q ≢ t.0 → noted q (t ∷ ts) ≡ noted q ts
  noted_else q t ts n = rw (ne_eqb t.0 q (λ e. n (sym e)))

  -- the note in front is the one, or it is on another part
  pub noted_cases : (q : ℕ) (t : ℕ × X) (ts : List (ℕ × X)) (x : X) → noted q (t ∷ ts) ≡ Some x → ((t.0 ≡ q) × (t.1 ≡ x)) ⊎ ((t.0 ≢ q) × (noted q ts ≡ Some x))
  noted_cases q t ts x e = go (ℕ_discrete t.0 q)
    where
      go : Dec (t.0 ≡ q) → ((t.0 ≡ q) × (t.1 ≡ x)) ⊎ ((t.0 ≢ q) × (noted q ts ≡ Some x))
      go (yes s) = let e' = rw (eq-eqb t.0 q s) at e in inl (s, cc)
      go (no n) = inr (n, rw (ne_eqb t.0 q n) at e)

  pub without_front : (p : ℕ) (t : ℕ × X) (ts : List (ℕ × X)) → t.0 ≡ p → without p (t ∷ ts) ≡ ts
  without_front p t ts e = rw (eq-eqb t.0 p e)

  pub without_else : (p : ℕ) (t : ℕ × X) (ts : List (ℕ × X)) → t.0 ≢ p → without p (t ∷ ts) ≡ t ∷ without p ts
  without_else p t ts n = rw (ne_eqb t.0 p n)

  pub noted-without_else : (q p : ℕ) → q ≢ p → (ts : List (ℕ × X)) → noted q (without p ts) ≡ noted q ts
  noted-without_else q p n [] = refl
  noted-without_else q p n (t ∷ ts) = go (noted-without_else q p n ts) (ℕ_discrete t.0 p) (ℕ_discrete t.0 q)
    where
      go : noted q (without p ts) ≡ noted q ts → Dec (t.0 ≡ p) → Dec (t.0 ≡ q) → noted q (without p (t ∷ ts)) ≡ noted q (t ∷ ts)
      go more (yes e) d = rw (without_front p t ts e) (sym (noted_else q t ts (λ s. n (s ∙ e))))
      go more (no m) (yes e) = rw (without_else p t ts m, eq-eqb t.0 q e)
      go more (no m) (no k) = rw (without_else p t ts m, ne_eqb t.0 q k) more

  pub brought_is : (p : ℕ) (ts : List (ℕ × X)) (x : X) → noted p ts ≡ Some x → brought p ts ≡ (p, x) ∷ without p ts
  brought_is p ts x e = rw e

  pub brought_none : (p : ℕ) (ts : List (ℕ × X)) → noted p ts ≡ None → brought p ts ≡ ts
  brought_none p ts e = rw e

  -- with no two notes on one part, none is left
  pub noted-without_same : (p : ℕ) (ts : List (ℕ × X)) → Apart ts → noted p (without p ts) ≡ None
  noted-without_same p [] a = refl
  noted-without_same p (t ∷ ts) a = go (noted-without_same p ts a.1) (ℕ_discrete t.0 p)
    where
      go : noted p (without p ts) ≡ None → Dec (t.0 ≡ p) → noted p (without p (t ∷ ts)) ≡ None
      go more (yes e) = rw (without_front p t ts e) (subst (λ (q : ℕ). noted q ts ≡ None) e a.0)
      go more (no m) = rw (without_else p t ts m, ne_eqb t.0 p m) more

  pub Apart-without : (p : ℕ) (ts : List (ℕ × X)) → Apart ts → Apart (without p ts)
  Apart-without p [] a = tt
  Apart-without p (t ∷ ts) a = go (Apart-without p ts a.1) (ℕ_discrete t.0 p)
    where
      go : Apart (without p ts) → Dec (t.0 ≡ p) → Apart (without p (t ∷ ts))
      go more (yes e) = rw (without_front p t ts e) a.1
      go more (no m) = rw (without_else p t ts m) (noted-without_else t.0 p m ts ∙ a.0, more)

  pub noted-brought : (q p : ℕ) (ts : List (ℕ × X)) → noted q (brought p ts) ≡ noted q ts
  noted-brought q p ts = go (noted p ts) refl
    where
      go : (o : Option X) → noted p ts ≡ o → noted q (brought p ts) ≡ noted q ts
      go None e = rw (brought_none p ts e)
      go (Some x) e = rw (brought_is p ts x e) (at (ℕ_discrete p q))
        where
          at : Dec (p ≡ q) → noted q ((p, x) ∷ without p ts) ≡ noted q ts
          at (yes s) = rw (eq-eqb p q s) (sym (subst (λ (k : ℕ). noted k ts ≡ Some x) s e))
          at (no n) = rw (ne_eqb p q n) (noted-without_else q p (λ s. n (sym s)) ts)

  pub Apart-brought : (p : ℕ) (ts : List (ℕ × X)) → Apart ts → Apart (brought p ts)
  Apart-brought p ts a = go (noted p ts) refl
    where
      go : (o : Option X) → noted p ts ≡ o → Apart (brought p ts)
      go None e = rw (brought_none p ts e) a
      go (Some x) e = rw (brought_is p ts x e) (noted-without_same p ts a, Apart-without p ts a)

  pub contains_front : (t : ℕ × X) (ts : List (ℕ × X)) → Contains (t ∷ ts) t
  contains_front t ts = (0, omega arith, refl)

  pub contains_behind : (t x : ℕ × X) (ts : List (ℕ × X)) → Contains ts x → Contains (t ∷ ts) x
  contains_behind t x ts c = (suc c.0, (let h = c.1 in omega arith), c.2)

  pub contains_cases : (t x : ℕ × X) (ts : List (ℕ × X)) → Contains (t ∷ ts) x → (t ≡ x) ⊎ Contains ts x
  contains_cases t x ts c = go c.0 c.1 c.2
    where
      go : (k : ℕ) → k < suc (length ts) → slice_index_or (t ∷ ts) k x ≡ x → (t ≡ x) ⊎ Contains ts x
      go zero h e = inl e
      go (suc k) h e = inr (k, omega arith, e)

-- lists with the same keys have notes on the same parts
pub tied : {X Y : Type 0} (q : ℕ) (c : List (ℕ × Y)) (ts : List (ℕ × X)) → keys c ≡ keys ts
    → ((noted q c ≡ None) × (noted q ts ≡ None)) ⊎ ((y : Y) × (x : X) × (noted q c ≡ Some y) × (noted q ts ≡ Some x))
tied q [] [] e = inl (refl, refl)
tied q [] (t ∷ ts) e = absurd (cc)
tied q (y ∷ c) [] e = absurd (cc)
tied {X} {Y} q (y ∷ c) (t ∷ ts) e = go (tied q c ts (cc)) (ℕ_discrete t.0 q)
  where
    go : ((noted q c ≡ None) × (noted q ts ≡ None)) ⊎ ((z : Y) × (x : X) × (noted q c ≡ Some z) × (noted q ts ≡ Some x)) → Dec (t.0 ≡ q)
        → ((noted q (y ∷ c) ≡ None) × (noted q (t ∷ ts) ≡ None)) ⊎ ((z : Y) × (x : X) × (noted q (y ∷ c) ≡ Some z) × (noted q (t ∷ ts) ≡ Some x))
    go more (yes s) = let same : y.0 ≡ t.0 = cc in inr (y.1, t.1, rw (eq-eqb y.0 q (same ∙ s)), rw (eq-eqb t.0 q s))
    go more (no n) = let same : y.0 ≡ t.0 = cc in rw (ne_eqb y.0 q (λ s. n (sym same ∙ s)), ne_eqb t.0 q n) more

-- with keys as those of notes apart, notes are apart
pub apart_tied : {X Y : Type 0} (c : List (ℕ × Y)) (ts : List (ℕ × X)) → keys c ≡ keys ts → Apart ts → Apart c
apart_tied [] ts e a = tt
apart_tied (y ∷ c) [] e a = absurd (cc)
apart_tied {X} {Y} (y ∷ c) (t ∷ ts) e a =
    let here : t.0 ≡ y.0 = cc in let more : keys c ≡ keys ts = cc in let none : noted y.0 ts ≡ None = subst (λ (q : ℕ). noted q ts ≡ None) here a.0 in
    (⊎_elim (λ (h : (noted y.0 c ≡ None) × (noted y.0 ts ≡ None)). h.0) (λ (h : (z : Y) × (x : X) × (noted y.0 c ≡ Some z) × (noted y.0 ts ≡ Some x)). let k = h.3 in absurd (cc)) (tied y.0 c ts more), apart_tied c ts more a.1)

module _ {X : Type 0} where
  pub noted_below : (n p : ℕ) (ts : List (ℕ × X)) (x : X) → AllBelow n ts → noted p ts ≡ Some x → p < n
  noted_below n p [] x b e = absurd (cc)
  noted_below n p (t ∷ ts) x b e = ⊎_elim (λ (h : (t.0 ≡ p) × (t.1 ≡ x)). subst (λ (k : ℕ). k < n) h.0 b.0) (λ (h : (t.0 ≢ p) × (noted p ts ≡ Some x)). noted_below n p ts x b.1 h.1) (noted_cases p t ts x e)

  pub AllBelow-without : (n p : ℕ) (ts : List (ℕ × X)) → AllBelow n ts → AllBelow n (without p ts)
  AllBelow-without n p [] b = tt
  AllBelow-without n p (t ∷ ts) b = go (AllBelow-without n p ts b.1) (ℕ_discrete t.0 p)
    where
      go : AllBelow n (without p ts) → Dec (t.0 ≡ p) → AllBelow n (without p (t ∷ ts))
      go more (yes e) = rw (without_front p t ts e) b.1
      go more (no m) = rw (without_else p t ts m) (b.0, more)

  pub keys-without : {Y : Type 0} (p : ℕ) (c : List (ℕ × Y)) (ts : List (ℕ × X)) → keys c ≡ keys ts → keys (without p c) ≡ keys (without p ts)
  keys-without p [] [] e = refl
  keys-without p [] (t ∷ ts) e = absurd (cc)
  keys-without p (y ∷ c) [] e = absurd (cc)
  keys-without {Y} p (y ∷ c) (t ∷ ts) e = go (keys-without p c ts (cc)) (ℕ_discrete t.0 p)
    where
      go : keys (without p c) ≡ keys (without p ts) → Dec (t.0 ≡ p) → keys (without p (y ∷ c)) ≡ keys (without p (t ∷ ts))
      go more (yes s) = let same : y.0 ≡ t.0 = cc in rw (without_front p y c (same ∙ s), without_front p t ts s) (cc)
      go more (no n) = let same : y.0 ≡ t.0 = cc in rw (without_else p y c (λ s. n (sym same ∙ s)), without_else p t ts n) (λ i. same i ∷ more i)

  pub keys-emptied : (ts : List (ℕ × X)) → keys (emptied ts) ≡ keys ts
  keys-emptied [] = refl
  keys-emptied (t ∷ ts) = ap (λ ks. t.0 ∷ ks) (keys-emptied ts)

  pub noted-emptied : (p : ℕ) (ts : List (ℕ × X)) (x : X) → noted p ts ≡ Some x → noted p (emptied ts) ≡ Some None
  noted-emptied p [] x e = absurd (cc)
  noted-emptied p (t ∷ ts) x e = go (noted-emptied p ts x) (ℕ_discrete t.0 p)
    where
      go : (noted p ts ≡ Some x → noted p (emptied ts) ≡ Some None) → Dec (t.0 ≡ p) → noted p (emptied (t ∷ ts)) ≡ Some None
      go more (yes s) = rw (eq-eqb t.0 p s)
      go more (no n) = rw (ne_eqb t.0 p n) (more (rw (ne_eqb t.0 p n) at e))

  pub without-emptied : (p : ℕ) (ts : List (ℕ × X)) → without p (emptied ts) ≡ emptied (without p ts)
  without-emptied p [] = refl
  without-emptied p (t ∷ ts) = go (without-emptied p ts) (ℕ_discrete t.0 p)
    where
      go : without p (emptied ts) ≡ emptied (without p ts) → Dec (t.0 ≡ p) → without p (emptied (t ∷ ts)) ≡ emptied (without p (t ∷ ts))
      go more (yes s) = rw (eq-eqb t.0 p s)
      go more (no n) = rw (ne_eqb t.0 p n) (ap (λ c. (t.0, None) ∷ c) more)
