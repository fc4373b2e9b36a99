-- What a map from locks has after a write.
use Rattle.std.proofs.Common.{ℕ, ◌≡◌, ◌≢◌, Bool, true, false, List, [], ◌∷◌, Option, Some, None, cond, refl, sym, ap, ◌∙◌, inl, inr, ◌⊎◌}
use Rattle.std.specs.Prelude.{◌==◌, ◌&&◌}
use Rattle.std.specs.Map.{set_value}
use Rattle.std.proofs.lemmas.Bool.Decides.{eqb_tells}
use Rattle.glock_names.specs.declared.LockName.{LockName}
use Rattle.glock_names.specs.LockMaps.{same_lock, at_lock, with_lock}

-- two names are of one lock exactly where they are equal
pub same_lock_tells : (a b : LockName) → ((same_lock a b ≡ true) × (a ≡ b)) ⊎ ((same_lock a b ≡ false) × (a ≢ b))
same_lock_tells a b =
    elim (eqb_tells a.kind b.kind) [
      | inl e ↦ elim (eqb_tells a.number b.number) [
        | inl f ↦ inl (ap (λ t. t && (a.number == b.number)) e.0 ∙ f.0, λ i. record { kind = e.1 i; number = f.1 i })
        | inr g ↦ inr (ap (λ t. t && (a.number == b.number)) e.0 ∙ g.0, λ p. g.1 (ap (λ (l : LockName). l.number) p))
      ]
      | inr g ↦ inr (ap (λ t. t && (a.number == b.number)) g.0, λ p. g.1 (ap (λ (l : LockName). l.kind) p))
    ]

module _ {A : Type 0} where
  -- the lock that is written has the new value
  pub at_lock-with_same : (m : List (LockName × A)) (lock : LockName) (x : A) → at_lock (with_lock m lock x) lock ≡ Some x
  at_lock-with_same [] lock x = elim (same_lock_tells lock lock) [ inl e ↦ rw e.0 refl | inr n ↦ absurd (n.1 refl) ]
  at_lock-with_same (e ∷ es) lock x = by (same_lock lock e.0) refl (at_lock-with_same es lock x)
    where
      by : (b : Bool) → same_lock lock e.0 ≡ b → at_lock (with_lock es lock x) lock ≡ Some x → at_lock (with_lock (e ∷ es) lock x) lock ≡ Some x
      by true h rest = rw h (rw h refl)
      by false h rest = rw h (rw h rest)

  -- and each other lock has what it had
  pub at_lock-with_other : (m : List (LockName × A)) (lock other : LockName) (x : A) → other ≢ lock → at_lock (with_lock m lock x) other ≡ at_lock m other
  at_lock-with_other [] lock other x ne = elim (same_lock_tells other lock) [ inl e ↦ absurd (ne e.1) | inr n ↦ rw n.0 refl ]
  at_lock-with_other (e ∷ es) lock other x ne = by (same_lock lock e.0) refl (at_lock-with_other es lock other x ne)
    where
      by : (b : Bool) → same_lock lock e.0 ≡ b → at_lock (with_lock es lock x) other ≡ at_lock es other → at_lock (with_lock (e ∷ es) lock x) other ≡ at_lock (e ∷ es) other
      by true h rest = elim (same_lock_tells lock e.0) [
        | inl here ↦ elim (same_lock_tells other e.0) [
          | inl there ↦ absurd (ne (there.1 ∙ sym here.1))
          | inr away ↦ rw h (rw away.0 refl)
        ]
        | inr away ↦ absurd (let f : true ≡ false = sym h ∙ away.0 in cc)
      ]
      by false h rest = rw h (ap (λ r. cond (same_lock other e.0) (Some e.1) r) rest)

  -- whatever writes as `with_lock` writes, entry by entry, is `with_lock`
  pub with_lock-unique : (f : List (LockName × A) → LockName → A → List (LockName × A))
      → ((lock : LockName) (x : A) → f [] lock x ≡ (lock, x) ∷ [])
      → ((e : LockName × A) (es : List (LockName × A)) (lock : LockName) (x : A) → f (e ∷ es) lock x ≡ cond (same_lock lock e.0) ((e.0, x) ∷ es) (e ∷ f es lock x))
      → (m : List (LockName × A)) (lock : LockName) (x : A) → f m lock x ≡ with_lock m lock x
  with_lock-unique f first rest [] lock x = first lock x
  with_lock-unique f first rest (e ∷ es) lock x = rest e es lock x ∙ ap (λ r. cond (same_lock lock e.0) ((e.0, x) ∷ es) (e ∷ r)) (with_lock-unique f first rest es lock x)

  -- a write at the value that the map has at a lock
  pub set_value-with_lock : (m : List (LockName × A)) (lock : LockName) (x w : A) → at_lock m lock ≡ Some x → set_value (same_lock lock) m w ≡ with_lock m lock w
  set_value-with_lock [] lock x w e = absurd (let f : None ≡ Some x = e in cc)
  set_value-with_lock (k ∷ es) lock x w e = by (same_lock lock k.0) refl (set_value-with_lock es lock x w)
    where
      by : (b : Bool) → same_lock lock k.0 ≡ b → (at_lock es lock ≡ Some x → set_value (same_lock lock) es w ≡ with_lock es lock w) → set_value (same_lock lock) (k ∷ es) w ≡ with_lock (k ∷ es) lock w
      by true h rest = rw h refl
      by false h rest = rw h (ap (λ (l : List (LockName × A)). k ∷ l) (rest (rw h at e)))

  -- and a write of what is there
  pub set_value-same : (m : List (LockName × A)) (lock : LockName) (x : A) → at_lock m lock ≡ Some x → set_value (same_lock lock) m x ≡ m
  set_value-same [] lock x e = absurd (let f : None ≡ Some x = e in cc)
  set_value-same (k ∷ es) lock x e = by (same_lock lock k.0) refl (set_value-same es lock x)
    where
      inside : {a b : A} → Some a ≡ Some b → a ≡ b
      inside p = cc

      by : (b : Bool) → same_lock lock k.0 ≡ b → (at_lock es lock ≡ Some x → set_value (same_lock lock) es x ≡ es) → set_value (same_lock lock) (k ∷ es) x ≡ k ∷ es
      by true h rest = let s : Some k.1 ≡ Some x = rw h at e in rw h (ap (λ (v : A). (k.0, v) ∷ es) (sym (inside s)))
      by false h rest = rw h (ap (λ (l : List (LockName × A)). k ∷ l) (rest (rw h at e)))
