-- What a change of one shelf leaves on all of them.
use Rattle.std.proofs.Common.{◌≡◌, ◌≢◌, ℕ, Bool, true, false, cond, ◌&&◌, ◌==◌, List, [], Option, Some, None, Result, Ok, Err, OnOk, OnErr, refl, sym, ap, ◌∙◌, ◌⊎◌, inl, inr}
use Rattle.std.specs.Prelude.{unwrap_or}
use Rattle.std.specs.Option.{option_copied_mut}
use Rattle.std.specs.Map.{lookup}
use mathlib.Core.Bool.{beq}
use denote.MutBor.{MutBor}
use Rattle.glock_names.proofs.LockMapLaws.{same_lock_tells}
use Rattle.block_cache.specs.declared.shelves.ShelfName.{ShelfName}
use Rattle.block_cache.specs.Shelving.{has, same_shelf, Shelved, on_shelf}

beq_tells : (a b : Bool) → ((beq a b ≡ true) × (a ≡ b)) ⊎ ((beq a b ≡ false) × (a ≢ b))
beq_tells true true = inl (refl, refl)
beq_tells false false = inl (refl, refl)
beq_tells true false = inr (refl, λ e. cc)
beq_tells false true = inr (refl, λ e. cc)

-- two names are of one shelf exactly where they are equal
pub same_shelf_tells : (a b : ShelfName) → ((same_shelf a b ≡ true) × (a ≡ b)) ⊎ ((same_shelf a b ≡ false) × (a ≢ b))
same_shelf_tells a b =
    elim (same_lock_tells a.lock b.lock) [
      | inl e ↦ elim (beq_tells a.plain b.plain) [
        | inl f ↦ inl (ap (λ t. t && beq a.plain b.plain) e.0 ∙ f.0, λ i. record { lock = e.1 i; plain = f.1 i })
        | inr g ↦ inr (ap (λ t. t && beq a.plain b.plain) e.0 ∙ g.0, λ p. g.1 (ap (λ (n : ShelfName). n.plain) p))
      ]
      | inr g ↦ inr (ap (λ t. t && beq a.plain b.plain) g.0, λ p. g.1 (ap (λ (n : ShelfName). n.lock) p))
    ]

abbrev pub at_shelf : Shelved → ShelfName → Option (List ℕ)
at_shelf shelves name = lookup (same_shelf name) shelves

-- what `get_mut` lent is what the map has
pub lent : (shelves : Shelved) (name : ShelfName) (r : Option (MutBor (List ℕ))) (found : MutBor (List ℕ)) → option_copied_mut r ≡ at_shelf shelves name → r ≡ Some found
    → at_shelf shelves name ≡ Some found.now
lent shelves name r found value is = sym value ∙ ap option_copied_mut is

pub absent : (shelves : Shelved) (name : ShelfName) (r : Option (MutBor (List ℕ))) → option_copied_mut r ≡ at_shelf shelves name → r ≡ None → at_shelf shelves name ≡ None
absent shelves name r value is = sym value ∙ ap option_copied_mut is

pub on-found : (shelves : Shelved) (name : ShelfName) (found : Option (List ℕ)) → at_shelf shelves name ≡ found → (b : ℕ) → on_shelf shelves name b ≡ has (unwrap_or found []) b
on-found shelves name found is b = ap (λ o. has (unwrap_or o []) b) is

-- one shelf was written, or is gone
abbrev pub Sets : Shelved → Shelved → ShelfName → Option (List ℕ) → Type 0
Sets old new name w = (q : ShelfName) → at_shelf new q ≡ cond (same_shelf name q) w (at_shelf old q)

pub set_shelf : (old new : Shelved) (name : ShelfName) (w : Option (List ℕ)) → Sets old new name w
    → (s : ShelfName) (b : ℕ) → on_shelf new s b ≡ cond (same_shelf name s) (has (unwrap_or w []) b) (on_shelf old s b)
set_shelf old new name w sets s b = ap (λ o. has (unwrap_or o []) b) (sets s) ∙ by (same_shelf name s)
  where
    by : (t : Bool) → has (unwrap_or (cond t w (at_shelf old s)) []) b ≡ cond t (has (unwrap_or w []) b) (on_shelf old s b)
    by true = refl
    by false = refl

-- the shelf with one block more, or less
pub changed_shelf : (old new : Shelved) (name : ShelfName) (found : Option (List ℕ)) (w : List ℕ) (block : ℕ) (there : Bool) → at_shelf old name ≡ found → Sets old new name (Some w)
    → ((b : ℕ) → has w b ≡ cond (block == b) there (has (unwrap_or found []) b))
    → (s : ShelfName) (b : ℕ) → on_shelf new s b ≡ cond (same_shelf name s && (block == b)) there (on_shelf old s b)
changed_shelf old new name found w block there is sets written s b = set_shelf old new name (Some w) sets s b ∙ by (same_shelf_tells name s)
  where
    by : ((same_shelf name s ≡ true) × (name ≡ s)) ⊎ ((same_shelf name s ≡ false) × (name ≢ s))
        → cond (same_shelf name s) (has w b) (on_shelf old s b) ≡ cond (same_shelf name s && (block == b)) there (on_shelf old s b)
    by (inl e) = rw e.0 (written b ∙ ap (cond (block == b) there) (sym (on-found old name found is b) ∙ ap (λ n. on_shelf old n b) e.1))
    by (inr e) = rw e.0 refl

-- nothing changed
pub kept_shelf : (old new : Shelved) (name : ShelfName) (found w : List ℕ) → at_shelf old name ≡ Some found → Sets old new name (Some w) → w ≡ found
    → (s : ShelfName) (b : ℕ) → on_shelf new s b ≡ on_shelf old s b
kept_shelf old new name found w is sets same s b = set_shelf old new name (Some w) sets s b ∙ by (same_shelf_tells name s)
  where
    by : ((same_shelf name s ≡ true) × (name ≡ s)) ⊎ ((same_shelf name s ≡ false) × (name ≢ s)) → cond (same_shelf name s) (has w b) (on_shelf old s b) ≡ on_shelf old s b
    by (inl e) = rw e.0 (ap (λ l. has l b) same ∙ sym (on-found old name (Some found) is b) ∙ ap (λ n. on_shelf old n b) e.1)
    by (inr e) = rw e.0 refl

-- a shelf that isn't there has nothing to lose
pub nothing_there : (old : Shelved) (name : ShelfName) (block : ℕ) → at_shelf old name ≡ None
    → (s : ShelfName) (b : ℕ) → on_shelf old s b ≡ cond (same_shelf name s && (block == b)) false (on_shelf old s b)
nothing_there old name block none s b = by (same_shelf_tells name s) (block == b)
  where
    by : ((same_shelf name s ≡ true) × (name ≡ s)) ⊎ ((same_shelf name s ≡ false) × (name ≢ s)) → (t : Bool) → on_shelf old s b ≡ cond (same_shelf name s && t) false (on_shelf old s b)
    by (inl e) true = rw e.0 (ap (λ n. on_shelf old n b) (sym e.1) ∙ on-found old name None none b)
    by (inl e) false = rw e.0 refl
    by (inr e) t = rw e.0 refl

pub on-ok : {A E : Type 0} (r : Result A E) (P Q : Type 0) → (P → Q) → OnOk r P → OnOk r Q
on-ok (Ok a) P Q f h = f h
on-ok (Err e) P Q f h = h

pub on-err : {A E : Type 0} (r : Result A E) (P Q : Type 0) → (P → Q) → OnErr r P → OnErr r Q
on-err (Ok a) P Q f h = h
on-err (Err e) P Q f h = f h
