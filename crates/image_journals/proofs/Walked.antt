-- The leaves of a directory that a view shows whole.
use Rattle.std.proofs.Common.{◌≡◌, ◌⊎◌, inl, inr, ◌+◌, ◌<◌, ℕ, true, List, [], ◌∷◌, ◌++◌, sym, subst, arith}
use Rattle.std.proofs.lemmas.Bool.{cases_lt}
use Rattle.gfs2_layout.specs.Holding.{Holding}
use Rattle.gfs2_layout.specs.Inode.{first_hash, is_hashed_in, leaf_in, table_count}
use Rattle.hash_dirs.specs.Shown.{IsInChain, IsSound}
use Rattle.hash_dirs.proofs.Along.{chain_one, ended}
use Rattle.hash_dirs.proofs.Chained.{headed, in_chain, rules}
use Rattle.image_journals.specs.Adding.{AreAdded, IsLeafOf, IsOnChain}
use Rattle.image_journals.proofs.Adding.{added_as, added_both, added_one, parted}

-- one of the first so many leaves of a chain
abbrev pub IsOnFirst : Holding → ℕ → ℕ → ℕ → Type 0
IsOnFirst h i count x = (place : ℕ) × (place < count) × IsInChain h i place x

-- the walk is at this leaf of the chain, and has added those before it
pub record IsWalked (h : Holding) (i : ℕ) (old : List ℕ) (place leaf : ℕ) (now : List ℕ) : Type 0 where
  pub chain : IsInChain h i place leaf
  pub added : AreAdded old now (IsOnFirst h i place)

module _ (h : Holding) (i : ℕ) (old : List ℕ) (place leaf : ℕ) (now more : List ℕ) (at : IsWalked h i old place leaf now) (is : more ≡ now ++ leaf ∷ []) where
  pub one_more : AreAdded old more (IsOnFirst h i (place + 1))
  one_more =
      added_as old more (λ x. IsOnFirst h i place x ⊎ (x ≡ leaf)) (IsOnFirst h i (place + 1)) (added_both old now more (IsOnFirst h i place) (λ x. x ≡ leaf) at.added (added_one now more leaf is))
      (λ x some. elim some [
        | inl before ↦ (before.0, (let low = before.1 in omega (arith, low)), before.2)
        | inr this ↦ (place, omega arith, subst (IsInChain h i place) (sym this) at.chain)
      ])
      (λ x on. elim (parted on.0 place on.1) [
        | inl less ↦ inl (on.0, less, on.2)
        | inr same ↦ inr (chain_one h i place x leaf (subst (λ k. IsInChain h i k x) same on.2) at.chain)
      ])

  pub walked_all : (leaf_in h leaf).next ≡ 0 → AreAdded old more (IsOnChain h i)
  walked_all ends =
      added_as old more (IsOnFirst h i (place + 1)) (IsOnChain h i) one_more
      (λ x on. (on.0, on.2))
      (λ x on. elim (cases_lt place on.0) [
        | inl beyond ↦ absurd (ended h i place leaf on.0 x at.chain ends beyond on.1)
        | inr low ↦ (on.0, omega (arith, low), on.1)
      ])

-- ---- the chains of all pointers

-- a leaf of the chain of one of the first so many pointers
abbrev pub IsOnOne : Holding → ℕ → ℕ → Type 0
IsOnOne h count x = (i : ℕ) × (i < count) × IsOnChain h i x

pub chains_more : (h : Holding) (i : ℕ) (old now more : List ℕ) → AreAdded old now (IsOnOne h i) → AreAdded now more (IsOnChain h i) → AreAdded old more (IsOnOne h (i + 1))
chains_more h i old now more before these =
    added_as old more (λ x. IsOnOne h i x ⊎ IsOnChain h i x) (IsOnOne h (i + 1)) (added_both old now more (IsOnOne h i) (IsOnChain h i) before these)
    (λ x some. elim some [
      | inl one ↦ (one.0, (let low = one.1 in omega (arith, low)), one.2)
      | inr on ↦ (i, omega arith, on)
    ])
    (λ x one. elim (parted one.0 i one.1) [
      | inl less ↦ inl (one.0, less, one.2)
      | inr same ↦ inr (subst (λ k. IsOnChain h k x) same one.2)
    ])

pub chains_all : (h : Holding) (count : ℕ) (old now : List ℕ) → IsSound h → is_hashed_in h ≡ true → count ≡ table_count h → AreAdded old now (IsOnOne h count) → AreAdded old now (IsLeafOf h)
chains_all h count old now sound hashed all are =
    added_as old now (IsOnOne h count) (IsLeafOf h) are
    (λ x one. (first_hash h one.0, one.2.0, in_chain h sound hashed one.0 one.2.0 x one.2.1))
    (λ x leaf.
    let up = headed h sound hashed leaf.1 x leaf.0 leaf.2 in
    let led = (rules h sound hashed).headed up.first leaf.0 up.part in
    (led.0, subst (λ n. led.0 < n) (sym all) led.1, (leaf.1, up.chain led.0 led.1 led.2)))
