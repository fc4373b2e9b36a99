-- Leaves behind a leaf.
use Rattle.std.proofs.Common.{◌≡◌, ◌⊎◌, inl, inr, ℕ, ◌+◌, ◌-◌, ◌≤◌, refl, sym, ap, subst, arith}
use Rattle.gfs2_layout.specs.Inode.{leaf_in}
use Rattle.image_model.specs.Claims.{every, Claims, next_leaf, IsLeafBehind, same_leaf, next_behind}
use Rattle.image_model.specs.Image.{Image}
use Rattle.image_model.specs.Owners.{Chained}

module _ (im : Image) (a : ℕ) where
  -- behind a leaf that is claimed each is, by the same chain
  pub behind_claimed : (by x hash place n y : ℕ) → Claims im by x (Chained a hash place) → IsLeafBehind im a x n y → (from : ℕ) × Claims im from y (Chained a hash (place + n))
  behind_claimed by x hash place _ _ claim same_leaf =
      let at : place ≡ place + 0 = omega arith in
      (by, subst (λ k. Claims im by x (Chained a hash k)) at claim)
  behind_claimed by x hash place _ _ claim (next_behind n y before more) =
      let at : place + n + 1 ≡ place + (n + 1) = omega arith in
      let c = behind_claimed by x hash place n y claim before in
      (y, subst (λ k. Claims im y (leaf_in (every im a) y).next (Chained a hash k)) at (next_leaf c.0 y a hash (place + n) c.1 more))

  -- one leaf is so many behind another
  pub one_behind : (x m y n z : ℕ) → IsLeafBehind im a x m y → IsLeafBehind im a x n z → m ≡ n → y ≡ z
  one_behind x _ _ _ _ same_leaf same_leaf e = refl
  one_behind x _ _ _ _ same_leaf (next_behind n z before more) e = absurd (omega (arith, e))
  one_behind x _ _ _ _ (next_behind m y before more) same_leaf e = absurd (omega (arith, e))
  one_behind x _ _ _ _ (next_behind m y first more) (next_behind n z second more') e =
      let same : m ≡ n = omega (arith, e) in
      ap (λ k. (leaf_in (every im a) k).next) (one_behind x m y n z first second same)

  -- of two behind one leaf the further is behind the nearer
  pub behind_nearer : (x m y n z : ℕ) → IsLeafBehind im a x m y → IsLeafBehind im a x n z → m ≤ n → IsLeafBehind im a y (n - m) z
  behind_nearer x m y _ _ first same_leaf low =
      let none : m ≡ 0 = omega (arith, low) in
      let steps : 0 ≡ 0 - m = omega (arith, none) in
      subst (λ w. IsLeafBehind im a w (0 - m) x) (sym (one_behind x m y 0 x first same_leaf none)) (subst (λ k. IsLeafBehind im a x k x) steps same_leaf)
  behind_nearer x m y _ _ first (next_behind n z second more) low = elim (last m n low) [
    | inl before ↦
        let steps : n - m + 1 ≡ n + 1 - m = omega (arith, before) in
        subst (λ k. IsLeafBehind im a y k (leaf_in (every im a) z).next) steps (next_behind (n - m) z (behind_nearer x m y n z first second before) more)
    | inr here ↦
        let steps : 0 ≡ n + 1 - m = omega (arith, here) in
        let same = one_behind x m y (n + 1) (leaf_in (every im a) z).next first (next_behind n z second more) here in
        subst (λ w. IsLeafBehind im a y (n + 1 - m) w) same (subst (λ k. IsLeafBehind im a y k y) steps same_leaf)
  ]
    where
      last : (m n : ℕ) → m ≤ n + 1 → (m ≤ n) ⊎ (m ≡ n + 1)
      last m n low = grind arith
