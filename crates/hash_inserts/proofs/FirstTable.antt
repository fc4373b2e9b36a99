-- Pointers that are written one after another over zeros.
use Rattle.std.proofs.Common.{◌≡◌, ℕ, ◌+◌, ◌-◌, ◌*◌, ◌^◌, ◌<◌, ◌≤◌, inl, inr, List, length, drop, replicate, sym, ap, ◌∙◌, arith}
use Rattle.std.specs.Int.{w64}
use Rattle.std.proofs.lemmas.Bool.{cases_lt}
use Rattle.std.proofs.lemmas.List.{drop-drop, drop-replicate}
use Rattle.gfs2_layout.specs.Bytes.{u64_at, with_number}
use Rattle.gfs2_layout.proofs.InPlace.{drop-with, is_width_64, length-with, number-with_other, number-with_same}

-- So many pointers lead to this leaf, and zeros stand behind them.
pub record LeadTo (area : List ℕ) (size count leaf : ℕ) : Type 0 where
  pub long : length area ≡ size
  pub pointers : (i : ℕ) → i < count → u64_at (8 * i) area ≡ leaf
  pub clear : drop (8 * count) area ≡ replicate (size - 8 * count) 0

pub one_pointer_more : (area new : List ℕ) (size count leaf : ℕ) → LeadTo area size count leaf → 8 * count + 8 ≤ size → leaf < 2 ^ 64 → new ≡ with_number w64 (8 * count) leaf area → LeadTo new size (count + 1) leaf
one_pointer_more area new size count leaf so_far fits width is = record {
  long = ap length is ∙ length-with w64 (8 * count) leaf area is_width_64 room ∙ so_far.long;
  pointers = λ i low. elim (cases_lt i count) [
    | inl below ↦ ap (u64_at (8 * i)) is ∙ number-with_other w64 (8 * count) leaf area is_width_64 room w64 (8 * i) (inr (omega (arith, below))) ∙ so_far.pointers i below
    | inr last ↦ ap (u64_at (8 * i)) is ∙ ap (λ n. u64_at (8 * n) (with_number w64 (8 * count) leaf area)) (let e : i ≡ count = omega (arith, low, last) in e) ∙ number-with_same w64 (8 * count) leaf area is_width_64 room width
  ];
  clear =
      let next : 8 * (count + 1) ≡ 8 * count + 8 = omega arith in
      ap (drop (8 * (count + 1))) is ∙ drop-with w64 (8 * count) leaf area is_width_64 room (8 * (count + 1)) (omega arith)
      ∙ ap (λ n. drop n area) next ∙ sym (drop-drop 8 (8 * count) area) ∙ ap (drop 8) so_far.clear ∙ drop-replicate 8 (size - 8 * count) 0
      ∙ ap (λ n. replicate n 0) (let e : size - 8 * count - 8 ≡ size - 8 * (count + 1) = omega arith in e);
}
  where
    room : 8 * count + 8 ≤ length area
    room = omega (arith, fits, so_far.long)
