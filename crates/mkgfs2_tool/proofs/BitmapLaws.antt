-- The bytes of a bitmap, made one by one.
use Rattle.std.proofs.Common.{ℕ, zero, suc, ◌≡◌, ◌<◌, ◌+◌, List, [], ◌∷◌, ◌++◌, length, take, map, slice_set, refl, ap, sym, ◌∙◌, arith}
use Rattle.std.specs.List.{range_with_len}
use Rattle.std.proofs.lemmas.List.{map-append}
use Rattle.mkgfs2_tool.specs.Blocks.{bitmap, bitmap_byte}
use Rattle.mkgfs2_tool.specs.declared.plan.Plan.{Plan}
use Rattle.mkgfs2_tool.proofs.PointerLaws.{range_more}

take_set : (xs : List ℕ) (i y : ℕ) → i < length xs → take (i + 1) (slice_set xs i y) ≡ take i xs ++ y ∷ []
take_set xs i y within = ap (λ n. take n (slice_set xs i y)) (let next : i + 1 ≡ suc i = omega arith in next) ∙ by_place xs i within
  where
    by_place : (xs : List ℕ) (i : ℕ) → i < length xs → take (suc i) (slice_set xs i y) ≡ take i xs ++ y ∷ []
    by_place [] i within = let never : ⊥ = omega (arith, within) in elim never [ ]
    by_place (x ∷ xs) zero within = refl
    by_place (x ∷ xs) (suc i) within = ap (λ ys. x ∷ ys) (by_place xs i (omega (arith, within)))

-- one byte more
pub byte_more : (p : Plan) (group start n : ℕ) (bytes : List ℕ) (b : ℕ) → n < length bytes → take n bytes ≡ bitmap p group start n → b ≡ bitmap_byte p group (start + n)
    → take (n + 1) (slice_set bytes n b) ≡ bitmap p group start (n + 1)
byte_more p group start n bytes b within before is =
    take_set bytes n b within ∙ ap (λ xs. xs ++ b ∷ []) before ∙ ap (λ y. bitmap p group start n ++ y ∷ []) is
    ∙ sym (ap (map (bitmap_byte p group)) (range_more start n) ∙ map-append (bitmap_byte p group) (range_with_len start n) ((start + n) ∷ []))
