-- An area is the bytes of its records.
use Rattle.std.proofs.Common.{◌≡◌, ℕ, zero, suc, ◌+◌, ◌-◌, ◌≤◌, ◌<◌, inl, inr, List, [], ◌∷◌, ◌++◌, length, take, drop, get_or, refl, sym, ap, ◌∙◌, subst, arith, length-drop}
use Rattle.std.specs.List.{All, flat_map}
use Rattle.std.specs.Int.{w16, w32, w64, from_be_bytes, to_be_bytes}
use Rattle.std.proofs.Math.ListN.{get_or-eq_default}
use Rattle.std.proofs.lemmas.Nat.{be_bytes_2, be_bytes_4, be_bytes_8}
use Rattle.std.proofs.lemmas.Bool.{cases_lt}
use Rattle.std.proofs.lemmas.List.{drop-drop, take-append-drop, length-take-le}
use Rattle.std.proofs.lemmas.List.Elements.{All-take, All-drop, All-get_or}
use Rattle.gfs2_layout.specs.Bytes.{slice, number_at, u16_at}
use Rattle.gfs2_layout.specs.Area.{slot_at, slots_of, head_bytes, slot_bytes, IsArea}
use Rattle.gfs2_layout.proofs.Records.{behind, record_length, length_behind, area_on, area_ends}
use Rattle.gfs2_layout.proofs.Places.{take_on}

abbrev pub AreBytes : List ℕ → Type 0
AreBytes bytes = All (λ byte. byte < 256) bytes

low_all : (bytes : List ℕ) → AreBytes bytes → (i : ℕ) → get_or bytes i 0 < 256
low_all bytes low i = elim (cases_lt i (length bytes)) [
  | inl inside ↦ All-get_or (λ byte. byte < 256) bytes i 0 inside low
  | inr outside ↦ subst (λ (b : ℕ). b < 256) (sym (get_or-eq_default bytes 0 outside)) (omega arith)
]

low_slice : (at n : ℕ) (bytes : List ℕ) → AreBytes bytes → AreBytes (slice at n bytes)
low_slice at n bytes low = All-take (λ byte. byte < 256) n (drop at bytes) (All-drop (λ byte. byte < 256) at bytes low)

length-slice : (at n : ℕ) (bytes : List ℕ) → at + n ≤ length bytes → length (slice at n bytes) ≡ n
length-slice at n bytes inside = length-take-le n (drop at bytes) (omega (arith, length-drop at bytes, inside))

join_slices : (at n m : ℕ) (bytes : List ℕ) → at + n ≤ length bytes → slice at n bytes ++ slice (at + n) m bytes ≡ slice at (n + m) bytes
join_slices at n m bytes inside = ap (λ (b : List ℕ). slice at n bytes ++ take m b) (sym (drop-drop n at bytes)) ∙ sym (take_on n m (drop at bytes) (omega (arith, length-drop at bytes, inside)))

module _ (bytes : List ℕ) (low : AreBytes bytes) (long : 40 ≤ length bytes) where
  spelled_16 : (at : ℕ) → at + 2 ≤ 40 → to_be_bytes w16 (number_at w16 at bytes) ≡ slice at 2 bytes
  unfolding number_at
  spelled_16 at h = be_bytes_2 (slice at 2 bytes) (from_be_bytes w16 (slice at 2 bytes)) (length-slice at 2 bytes (omega (arith, h, long))) (low_all (slice at 2 bytes) (low_slice at 2 bytes low)) refl

  spelled_32 : (at : ℕ) → at + 4 ≤ 40 → to_be_bytes w32 (number_at w32 at bytes) ≡ slice at 4 bytes
  unfolding number_at
  spelled_32 at h = be_bytes_4 (slice at 4 bytes) (from_be_bytes w32 (slice at 4 bytes)) (length-slice at 4 bytes (omega (arith, h, long))) (low_all (slice at 4 bytes) (low_slice at 4 bytes low)) refl

  spelled_64 : (at : ℕ) → at + 8 ≤ 40 → to_be_bytes w64 (number_at w64 at bytes) ≡ slice at 8 bytes
  unfolding number_at
  spelled_64 at h = be_bytes_8 (slice at 8 bytes) (from_be_bytes w64 (slice at 8 bytes)) (length-slice at 8 bytes (omega (arith, h, long))) (low_all (slice at 8 bytes) (low_slice at 8 bytes low)) refl

  join : (at n m : ℕ) → at + n ≤ 40 → slice at n bytes ++ slice (at + n) m bytes ≡ slice at (n + m) bytes
  join at n m h = join_slices at n m bytes (omega (arith, h, long))

  spelled_head : head_bytes (slot_at bytes).head ≡ slice 0 28 bytes
  spelled_head =
      (λ i. spelled_64 0 (omega arith) i ++ (spelled_64 8 (omega arith) i ++ (spelled_32 16 (omega arith) i ++ (spelled_16 20 (omega arith) i ++ (spelled_16 22 (omega arith) i ++ (spelled_16 24 (omega arith) i ++ spelled_16 26 (omega arith) i))))))
      ∙ ap (λ (b : List ℕ). slice 0 8 bytes ++ (slice 8 8 bytes ++ (slice 16 4 bytes ++ (slice 20 2 bytes ++ (slice 22 2 bytes ++ b))))) (join 24 2 2 (omega arith))
      ∙ ap (λ (b : List ℕ). slice 0 8 bytes ++ (slice 8 8 bytes ++ (slice 16 4 bytes ++ (slice 20 2 bytes ++ b)))) (join 22 2 4 (omega arith))
      ∙ ap (λ (b : List ℕ). slice 0 8 bytes ++ (slice 8 8 bytes ++ (slice 16 4 bytes ++ b))) (join 20 2 6 (omega arith))
      ∙ ap (λ (b : List ℕ). slice 0 8 bytes ++ (slice 8 8 bytes ++ b)) (join 16 4 8 (omega arith))
      ∙ ap (λ (b : List ℕ). slice 0 8 bytes ++ b) (join 8 8 12 (omega arith))
      ∙ join 0 8 20 (omega arith)

  pub spelled_slot : 40 ≤ u16_at 20 bytes → slot_bytes (slot_at bytes) ≡ take (u16_at 20 bytes) bytes
  unfolding slot_bytes
  spelled_slot fits =
      ap (λ (b : List ℕ). b ++ (slice 28 12 bytes ++ slice 40 (u16_at 20 bytes - 40) bytes)) spelled_head
      ∙ ap (λ (b : List ℕ). slice 0 28 bytes ++ b) (join 28 12 (u16_at 20 bytes - 40) (omega arith))
      ∙ join 0 28 (12 + (u16_at 20 bytes - 40)) (omega arith)
      ∙ ap (λ (k : ℕ). take k bytes) (omega (arith, fits))

spelled_within : (n : ℕ) (area : List ℕ) → length area ≤ n → IsArea area → AreBytes area → flat_map slot_bytes (slots_of area) ≡ area
spelled_within n [] few is low = ap (flat_map slot_bytes) (area_ends [] refl)
spelled_within zero (x ∷ xs) few is low = absurd (omega arith)
spelled_within (suc n) (x ∷ xs) few is low =
    let on = area_on (x ∷ xs) (omega arith) is in
    let long = record_length (x ∷ xs) on.good in
    ap (flat_map slot_bytes) on.slots
    ∙ (λ i. spelled_slot (x ∷ xs) low (omega (arith, long.0, long.1)) long.0 i
    ++ spelled_within n (behind (x ∷ xs)) (omega (arith, few, length_behind (x ∷ xs) on.good, long.0)) on.later (All-drop (λ byte. byte < 256) (u16_at 20 (x ∷ xs)) (x ∷ xs) low) i)
    ∙ take-append-drop (u16_at 20 (x ∷ xs)) (x ∷ xs)

pub spelled_area : (area : List ℕ) → IsArea area → AreBytes area → flat_map slot_bytes (slots_of area) ≡ area
spelled_area area is low = spelled_within (length area) area (omega arith) is low
