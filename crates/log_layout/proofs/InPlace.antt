-- Numbers in their places: each is read again, and what is beside them all stays.
use Rattle.std.proofs.Common.{◌≡◌, ℕ, zero, suc, ◌+◌, ◌≤◌, ◌⊎◌, Bool, true, false, List, [], ◌∷◌, length, drop, get_or, refl, ◌∙◌, arith}
use Rattle.std.specs.Prelude.{◌&&◌, ◌||◌, nat_le}
use Rattle.std.proofs.lemmas.Bool.Decides.{nat_tests}
use Rattle.std.specs.Int.{Width, byte_len}
use Rattle.gfs2_layout.specs.Bytes.{number_at, slice}
use Rattle.gfs2_layout.proofs.InPlace.{IsWidth, is_width_32, is_width_64, length-with, number-with_same, number-with_other, slice-with_other, drop-with}
use Rattle.log_layout.specs.Fields.{Field, Four, Eight, place_of, width_of, value_of, end_of, HaveWidths, with_field, with_fields}

pub is_width : (f : Field) → IsWidth (width_of f)
is_width (Four at n) = is_width_32
is_width (Eight at n) = is_width_64

-- all of them end within so many bytes
abbrev pub EndWithin : List Field → ℕ → Type 0
EndWithin [] n = Unit {0}
EndWithin (f ∷ fs) n = (end_of f ≤ n) × EndWithin fs n

-- no field has a byte of the `n` from `k` on
abbrev pub is_beside : ℕ → ℕ → List Field → Bool
is_beside k n [] = true
is_beside k n (f ∷ fs) = (nat_le (end_of f) k || nat_le (k + n) (place_of f)) && is_beside k n fs

-- the field at this place in the list has its bytes for itself among those behind it
abbrev pub is_alone : ℕ → List Field → Bool
is_alone i [] = false
is_alone zero (f ∷ fs) = is_beside (place_of f) (byte_len (width_of f)) fs
is_alone (suc i) (f ∷ fs) = is_alone i fs

apart : (f : Field) (fs : List Field) (k n : ℕ) → is_beside k n (f ∷ fs) ≡ true → (end_of f ≤ k) ⊎ (k + n ≤ place_of f)
apart f fs k n h = grind (arith, nat_tests)

apart_later : (f : Field) (fs : List Field) (k n : ℕ) → is_beside k n (f ∷ fs) ≡ true → is_beside k n fs ≡ true
apart_later f fs k n h = grind (arith, nat_tests)

length-field : (f : Field) (bytes : List ℕ) → end_of f ≤ length bytes → length (with_field f bytes) ≡ length bytes
length-field f bytes fits = length-with (width_of f) (place_of f) (value_of f) bytes (is_width f) fits

within_more : (fs : List Field) (m n : ℕ) → m ≡ n → EndWithin fs n → EndWithin fs m
within_more [] m n e h = tt
within_more (f ∷ fs) m n e h = (omega (arith, e, h.0), within_more fs m n e h.1)

on : (f : Field) (fs : List Field) (bytes : List ℕ) → EndWithin (f ∷ fs) (length bytes) → EndWithin fs (length (with_field f bytes))
on f fs bytes fits = within_more fs (length (with_field f bytes)) (length bytes) (length-field f bytes fits.0) fits.1

pub length-fields : (fs : List Field) (bytes : List ℕ) → EndWithin fs (length bytes) → length (with_fields fs bytes) ≡ length bytes
unfolding with_fields
length-fields [] bytes fits = refl
length-fields (f ∷ fs) bytes fits = length-fields fs (with_field f bytes) (on f fs bytes fits) ∙ length-field f bytes fits.0

pub number-fields_other : (fs : List Field) (bytes : List ℕ) → EndWithin fs (length bytes) → (v : Width) (k : ℕ) → is_beside k (byte_len v) fs ≡ true → number_at v k (with_fields fs bytes) ≡ number_at v k bytes
unfolding with_fields
number-fields_other [] bytes fits v k beside = refl
number-fields_other (f ∷ fs) bytes fits v k beside =
    number-fields_other fs (with_field f bytes) (on f fs bytes fits) v k (apart_later f fs k (byte_len v) beside)
    ∙ number-with_other (width_of f) (place_of f) (value_of f) bytes (is_width f) fits.0 v k (apart f fs k (byte_len v) beside)

pub slice-fields_other : (fs : List Field) (bytes : List ℕ) → EndWithin fs (length bytes) → (k n : ℕ) → is_beside k n fs ≡ true → slice k n (with_fields fs bytes) ≡ slice k n bytes
unfolding with_fields
slice-fields_other [] bytes fits k n beside = refl
slice-fields_other (f ∷ fs) bytes fits k n beside =
    slice-fields_other fs (with_field f bytes) (on f fs bytes fits) k n (apart_later f fs k n beside)
    ∙ slice-with_other (width_of f) (place_of f) (value_of f) bytes (is_width f) fits.0 k n (apart f fs k n beside)

pub drop-fields : (fs : List Field) (bytes : List ℕ) (k : ℕ) → EndWithin fs (length bytes) → EndWithin fs k → drop k (with_fields fs bytes) ≡ drop k bytes
unfolding with_fields
drop-fields [] bytes k fits h = refl
drop-fields (f ∷ fs) bytes k fits h =
    drop-fields fs (with_field f bytes) k (on f fs bytes fits) h.1
    ∙ drop-with (width_of f) (place_of f) (value_of f) bytes (is_width f) fits.0 k h.0

-- each number is read where it stands
pub field-read : (fs : List Field) (i : ℕ) (d : Field) (bytes : List ℕ) → EndWithin fs (length bytes) → HaveWidths fs → is_alone i fs ≡ true
    → number_at (width_of (get_or fs i d)) (place_of (get_or fs i d)) (with_fields fs bytes) ≡ value_of (get_or fs i d)
unfolding with_fields
field-read [] i d bytes room low alone = absurd cc
field-read (f ∷ fs) zero d bytes room low alone =
    number-fields_other fs (with_field f bytes) (on f fs bytes room) (width_of f) (place_of f) alone
    ∙ number-with_same (width_of f) (place_of f) (value_of f) bytes (is_width f) room.0 low.0
field-read (f ∷ fs) (suc i) d bytes room low alone = field-read fs i d (with_field f bytes) (on f fs bytes room) low.1 alone
