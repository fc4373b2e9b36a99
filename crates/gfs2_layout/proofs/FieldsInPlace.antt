-- The fields of a structure in place: each is read again, and what is beside them all stays.
use Rattle.std.proofs.Common.{◌≡◌, ℕ, zero, suc, ◌+◌, ◌≤◌, ◌<◌, ◌⊎◌, inr, Bool, true, false, List, [], ◌∷◌, length, drop, get_or, refl, sym, ap, subst, ◌∙◌, arith}
use Rattle.std.specs.Prelude.{◌&&◌, ◌||◌, nat_le}
use Rattle.std.proofs.lemmas.Bool.Decides.{nat_tests}
use Rattle.std.proofs.lemmas.List.{drop_more, drop_all}
use Rattle.std.specs.List.{AllByRecursion}
use Rattle.std.specs.Int.{Width, w32, byte_len}
use Rattle.gfs2_layout.specs.Bytes.{slice, number_at, with_number}
use Rattle.gfs2_layout.specs.Fields.{Field, HasItsWidth, width_of, value_of, end_of, with_field, with_fields}
use Rattle.gfs2_layout.specs.declared.fields.Number.{Number}
use Rattle.gfs2_layout.specs.declared.fields.Number.TheVariants.{U16, U32, U64}
use Rattle.gfs2_layout.proofs.InPlace.{IsWidth, is_width_16, is_width_32, is_width_64, length-with, number-with_same, slice-with_other, number-with_other, drop-with}

pub is_width : (number : Number) → IsWidth (width_of number)
is_width (U16 n) = is_width_16
is_width (U32 n) = is_width_32
is_width (U64 n) = is_width_64

abbrev pub field_end : Field → ℕ
field_end f = f.0 + byte_len (width_of f.1)

-- no field has a byte of the `n` from `k` on
abbrev pub is_beside : ℕ → ℕ → List Field → Bool
is_beside k n [] = true
is_beside k n (f ∷ fs) = (nat_le (field_end f) k || nat_le (k + n) f.0) && is_beside k n fs

-- the field at this place in the list has its bytes for itself among those behind it
abbrev pub is_last_word : ℕ → List Field → Bool
is_last_word i [] = false
is_last_word zero (f ∷ fs) = is_beside f.0 (byte_len (width_of f.1)) fs
is_last_word (suc i) (f ∷ fs) = is_last_word i fs

apart : (f : Field) (fs : List Field) (k n : ℕ) → is_beside k n (f ∷ fs) ≡ true → (field_end f ≤ k) ⊎ (k + n ≤ f.0)
apart f fs k n h = grind (arith, nat_tests)

apart_later : (f : Field) (fs : List Field) (k n : ℕ) → is_beside k n (f ∷ fs) ≡ true → is_beside k n fs ≡ true
apart_later f fs k n h = grind (arith, nat_tests)

here_ends : (f : Field) (fs : List Field) (n : ℕ) → end_of (f ∷ fs) ≤ n → (field_end f ≤ n) × (end_of fs ≤ n)
here_ends f fs n h = (omega (arith, h), omega (arith, h))

length-field : (f : Field) (bytes : List ℕ) → field_end f ≤ length bytes → length (with_field f bytes) ≡ length bytes
length-field f bytes fits = length-with (width_of f.1) f.0 (value_of f.1) bytes (is_width f.1) fits

room_on : (f : Field) (fs : List Field) (bytes : List ℕ) → end_of (f ∷ fs) ≤ length bytes → end_of fs ≤ length (with_field f bytes)
room_on f fs bytes fits = let both = here_ends f fs (length bytes) fits in omega (arith, both.1, length-field f bytes both.0)

pub length-fields : (fs : List Field) (bytes : List ℕ) → end_of fs ≤ length bytes → length (with_fields fs bytes) ≡ length bytes
unfolding with_fields
length-fields [] bytes fits = refl
length-fields (f ∷ fs) bytes fits = length-fields fs (with_field f bytes) (room_on f fs bytes fits) ∙ length-field f bytes (here_ends f fs (length bytes) fits).0

pub slice-fields_other : (fs : List Field) (bytes : List ℕ) → end_of fs ≤ length bytes → (k n : ℕ) → is_beside k n fs ≡ true → slice k n (with_fields fs bytes) ≡ slice k n bytes
unfolding with_fields
slice-fields_other [] bytes fits k n beside = refl
slice-fields_other (f ∷ fs) bytes fits k n beside =
    slice-fields_other fs (with_field f bytes) (room_on f fs bytes fits) k n (apart_later f fs k n beside)
    ∙ slice-with_other (width_of f.1) f.0 (value_of f.1) bytes (is_width f.1) (here_ends f fs (length bytes) fits).0 k n (apart f fs k n beside)

pub number-fields_other : (fs : List Field) (bytes : List ℕ) → end_of fs ≤ length bytes → (v : Width) (k : ℕ) → is_beside k (byte_len v) fs ≡ true → number_at v k (with_fields fs bytes) ≡ number_at v k bytes
unfolding with_fields
number-fields_other [] bytes fits v k beside = refl
number-fields_other (f ∷ fs) bytes fits v k beside =
    number-fields_other fs (with_field f bytes) (room_on f fs bytes fits) v k (apart_later f fs k (byte_len v) beside)
    ∙ number-with_other (width_of f.1) f.0 (value_of f.1) bytes (is_width f.1) (here_ends f fs (length bytes) fits).0 v k (apart f fs k (byte_len v) beside)

pub drop-fields : (fs : List Field) (bytes : List ℕ) → end_of fs ≤ length bytes → (k : ℕ) → end_of fs ≤ k → drop k (with_fields fs bytes) ≡ drop k bytes
unfolding with_fields
drop-fields [] bytes fits k h = refl
drop-fields (f ∷ fs) bytes fits k h =
    drop-fields fs (with_field f bytes) (room_on f fs bytes fits) k (here_ends f fs k h).1
    ∙ drop-with (width_of f.1) f.0 (value_of f.1) bytes (is_width f.1) (here_ends f fs (length bytes) fits).0 k (here_ends f fs k h).0

-- each field is read where it stands
pub field-read : (fs : List Field) (i : ℕ) (d : Field) (bytes : List ℕ) → end_of fs ≤ length bytes → AllByRecursion HasItsWidth fs → is_last_word i fs ≡ true
    → number_at (width_of (get_or fs i d).1) (get_or fs i d).0 (with_fields fs bytes) ≡ value_of (get_or fs i d).1
unfolding with_fields
field-read [] i d bytes room low alone = absurd cc
field-read (f ∷ fs) zero d bytes room low alone =
    number-fields_other fs (with_field f bytes) (room_on f fs bytes room) (width_of f.1) f.0 alone
    ∙ number-with_same (width_of f.1) f.0 (value_of f.1) bytes (is_width f.1) (here_ends f fs (length bytes) room).0 low.0
field-read (f ∷ fs) (suc i) d bytes room low alone = field-read fs i d (with_field f bytes) (room_on f fs bytes room) low.1 alone

field_before_end : (fs : List Field) (i : ℕ) (d : Field) → is_last_word i fs ≡ true → field_end (get_or fs i d) ≤ end_of fs
field_before_end [] i d alone = absurd cc
field_before_end (f ∷ fs) zero d alone = omega arith
field_before_end (f ∷ fs) (suc i) d alone = omega (arith, field_before_end fs i d alone)

-- and also under a number that is put behind them all
pub field-under : (fs : List Field) (i : ℕ) (d : Field) (at n : ℕ) (bytes : List ℕ) → end_of fs ≤ at → at + 4 ≤ length bytes → AllByRecursion HasItsWidth fs → is_last_word i fs ≡ true
    → number_at (width_of (get_or fs i d).1) (get_or fs i d).0 (with_number w32 at n (with_fields fs bytes)) ≡ value_of (get_or fs i d).1
field-under fs i d at n bytes before room widths alone =
    let room_for_all : end_of fs ≤ length bytes = omega (arith, before, room) in
    let room_behind : at + 4 ≤ length (with_fields fs bytes) = omega (arith, room, length-fields fs bytes room_for_all) in
    number-with_other w32 at n (with_fields fs bytes) is_width_32 room_behind (width_of (get_or fs i d).1) (get_or fs i d).0 (inr (omega (arith, before, field_before_end fs i d alone)))
    ∙ field-read fs i d bytes room_for_all widths alone

-- a loop over the fields, one field on
pub fields_on : (all : List Field) (i : ℕ) (d : Field) (before after first : List ℕ) → i < length all → after ≡ with_field (get_or all i d) before
    → with_fields (drop i all) before ≡ first → with_fields (drop (i + 1) all) after ≡ first
unfolding with_fields
fields_on all i d before after first h is so =
    ap (with_fields (drop (i + 1) all)) is ∙ sym (ap (λ (fs : List Field). with_fields fs before) (drop_more all i d h)) ∙ so

pub room_for : (all : List Field) (i : ℕ) (d : Field) (n : ℕ) → i < length all → end_of (drop i all) ≤ n → (end_of (get_or all i d ∷ []) ≤ n) × (end_of (drop (i + 1) all) ≤ n)
room_for all i d n h room =
    let both = here_ends (get_or all i d) (drop (i + 1) all) n (subst (λ (fs : List Field). end_of fs ≤ n) (drop_more all i d h) room) in
    (omega (arith, both.0), both.1)

pub no_fields : (all : List Field) (i : ℕ) (bytes : List ℕ) → length all ≤ i → with_fields (drop i all) bytes ≡ bytes
unfolding with_fields
no_fields all i bytes h = ap (λ (fs : List Field). with_fields fs bytes) (drop_all i all h)

pub widths_on : (all : List Field) (i : ℕ) (d : Field) → i < length all → HasItsWidth (get_or all i d) → (AllByRecursion HasItsWidth (drop i all) → AllByRecursion HasItsWidth all)
    → AllByRecursion HasItsWidth (drop (i + 1) all) → AllByRecursion HasItsWidth all
widths_on all i d h here so later = so (subst (AllByRecursion HasItsWidth) (sym (drop_more all i d h)) (here, later))

pub widths_end : (all : List Field) (i : ℕ) → length all ≤ i → (AllByRecursion HasItsWidth (drop i all) → AllByRecursion HasItsWidth all) → AllByRecursion HasItsWidth all
widths_end all i h so = so (subst (AllByRecursion HasItsWidth) (sym (drop_all i all h)) tt)
