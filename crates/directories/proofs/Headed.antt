-- A dinode that is written over bytes has its header there, whatever it says.
use Rattle.std.proofs.Common.{◌≡◌, ◌≤◌, ℕ, true, List, ◌∷◌, length, Ok, refl, ap, ◌∙◌, arith}
use Rattle.std.specs.Int.{byte_len}
use Rattle.gfs2_layout.specs.Bytes.{number_at}
use Rattle.gfs2_layout.specs.Fields.{Field, HasItsWidth, end_of, value_of, width_of, with_field, with_fields}
use Rattle.gfs2_layout.specs.Structures.{dinode_of, dinode_read, answer}
use Rattle.gfs2_layout.specs.Writing.{dinode_fields, dinode_put}
use Rattle.gfs2_layout.specs.declared.dinode.Dinode.{Dinode}
use Rattle.gfs2_layout.proofs.FieldsInPlace.{field_end, is_beside, is_width, length-fields, number-fields_other}
use Rattle.gfs2_layout.proofs.InPlace.{length-with, number-with_same}
use Rattle.gfs2_layout.proofs.ReadBack.{no_header_fault}

-- a field that stands first in a list of fields is read, where the later ones don't touch it
first_read : (f : Field) (fs : List Field) (bytes : List ℕ) → field_end f ≤ length bytes → end_of fs ≤ length bytes → HasItsWidth f → is_beside f.0 (byte_len (width_of f.1)) fs ≡ true
    → number_at (width_of f.1) f.0 (with_fields (f ∷ fs) bytes) ≡ value_of f.1
unfolding with_fields
first_read f fs bytes room fits low beside =
    let long : length (with_field f bytes) ≡ length bytes = length-with (width_of f.1) f.0 (value_of f.1) bytes (is_width f.1) room in
    number-fields_other fs (with_field f bytes) (omega (arith, fits, long)) (width_of f.1) f.0 beside ∙ number-with_same (width_of f.1) f.0 (value_of f.1) bytes (is_width f.1) room low

-- and so one that stands second
second_read : (a f : Field) (fs : List Field) (bytes : List ℕ) → field_end a ≤ length bytes → field_end f ≤ length bytes → end_of fs ≤ length bytes → HasItsWidth f → is_beside f.0 (byte_len (width_of f.1)) fs ≡ true
    → number_at (width_of f.1) f.0 (with_fields (a ∷ f ∷ fs) bytes) ≡ value_of f.1
unfolding with_fields
second_read a f fs bytes before room fits low beside =
    let long : length (with_field a bytes) ≡ length bytes = length-with (width_of a.1) a.0 (value_of a.1) bytes (is_width a.1) before in
    first_read f fs (with_field a bytes) (omega (arith, room, long)) (omega (arith, fits, long)) low beside

third_read : (a b f : Field) (fs : List Field) (bytes : List ℕ) → field_end a ≤ length bytes → field_end b ≤ length bytes → field_end f ≤ length bytes → end_of fs ≤ length bytes → HasItsWidth f
    → is_beside f.0 (byte_len (width_of f.1)) fs ≡ true → number_at (width_of f.1) f.0 (with_fields (a ∷ b ∷ f ∷ fs) bytes) ≡ value_of f.1
unfolding with_fields
third_read a b f fs bytes before next room fits low beside =
    let long : length (with_field a bytes) ≡ length bytes = length-with (width_of a.1) a.0 (value_of a.1) bytes (is_width a.1) before in
    second_read b f fs (with_field a bytes) (omega (arith, next, long)) (omega (arith, room, long)) (omega (arith, fits, long)) low beside

-- the same of a list that begins so
first_of : (all : List Field) (f : Field) (fs : List Field) → all ≡ f ∷ fs → (bytes : List ℕ) → field_end f ≤ length bytes → end_of fs ≤ length bytes → HasItsWidth f → is_beside f.0 (byte_len (width_of f.1)) fs ≡ true
    → number_at (width_of f.1) f.0 (with_fields all bytes) ≡ value_of f.1
first_of all f fs is bytes room fits low beside = ap (λ gs. number_at (width_of f.1) f.0 (with_fields gs bytes)) is ∙ first_read f fs bytes room fits low beside

second_of : (all : List Field) (a f : Field) (fs : List Field) → all ≡ a ∷ f ∷ fs → (bytes : List ℕ) → field_end a ≤ length bytes → field_end f ≤ length bytes → end_of fs ≤ length bytes → HasItsWidth f
    → is_beside f.0 (byte_len (width_of f.1)) fs ≡ true → number_at (width_of f.1) f.0 (with_fields all bytes) ≡ value_of f.1
second_of all a f fs is bytes before room fits low beside = ap (λ gs. number_at (width_of f.1) f.0 (with_fields gs bytes)) is ∙ second_read a f fs bytes before room fits low beside

third_of : (all : List Field) (a b f : Field) (fs : List Field) → all ≡ a ∷ b ∷ f ∷ fs → (bytes : List ℕ) → field_end a ≤ length bytes → field_end b ≤ length bytes → field_end f ≤ length bytes → end_of fs ≤ length bytes
    → HasItsWidth f → is_beside f.0 (byte_len (width_of f.1)) fs ≡ true → number_at (width_of f.1) f.0 (with_fields all bytes) ≡ value_of f.1
third_of all a b f fs is bytes before next room fits low beside = ap (λ gs. number_at (width_of f.1) f.0 (with_fields gs bytes)) is ∙ third_read a b f fs bytes before next room fits low beside

module _ (d : Dinode) (bytes : List ℕ) (long : 232 ≤ length bytes) where
  pub put_long : length (dinode_put d bytes) ≡ length bytes
  put_long = length-fields (dinode_fields d) bytes (omega (arith, long))

  pub reads_put : dinode_read (dinode_put d bytes) ≡ Ok (dinode_of (dinode_put d bytes))
  reads_put =
      ap (λ o. answer o (dinode_of (dinode_put d bytes)))
      (no_header_fault 232 4 400 (dinode_put d bytes) (omega (arith, long, put_long))
      (first_of (dinode_fields d) _ _ refl bytes (omega (arith, long)) (omega (arith, long)) (omega arith) refl)
      (second_of (dinode_fields d) _ _ _ refl bytes (omega (arith, long)) (omega (arith, long)) (omega (arith, long)) (omega arith) refl)
      (third_of (dinode_fields d) _ _ _ _ refl bytes (omega (arith, long)) (omega (arith, long)) (omega (arith, long)) (omega (arith, long)) (omega arith) refl))
