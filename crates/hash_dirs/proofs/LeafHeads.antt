-- A leaf's head that is written over old bytes: the front of these alone tells what it gives.
use Rattle.std.proofs.Common.{◌≡◌, ℕ, ◌+◌, ◌-◌, ◌≤◌, List, [], ◌∷◌, ◌++◌, length, take, drop, refl, sym, ap, ◌∙◌, append_assoc, arith}
use Rattle.std.proofs.lemmas.List.{drop-append-le, length-take-le, take-append-drop, take-append-le, take_at}
use Rattle.std.specs.Int.{byte_len, to_be_bytes}
use borrow.Rule.Slice.PartMut.{put_mid, take_put}
use Rattle.gfs2_layout.specs.Bytes.{put_at, with_number}
use Rattle.gfs2_layout.specs.Fields.{Field, end_of, value_of, width_of, with_field, with_fields}
use Rattle.gfs2_layout.specs.Inode.{leaf_length}
use Rattle.gfs2_layout.specs.Writing.{leaf_fields, leaf_put}
use Rattle.gfs2_layout.specs.declared.leaf.Leaf.{Leaf}
use Rattle.gfs2_layout.proofs.FieldsInPlace.{field_end, is_width, length-fields}
use Rattle.gfs2_layout.proofs.InPlace.{length-with}

-- ---- fields over bytes before others

put_before : (at : ℕ) (part a rest : List ℕ) → at + length part ≤ length a → put_at at part (a ++ rest) ≡ put_at at part a ++ rest
put_before at part a rest fits =
    ap (λ (x : List ℕ). x ++ (part ++ drop (at + length part) (a ++ rest))) (take-append-le at a rest (omega (arith, fits)))
    ∙ ap (λ (x : List ℕ). take at a ++ (part ++ x)) (drop-append-le (at + length part) a rest fits)
    ∙ ap (λ (x : List ℕ). take at a ++ x) (sym (append_assoc part (drop (at + length part) a) rest))
    ∙ sym (append_assoc (take at a) (part ++ drop (at + length part) a) rest)

field_long : (f : Field) → length (to_be_bytes (width_of f.1) (value_of f.1)) ≡ byte_len (width_of f.1)
field_long f = (is_width f.1).long (value_of f.1)

field_before : (f : Field) (a rest : List ℕ) → field_end f ≤ length a → with_field f (a ++ rest) ≡ with_field f a ++ rest
unfolding with_number
field_before f a rest fits = put_before f.0 (to_be_bytes (width_of f.1) (value_of f.1)) a rest (omega (arith, fits, field_long f))

ends : (f : Field) (fs : List Field) (n : ℕ) → end_of (f ∷ fs) ≤ n → (field_end f ≤ n) × (end_of fs ≤ n)
ends f fs n h = (omega (arith, h), omega (arith, h))

fields_before : (fs : List Field) (a rest : List ℕ) → end_of fs ≤ length a → with_fields fs (a ++ rest) ≡ with_fields fs a ++ rest
unfolding with_fields
fields_before [] a rest fits = refl
fields_before (f ∷ fs) a rest fits =
    let both = ends f fs (length a) fits in
    ap (with_fields fs) (field_before f a rest both.0)
    ∙ fields_before fs (with_field f a) rest (omega (arith, both.1, length-with (width_of f.1) f.0 (value_of f.1) a (is_width f.1) both.0))

-- ---- a head

head_long : (head : Leaf) (a : List ℕ) → leaf_length ≤ length a → length (leaf_put head a) ≡ length a
head_long head a large = length-fields (leaf_fields head) a (omega (arith, large))

-- the front of what a head is put over alone tells what it gives
pub front_put : (head : Leaf) (bytes : List ℕ) → leaf_length ≤ length bytes → take leaf_length (leaf_put head bytes) ≡ leaf_put head (take leaf_length bytes)
front_put head bytes large =
    let front : length (take leaf_length bytes) ≡ leaf_length = length-take-le leaf_length bytes large in
    ap (λ (x : List ℕ). take leaf_length (leaf_put head x)) (sym (take-append-drop leaf_length bytes))
    ∙ ap (take leaf_length) (fields_before (leaf_fields head) (take leaf_length bytes) (drop leaf_length bytes) (omega (arith, front)))
    ∙ take_at (leaf_put head (take leaf_length bytes)) (drop leaf_length bytes) leaf_length (head_long head (take leaf_length bytes) (omega (arith, front)) ∙ front)

pub put_long : (head : Leaf) (bytes : List ℕ) → leaf_length ≤ length bytes → length (leaf_put head bytes) ≡ length bytes
put_long = head_long

-- so the records behind it may be others
pub front_anew : (head : Leaf) (old area new : List ℕ) → leaf_length ≤ length old → length (put_mid leaf_length (length old - leaf_length) old area) ≡ length old
    → new ≡ leaf_put head (put_mid leaf_length (length old - leaf_length) old area) → take leaf_length new ≡ take leaf_length (leaf_put head old)
front_anew head old area new large long is =
    let mid = put_mid leaf_length (length old - leaf_length) old area in
    ap (take leaf_length) is ∙ front_put head mid (omega (arith, large, long)) ∙ ap (leaf_put head) (take_put leaf_length (length old - leaf_length) old area large) ∙ sym (front_put head old large)
