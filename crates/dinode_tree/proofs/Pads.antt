-- A dinode that is written over one that was written over an old one: what is in no field is still the old one's.
use Rattle.std.proofs.Common.{◌≡◌, ℕ, ◌+◌, ◌-◌, ◌≤◌, ◌<◌, ◌⊎◌, inl, inr, true, List, [], ◌∷◌, ◌++◌, length, take, drop, get_or, refl, sym, ap, ap₂, ◌∙◌, arith, length-append}
use Rattle.std.proofs.Math.ListN.{get_or-append}
use Rattle.std.proofs.Math.Seq.{get_or-append_right}
use Rattle.std.proofs.lemmas.Bool.{cases_lt}
use Rattle.std.proofs.lemmas.Bool.Decides.{nat_tests}
use Rattle.std.proofs.lemmas.List.{ext_get_or, get_or-take, get_or-drop, length-take-le, take-append-drop}
use Rattle.std.specs.Int.{byte_len, to_be_bytes}
use Rattle.gfs2_layout.specs.Bytes.{put_at, with_number}
use Rattle.gfs2_layout.specs.Fields.{Field, end_of, value_of, width_of, with_field, with_fields}
use Rattle.gfs2_layout.specs.Structures.{dinode_length, dinode_of}
use Rattle.gfs2_layout.specs.Writing.{dinode_fields, dinode_put}
use Rattle.gfs2_layout.specs.declared.dinode.Dinode.{Dinode}
use Rattle.gfs2_layout.proofs.FieldsInPlace.{field_end, is_beside, is_width, length-fields}
use Rattle.gfs2_layout.proofs.InPlace.{length-with}
use Rattle.dinode_tree.specs.Pads.{KeepsPads, dinode_over}

-- ---- bytes put at a place, byte by byte

module _ (at : ℕ) (part x : List ℕ) (fits : at + length part ≤ length x) where
  front : length (take at x) ≡ at
  front = length-take-le at x (omega (arith, fits))

  put_inside : (i : ℕ) → at ≤ i → i < at + length part → get_or (put_at at part x) i 0 ≡ get_or part (i - at) 0
  put_inside i low high =
      get_or-append_right (take at x) (part ++ drop (at + length part) x) i 0 (omega (arith, front, low))
      ∙ ap (λ n. get_or (part ++ drop (at + length part) x) (i - n) 0) front
      ∙ get_or-append part (drop (at + length part) x) 0 (i - at) (omega (arith, low, high))

  put_before : (i : ℕ) → i < at → get_or (put_at at part x) i 0 ≡ get_or x i 0
  put_before i low = get_or-append (take at x) (part ++ drop (at + length part) x) 0 i (omega (arith, front, low)) ∙ get_or-take at x i 0 low

  put_behind : (i : ℕ) → at + length part ≤ i → get_or (put_at at part x) i 0 ≡ get_or x i 0
  put_behind i high =
      let same : at + length part + (i - at - length part) ≡ i = omega (arith, high) in
      get_or-append_right (take at x) (part ++ drop (at + length part) x) i 0 (omega (arith, front, high))
      ∙ ap (λ n. get_or (part ++ drop (at + length part) x) (i - n) 0) front
      ∙ get_or-append_right part (drop (at + length part) x) (i - at) 0 (omega (arith, high))
      ∙ get_or-drop (at + length part) x (i - at - length part) 0 ∙ ap (λ k. get_or x k 0) same

-- ---- fields over two lists

-- the lists have the same bytes, but for those of these fields
abbrev AreAlike : List Field → List ℕ → List ℕ → Type 0
AreAlike fs x y = (i : ℕ) → i < length x → is_beside i 1 fs ≡ true → get_or x i 0 ≡ get_or y i 0

long_part : (f : Field) → length (to_be_bytes (width_of f.1) (value_of f.1)) ≡ byte_len (width_of f.1)
long_part f = (is_width f.1).long (value_of f.1)

beside_first : (f : Field) (fs : List Field) (i : ℕ) → (i < f.0) ⊎ (field_end f ≤ i) → is_beside i 1 fs ≡ true → is_beside i 1 (f ∷ fs) ≡ true
beside_first f fs i (inl before) so = grind (arith, nat_tests)
beside_first f fs i (inr behind) so = grind (arith, nat_tests)

beside_one : (f : Field) (fs : List Field) (i : ℕ) → is_beside i 1 (f ∷ fs) ≡ true → ((i < f.0) ⊎ (field_end f ≤ i)) × (is_beside i 1 fs ≡ true)
beside_one f fs i so = (grind (arith, nat_tests), grind (arith, nat_tests))

module _ (f : Field) (x : List ℕ) (fits : field_end f ≤ length x) where
  field_fits : f.0 + length (to_be_bytes (width_of f.1) (value_of f.1)) ≤ length x
  field_fits = omega (arith, fits, long_part f)

  field_inside : (i : ℕ) → f.0 ≤ i → i < field_end f → get_or (with_field f x) i 0 ≡ get_or (to_be_bytes (width_of f.1) (value_of f.1)) (i - f.0) 0
  unfolding with_number
  field_inside i low high = put_inside f.0 (to_be_bytes (width_of f.1) (value_of f.1)) x field_fits i low (omega (arith, high, long_part f))

  field_outside : (i : ℕ) → (i < f.0) ⊎ (field_end f ≤ i) → get_or (with_field f x) i 0 ≡ get_or x i 0
  unfolding with_number
  field_outside i (inl before) = put_before f.0 (to_be_bytes (width_of f.1) (value_of f.1)) x field_fits i before
  field_outside i (inr behind) = put_behind f.0 (to_be_bytes (width_of f.1) (value_of f.1)) x field_fits i (omega (arith, behind, long_part f))

  field_long : length (with_field f x) ≡ length x
  field_long = length-with (width_of f.1) f.0 (value_of f.1) x (is_width f.1) fits

field_alike : (f : Field) (fs : List Field) (x y : List ℕ) → field_end f ≤ length x → length x ≡ length y → AreAlike (f ∷ fs) x y → AreAlike fs (with_field f x) (with_field f y)
field_alike f fs x y fits long alike i within beside = elim (cases_lt i f.0) [
  | inl before ↦ outside (inl before)
  | inr from ↦ elim (cases_lt i (field_end f)) [
    | inl inside ↦ field_inside f x fits i from inside ∙ sym (field_inside f y fits_y i from inside)
    | inr behind ↦ outside (inr behind)
  ]
]
  where
    fits_y : field_end f ≤ length y
    fits_y = omega (arith, fits, long)

    outside : (i < f.0) ⊎ (field_end f ≤ i) → get_or (with_field f x) i 0 ≡ get_or (with_field f y) i 0
    outside apart = field_outside f x fits i apart ∙ alike i (omega (arith, within, field_long f x fits)) (beside_first f fs i apart beside) ∙ sym (field_outside f y fits_y i apart)

first_fits : (f : Field) (fs : List Field) (n : ℕ) → end_of (f ∷ fs) ≤ n → (field_end f ≤ n) × (end_of fs ≤ n)
first_fits f fs n h = (omega (arith, h), omega (arith, h))

-- over both they give the same
fields_alike : (fs : List Field) (x y : List ℕ) → end_of fs ≤ length x → length x ≡ length y → AreAlike fs x y → with_fields fs x ≡ with_fields fs y
unfolding with_fields
fields_alike [] x y fits long alike = ext_get_or 0 x y long (λ i within. alike i within refl)
fields_alike (f ∷ fs) x y fits long alike =
    let both = first_fits f fs (length x) fits in
    let fits_y : field_end f ≤ length y = omega (arith, both.0, long) in
    fields_alike fs (with_field f x) (with_field f y) (omega (arith, both.1, field_long f x both.0)) (field_long f x both.0 ∙ long ∙ sym (field_long f y fits_y)) (field_alike f fs x y both.0 long alike)

-- and each byte beside them stays
fields_beside : (fs : List Field) (x : List ℕ) (i : ℕ) → end_of fs ≤ length x → is_beside i 1 fs ≡ true → get_or (with_fields fs x) i 0 ≡ get_or x i 0
unfolding with_fields
fields_beside [] x i fits beside = refl
fields_beside (f ∷ fs) x i fits beside =
    let both = first_fits f fs (length x) fits in
    let apart = beside_one f fs i beside in
    fields_beside fs (with_field f x) i (omega (arith, both.1, field_long f x both.0)) apart.1 ∙ field_outside f x both.0 i apart.0

-- ---- a dinode over another

-- where the fields of a dinode are doesn't depend on what they say
same_places : (d d' : Dinode) (i : ℕ) → is_beside i 1 (dinode_fields d) ≡ true → is_beside i 1 (dinode_fields d') ≡ true
same_places d d' i so = so

module _ (d d' : Dinode) (old behind new rest : List ℕ) (large : dinode_length ≤ length old) (is : new ≡ dinode_over d old behind) where
  front_long : length (take dinode_length old) ≡ dinode_length
  front_long = length-take-le dinode_length old large

  old_long : end_of (dinode_fields d) ≤ length (take dinode_length old ++ behind)
  old_long = omega (arith, length-append (take dinode_length old) behind, front_long)

  pub new_long : dinode_length ≤ length new
  unfolding dinode_over
  new_long = omega (arith, ap length is ∙ length-fields (dinode_fields d) (take dinode_length old ++ behind) old_long, length-append (take dinode_length old) behind, front_long)

  fronts_long : length (take dinode_length new ++ rest) ≡ length (take dinode_length old ++ rest)
  fronts_long = length-append (take dinode_length new) rest ∙ ap (λ n. n + length rest) (length-take-le dinode_length new new_long ∙ sym front_long) ∙ sym (length-append (take dinode_length old) rest)

  fronts_alike : AreAlike (dinode_fields d') (take dinode_length new ++ rest) (take dinode_length old ++ rest)
  unfolding dinode_over
  fronts_alike i within beside = elim (cases_lt i dinode_length) [
    | inl low ↦
        get_or-append (take dinode_length new) rest 0 i (omega (arith, low, length-take-le dinode_length new new_long)) ∙ get_or-take dinode_length new i 0 low
        ∙ ap (λ l. get_or l i 0) is ∙ fields_beside (dinode_fields d) (take dinode_length old ++ behind) i old_long (same_places d' d i beside)
        ∙ get_or-append (take dinode_length old) behind 0 i (omega (arith, low, front_long))
        ∙ sym (get_or-append (take dinode_length old) rest 0 i (omega (arith, low, front_long)))
    | inr high ↦
        get_or-append_right (take dinode_length new) rest i 0 (omega (arith, high, length-take-le dinode_length new new_long))
        ∙ ap (λ n. get_or rest (i - n) 0) (length-take-le dinode_length new new_long ∙ sym front_long)
        ∙ sym (get_or-append_right (take dinode_length old) rest i 0 (omega (arith, high, front_long)))
  ]

  -- the first of the two is forgotten
  pub over_again : dinode_over d' new rest ≡ dinode_over d' old rest
  unfolding dinode_over
  over_again = fields_alike (dinode_fields d') (take dinode_length new ++ rest) (take dinode_length old ++ rest)
      (omega (arith, length-append (take dinode_length new) rest, length-take-le dinode_length new new_long)) fronts_long fronts_alike

-- ---- pads

-- a dinode that is put over the old one, and these bytes behind it
pub keeps_by : (d : Dinode) (old behind new : List ℕ) → new ≡ dinode_over d old behind → dinode_of new ≡ d → drop dinode_length new ≡ behind → KeepsPads old new
unfolding KeepsPads
keeps_by d old behind new is of rest = is ∙ ap₂ (λ x bytes. dinode_over x old bytes) (sym of) (sym rest)

-- a dinode that is put into the block
pub put_keeps : (d : Dinode) (old new : List ℕ) → new ≡ dinode_put d old → dinode_of new ≡ d → drop dinode_length new ≡ drop dinode_length old → KeepsPads old new
unfolding dinode_over
put_keeps d old new is of behind = keeps_by d old (drop dinode_length old) new (is ∙ ap (dinode_put d) (sym (take-append-drop dinode_length old))) of behind

-- pads that are kept twice are kept
pub keeps_on : (old mid new : List ℕ) → dinode_length ≤ length old → KeepsPads old mid → KeepsPads mid new → KeepsPads old new
unfolding KeepsPads
keeps_on old mid new large first then = then ∙ over_again (dinode_of mid) (dinode_of new) old (drop dinode_length mid) mid (drop dinode_length new) large first
