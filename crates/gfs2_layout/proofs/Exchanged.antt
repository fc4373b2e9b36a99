-- The records of an area as what they say: which is found by a name, and which go and come.
use Rattle.std.proofs.Common.{◌≡◌, ℕ, ◌+◌, ◌≤◌, Bool, true, inl, inr, List, [], ◌∷◌, ◌++◌, length, take, drop, map, None, Some, refl, sym, ap, ◌∙◌, subst, arith, cond}
use Rattle.std.specs.Prelude.{count_by, filter}
use Rattle.std.specs.List.{AllByRecursion, find}
use Rattle.std.specs.List.Sorted.{IsPermutation}
use Rattle.std.specs.Option.{option_map}
use Rattle.std.specs.Str.{bytes_eq}
use Rattle.std.proofs.lemmas.Bool.{cases_Bool, true≢false, cond-true, cond-false}
use Rattle.std.proofs.lemmas.List.{map-append, take_at}
use Rattle.std.proofs.lemmas.List.Sorted.{IsPermutation-refl, IsPermutation-middle, sum_by-IsPermutation}
use Rattle.std.proofs.lemmas.List.Sums.{sum_by-cons}
use Rattle.std.proofs.lemmas.Slice.Eq.{bytes_eq-Decides}
use Rattle.crc_words.specs.Remainder.{crc32_of}
use Rattle.gfs2_layout.specs.Bytes.{u16_at}
use Rattle.gfs2_layout.specs.Structures.{is_in_use}
use Rattle.gfs2_layout.specs.declared.dirent.Dirent.{Dirent}
use Rattle.gfs2_layout.specs.Area.{Slot, slots_of, name_of, has_name, first_named, IsArea, IsRecordAt}
use Rattle.gfs2_layout.specs.Putting.{IsEntryOf, least_length, cut_short, new_slot, put_into, put_slot, says, new_says, told, HasOneMore}
use Rattle.gfs2_layout.specs.Cutting.{without, slot_from, slots_without}
use Rattle.gfs2_layout.specs.Records.{Record, record_of, said_by, records_in, HasItsHash, IsRecordArea, record_named}
use Rattle.gfs2_layout.specs.Exchanges.{IsExchanged}
use Rattle.gfs2_layout.proofs.FoundAfter.{Said, told_put, some_is, some_none, none_before, says_cut, put_by, into_used}
use Rattle.gfs2_layout.proofs.CutAfter.{HoldsName, names_held, name_joined, was_split, told_gone}

-- ---- what is told, as records

abbrev said_record : Said → Record
said_record said = said_by said.0 said.1

records_told : (slots : List Slot) → map record_of (filter (λ s. is_in_use s.head) slots) ≡ map said_record (told slots)
records_told [] = refl
records_told (s ∷ later) = elim (cases_Bool (is_in_use s.head)) [
  | inr unused ↦ rw unused (records_told later)
  | inl used ↦ rw used (ap (λ (rs : List Record). record_of s ∷ rs) (records_told later))
]

pub records_are_told : (area : List ℕ) → records_in area ≡ map said_record (told (slots_of area))
unfolding records_in
records_are_told area = records_told (slots_of area)

-- ---- found by a name

bytes_eq-sym : (a b : List ℕ) → bytes_eq a b ≡ bytes_eq b a
bytes_eq-sym a b = elim (cases_Bool (bytes_eq a b)) [
  | inl same ↦ same ∙ sym ((bytes_eq-Decides b a).1 (sym ((bytes_eq-Decides a b).0 same)))
  | inr apart ↦ elim (cases_Bool (bytes_eq b a)) [
    | inl same ↦ absurd (true≢false (sym ((bytes_eq-Decides a b).1 (sym ((bytes_eq-Decides b a).0 same))) ∙ apart))
    | inr apart' ↦ apart ∙ sym apart'
  ]
]

first_of : (name : List ℕ) (slots : List Slot) → option_map record_of (first_named name slots) ≡ record_named (map record_of (filter (λ s. is_in_use s.head) slots)) name
first_of name [] = refl
first_of name (s ∷ later) = elim (cases_Bool (is_in_use s.head)) [
  | inr unused ↦ rw unused (first_of name later)
  | inl used ↦ elim (cases_Bool (bytes_eq (name_of s) name)) [
    | inl same ↦ rw (used, same, bytes_eq-sym name (name_of s), same) refl
    | inr other ↦ rw (used, other, bytes_eq-sym name (name_of s), other) (first_of name later)
  ]
]

pub first_record : (area name : List ℕ) → option_map record_of (first_named name (slots_of area)) ≡ record_named (records_in area) name
unfolding records_in
first_record area name = first_of name (slots_of area)

pub first_has_name : (name : List ℕ) (slots : List Slot) (s : Slot) → first_named name slots ≡ Some s → (is_in_use s.head ≡ true) × (name_of s ≡ name)
first_has_name name [] s is = absurd (some_none (sym is))
first_has_name name (t ∷ later) s is = elim (cases_Bool (has_name name t)) [
  | inr other ↦ first_has_name name later s (sym (cond-false _ (Some t) (first_named name later) other) ∙ is)
  | inl it ↦ subst (λ (u : Slot). (is_in_use u.head ≡ true) × (name_of u ≡ name)) (some_is (sym (cond-true _ (Some t) (first_named name later) it) ∙ is)) (by_parts it)
]
  where
    by_parts : has_name name t ≡ true → (is_in_use t.head ≡ true) × (name_of t ≡ name)
    by_parts it = elim (cases_Bool (is_in_use t.head)) [
      | inr unused ↦ absurd (let e = rw unused at it in cc)
      | inl used ↦ (used, (bytes_eq-Decides (name_of t) name).0 (let e = rw used at it in e))
    ]

-- ---- counted by a name

none_counted : {X : Type 0} (p : X → Bool) (xs : List X) → count_by p xs ≡ 0 → find p xs ≡ None
none_counted p [] none = refl
none_counted p (x ∷ xs) none = elim (cases_Bool (p x)) [
  | inl it ↦ absurd (let n : ℕ = cond (p x) 1 0 in let one : n ≡ 1 = rw it refl in omega (arith, none, one, sum_by-cons (λ y. cond (p y) 1 0) x xs))
  | inr other ↦ cond-false _ (Some x) (find p xs) other ∙ none_counted p xs (omega (arith, none, sum_by-cons (λ y. cond (p y) 1 0) x xs))
]

-- ---- records that go and come

one_more_record : (x : Said) (a b : List ℕ) → HasOneMore x (told (slots_of a)) (told (slots_of b)) → IsPermutation (records_in b) (said_record x ∷ records_in a)
one_more_record x a b more =
    let front = map said_record more.front in
    let back = map said_record more.back in
    let was : records_in a ≡ front ++ back = records_are_told a ∙ ap (map said_record) more.was ∙ map-append said_record more.front more.back in
    let is : records_in b ≡ front ++ said_record x ∷ back = records_are_told b ∙ ap (map said_record) more.is ∙ map-append said_record more.front (x ∷ more.back) in
    subst (λ (rs : List Record). IsPermutation (records_in b) (said_record x ∷ rs)) (sym was) (subst (λ (rs : List Record). IsPermutation rs (said_record x ∷ (front ++ back))) (sym is) (IsPermutation-middle front (said_record x) back))

pub comes : (old new : List ℕ) (entry : Dirent) (name : List ℕ) → IsEntryOf entry name → put_slot entry name (slots_of old) ≡ Some (slots_of new) → IsExchanged (records_in old) (records_in new) [] (said_by entry name ∷ [])
comes old new entry name of put = record {
  rest = records_in old;
  before = IsPermutation-refl (records_in old);
  after = one_more_record (new_says entry name) old new (told_put entry name of (slots_of old) (slots_of new) put);
}

module _ (old new : List ℕ) (at : ℕ) (here : IsRecordAt old at) (used : is_in_use (slot_from at old).head ≡ true) (cut : slots_of new ≡ slots_without at old) where
  without_it : IsPermutation (records_in old) (record_of (slot_from at old) ∷ records_in new)
  without_it = one_more_record (says (slot_from at old)) new old (told_gone old new at here used cut)

  pub goes : IsExchanged (records_in old) (records_in new) (record_of (slot_from at old) ∷ []) []
  goes = record { rest = records_in new; before = without_it; after = IsPermutation-refl (records_in new) }

  -- one that stood once isn't found
  pub found_no_more : count_by (λ r. bytes_eq (name_of (slot_from at old)) r.name) (records_in old) ≤ 1 → first_named (name_of (slot_from at old)) (slots_of new) ≡ None
  found_no_more once =
      let name = name_of (slot_from at old) in
      let counts : Record → ℕ = λ r. cond (bytes_eq name r.name) 1 0 in
      let its : counts (record_of (slot_from at old)) ≡ 1 = rw ((bytes_eq-Decides name name).1 refl) refl in
      let none : count_by (λ r. bytes_eq name r.name) (records_in new) ≡ 0 =
      omega (arith, once, its, sum_by-IsPermutation counts (records_in old) (record_of (slot_from at old) ∷ records_in new) without_it, sum_by-cons counts (record_of (slot_from at old)) (records_in new)) in
      none_before record_of (first_named name (slots_of new)) (first_record new name ∙ none_counted (λ r. bytes_eq name r.name) (records_in new) none)

-- ---- each record in use has its name's hash, as before

hashes_split : (before : List Slot) (s : Slot) (later : List Slot) → AllByRecursion HoldsName before → AllByRecursion HasItsHash (before ++ s ∷ later) → AllByRecursion HasItsHash (without before s ++ later)
hashes_split [] s later hold hashes = ((λ used. absurd (true≢false (sym used))), hashes.1)
hashes_split (p ∷ []) s later hold hashes = ((λ used. hashes.0 used ∙ ap crc32_of (sym (name_joined p s hold.0 used))), hashes.1.1)
hashes_split (p ∷ q ∷ before) s later hold hashes = (hashes.0, hashes_split (q ∷ before) s later hold.1 hashes.1)

pub cut_area : (old new : List ℕ) (at : ℕ) → IsRecordArea old → IsRecordAt old at → slots_of new ≡ slots_without at old → IsArea new → IsRecordArea new
cut_area old new at is here cut area = record {
  fills = area;
  hashes = subst (AllByRecursion HasItsHash) (sym cut)
      (hashes_split (slots_of (take at old)) (slot_from at old) (slots_of (drop (at + u16_at 20 (drop at old)) old)) (names_held (take at old) here.before)
      (subst (AllByRecursion HasItsHash) (was_split old at here) is.hashes));
}

module _ (entry : Dirent) (name : List ℕ) (of : IsEntryOf entry name) where
  hash_new : (over : List ℕ) → HasItsHash (new_slot entry name over)
  hash_new over used = of.hash ∙ ap crc32_of (sym (take_at name (drop (length name) over) entry.name_len (sym of.name_len)))

  hash_cut : (s : Slot) → HasItsHash s → HasItsHash (cut_short s)
  hash_cut s hash used = hash used ∙ ap crc32_of (sym (ap (λ (said : Said). said.1) (says_cut s)))

  hashes_into : (s : Slot) (later : List Slot) → HasItsHash s → AllByRecursion HasItsHash later → AllByRecursion HasItsHash (put_into entry name s ++ later)
  hashes_into s later hash hashes = elim (cases_Bool (is_in_use s.head)) [
    | inr unused ↦ rw unused (hash_new s.body, hashes)
    | inl used ↦ subst (AllByRecursion HasItsHash) (sym (into_used entry name s later used)) (hash_cut s hash, (hash_new (drop (least_length s.head.name_len) s.body), hashes))
  ]

  hashes_put : (slots after : List Slot) → put_slot entry name slots ≡ Some after → AllByRecursion HasItsHash slots → AllByRecursion HasItsHash after
  hashes_put =
      put_by entry name (λ slots after. AllByRecursion HasItsHash slots → AllByRecursion HasItsHash after) (λ s later hashes. hashes_into s later hashes.0 hashes.1)
      (λ s later rest more hashes. (hashes.0, more hashes.1))

  pub put_area : (old new : List ℕ) → IsRecordArea old → put_slot entry name (slots_of old) ≡ Some (slots_of new) → IsArea new → IsRecordArea new
  put_area old new is put area = record { fills = area; hashes = hashes_put (slots_of old) (slots_of new) put is.hashes }
