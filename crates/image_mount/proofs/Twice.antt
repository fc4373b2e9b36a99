-- Names that come twice.
use Rattle.std.proofs.Common.{◌≡◌, ◌≢◌, inl, inr, ℕ, zero, suc, ◌+◌, ◌-◌, ◌<◌, ◌≤◌, true, false, List, [], ◌∷◌, length, take, drop, get_or, Option, None, Some, refl, sym, ap, ◌∙◌, arith}
use Rattle.std.specs.Prelude.{map, slice_get, is_some, IfSome, IfNone}
use Rattle.std.specs.Option.{option_map}
use Rattle.std.proofs.lemmas.Bool.{cases_lt, cases_eq}
use Rattle.std.proofs.lemmas.Option.{slice_get-map, slice_get-get_or, slice_get_within, get_or_from_slice_get}
use Rattle.std.proofs.lemmas.Slice.Eq.{bytes_eq-Decides}
use Rattle.std.specs.Str.{bytes_eq}
use Rattle.image_mount.specs.declared.listing.Named.{Named}
use Rattle.gfs2_layout.specs.Records.{Record}
use Rattle.gfs2_layout.specs.Records.{records_in}
use Rattle.image_model.specs.Claims.{HasArea}
use Rattle.image_model.specs.Image.{Image}
use Rattle.image_model.specs.Rules.{Breaks, twice_in_area}
use Rattle.image_mount.specs.Listing.{said, AreDistinct}
pub use Rattle.image_reader.proofs.Listed.{behind as all_taken}

-- the names of the first so many come no more behind them
abbrev pub AreDistinctTo : List Record → ℕ → Type 0
AreDistinctTo records n = (i j : ℕ) (r s : Record) → i < n → i < j → slice_get records i ≡ Some r → slice_get records j ≡ Some s → r.name ≢ s.name

pub distinct : (records : List Record) (n : ℕ) → length records ≤ n → AreDistinctTo records n → AreDistinct records
distinct records n all to i j r s at other same = elim (cases_lt i j) [
  | inl before ↦ absurd (to i j r s (omega (arith, all, slice_get_within records i r at)) before at other same)
  | inr later ↦ elim (cases_eq i j) [
    | inl is ↦ is
    | inr apart ↦ absurd (to j i s r (omega (arith, all, slice_get_within records j s other)) (omega (arith, later, apart)) other at (sym same))
  ]
]

-- where the names of the first so many differ from one, and so does the next
pub apart_more : (records : List Named) (name : List ℕ) (k : ℕ) (d : Named) → ((i : ℕ) (n : Named) → i < k → slice_get records i ≡ Some n → n.name.now ≢ name)
    → (get_or records k d).name.now ≢ name → (i : ℕ) (n : Named) → i < k + 1 → slice_get records i ≡ Some n → n.name.now ≢ name
apart_more records name k d before last i n low at same = elim (cases_eq i k) [
  | inl is ↦ last (ap (λ (x : Named). x.name.now) (ap (λ j. get_or records j d) (sym is) ∙ get_or_from_slice_get records i n d at) ∙ same)
  | inr other ↦ before i n (omega (arith, low, other)) at same
]

pub apart_all : (records : List Named) (name : List ℕ) (k : ℕ) → length records ≤ k → ((i : ℕ) (n : Named) → i < k → slice_get records i ≡ Some n → n.name.now ≢ name)
    → (i : ℕ) (n : Named) → slice_get records i ≡ Some n → n.name.now ≢ name
apart_all records name k all before i n at = before i n (omega (arith, all, slice_get_within records i n at)) at

pub differ : (a b : List ℕ) → false ≡ bytes_eq a b → a ≢ b
differ a b other same = grind (arith, bytes_eq-Decides a b, other, same)

-- what a record says that stands there
pub said_at : (records : List Named) (i : ℕ) (r : Record) → slice_get (map said records) i ≡ Some r → (n : Named) × (slice_get records i ≡ Some n) × (said n ≡ r)
said_at [] i r at = cc
said_at (n ∷ records) zero r at = (n, refl, some_is (said n) r at)
  where
    some_is : (x y : Record) → Some x ≡ Some y → x ≡ y
    some_is x y e = cc
said_at (n ∷ records) (suc i) r at = said_at records i r at

pub at_said : (records : List Named) (k : ℕ) (d : Named) → k < length records → slice_get (map said records) k ≡ Some (said (get_or records k d))
at_said records k d low = slice_get-map said records k ∙ ap (option_map said) (slice_get-get_or records k d low)

behind : {X : Type 0} (xs : List X) (n i : ℕ) → slice_get (drop n xs) i ≡ slice_get xs (n + i)
behind xs zero i = let place : i ≡ zero + i = omega arith in ap (slice_get xs) place
behind [] (suc n) i = refl
behind (x ∷ xs) (suc n) i = let place : suc (n + i) ≡ suc n + i = omega arith in behind xs n i ∙ ap (slice_get (x ∷ xs)) place

-- the next name comes no more either
distinct_more : (records : List Named) (k : ℕ) (d : Named) → AreDistinctTo (map said records) k
    → ((i : ℕ) (n : Named) → slice_get (drop (k + 1) records) i ≡ Some n → n.name.now ≢ (get_or records k d).name.now) → AreDistinctTo (map said records) (k + 1)
distinct_more records k d to none i j r s low before at other same = elim (cases_lt i k) [
  | inl old ↦ to i j r s old before at other same
  | inr new ↦
      let is : i ≡ k = omega (arith, low, new) in
      let x = said_at records i r at in
      let y = said_at records j s other in
      let here : get_or records k d ≡ x.0 = get_or_from_slice_get records k x.0 d (ap (slice_get records) (sym is) ∙ x.1) in
      let there : slice_get (drop (k + 1) records) (j - (k + 1)) ≡ Some y.0 = behind records (k + 1) (j - (k + 1)) ∙ ap (slice_get records) (omega (arith, before, is)) ∙ y.1 in
      none (j - (k + 1)) y.0 there (ap (λ (q : Record). q.name) y.2 ∙ sym same ∙ sym (ap (λ (q : Record). q.name) x.2) ∙ sym (ap (λ (n : Named). n.name.now) here))
]

twice_breaks : (im : Image) (a block k j : ℕ) (area : List ℕ) (records : List Named) (found d : Named) → HasArea im a block area → map said records ≡ records_in area → k < length records
    → slice_get (drop (k + 1) records) j ≡ Some found → found.name.now ≡ (get_or records k d).name.now → Breaks im 10 block
twice_breaks im a block k j area records found d has is low at named =
    let first = ap (λ l. slice_get l k) (sym is) ∙ at_said records k d low in
    let there : slice_get records (k + 1 + j) ≡ Some found = sym (behind records (k + 1) j) ∙ at in
    let second = ap (λ l. slice_get l (k + 1 + j)) (sym is) ∙ slice_get-map said records (k + 1 + j) ∙ ap (option_map said) there in
    twice_in_area a block k (k + 1 + j) area (said (get_or records k d)) (said found) has first second (omega arith) (sym named)

-- as the code finds it: with what `find` answers for the rest
pub distinct_next : (records rest : List Named) (name : List ℕ) (k : ℕ) (d : Named) (o : Option Named) → AreDistinctTo (map said records) k → rest ≡ take (length records - (k + 1)) (drop (k + 1) records)
    → name ≡ (get_or records k d).name.now → false ≡ is_some o → IfNone o ((i : ℕ) (n : Named) → slice_get rest i ≡ Some n → n.name.now ≢ name) → AreDistinctTo (map said records) (k + 1)
distinct_next records rest name k d None to is named some none =
    distinct_more records k d to (λ i n at same. none i n (ap (λ l. slice_get l i) (is ∙ all_taken (k + 1) records) ∙ at) (same ∙ sym named))
distinct_next records rest name k d (Some found) to is named some none = absurd (cc)

pub twice_found : (im : Image) (a block k : ℕ) (area : List ℕ) (records rest : List Named) (name : List ℕ) (d : Named) (o : Option Named) → HasArea im a block area → map said records ≡ records_in area → k < length records
    → rest ≡ take (length records - (k + 1)) (drop (k + 1) records) → name ≡ (get_or records k d).name.now → true ≡ is_some o → IfSome o (λ found. found.name.now ≡ name)
    → IfSome o (λ found. (i : ℕ) × (slice_get rest i ≡ Some found)) → Breaks im 10 block
twice_found im a block k area records rest name d None has all low is named some same there = absurd (cc)
twice_found im a block k area records rest name d (Some found) has all low is named some same there =
    twice_breaks im a block k there.0 area records found d has all low (ap (λ l. slice_get l there.0) (sym (is ∙ all_taken (k + 1) records)) ∙ there.1) (same ∙ named)
