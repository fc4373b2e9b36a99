-- Records that are added to those of other leaves.
use Rattle.std.proofs.Common.{◌≡◌, ◌≢◌, ◌⊎◌, inl, inr, ℕ, zero, suc, ◌+◌, ◌<◌, ◌≤◌, Bool, true, false, List, [], ◌∷◌, ◌++◌, length, get_or, take, Option, None, Some, refl, sym, ap, subst, ◌∙◌, arith, append_assoc}
use Rattle.std.specs.Prelude.{map, find, Contains, IfSome, IfNone, is_some, slice_get}
use Rattle.std.specs.List.{All}
use Rattle.std.proofs.Math.Seq.{take-suc, take-length}
use Rattle.std.proofs.lemmas.Bool.{cond-false}
use Rattle.std.proofs.lemmas.List.{append-nil, map-append}
use Rattle.std.proofs.lemmas.Simd.{map-map}
use Rattle.std.proofs.lemmas.Option.{slice_get-get_or, slice_get_within, get_or_from_slice_get}
use Rattle.gfs2_layout.specs.Records.{Record}
use Rattle.image_model.specs.Image.{Image}
use Rattle.image_model.specs.Rules.{HasRecordIn, twice}
use Rattle.image_mount.specs.Found.{HasFormat, IsReached}
use Rattle.image_mount.specs.Listing.{said, standing, AreDistinct}
use Rattle.image_mount.specs.Refusals.{RefusesRightly}
use Rattle.image_mount.specs.declared.fault.MountFault.{MountFault}
use Rattle.image_mount.specs.declared.fault.MountFault.TheVariants as fault
use Rattle.image_mount.specs.declared.listing.Named.{Named}
use Rattle.image_mount.proofs.Causes.{told}
use Rattle.image_mount.proofs.Names.{mapped_at, from_mapped}

-- ---- lists of records

pub get_left : {X : Type 0} (xs ys : List X) (k : ℕ) (x : X) → slice_get xs k ≡ Some x → slice_get (xs ++ ys) k ≡ Some x
get_left [] ys k x at = cc
get_left (z ∷ xs) ys zero x at = at
get_left (z ∷ xs) ys (suc k) x at = get_left xs ys k x at

pub get_right : {X : Type 0} (xs ys : List X) (c : ℕ) (x : X) → slice_get ys c ≡ Some x → (k : ℕ) × (slice_get (xs ++ ys) k ≡ Some x)
get_right [] ys c x at = (c, at)
get_right (z ∷ xs) ys c x at = let more = get_right xs ys c x at in (suc more.0, more.1)

pub get_either : {X : Type 0} (xs ys : List X) (k : ℕ) (x : X) → slice_get (xs ++ ys) k ≡ Some x → (slice_get xs k ≡ Some x) ⊎ ((c : ℕ) × (slice_get ys c ≡ Some x))
get_either [] ys k x at = inr (k, at)
get_either (z ∷ xs) ys zero x at = inl at
get_either (z ∷ xs) ys (suc k) x at = get_either xs ys k x at

pub none_found : {X : Type 0} (test : X → Bool) (xs : List X) → ((x : X) → Contains xs x → test x ≡ false) → find test xs ≡ None
none_found test [] none = refl
none_found {X} test (x ∷ xs) none =
    cond-false (test x) (Some x) (find test xs) (none x (0, omega arith, refl)) ∙ none_found test xs (λ y there. none y (suc there.0, omega (arith, there.1), there.2))

module _ (old new : List Named) (ys : List (Record × ℕ)) (added : map standing new ≡ map standing old ++ ys) where
  pub kept_at : (k : ℕ) (n : Named) → slice_get old k ≡ Some n → (m : Named) × (slice_get new k ≡ Some m) × (standing m ≡ standing n)
  kept_at k n at = from_mapped standing new k (standing n) (ap (λ l. slice_get l k) added ∙ get_left (map standing old) ys k (standing n) (mapped_at standing old k n at))

  pub new_at : (c : ℕ) (y : Record × ℕ) → slice_get ys c ≡ Some y → (k : ℕ) × ((m : Named) × (slice_get new k ≡ Some m) × (standing m ≡ y))
  new_at c y at =
      let there = get_right (map standing old) ys c y at in
      (there.0, from_mapped standing new there.0 y (ap (λ l. slice_get l there.0) added ∙ there.1))

  pub which_at : (k : ℕ) (m : Named) → slice_get new k ≡ Some m → ((n : Named) × (slice_get old k ≡ Some n) × (standing n ≡ standing m)) ⊎ ((c : ℕ) × (slice_get ys c ≡ Some (standing m)))
  which_at k m at = elim (get_either (map standing old) ys k (standing m) (ap (λ l. slice_get l k) (sym added) ∙ mapped_at standing new k m at)) [
    | inl here ↦ inl (from_mapped standing old k (standing m) here)
    | inr there ↦ inr there
  ]

-- what they say, without their blocks
pub said_of : (xs : List Named) → map (λ (p : Record × ℕ). p.0) (map standing xs) ≡ map said xs
said_of xs = map-map (λ (p : Record × ℕ). p.0) standing xs

records_of : (b : ℕ) (rs : List Record) → map (λ (p : Record × ℕ). p.0) (map (λ r. (r, b)) rs) ≡ rs
records_of b [] = refl
records_of b (r ∷ rs) = ap (λ xs. r ∷ xs) (records_of b rs)

pub said_added : (old new : List Named) (b : ℕ) (rs : List Record) → map standing new ≡ map standing old ++ map (λ r. (r, b)) rs → map said new ≡ map said old ++ rs
said_added old new b rs added =
    sym (said_of new) ∙ ap (map (λ (p : Record × ℕ). p.0)) added ∙ map-append (λ (p : Record × ℕ). p.0) (map standing old) (map (λ r. (r, b)) rs)
    ∙ (λ i. said_of old i ++ records_of b rs i)

-- ---- one record more

abbrev pub no_record : Named
no_record = record { name = record { ref_ptr = (0, 0); now = [] }; entry = record { number = 0; addr = 0; kind = 0 }; block = 0 }

-- these are those at first, and so many of a leaf
abbrev pub IsAdded : List Named → List Named → ℕ → List Named → Type 0
IsAdded initial records k found = map standing found ≡ map standing initial ++ map standing (take k records)

pub added_start : (initial records : List Named) → IsAdded initial records 0 initial
added_start initial records = sym (append-nil (map standing initial))

-- the same record under the name that is kept
pub same_standing : (n : Named) (name : List ℕ) → name ≡ n.name.now → (record { name = name; number = n.entry.number; address = n.entry.addr; kind = n.entry.kind }, n.block) ≡ standing n
same_standing n name is = ap (λ x. (record { name = x; number = n.entry.number; address = n.entry.addr; kind = n.entry.kind }, n.block)) is

pub added_more : (initial records found new : List Named) (k : ℕ) (d y : Named) → IsAdded initial records k found → k < length records → new ≡ found ++ y ∷ [] → standing y ≡ standing (get_or records k d) → IsAdded initial records (k + 1) new
added_more initial records found new k d y before low is same =
    let next : take (k + 1) records ≡ take k records ++ get_or records k d ∷ [] = let one : k + 1 ≡ suc k = omega arith in ap (λ n. take n records) one ∙ take-suc records k d low in
    ap (map standing) is ∙ map-append standing found (y ∷ []) ∙ (λ i. before i ++ same i ∷ []) ∙ append_assoc (map standing initial) (map standing (take k records)) (standing (get_or records k d) ∷ [])
    ∙ ap (λ xs. map standing initial ++ xs) (sym (map-append standing (take k records) (get_or records k d ∷ [])) ∙ ap (map standing) (sym next))

pub added_all : (initial records found : List Named) (k : ℕ) → length records ≤ k → IsAdded initial records k found → k ≤ length records → map standing found ≡ map standing initial ++ map standing records
added_all initial records found k all is low =
    let same : k ≡ length records = omega (arith, all, low) in
    is ∙ ap (λ n. map standing initial ++ map standing (take n records)) same ∙ ap (λ xs. map standing initial ++ map standing xs) (take-length records)

record_is : (a b : Record) → Some a ≡ Some b → a ≡ b
record_is a b e = cc

-- one more of another name than all of them
pub distinct_more : (found new : List Named) (y : Named) → AreDistinct (map said found) → new ≡ found ++ y ∷ [] → ((i : ℕ) (n : Named) → slice_get found i ≡ Some n → n.name.now ≢ y.name.now) → AreDistinct (map said new)
distinct_more found new y distinct is other i j r s at at' same =
    let at : slice_get (map said found ++ said y ∷ []) i ≡ Some r = ap (λ l. slice_get l i) (sym (map-append said found (y ∷ [])) ∙ ap (map said) (sym is)) ∙ at in
    let at' : slice_get (map said found ++ said y ∷ []) j ≡ Some s = ap (λ l. slice_get l j) (sym (map-append said found (y ∷ [])) ∙ ap (map said) (sym is)) ∙ at' in
    elim (last_or (map said found) (said y) i r at) [
      | inl a ↦ elim (last_or (map said found) (said y) j s at') [
        | inl b ↦ distinct i j r s a b same
        | inr b ↦ let n = from_mapped said found i r a in absurd (other i n.0 n.1 (ap (λ (q : Record). q.name) n.2 ∙ same ∙ ap (λ (q : Record). q.name) b.1))
      ]
      | inr a ↦ elim (last_or (map said found) (said y) j s at') [
        | inl b ↦ let n = from_mapped said found j s b in absurd (other j n.0 n.1 (ap (λ (q : Record). q.name) n.2 ∙ sym same ∙ ap (λ (q : Record). q.name) a.1))
        | inr b ↦ a.0 ∙ sym b.0
      ]
    ]
  where
    last_or : (xs : List Record) (x : Record) (k : ℕ) (z : Record) → slice_get (xs ++ x ∷ []) k ≡ Some z → (slice_get xs k ≡ Some z) ⊎ ((k ≡ length xs) × (z ≡ x))
    last_or [] x zero z e = inr (refl, record_is z x (sym e))
    last_or [] x (suc k) z e = absurd (no z e)
      where
        no : (z : Record) → None ≡ Some z → ⊥
        no z e = cc
    last_or (w ∷ xs) x zero z e = inl e
    last_or (w ∷ xs) x (suc k) z e = elim (last_or xs x k z e) [ inl here ↦ inl here | inr there ↦ inr (ap suc there.0, there.1) ]

-- a name that was found already
pub twice_found : (im : Image) (a block k i : ℕ) (f : MountFault) (initial records found : List Named) (d n : Named) → HasFormat im → IsReached im block → f ≡ fault.Damaged block 10
    → All (λ m. HasRecordIn im a m.block (said m) × (m.block ≢ block)) initial → All (λ m. HasRecordIn im a block (said m)) records → AreDistinct (map said records) → IsAdded initial records k found
    → k < length records → slice_get found i ≡ Some n → n.name.now ≡ (get_or records k d).name.now → RefusesRightly im f
twice_found im a block k i f initial records found d n format inside is before here distinct added low at named =
    let mine = get_or records k d in
    elim (which_at initial found (map standing (take k records)) added i n at) [
      | inl old ↦
          let m = old.0 in
          let j : ℕ = i in
          let is_there = before i m (slice_get_within initial i m old.1) in
          let same : get_or initial i m ≡ m = get_or_from_slice_get initial i m m old.1 in
          let has : HasRecordIn im a m.block (said m) = subst (λ (x : Named). HasRecordIn im a x.block (said x)) same is_there.0 in
          let apart : m.block ≢ block = subst (λ (x : Named). x.block ≢ block) same is_there.1 in
          let name : (said mine).name ≡ (said m).name = sym named ∙ sym (ap (λ (p : Record × ℕ). p.0.name) old.2) in
          told im f block 10 is format inside (twice a block m.block (said mine) (said m) (here k d low) has (λ e. apart (sym e)) name)
      | inr new ↦
          let m = from_mapped standing (take k records) new.0 (standing n) new.1 in
          let within : new.0 < k = taken_within records k new.0 m.0 m.1 in
          let there : slice_get records new.0 ≡ Some m.0 = taken_at records k new.0 m.0 m.1 in
          let first = mapped_at said records new.0 m.0 there in
          let second = mapped_at said records k mine (slice_get-get_or records k d low) in
          let name : (said m.0).name ≡ (said mine).name = ap (λ (p : Record × ℕ). p.0.name) m.2 ∙ named in
          absurd (omega (arith, within, distinct new.0 k (said m.0) (said mine) first second name))
    ]
  where
    taken_at : (xs : List Named) (k i : ℕ) (x : Named) → slice_get (take k xs) i ≡ Some x → slice_get xs i ≡ Some x
    taken_at [] zero i x e = e
    taken_at [] (suc k) i x e = e
    taken_at (y ∷ ys) zero i x e = absurd (no x e)
      where
        no : (x : Named) → None ≡ Some x → ⊥
        no x e = cc
    taken_at (y ∷ ys) (suc k) zero x e = e
    taken_at (y ∷ ys) (suc k) (suc i) x e = taken_at ys k i x e

    taken_within : (xs : List Named) (k i : ℕ) (x : Named) → slice_get (take k xs) i ≡ Some x → i < k
    taken_within [] zero i x e = absurd (no x e)
      where
        no : (x : Named) → None ≡ Some x → ⊥
        no x e = cc
    taken_within [] (suc k) i x e = absurd (no x e)
      where
        no : (x : Named) → None ≡ Some x → ⊥
        no x e = cc
    taken_within (y ∷ ys) zero i x e = absurd (no x e)
      where
        no : (x : Named) → None ≡ Some x → ⊥
        no x e = cc
    taken_within (y ∷ ys) (suc k) zero x e = omega arith
    taken_within (y ∷ ys) (suc k) (suc i) x e = omega (arith, taken_within ys k i x e)

-- what is said of an option that is there
pub found_some : (found : List Named) (name : List ℕ) (o : Option Named) → is_some o ≡ true → IfSome o (λ n. (i : ℕ) × (slice_get found i ≡ Some n)) → IfSome o (λ n. n.name.now ≡ name)
    → (n : Named) × ((i : ℕ) × ((slice_get found i ≡ Some n) × (n.name.now ≡ name)))
found_some found name None e there named = absurd (let no : false ≡ true = e in cc)
found_some found name (Some n) e there named = (n, (there.0, (there.1, named)))

pub none_there : {P : Type 0} (o : Option Named) → is_some o ≡ false → IfNone o P → P
none_there None e none = none
none_there (Some n) e none = absurd (let no : true ≡ false = e in cc)

-- a name that is none of these
pub apart_from : (found now : List Named) (kept name : List ℕ) → now ≡ found → kept ≡ name → ((i : ℕ) (n : Named) → slice_get now i ≡ Some n → n.name.now ≢ name) → (i : ℕ) (n : Named) → slice_get found i ≡ Some n → n.name.now ≢ kept
apart_from found now kept name same is none i n at e = none i n (ap (λ l. slice_get l i) same ∙ at) (e ∙ is)

-- what was read of a leaf stands there
pub leaf_standing : (block : ℕ) (records : List Named) (rs : List Record) → map said records ≡ rs → All (λ n. n.block ≡ block) records → map standing records ≡ map (λ (r : Record). (r, block)) rs
leaf_standing block records rs said_is here = each records here ∙ ap (map (λ (r : Record). (r, block))) said_is
  where
    each : (xs : List Named) → All (λ n. n.block ≡ block) xs → map standing xs ≡ map (λ (r : Record). (r, block)) (map said xs)
    each [] all = refl
    each (n ∷ xs) all =
        let first : n.block ≡ block = all 0 n (omega arith) in
        λ i. (said n, first i) ∷ each xs (λ k d low. all (suc k) d (omega (arith, low))) i
