-- Where names lead from a linear directory.
use Rattle.std.proofs.Common.{◌≡◌, ◌≢◌, inl, inr, ℕ, zero, suc, ◌<◌, Bool, true, false, List, [], ◌∷◌, Option, None, Some, refl, sym, ap, subst, ◌∙◌, arith}
use Rattle.std.specs.Prelude.{map, Contains, slice_get, find, take}
use Rattle.std.specs.List.{All}
use Rattle.std.specs.Option.{option_map}
use Rattle.std.proofs.lemmas.Bool.{true≢false, cases_Bool, cond-true, cond-false}
use Rattle.std.proofs.lemmas.Option.{slice_get-map, slice_get_within, slice_get-get_or, get_or_from_slice_get}
use Rattle.gfs2_layout.specs.Inode.{is_directory_in, is_hashed_in, linear_area}
use Rattle.gfs2_layout.specs.Records.{Record, records_in, is_dots}
use Rattle.glock_names.specs.declared.steps.Entry.{Entry}
use Rattle.image_model.specs.Claims.{every, Claims, root, master, below, first_leaf, next_leaf, in_dinode, in_leaf, LeadsTo}
use Rattle.image_model.specs.Image.{Image}
use Rattle.image_reader.proofs.Directories.{leaf_is_hashed, not_both}
use Rattle.image_mount.proofs.Records.{led_record, named_in as named_by}
use Rattle.image_model.specs.Owners.{Owner, Named}
use Rattle.image_model.specs.Rules.{HasRecords, from_dinode_block, from_leaves}
use Rattle.image_mount.specs.Listing.{said, AreAllRecords, AreRecordsOf, AreDistinct}
use Rattle.image_mount.specs.Groups.{IsNamedIn}
use Rattle.image_mount.specs.System.{IsAmong}
use Rattle.image_mount.specs.declared.listing.Named.{Named as Item}

-- ---- elements of lists

pub at_contains : {X : Type 0} (xs : List X) (i : ℕ) (x : X) → slice_get xs i ≡ Some x → Contains xs x
at_contains xs i x at = (i, slice_get_within xs i x at, get_or_from_slice_get xs i x x at)

pub contains_at : {X : Type 0} (xs : List X) (x : X) (c : Contains xs x) → slice_get xs c.0 ≡ Some x
contains_at xs x c = slice_get-get_or xs c.0 x c.1 ∙ ap Some c.2

same_some : {X : Type 0} (x y : X) → Some x ≡ Some y → x ≡ y
same_some x y e = cc

-- what holds of each holds of one
pub all_at : {X : Type 0} (P : X → Type 0) (xs : List X) (i : ℕ) (x : X) → All P xs → slice_get xs i ≡ Some x → P x
all_at P xs i x all at = subst P (get_or_from_slice_get xs i x x at) (all i x (slice_get_within xs i x at))

pub taken_at : {X : Type 0} (xs : List X) (n i : ℕ) (x : X) → i < n → slice_get xs i ≡ Some x → slice_get (take n xs) i ≡ Some x
taken_at [] n i x low at = cc
taken_at (y ∷ ys) zero i x low at = absurd (omega (arith, low))
taken_at (y ∷ ys) (suc n) zero x low at = at
taken_at (y ∷ ys) (suc n) (suc i) x low at = taken_at ys n i x (omega (arith, low)) at

pub mapped_at : {X Y : Type 0} (f : X → Y) (xs : List X) (i : ℕ) (x : X) → slice_get xs i ≡ Some x → slice_get (map f xs) i ≡ Some (f x)
mapped_at f xs i x at = slice_get-map f xs i ∙ ap (option_map f) at

pub from_mapped : {X Y : Type 0} (f : X → Y) (xs : List X) (i : ℕ) (y : Y) → slice_get (map f xs) i ≡ Some y → (x : X) × (slice_get xs i ≡ Some x) × (f x ≡ y)
from_mapped {X} {Y} f xs i y at = each (slice_get xs i) refl (sym (slice_get-map f xs i) ∙ at)
  where
    each : (o : Option X) → slice_get xs i ≡ o → option_map f o ≡ Some y → (x : X) × (slice_get xs i ≡ Some x) × (f x ≡ y)
    each None is e = cc
    each (Some x) is e = (x, is, same_some (f x) y e)

pub none_found : {X : Type 0} (test : X → Bool) (xs : List X) (i : ℕ) (x : X) → find test xs ≡ None → slice_get xs i ≡ Some x → test x ≡ false
none_found test [] i x none at = cc
none_found {X} test (y ∷ ys) i x none at = elim (cases_Bool (test y)) [
  | inl so ↦ let e : Some y ≡ None = sym (cond-true _ _ _ so) ∙ none in cc
  | inr non ↦ rest i at non (λ k found. none_found test ys k x (sym (cond-false _ _ _ non) ∙ none) found)
]
  where
    rest : (i : ℕ) → slice_get (y ∷ ys) i ≡ Some x → test y ≡ false → ((k : ℕ) → slice_get ys k ≡ Some x → test x ≡ false) → test x ≡ false
    rest zero at non more = ap test (sym (same_some y x at)) ∙ non
    rest (suc i) at non more = more i at

pub mapped_none : {X Y : Type 0} (f : X → Y) (o : Option X) → option_map f o ≡ None → o ≡ None
mapped_none f None e = refl
mapped_none f (Some x) e = cc

pub mapped_some : {X Y : Type 0} (f : X → Y) (o : Option X) (y : Y) → option_map f o ≡ Some y → (x : X) × (o ≡ Some x) × (f x ≡ y)
mapped_some f None y e = cc
mapped_some f (Some x) y e = (x, refl, same_some (f x) y e)

-- ---- claims by names

-- a record of a linear directory by which the name leads there
pub record IsLed (im : Image) (a : ℕ) (name : List ℕ) (c : ℕ) : Type 0 where
  pub entry : Record
  pub there : Contains (records_in (linear_area (every im a))) entry
  pub named : entry.name ≡ name
  pub address : entry.address ≡ c
  pub leads : is_dots entry.name ≡ false
  pub directory : is_directory_in (every im a) ≡ true

NamesBy : Image → ℕ → Owner → Type 0
NamesBy im c (Named a name) = is_hashed_in (every im a) ≡ false → IsLed im a name c
NamesBy im c _ = Unit {0}

names_by : (im : Image) (by c : ℕ) (o : Owner) → Claims im by c o → NamesBy im c o
unfolding NamesBy
names_by im _ _ _ root = tt
names_by im _ _ _ master = tt
names_by im _ _ _ (below by a o b k level first c claim dinode leads) = tt
names_by im _ _ _ (first_leaf by a o i claim dinode hashed low some) = tt
names_by im _ _ _ (next_leaf by x a hash place claim more) = tt
names_by im _ _ _ (in_dinode by a o r claim dinode dir plain there name) = λ linear. record { entry = r; there = there; named = refl; address = refl; leads = name; directory = dir }
names_by im _ _ _ (in_leaf by x a hash place r claim there name) = λ linear. absurd (not_both (is_hashed_in (every im a)) (leaf_is_hashed im by x a hash place claim) linear)

pub led_by : (im : Image) (a : ℕ) (name : List ℕ) (c : ℕ) → is_hashed_in (every im a) ≡ false → LeadsTo im a name c → IsLed im a name c
unfolding NamesBy
led_by im a name c linear way = names_by im way.0 c (Named a name) way.1 linear

-- from a file no name leads anywhere
pub led_by_file : (im : Image) (a : ℕ) (name : List ℕ) (c : ℕ) → is_directory_in (every im a) ≡ false → LeadsTo im a name c → ⊥
led_by_file im a name c file way =
    let led = led_by im a name c (grind (arith, file)) way in
    true≢false (sym led.directory ∙ file)

-- ---- the records that were read

pub records_same : (im : Image) (a : ℕ) (records all : List Record) → AreRecordsOf im a all → HasRecords im a records → records ≡ all
records_same im a _ all are (from_dinode_block directory linear) = sym are.all
records_same im a _ all are (from_leaves leaves directory hashed of) = absurd (true≢false (sym hashed ∙ are.linear))

-- where a name leads, there is a record of it among them
pub record IsLedAmong (items : List Item) (name : List ℕ) (d : ℕ) : Type 0 where
  pub entry : Entry
  pub among : IsAmong items name entry
  pub address : entry.addr ≡ d
  pub leads : is_dots name ≡ false

pub led_among : (im : Image) (a : ℕ) (items : List Item) (name : List ℕ) (d : ℕ) → AreAllRecords im a items → LeadsTo im a name d → IsLedAmong items name d
led_among im a items name d are way =
    let led = led_record im a way.0 d name way.1 in
    let one = are.all way.0 led.0 led.1 in
    record {
      entry = one.1.0.entry;
      among = record { index = one.0; item = one.1.0; there = one.1.1; named = ap (λ (r : Record). r.name) one.1.2 ∙ led.2; entry_is = refl };
      address = ap (λ (r : Record). r.address) one.1.2 ∙ led.3;
      leads = ap is_dots (sym led.2) ∙ led.4;
    }

-- no name leads by two of them
pub one_among : (items : List Item) (name : List ℕ) (e f : Entry) → AreDistinct (map said items) → IsAmong items name e → IsAmong items name f → e ≡ f
one_among items name e f distinct one other =
    let at = mapped_at said items one.index one.item one.there in
    let at' = mapped_at said items other.index other.item other.there in
    let same : one.index ≡ other.index = distinct one.index other.index (said one.item) (said other.item) at at' (one.named ∙ sym other.named) in
    let is : one.item ≡ other.item = same_some one.item other.item (sym one.there ∙ ap (slice_get items) same ∙ other.there) in
    sym one.entry_is ∙ ap (λ (n : Item). n.entry) is ∙ other.entry_is

-- one of them by its name
pub named_in : (im : Image) (a : ℕ) (items : List Item) (name : List ℕ) (entry : Entry) → AreAllRecords im a items → AreDistinct (map said items) → is_dots name ≡ false → (among : IsAmong items name entry)
    → IsNamedIn im a among.item.block name entry
named_in im a items name entry are distinct leads among =
    let n = among.item in
    let named = named_by im a items are distinct among.index n among.there (ap is_dots among.named ∙ leads) in
    subst (IsNamedIn im a n.block name) among.entry_is (subst (λ x. IsNamedIn im a n.block x n.entry) among.named named)

-- the name is none of these
pub none_among : (items : List Item) (name : List ℕ) (entry : Entry) → IsAmong items name entry → ((i : ℕ) (n : Item) → slice_get items i ≡ Some n → n.name.now ≢ name) → ⊥
none_among items name entry among lacks = lacks among.index among.item among.there among.named
