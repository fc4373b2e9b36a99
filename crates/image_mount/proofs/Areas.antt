-- The records of an area, as they are read one after another.
use Rattle.std.proofs.Common.{◌≡◌, ◌≢◌, ℕ, suc, List, [], ◌∷◌, ◌++◌, Bool, true, false, IsTrue, refl, sym, ap, subst, ◌∙◌, arith, append_assoc}
use Rattle.std.specs.Prelude.{map, filter, Contains}
use Rattle.std.specs.List.{AllByRecursion}
use Rattle.std.proofs.lemmas.Bool.{both_ways}
use Rattle.std.proofs.lemmas.List.{map-append, append-nil}
use Rattle.std.proofs.lemmas.List.Elements.{filter-append}
use Rattle.crc_words.specs.Remainder.{crc32_of}
use Rattle.gfs2_layout.specs.Area.{Slot, slots_of, IsArea, IsShown}
use Rattle.gfs2_layout.specs.Records.{Record, record_of, records_in, HasItsHash, IsRecordArea}
use Rattle.gfs2_layout.specs.Structures.{is_in_use}
use Rattle.gfs2_layout.specs.declared.dirent.Dirent.{Dirent}
use Rattle.image_model.specs.Claims.{HasArea}
use Rattle.image_model.specs.Image.{Image}
use Rattle.image_model.specs.Rules.{other_hash}
use Rattle.image_mount.specs.Found.{HasFormat, IsReached}
use Rattle.image_mount.specs.Listing.{said_in}
use Rattle.image_mount.specs.Refusals.{RefusesRightly}
use Rattle.image_mount.specs.declared.fault.MountFault.{MountFault}
use Rattle.image_mount.specs.declared.fault.MountFault.TheVariants as fault
use Rattle.shared_disk.proofs.FlightLaws.{all_append}
use Rattle.image_mount.proofs.Causes.{told}

-- these are the records before the rest of an area
pub record IsHalf (area rest : List ℕ) (records : List Record) : Type 0 where
  pub before : List Slot
  pub split : slots_of area ≡ before ++ slots_of rest
  pub read : records ≡ said_in before
  pub hashes : AllByRecursion HasItsHash before

pub half_none : (area : List ℕ) → IsHalf area area []
half_none area = record { before = []; split = refl; read = refl; hashes = tt }

said_more : (before : List Slot) (s : Slot) → said_in (before ++ s ∷ []) ≡ said_in before ++ said_in (s ∷ [])
said_more before s = ap (map record_of) (filter-append (λ (x : Slot). is_in_use x.head) before (s ∷ [])) ∙ map-append record_of (filter (λ (x : Slot). is_in_use x.head) before) (filter (λ (x : Slot). is_in_use x.head) (s ∷ []))

pub half_more : (area rest behind : List ℕ) (records new : List Record) (s : Slot) → IsHalf area rest records → slots_of rest ≡ s ∷ slots_of behind → new ≡ records ++ said_in (s ∷ []) → HasItsHash s → IsHalf area behind new
half_more area rest behind records new s half first is hash = record {
  before = half.before ++ s ∷ [];
  split = half.split ∙ ap (λ xs. half.before ++ xs) first ∙ sym (append_assoc half.before (s ∷ []) (slots_of behind));
  read = is ∙ ap (λ rs. rs ++ said_in (s ∷ [])) half.read ∙ sym (said_more half.before s);
  hashes = all_append HasItsHash half.before (s ∷ []) half.hashes (hash, tt);
}

-- at the end all were looked at
pub half_filled : (area rest : List ℕ) (records : List Record) → IsHalf area rest records → slots_of rest ≡ [] → IsArea area → IsRecordArea area
half_filled area rest records half ends fills =
    let all : slots_of area ≡ half.before = half.split ∙ ap (λ xs. half.before ++ xs) ends ∙ append-nil half.before in
    record { fills = fills; hashes = subst (AllByRecursion HasItsHash) (sym all) half.hashes }

pub half_all : (area rest : List ℕ) (records : List Record) → IsHalf area rest records → slots_of rest ≡ [] → records ≡ records_in area
unfolding records_in
half_all area rest records half ends =
    let all : slots_of area ≡ half.before = half.split ∙ ap (λ xs. half.before ++ xs) ends ∙ append-nil half.before in
    half.read ∙ ap said_in (sym all)

contained_behind : (before behind : List Slot) (s : Slot) → Contains (before ++ s ∷ behind) s
contained_behind [] behind s = (0, omega arith, refl)
contained_behind (x ∷ before) behind s = let c = contained_behind before behind s in (suc c.0, omega (arith, c.1), c.2)

-- the record that comes next is one of the area
pub next_in : (area rest behind : List ℕ) (records : List Record) (s : Slot) → IsHalf area rest records → slots_of rest ≡ s ∷ slots_of behind → Contains (slots_of area) s
next_in area rest behind records s half first = subst (λ xs. Contains xs s) (sym (half.split ∙ ap (λ xs. half.before ++ xs) first)) (contained_behind half.before (slots_of behind) s)

is_true : {b : Bool} → b ≡ true → IsTrue b
is_true e = grind (arith, e)

-- a record that isn't in use needs no hash
pub idle_hashed : (head : Dirent) (name : List ℕ) (s : Slot) → IsShown head name s → is_in_use head ≡ false → HasItsHash s
idle_hashed head name s at idle used = absurd (both_ways (is_in_use s.head) (ap is_in_use (sym at.head_is) ∙ idle) used)

pub hash_found : (head : Dirent) (name : List ℕ) (hash : ℕ) (s : Slot) → IsShown head name s → hash ≡ crc32_of name → head.hash ≡ hash → HasItsHash s
hash_found head name hash s at hash_is same used = ap (λ (d : Dirent). d.hash) (sym at.head_is) ∙ same ∙ hash_is ∙ ap crc32_of (at.name_is (is_true used))

pub wrong_hash : (im : Image) (f : MountFault) (a block hash : ℕ) (area name : List ℕ) (head : Dirent) (s : Slot) → f ≡ fault.Damaged block 9 → IsShown head name s → HasFormat im → IsReached im block → HasArea im a block area
    → Contains (slots_of area) s → is_in_use head ≡ true → hash ≡ crc32_of name → head.hash ≢ hash → RefusesRightly im f
wrong_hash im f a block hash area name head s is at format low has there used hash_is other =
    let use_s : is_in_use s.head ≡ true = ap is_in_use (sym at.head_is) ∙ used in
    told im f block 9 is format low (other_hash a block area s has there use_s
    (λ e. other (ap (λ (d : Dirent). d.hash) at.head_is ∙ e ∙ sym (ap crc32_of (at.name_is (is_true use_s))) ∙ sym hash_is)))
