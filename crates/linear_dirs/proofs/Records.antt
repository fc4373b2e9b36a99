-- The records of an area: which one has a name, and which come one after another.
use Rattle.std.proofs.Common.{◌≡◌, ℕ, suc, Bool, true, false, List, [], ◌∷◌, ◌++◌, IsTrue, refl, sym, ap, ◌∙◌, subst, arith, append_assoc}
use Rattle.std.specs.Prelude.{map, filter, not, Contains}
use Rattle.std.proofs.lemmas.List.{map-append, append-nil}
use Rattle.std.proofs.lemmas.List.Elements.{filter-append}
use Rattle.file_tree.specs.Names.{IsName}
use Rattle.gfs2_layout.specs.Area.{Slot, IsShown, IsFirstRecord, name_of, slot_at, slots_of}
use Rattle.gfs2_layout.specs.Holding.{Holding}
use Rattle.gfs2_layout.specs.Inode.{records_of}
use Rattle.gfs2_layout.specs.Records.{Record, record_of, records_in, is_dots}
use Rattle.gfs2_layout.specs.Structures.{is_in_use}
use Rattle.gfs2_layout.specs.declared.dirent.Dirent.{Dirent}
use Rattle.glock_names.specs.Steps.{TellsOf}
use Rattle.glock_names.specs.declared.steps.CallFault.{CallFault}
use Rattle.glock_names.specs.declared.steps.CallFault.TheVariants.{Damaged}
use Rattle.linear_dirs.specs.Broken.{IsBroken, no_name}
use Rattle.linear_dirs.specs.Reading.{told_in}
use Rattle.gfs2_layout.specs.Records.{names_of}

-- ---- the names of records

pub told_more : (slots more : List Slot) → told_in (slots ++ more) ≡ told_in slots ++ told_in more
told_more slots more =
    ap (map record_of) (filter-append (λ (s : Slot). is_in_use s.head) slots more)
    ∙ map-append record_of (filter (λ (s : Slot). is_in_use s.head) slots) (filter (λ (s : Slot). is_in_use s.head) more)

pub names_more : (records more : List Record) → names_of (records ++ more) ≡ names_of records ++ names_of more
names_more records more =
    ap (map (λ (r : Record). r.name)) (filter-append (λ (r : Record). not (is_dots r.name)) records more)
    ∙ map-append (λ (r : Record). r.name) (filter (λ (r : Record). not (is_dots r.name)) records) (filter (λ (r : Record). not (is_dots r.name)) more)

-- the first record, and those behind it
pub first_of : (area name behind : List ℕ) (head : Dirent) → IsFirstRecord area head name behind → records_in area ≡ told_in (slot_at area ∷ []) ++ records_in behind
unfolding records_in
first_of area name behind head first = ap told_in first.slots ∙ told_more (slot_at area ∷ []) (slots_of behind)

-- an area that has ended has none
pub none_left : (area : List ℕ) → slots_of area ≡ [] → records_in area ≡ []
unfolding records_in
none_left area ends = ap told_in ends

-- one record more was gone over
pub one_more : (area rest behind name : List ℕ) (head : Dirent) (front : List Record) → records_in area ≡ front ++ records_in rest → IsFirstRecord rest head name behind
    → records_in area ≡ (front ++ told_in (slot_at rest ∷ [])) ++ records_in behind
one_more area rest behind name head front all first =
    all ∙ ap (λ rs. front ++ rs) (first_of rest name behind head first) ∙ sym (append_assoc front (told_in (slot_at rest ∷ [])) (records_in behind))

pub all_over : (area rest : List ℕ) (front : List Record) → records_in area ≡ front ++ records_in rest → slots_of rest ≡ [] → records_in area ≡ front
all_over area rest front all ends = all ∙ ap (λ rs. front ++ rs) (none_left rest ends) ∙ append-nil front

contained : (before behind : List Record) (r : Record) → Contains (before ++ r ∷ behind) r
contained [] behind r = (0, omega arith, refl)
contained (x ∷ before) behind r = let c = contained before behind r in (suc c.0, omega (arith, c.1), c.2)

-- the record that comes next is one of the area's
pub next_one : (area rest behind name : List ℕ) (head : Dirent) (front : List Record) → records_in area ≡ front ++ records_in rest → IsFirstRecord rest head name behind
    → is_in_use (slot_at rest).head ≡ true → Contains (records_in area) (record_of (slot_at rest))
next_one area rest behind name head front all first used =
    let told : told_in (slot_at rest ∷ []) ≡ record_of (slot_at rest) ∷ [] = rw used refl in
    let is : records_in area ≡ front ++ (record_of (slot_at rest) ∷ records_in behind) =
    all ∙ ap (λ rs. front ++ rs) (first_of rest name behind head first ∙ ap (λ (rs : List Record). rs ++ records_in behind) told) in
    subst (λ rs. Contains rs (record_of (slot_at rest))) (sym is) (contained front (records_in behind) (record_of (slot_at rest)))

-- ---- a name that isn't one

is_true : {b : Bool} → b ≡ true → IsTrue b
is_true e = grind (arith, e)

pub name_broken : (h : Holding) (s : Slot) (head : Dirent) (name : List ℕ) (dir : ℕ) (fault : CallFault) → IsShown head name s → h.own ≡ dir → (is_in_use s.head ≡ true → Contains (records_of h) (record_of s))
    → is_in_use head ≡ true → is_dots name ≡ false → ¬ (IsName name) → fault ≡ Damaged dir 9 → TellsOf (IsBroken h) fault
name_broken h s head name dir fault shown own has used dots wrong is =
    let used_s : is_in_use s.head ≡ true = ap is_in_use (sym shown.head_is) ∙ used in
    let same : name ≡ name_of s = shown.name_is (is_true used_s) in
    let broken : IsBroken h 9 h.own = no_name (record_of s) (has used_s) (ap is_dots (sym same) ∙ dots) (λ one. wrong (subst IsName (sym same) one)) in
    subst (TellsOf (IsBroken h)) (sym is) (subst (IsBroken h 9) own broken)
