-- The records of a new directory, read back.
use Rattle.std.proofs.Common.{ℕ, ◌≡◌, ◌≢◌, ◌+◌, ◌-◌, ◌*◌, ◌/◌, ◌^◌, ◌<◌, ◌≤◌, ◌⊎◌, inl, inr, Bool, true, false, None, Some, List, [], ◌∷◌, ◌++◌, length, take, drop, replicate, map, refl, sym, ap, ap₂, ◌∙◌, subst, arith, length-append, append_assoc, append-nil}
use Rattle.std.specs.Prelude.{◌==◌, ◌&&◌, not, filter, if◌then◌else◌}
use Rattle.std.specs.List.{AllByRecursion}
use Rattle.std.proofs.lemmas.Bool.{cond-true, cond-false, eq-eqb, ne_eqb, true≢false}
use Rattle.std.proofs.lemmas.List.{take_at, take-take, take-append-le, drop-append-le, length-replicate, drop-replicate, map-append}
use Rattle.std.proofs.lemmas.List.Elements.{All-from_recursion, filter-append}
use Rattle.crc_words.specs.Remainder.{crc32_of}
use Rattle.gfs2_layout.specs.Bytes.{put_at, u16_at}
use Rattle.gfs2_layout.specs.Laws.{HaveWidths}
use Rattle.gfs2_layout.specs.Structures.{or_else, length_fault, kind_fault, dirent_of, is_in_use}
use Rattle.gfs2_layout.specs.Writing.{dirent_fields, dirent_put}
use Rattle.gfs2_layout.specs.Area.{Slot, slot_at, slots_of, name_of, IsArea}
use Rattle.gfs2_layout.specs.declared.dirent.Dirent.{Dirent}
use Rattle.gfs2_layout.specs.declared.fault.LayoutFault.{LayoutFault}
use Rattle.gfs2_layout.specs.declared.fault.LayoutFault.TheVariants.{Value}
use Rattle.gfs2_layout.specs.Records.{Record, record_of, records_in, HasItsHash, IsRecordArea}
use Rattle.gfs2_layout.specs.Putting.{least_length}
use Rattle.mkgfs2_tool.specs.Directories.{name_of as name_in, head_of, record_bytes, records, Fit}
use Rattle.mkgfs2_tool.specs.declared.directory.Entry.{Entry}
use Rattle.mkgfs2_tool.proofs.StandingLists.{all_append}
use Rattle.mkgfs2_tool.proofs.StandingBytes.{answer_ok, take_put, behind_put}
use Rattle.mkgfs2_tool.proofs.StandingGiven.{Given, length_put, zeros_are_bytes}

abbrev pub AreBytes : List ℕ → Type 0
AreBytes xs = AllByRecursion (λ b. b < 256) xs

-- an entry whose numbers have their widths
pub record IsPlain (e : Entry) : Type 0 where
  pub name : length (name_in e) ≤ 16
  pub bytes : AreBytes (name_in e)
  pub number_low : e.number < 2 ^ 64
  pub address_low : e.address < 2 ^ 64
  pub kind : (e.kind ≡ 4) ⊎ (e.kind ≡ 8)

-- an entry that leads somewhere, and whose record reaches over no other
pub record IsEntry (e : Entry) : Type 0 where
  pub plain : IsPlain e
  pub number : e.number ≢ 0
  pub address : e.address ≢ 0
  pub reach : e.reach ≡ 0

-- what the record of an entry says
abbrev pub entry_record : Entry → Record
entry_record e = record { name = name_in e; number = e.number; address = e.address; kind = e.kind }

-- the bytes of an entry's record, and what is read of them, whatever stands behind
pub record IsHead (e : Entry) (room : ℕ) (bytes : List ℕ) : Type 0 where
  pub long : length bytes ≡ room
  pub read : (tail : List ℕ) → dirent_of (bytes ++ tail) ≡ head_of e room
  pub behind : drop 40 bytes ≡ name_in e ++ replicate (room - 40 - length (name_in e)) 0

-- these bytes are an area of so many, whose records say this
pub record AreRecordsOf (room : ℕ) (rs : List Record) (bytes : List ℕ) : Type 0 where
  pub long : length bytes ≡ room
  pub area : IsRecordArea bytes
  pub are : records_in bytes ≡ rs

right_by : (u f e : Bool) (v : LayoutFault) → (f ≡ true) ⊎ (e ≡ true) → (if u && not f && not e then Some v else None) ≡ None
right_by true true e v h = refl
right_by true false true v h = refl
right_by true false false v (inl h) = absurd (true≢false (sym h))
right_by true false false v (inr h) = absurd (true≢false (sym h))
right_by false f e v h = refl

right_kind : (d : Dirent) → (d.kind ≡ 4) ⊎ (d.kind ≡ 8) → kind_fault d ≡ None
right_kind d (inl four) = right_by (is_in_use d) (d.kind == 4) (d.kind == 8) (Value 24 d.kind) (inl (eq-eqb d.kind 4 four))
right_kind d (inr eight) = right_by (is_in_use d) (d.kind == 4) (d.kind == 8) (Value 24 d.kind) (inr (eq-eqb d.kind 8 eight))

in_use : (d : Dirent) → d.inum.number ≢ 0 → d.inum.address ≢ 0 → is_in_use d ≡ true
in_use d n a = λ t. not (ne_eqb d.inum.number 0 (λ e. n e) t) && not (ne_eqb d.inum.address 0 (λ e. a e) t)

under_rooms : (n room : ℕ) → (40 + n + 7) / 8 * 8 ≤ room → 40 + n ≤ room
under_rooms n room fits = omega (arith, fits)

pub head_read : (given : Given) (e : Entry) (room : ℕ) → IsPlain e → least_length (length (name_in e)) ≤ room → room + e.reach < 2 ^ 16 → IsHead e room (record_bytes e room)
head_read given e room is fits short =
    let law = given.structures.dirent in
    let clear : List ℕ = replicate room 0 in
    let name : List ℕ = name_in e in
    let inside : 40 + length name ≤ room = under_rooms (length name) room fits in
    let long_clear : length clear ≡ room = length-replicate {A = ℕ} room 0 in
    let enough : 40 ≤ length clear = omega (arith, long_clear, inside) in
    let head : Dirent = head_of e room in
    let widths : HaveWidths (dirent_fields head) =
    (is.number_low, (is.address_low, (given.fits name (All-from_recursion (λ b. b < 256) name is.bytes), (short, (omega (arith, is.name), (omega (arith, is.kind), (omega arith, tt))))))) in
    let base : List ℕ = dirent_put head clear in
    let long_base : length base ≡ room = law.as_long head clear enough tt ∙ long_clear in
    let bytes : List ℕ = put_at 40 name base in
    let long : length bytes ≡ room = length_put 40 name base (omega (arith, long_base, inside)) ∙ long_base in
    let fault : kind_fault head ≡ None = right_kind head is.kind in
    record {
      long = long;
      read = λ tail. (answer_ok (or_else (length_fault 40 (bytes ++ tail)) (kind_fault (dirent_of (bytes ++ tail)))) (dirent_of (bytes ++ tail)) head
          (law.own (bytes ++ tail) base (omega (arith, length-append bytes tail, long, inside)) (omega (arith, long_base, inside)) (take-append-le 40 bytes tail (omega (arith, long, inside)) ∙ take_put 40 name base (omega (arith, long_base, inside)))
          ∙ law.back head clear enough (zeros_are_bytes room) tt (record { widths = widths; kind = fault }))).1;
      behind = behind_put 40 (room - 40) name base (omega (arith, long_base, inside)) (law.behind head clear enough tt ∙ drop-replicate {X = ℕ} 40 room 0);
    }

pub record IsOne (e : Entry) (bytes : List ℕ) : Type 0 where
  pub slots : slots_of bytes ≡ slot_at bytes ∷ []
  pub area : IsArea bytes
  pub head : (slot_at bytes).head ≡ head_of e (length bytes - e.reach)
  pub name : name_of (slot_at bytes) ≡ name_in e

-- one record, which reaches over what stands behind its own bytes
pub one_area : (given : Given) (e : Entry) (room : ℕ) (tail : List ℕ) → IsPlain e → least_length (length (name_in e)) ≤ room → room + e.reach < 2 ^ 16 → length tail ≡ e.reach → IsOne e (record_bytes e room ++ tail)
one_area given e room tail is fits short over =
    let own = head_read given e room is fits short in
    let name : List ℕ = name_in e in
    let inside : 40 + length name ≤ room = under_rooms (length name) room fits in
    let bytes : List ℕ = record_bytes e room ++ tail in
    let long : length bytes ≡ room + e.reach = omega (arith, length-append (record_bytes e room) tail, own.long, over) in
    let read : dirent_of bytes ≡ head_of e room = own.read tail in
    let behind : drop 40 bytes ≡ name ++ (replicate (room - 40 - length name) 0 ++ tail) =
    drop-append-le 40 (record_bytes e room) tail (omega (arith, own.long, inside)) ∙ ap (λ xs. xs ++ tail) own.behind ∙ append_assoc name (replicate (room - 40 - length name) 0) tail in
    let size : u16_at 20 bytes ≡ room + e.reach = ap (λ (d : Dirent). d.rec_len) read in
    let name_long : u16_at 22 bytes ≡ length name = ap (λ (d : Dirent). d.name_len) read in
    let named : name_of (slot_at bytes) ≡ name =
    (λ t. take (name_long t) (take (size t - 40) (behind t)))
    ∙ take-take (length name) (room + e.reach - 40) (name ++ (replicate (room - 40 - length name) 0 ++ tail)) (omega (arith, inside))
    ∙ take_at name (replicate (room - 40 - length name) 0 ++ tail) (length name) refl in
    let alone = given.areas.one bytes (omega (arith, long, inside)) (size ∙ sym long) (λ u. omega (arith, size, name_long, inside)) in
    let own_room : length bytes - e.reach ≡ room = omega (arith, long) in
    record { slots = alone.0; area = alone.1; head = read ∙ ap (head_of e) (sym own_room); name = named }

-- ---- one record after another

abbrev pub AreEntries : List Entry → Type 0
AreEntries es = AllByRecursion IsEntry es

abbrev said_in : List Slot → List Record
said_in slots = map record_of (filter (λ (s : Slot). is_in_use s.head) slots)

pub none_area : (given : Given) (e : Entry) (room : ℕ) → IsPlain e → e.number ≡ 0 → e.reach ≡ 0 → least_length (length (name_in e)) ≤ room → room < 2 ^ 16 → AreRecordsOf room [] (record_bytes e room)
unfolding records_in
none_area given e room is number over fits short =
    let bytes : List ℕ = record_bytes e room ++ [] in
    let one = one_area given e room [] is fits (omega (arith, short, over)) (sym over) in
    let used : is_in_use (slot_at bytes).head ≡ false = ap is_in_use one.head ∙ not_used (head_of e (length bytes - e.reach)) number in
    subst (AreRecordsOf room []) (append-nil (record_bytes e room)) (record {
      long = ap length (append-nil (record_bytes e room)) ∙ (head_read given e room is fits (omega (arith, short, over))).long;
      area = record { fills = one.area; hashes = subst (AllByRecursion HasItsHash) (sym one.slots) ((λ u. absurd (true≢false (sym u ∙ used))), tt) };
      are = ap said_in one.slots ∙ ap (map record_of) (cond-false _ _ _ used);
    })
  where
    not_used : (d : Dirent) → d.inum.number ≡ 0 → is_in_use d ≡ false
    not_used d z = λ t. not (eq-eqb d.inum.number 0 z t) && not (d.inum.address == 0)

pub used_area : (given : Given) (e : Entry) (room : ℕ) (tail : List ℕ) → IsPlain e → e.number ≢ 0 → e.address ≢ 0 → least_length (length (name_in e)) ≤ room → room + e.reach < 2 ^ 16 → length tail ≡ e.reach
    → AreRecordsOf (room + length tail) (entry_record e ∷ []) (record_bytes e room ++ tail)
unfolding records_in
used_area given e room tail is number address fits short over =
    let bytes : List ℕ = record_bytes e room ++ tail in
    let one = one_area given e room tail is fits short over in
    let used : is_in_use (slot_at bytes).head ≡ true = ap is_in_use one.head ∙ in_use (head_of e (length bytes - e.reach)) number address in
    let says : record_of (slot_at bytes) ≡ entry_record e = λ t. record { name = one.name t; number = (one.head t).inum.number; address = (one.head t).inum.address; kind = (one.head t).kind } in
    record {
      long = length-append (record_bytes e room) tail ∙ ap (λ n. n + length tail) (head_read given e room is fits short).long;
      area = record { fills = one.area; hashes = subst (AllByRecursion HasItsHash) (sym one.slots) ((λ u. ap (λ (d : Dirent). d.hash) one.head ∙ sym (ap crc32_of one.name)), tt) };
      are = ap said_in one.slots ∙ ap (map record_of) (cond-true _ _ _ used) ∙ ap (λ (r : Record). r ∷ []) says;
    }

pub one_record : (given : Given) (e : Entry) (room : ℕ) → IsEntry e → least_length (length (name_in e)) ≤ room → room < 2 ^ 16 → AreRecordsOf room (entry_record e ∷ []) (record_bytes e room)
one_record given e room is fits short =
    subst (AreRecordsOf room (entry_record e ∷ [])) (append-nil (record_bytes e room))
    (subst (λ n. AreRecordsOf n (entry_record e ∷ []) (record_bytes e room ++ [])) (none room) (used_area given e room [] is.plain is.number is.address fits (omega (arith, short, is.reach)) (sym is.reach)))
  where
    none : (n : ℕ) → n + 0 ≡ n
    none n = omega arith

-- two areas, one behind the other
pub both_areas : (given : Given) (n m : ℕ) (rs qs : List Record) (a b : List ℕ) → AreRecordsOf n rs a → AreRecordsOf m qs b → AreRecordsOf (n + m) (rs ++ qs) (a ++ b)
unfolding records_in
both_areas given n m rs qs a b first later =
    let both = given.areas.both a b first.area.fills later.area.fills in
    record {
      long = length-append a b ∙ (λ t. first.long t + later.long t);
      area = record { fills = both.1; hashes = subst (AllByRecursion HasItsHash) (sym both.0) (all_append HasItsHash (slots_of a) (slots_of b) first.area.hashes later.area.hashes) };
      are = ap said_in both.0 ∙ ap (map record_of) (filter-append (λ (s : Slot). is_in_use s.head) (slots_of a) (slots_of b))
          ∙ map-append record_of (filter (λ (s : Slot). is_in_use s.head) (slots_of a)) (filter (λ (s : Slot). is_in_use s.head) (slots_of b)) ∙ ap₂ (λ (x y : List Record). x ++ y) first.are later.are;
    }

abbrev pub AreRecords : ℕ → List Entry → List ℕ → Type 0
AreRecords room es bytes = AreRecordsOf room (map entry_record es) bytes

pub records_are : (given : Given) (room : ℕ) (es : List Entry) → AreEntries es → Fit room es → room < 2 ^ 16 → AreRecords room es (records room es)
unfolding records
records_are given room [] all fit short = elim fit [ ]
records_are given room (e ∷ []) all fit short = one_record given e room all.0 fit short
records_are given room (e ∷ f ∷ es) all fit short =
    let least : ℕ = least_length (length (name_in e)) in
    subst (λ n. AreRecords n (e ∷ f ∷ es) (record_bytes e least ++ records (room - least) (f ∷ es))) (whole least room fit.0)
    (both_areas given least (room - least) (entry_record e ∷ []) (map entry_record (f ∷ es)) (record_bytes e least) (records (room - least) (f ∷ es))
    (one_record given e least all.0 (omega arith) (omega (arith, fit.0, short))) (records_are given (room - least) (f ∷ es) all.1 fit.1 (omega (arith, short))))
  where
    whole : (a n : ℕ) → a ≤ n → a + (n - a) ≡ n
    whole a n le = omega (arith, le)
