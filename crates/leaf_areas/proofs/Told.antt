-- What records say after they moved or were halved.
use Rattle.std.proofs.Common.{◌≡◌, ℕ, ◌-◌, Bool, true, false, List, [], ◌∷◌, ◌++◌, length, replicate, map, refl, sym, ap, ◌∙◌, arith}
use Rattle.std.specs.Prelude.{filter, not}
use Rattle.std.specs.List.{AllByRecursion}
use Rattle.std.proofs.lemmas.Bool.{true≢false}
use Rattle.std.proofs.lemmas.List.{append-nil, append_assoc, length-append, length-take-le, take_at}
use Rattle.crc_words.specs.Remainder.{crc32_of}
use Rattle.gfs2_layout.specs.Structures.{is_in_use}
use Rattle.gfs2_layout.specs.Area.{Slot, slot_bytes, slots_of, name_of}
use Rattle.gfs2_layout.specs.Cutting.{joined, without}
use Rattle.gfs2_layout.specs.Records.{Record, record_of, records_in, HasItsHash, IsRecordArea}
use Rattle.gfs2_layout.proofs.CutAfter.{HoldsName, names_held, name_joined}
use Rattle.leaf_areas.specs.Moving.{in_use, moved, moved_length, packed}
use Rattle.leaf_areas.specs.Splitting.{is_lower, is_lower_name, cut_each}

-- what the records in use say
abbrev pub said : List Slot → List Record
said slots = map record_of (in_use slots)

pub records_are_said : (area : List ℕ) → records_in area ≡ said (slots_of area)
unfolding records_in
records_are_said area = refl

-- a record that is in use has its name in it, and its name's hash
pub record IsSound (s : Slot) : Type 0 where
  pub holds : HoldsName s
  pub hash : HasItsHash s

sound_both : (slots : List Slot) → AllByRecursion HoldsName slots → AllByRecursion HasItsHash slots → AllByRecursion IsSound slots
sound_both [] hold hash = tt
sound_both (s ∷ later) hold hash = (record { holds = hold.0; hash = hash.0 }, sound_both later hold.1 hash.1)

pub sound_area : (area : List ℕ) → IsRecordArea area → AllByRecursion IsSound (slots_of area)
sound_area area is = sound_both (slots_of area) (names_held area is.fills) is.hashes

pub sound_hashes : (slots : List Slot) → AllByRecursion IsSound slots → AllByRecursion HasItsHash slots
sound_hashes [] all = tt
sound_hashes (s ∷ later) all = (all.0.hash, sound_hashes later all.1)

-- ---- records that moved

-- one that is in use, as it has to be
abbrev pub IsMoving : Slot → Type 0
IsMoving s = (is_in_use s.head ≡ true) × IsSound s

name_moved : (len : ℕ) (s : Slot) → IsMoving s → name_of (moved len s) ≡ name_of s
name_moved len s is = let zeros : List ℕ = replicate (len - 40 - length (name_of s)) 0 in take_at (name_of s) zeros s.head.name_len (length-take-le s.head.name_len s.body (is.1.holds is.0))

record_moved : (len : ℕ) (s : Slot) → IsMoving s → record_of (moved len s) ≡ record_of s
record_moved len s is = ap (λ (name : List ℕ). let r : Record = record { name = name; number = s.head.inum.number; address = s.head.inum.address; kind = s.head.kind } in r) (name_moved len s is)

hash_moved : (len : ℕ) (s : Slot) → IsMoving s → HasItsHash (moved len s)
hash_moved len s is used = is.1.hash is.0 ∙ ap crc32_of (sym (name_moved len s is))

one_said : (len : ℕ) (s : Slot) (later : List Slot) → IsMoving s → said (moved len s ∷ later) ≡ record_of s ∷ said later
one_said len s later is = rw is.0 (ap (λ (r : Record). r ∷ said later) (record_moved len s is))

pub packed_said : (room : ℕ) (slots : List Slot) → AllByRecursion IsMoving slots → said (packed room slots) ≡ map record_of slots
packed_said room [] all = refl
packed_said room (s ∷ []) all = one_said room s [] all.0
packed_said room (s ∷ t ∷ later) all =
    one_said (moved_length s) s (packed (room - moved_length s) (t ∷ later)) all.0 ∙ ap (λ (rs : List Record). record_of s ∷ rs) (packed_said (room - moved_length s) (t ∷ later) all.1)

pub packed_hashes : (room : ℕ) (slots : List Slot) → AllByRecursion IsMoving slots → AllByRecursion HasItsHash (packed room slots)
packed_hashes room [] all = ((λ used. absurd (true≢false (sym used))), tt)
packed_hashes room (s ∷ []) all = (hash_moved room s all.0, tt)
packed_hashes room (s ∷ t ∷ later) all = (hash_moved (moved_length s) s all.0, packed_hashes (room - moved_length s) (t ∷ later) all.1)

-- those that are picked, where these are in use, move
pub picked_move : (p : Slot → Bool) → ((s : Slot) → p s ≡ true → is_in_use s.head ≡ true) → (slots : List Slot) → AllByRecursion IsSound slots → AllByRecursion IsMoving (filter p slots)
picked_move p used [] all = tt
picked_move p used (s ∷ later) all = by_test (p s) refl (picked_move p used later all.1)
  where
    by_test : (b : Bool) → p s ≡ b → AllByRecursion IsMoving (filter p later) → AllByRecursion IsMoving (filter p (s ∷ later))
    by_test true is more = rw is ((used s is, all.0), more)
    by_test false is more = rw is more

-- ---- the lower half

pub lower_said : (depth : ℕ) (slots : List Slot) → map record_of (filter (is_lower depth) slots) ≡ filter (λ r. is_lower_name depth r.name) (said slots)
lower_said depth [] = refl
lower_said depth (s ∷ later) = by_tests (is_in_use s.head) (is_lower_name depth (name_of s)) refl refl (lower_said depth later)
  where
    by_tests : (a b : Bool) → is_in_use s.head ≡ a → is_lower_name depth (name_of s) ≡ b → map record_of (filter (is_lower depth) later) ≡ filter (λ r. is_lower_name depth r.name) (said later)
        → map record_of (filter (is_lower depth) (s ∷ later)) ≡ filter (λ r. is_lower_name depth r.name) (said (s ∷ later))
    by_tests false b used low more = rw used more
    by_tests true true used low more = rw (used, low) (ap (λ (rs : List Record). record_of s ∷ rs) more)
    by_tests true false used low more = rw (used, low) more

-- ---- what stays

said_first : (s : Slot) (later : List Slot) → said (s ∷ later) ≡ said (s ∷ []) ++ said later
said_first s later = by_test (is_in_use s.head) refl
  where
    by_test : (b : Bool) → is_in_use s.head ≡ b → said (s ∷ later) ≡ said (s ∷ []) ++ said later
    by_test true used = rw used refl
    by_test false used = rw used refl

said_on : (front : List Slot) (s : Slot) → said (front ++ s ∷ []) ≡ said front ++ said (s ∷ [])
said_on [] s = refl
said_on (t ∷ front) s =
    said_first t (front ++ s ∷ []) ∙ ap (λ (rs : List Record). said (t ∷ []) ++ rs) (said_on front s) ∙ sym (append_assoc (said (t ∷ [])) (said front) (said (s ∷ []))) ∙ ap (λ (rs : List Record). rs ++ said (s ∷ [])) (sym (said_first t front))

joined_said : (b s : Slot) → IsSound b → said (joined b s ∷ []) ≡ said (b ∷ [])
joined_said b s sound = by_test (is_in_use b.head) refl
  where
    by_test : (u : Bool) → is_in_use b.head ≡ u → said (joined b s ∷ []) ≡ said (b ∷ [])
    by_test false unused = rw unused refl
    by_test true used =
        rw used (ap (λ (name : List ℕ). let r : Record = record { name = name; number = b.head.inum.number; address = b.head.inum.address; kind = b.head.kind } in r ∷ []) (name_joined b s sound.holds used))

said_without : (front : List Slot) (s : Slot) → AllByRecursion IsSound front → said (without front s) ≡ said front
said_without [] s all = refl
said_without (b ∷ []) s all = joined_said b s all.0
said_without (b ∷ c ∷ front) s all = said_first b (without (c ∷ front) s) ∙ ap (λ (rs : List Record). said (b ∷ []) ++ rs) (said_without (c ∷ front) s all.1) ∙ sym (said_first b (c ∷ front))

sound_without : (front : List Slot) (s : Slot) → AllByRecursion IsSound front → AllByRecursion IsSound (without front s)
sound_without [] s all = (record { holds = λ used. absurd (true≢false (sym used)); hash = λ used. absurd (true≢false (sym used)) }, tt)
sound_without (b ∷ []) s all = (
  record { holds = λ used. omega (arith, all.0.holds used, length-append b.body (slot_bytes s)); hash = λ used. all.0.hash used ∙ ap crc32_of (sym (name_joined b s all.0.holds used)) },
  tt,
)
sound_without (b ∷ c ∷ front) s all = (all.0, sound_without (c ∷ front) s all.1)

sound_push : (front : List Slot) (s : Slot) → AllByRecursion IsSound front → IsSound s → AllByRecursion IsSound (front ++ s ∷ [])
sound_push [] s all sound = (sound, tt)
sound_push (t ∷ front) s all sound = (all.0, sound_push front s all.1 sound)

-- those of the upper half
abbrev upper_of : ℕ → List Record → List Record
upper_of depth records = filter (λ r. not (is_lower_name depth r.name)) records

upper_first : (depth : ℕ) (s : Slot) (later : List Slot) → is_lower depth s ≡ false → upper_of depth (said (s ∷ later)) ≡ said (s ∷ []) ++ upper_of depth (said later)
upper_first depth s later stays = by_tests (is_in_use s.head) (is_lower_name depth (name_of s)) refl refl
  where
    by_tests : (a b : Bool) → is_in_use s.head ≡ a → is_lower_name depth (name_of s) ≡ b → upper_of depth (said (s ∷ later)) ≡ said (s ∷ []) ++ upper_of depth (said later)
    by_tests false b used low = rw used refl
    by_tests true true used low = absurd (let e = rw (used, low) at stays in cc)
    by_tests true false used low = rw (used, low) refl

upper_gone : (depth : ℕ) (s : Slot) (later : List Slot) → is_lower depth s ≡ true → upper_of depth (said (s ∷ later)) ≡ upper_of depth (said later)
upper_gone depth s later goes = by_tests (is_in_use s.head) (is_lower_name depth (name_of s)) refl refl
  where
    by_tests : (a b : Bool) → is_in_use s.head ≡ a → is_lower_name depth (name_of s) ≡ b → upper_of depth (said (s ∷ later)) ≡ upper_of depth (said later)
    by_tests false b used low = rw used refl
    by_tests true true used low = rw (used, low) refl
    by_tests true false used low = absurd (let e = rw (used, low) at goes in cc)

-- what is cut says what the front did, and what those of the upper half do that follow
pub record IsHalved (depth : ℕ) (front later : List Slot) : Type 0 where
  pub said_is : said (cut_each (is_lower depth) front later) ≡ said front ++ upper_of depth (said later)
  pub sound : AllByRecursion IsSound (cut_each (is_lower depth) front later)

pub halved : (depth : ℕ) (front later : List Slot) → AllByRecursion IsSound front → AllByRecursion IsSound later → IsHalved depth front later
halved depth front [] before after = record { said_is = sym (append-nil (said front)); sound = before }
halved depth front (s ∷ later) before after =
    by_test (is_lower depth s) refl (halved depth (without front s) later (sound_without front s before) after.1) (halved depth (front ++ s ∷ []) later (sound_push front s before after.0) after.1)
  where
    by_test : (b : Bool) → is_lower depth s ≡ b → IsHalved depth (without front s) later → IsHalved depth (front ++ s ∷ []) later → IsHalved depth front (s ∷ later)
    by_test true goes cut kept = record {
      said_is = rw goes (cut.said_is ∙ ap (λ (rs : List Record). rs ++ upper_of depth (said later)) (said_without front s before)) ∙ ap (λ (rs : List Record). said front ++ rs) (sym (upper_gone depth s later goes));
      sound = rw goes cut.sound;
    }
    by_test false stays cut kept = record {
      said_is = rw stays (kept.said_is ∙ ap (λ (rs : List Record). rs ++ upper_of depth (said later)) (said_on front s) ∙ append_assoc (said front) (said (s ∷ [])) (upper_of depth (said later)))
          ∙ ap (λ (rs : List Record). said front ++ rs) (sym (upper_first depth s later stays));
      sound = rw stays kept.sound;
    }
