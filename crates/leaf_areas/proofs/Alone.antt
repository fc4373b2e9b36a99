-- Bytes that are one record, as it was written over zeros.
use Rattle.std.proofs.Common.{◌≡◌, ℕ, ◌+◌, ◌-◌, ◌≤◌, List, [], ◌∷◌, ◌++◌, length, take, replicate, refl, ap, ◌∙◌, arith}
use Rattle.std.proofs.lemmas.List.{length-replicate, drop-replicate, drop_all, take_all, drop_at, length-take-le}
use Rattle.gfs2_layout.specs.Bytes.{slice}
use Rattle.gfs2_layout.specs.Writing.{zeros_from}
use Rattle.gfs2_layout.specs.Area.{Slot, slot_at, slots_of, name_of, HasItsName, IsArea}
use Rattle.gfs2_layout.specs.Putting.{new_slot}
use Rattle.gfs2_layout.specs.declared.dirent.Dirent.{Dirent}
use Rattle.gfs2_layout.proofs.Records.{area_ends}
use Rattle.gfs2_layout.proofs.Places.{area_none}
use Rattle.gfs2_layout.proofs.Written.{stands}
use Rattle.leaf_areas.specs.Moving.{moved, unused}

-- the zeros that a new record is written over
pub over_zeros : (bytes : List ℕ) → 40 ≤ length bytes → slice 40 (length bytes - 40) (zeros_from 40 bytes) ≡ replicate (length bytes - 40) 0
over_zeros bytes long =
    let n : ℕ = length bytes - 40 in
    let zeros : List ℕ = replicate n 0 in
    ap (take n) (drop_at (take 40 bytes) zeros 40 (length-take-le 40 bytes long)) ∙ take_all n zeros (omega (arith, length-replicate {A = ℕ} n 0))

-- a new record over zeros, by its parts
new_over : (entry : Dirent) (name : List ℕ) (len : ℕ) → 40 ≤ len
    → new_slot entry name (replicate (len - 40) 0) ≡ record { head = record entry { rec_len = len }; pad = replicate 12 0; body = name ++ replicate (len - 40 - length name) 0 }
new_over entry name len low =
    let zeros : List ℕ = replicate (len - 40) 0 in
    let long : 40 + length zeros ≡ len = omega (arith, length-replicate {A = ℕ} (len - 40) 0, low) in
    let none : List ℕ = replicate 12 0 in
    λ i. record { head = record entry { rec_len = long i }; pad = none; body = name ++ drop-replicate (length name) (len - 40) 0 i }

pub moved_is : (s : Slot) (len : ℕ) → 40 ≤ len → new_slot (record s.head { rahead = 0 }) (name_of s) (replicate (len - 40) 0) ≡ moved len s
moved_is s len low = new_over (record s.head { rahead = 0 }) (name_of s) len low

-- the head of a record that isn't in use
abbrev pub no_entry : Dirent
no_entry = record { inum = record { number = 0; address = 0 }; hash = 0; rec_len = 0; name_len = 0; kind = 0; rahead = 0 }

pub unused_is : (len : ℕ) → 40 ≤ len → new_slot no_entry [] (replicate (len - 40) 0) ≡ unused len
unused_is len low =
    let none : List ℕ = replicate 12 0 in
    let same : len - 40 - 0 ≡ len - 40 = omega arith in
    new_over no_entry [] len low ∙ (λ i. record { head = record no_entry { rec_len = len }; pad = none; body = replicate (same i) 0 })

-- bytes that are one record
pub record IsAlone (bytes : List ℕ) (s : Slot) : Type 0 where
  pub slots : slots_of bytes ≡ s ∷ []
  pub area : IsArea bytes

pub alone : (bytes : List ℕ) (s : Slot) → slot_at bytes ≡ s → s.head.rec_len ≡ length bytes → 40 ≤ length bytes → HasItsName s → IsAlone bytes s
alone bytes s slot whole low named =
    let standing = stands bytes s [] slot (omega (arith, whole, low)) (omega (arith, whole)) named (drop_all s.head.rec_len bytes (omega (arith, whole))) (area_none [] refl) in
    record { slots = standing.slots ∙ ap (λ (ss : List Slot). s ∷ ss) (area_ends [] refl); area = standing.area }
