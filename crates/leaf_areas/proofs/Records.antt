-- The records of areas that were filled from others, or halved.
use Rattle.std.proofs.Common.{◌≡◌, ℕ, Bool, true, List, [], length, map, refl, sym, ap, ◌∙◌, subst}
use Rattle.std.specs.Prelude.{filter, not}
use Rattle.std.specs.List.{AllByRecursion}
use Rattle.gfs2_layout.specs.Structures.{is_in_use}
use Rattle.gfs2_layout.specs.Area.{Slot, slots_of, IsArea}
use Rattle.gfs2_layout.specs.Records.{record_of, records_in, HasItsHash, IsRecordArea}
use Rattle.leaf_areas.specs.declared.parts.Part.TheVariants.{Lower}
use Rattle.leaf_areas.specs.Moving.{in_use, packed}
use Rattle.leaf_areas.specs.Splitting.{is_lower, is_lower_name, lower_half, upper_half}
use Rattle.leaf_areas.proofs.Next.{belongs_used}
use Rattle.leaf_areas.proofs.Told.{IsMoving, said, records_are_said, sound_area, sound_hashes, packed_said, packed_hashes, picked_move, lower_said, halved}

-- an area of packed records
packed_area : (room : ℕ) (slots : List Slot) (from into : List ℕ) (p : Slot → Bool) → ((s : Slot) → p s ≡ true → is_in_use s.head ≡ true) → IsRecordArea from → slots ≡ filter p (slots_of from) → slots_of into ≡ packed room slots → IsArea into
    → IsRecordArea into × (records_in into ≡ map record_of slots)
packed_area room slots from into p used is picked slots_is area =
    let all = subst (AllByRecursion IsMoving) (sym picked) (picked_move p used (slots_of from) (sound_area from is)) in (
      record { fills = area; hashes = subst (AllByRecursion HasItsHash) (sym slots_is) (packed_hashes room slots all) },
      records_are_said into ∙ ap said slots_is ∙ packed_said room slots all,
    )

pub moved_area : (from into : List ℕ) → IsRecordArea from → slots_of into ≡ packed (length into) (in_use (slots_of from)) → IsArea into → IsRecordArea into × (records_in into ≡ records_in from)
moved_area from into is slots area =
    let both = packed_area (length into) (in_use (slots_of from)) from into (λ s. is_in_use s.head) (λ s used. used) is refl slots area in
    (both.0, both.1 ∙ sym (records_are_said from))

pub lower_area : (depth : ℕ) (old lower : List ℕ) → IsRecordArea old → slots_of lower ≡ lower_half (length lower) depth (slots_of old) → IsArea lower
    → IsRecordArea lower × (records_in lower ≡ filter (λ r. is_lower_name depth r.name) (records_in old))
lower_area depth old lower is slots area =
    let both = packed_area (length lower) (filter (is_lower depth) (slots_of old)) old lower (is_lower depth) (λ s it. belongs_used (Lower depth) s it) is refl slots area in
    (both.0, both.1 ∙ lower_said depth (slots_of old) ∙ ap (filter (λ r. is_lower_name depth r.name)) (sym (records_are_said old)))

pub upper_area : (depth : ℕ) (old upper : List ℕ) → IsRecordArea old → slots_of upper ≡ upper_half depth (slots_of old) → IsArea upper
    → IsRecordArea upper × (records_in upper ≡ filter (λ r. not (is_lower_name depth r.name)) (records_in old))
upper_area depth old upper is slots area =
    let half = halved depth [] (slots_of old) tt (sound_area old is) in (
      record { fills = area; hashes = subst (AllByRecursion HasItsHash) (sym slots) (sound_hashes (upper_half depth (slots_of old)) half.sound) },
      records_are_said upper ∙ ap said slots ∙ half.said_is ∙ ap (filter (λ r. not (is_lower_name depth r.name))) (sym (records_are_said old)),
    )
