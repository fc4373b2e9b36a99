-- What becomes of the records of an area that move, or that are halved.
use Rattle.std.specs.Prelude.{ℕ, ◌≡◌, ◌^◌, ◌<◌, ◌≤◌, not, List, length, filter}
use Rattle.gfs2_layout.specs.Area.{IsArea, slots_of}
use Rattle.gfs2_layout.specs.Records.{IsRecordArea, records_in}
use Rattle.leaf_areas.specs.Moving.{in_use, packed}
use Rattle.leaf_areas.specs.Splitting.{is_lower_name, lower_half, upper_half}

-- records that moved into an area that isn't shorter say there what they said, in their order
abbrev pub MovedRecordsStay : Type 0
MovedRecordsStay = (from into : List ℕ) → IsRecordArea from → length from ≤ length into → length into < 2 ^ 16 → slots_of into ≡ packed (length into) (in_use (slots_of from)) → IsArea into
    → IsRecordArea into × (records_in into ≡ records_in from)

-- the records of the two halves are those of the leaf, parted by their names, each half in its order
abbrev pub HalvesHaveTheRecords : Type 0
HalvesHaveTheRecords = (depth : ℕ) (old lower upper : List ℕ) → IsRecordArea old → length lower ≡ length old → length old < 2 ^ 16
    → slots_of lower ≡ lower_half (length lower) depth (slots_of old) → IsArea lower → slots_of upper ≡ upper_half depth (slots_of old) → IsArea upper
    → (IsRecordArea lower × IsRecordArea upper)
    × (records_in lower ≡ filter (λ r. is_lower_name depth r.name) (records_in old)) × (records_in upper ≡ filter (λ r. not (is_lower_name depth r.name)) (records_in old))
