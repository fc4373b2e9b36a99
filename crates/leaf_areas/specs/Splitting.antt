-- The two halves of a leaf that is split: which records go, and what stays.
use Rattle.std.specs.Prelude.{ℕ, ◌-◌, ◌/◌, ◌%◌, ◌^◌, ◌==◌, ◌&&◌, not, Bool, if◌then◌else◌, List, [], ◌∷◌, ◌++◌, filter}
use Rattle.crc_words.specs.Remainder.{crc32_of}
use Rattle.gfs2_layout.specs.Area.{Slot, name_of}
use Rattle.gfs2_layout.specs.Cutting.{without}
use Rattle.gfs2_layout.specs.Structures.{is_in_use}
use Rattle.leaf_areas.specs.Moving.{packed}

-- the bit of a hash that tells to which half of a leaf of this depth it belongs: the first behind so many
abbrev pub bit_at : ℕ → ℕ → ℕ
bit_at depth hash = hash / 2 ^ (31 - depth) % 2

-- a name belongs to the lower half of a leaf of this depth
abbrev pub is_lower_name : ℕ → List ℕ → Bool
is_lower_name depth name = bit_at depth (crc32_of name) == 0

-- so does a record in use by its name
abbrev pub is_lower : ℕ → Slot → Bool
is_lower depth s = is_in_use s.head && is_lower_name depth (name_of s)

-- a record in use of the upper half stays
abbrev pub is_upper : ℕ → Slot → Bool
is_upper depth s = is_in_use s.head && not (is_lower_name depth (name_of s))

-- the lower half goes into a new leaf, whose area has so many bytes
abbrev pub lower_half : ℕ → ℕ → List Slot → List Slot
lower_half room depth slots = packed room (filter (is_lower depth) slots)

-- some records after those that go are cut, one after another; `front` are those before, as they are by then
abbrev pub cut_each : (Slot → Bool) → List Slot → List Slot → List Slot
cut_each goes front [] = front
cut_each goes front (s ∷ later) = if goes s then cut_each goes (without front s) later else cut_each goes (front ++ s ∷ []) later

-- what stays of the leaf: its records after those of the lower half are cut
abbrev pub upper_half : ℕ → List Slot → List Slot
upper_half depth slots = cut_each (is_lower depth) [] slots
