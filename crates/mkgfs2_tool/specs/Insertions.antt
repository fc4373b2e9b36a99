-- The directory of journals of a new image is the one that comes of putting its names in one by one.
use Rattle.std.specs.Prelude.{ℕ, ◌≡◌, ◌-◌, ◌<◌, ◌≤◌, true, false, List, [], ◌∷◌, map, Option, Some, None, option_and_then}
use Rattle.std.specs.List.{range_with_len}
use Rattle.gfs2_layout.specs.Area.{Slot, slots_of}
use Rattle.gfs2_layout.specs.Putting.{put_slot}
use Rattle.leaf_areas.specs.Moving.{in_use, packed, unused}
use Rattle.leaf_areas.specs.Splitting.{is_lower_name, lower_half, upper_half}
use Rattle.mkgfs2_tool.specs.Directories.{directory_kind, entry, head_of, journal_entry, journals_entries, name_of, records}
use Rattle.mkgfs2_tool.specs.Order.{master_place, journals_place, has_hashed_journals, is_split}
use Rattle.mkgfs2_tool.specs.Hashing.{leaf_room, leaf_entries}
use Rattle.mkgfs2_tool.specs.Blocks.{area_length}
use Rattle.mkgfs2_tool.specs.Making.{IsFitting}
use Rattle.mkgfs2_tool.specs.Standing.{IsStamped}
use Rattle.mkgfs2_tool.specs.declared.directory.Entry.{Entry}
use Rattle.mkgfs2_tool.specs.declared.directory.Name.TheVariants as name
use Rattle.mkgfs2_tool.specs.declared.plan.Plan.{Plan}

-- one entry more: its record goes into the first that has room
abbrev pub put_in : Entry → List Slot → Option (List Slot)
put_in e slots = put_slot (head_of e 0) (name_of e) slots

-- entries that are put in one after another; nothing where one of them finds no room
abbrev pub put_each : List Entry → List Slot → Option (List Slot)
put_each [] slots = Some slots
put_each (e ∷ es) slots = option_and_then (put_each es) (put_in e slots)

-- an area of so many bytes without a record in use
abbrev pub no_records : ℕ → List Slot
no_records room = unused room ∷ []

-- so many journals from one on
abbrev pub some_entries : Plan → ℕ → ℕ → List Entry
some_entries p start n = map (journal_entry p) (range_with_len start n)

-- `.`, `..` and the first journals, so many; and the journals from one on
abbrev pub first_entries : Plan → ℕ → List Entry
first_entries p n = entry p name.This 4 (journals_place p) directory_kind ∷ entry p name.Parent 1 master_place directory_kind ∷ some_entries p 0 n

abbrev pub later_entries : Plan → ℕ → List Entry
later_entries p n = some_entries p n (p.journals - n)

-- the records of a leaf
abbrev pub leaf_slots : Plan → ℕ → List Slot
leaf_slots p n = slots_of (records (leaf_room p) (leaf_entries p n))

-- A leaf that had these records was full with three more journals, and the next name found no room in it. It keeps the upper half, and the lower half goes into another leaf, as the names of later journals do, which belong there.
pub record AreHalves (p : Plan) (first : List Slot) : Type 0 where
  pub full : List Slot
  pub filled : put_each (some_entries p 3 3) first ≡ Some full
  pub no_room : put_in (journal_entry p 6) full ≡ None
  pub upper : leaf_slots p 0 ≡ upper_half 0 full
  pub lower : put_each (later_entries p 6) (lower_half (leaf_room p) 0 full) ≡ Some (leaf_slots p 1)
  pub belong : (j : ℕ) → 6 ≤ j → j < p.journals → is_lower_name 0 (name_of (journal_entry p j)) ≡ true

-- a linear directory of journals has its entries behind the dinode
abbrev pub IsPutLinear : Plan → Type 0
IsPutLinear p = put_each (journals_entries p) (no_records (area_length p)) ≡ Some (slots_of (records (area_length p) (journals_entries p)))

-- A hashed one was a linear one that had room for `.`, `..` and three journals, and for no fourth. When it was converted, the records in use of its area were packed into a leaf. The later
-- journals went into that leaf, or into the halves of it.
pub record IsPutHashed (p : Plan) : Type 0 where
  pub three : List Slot
  pub filled : put_each (first_entries p 3) (no_records (area_length p)) ≡ Some three
  pub no_room : put_in (journal_entry p 3) three ≡ None
  pub whole : is_split p ≡ false → put_each (later_entries p 3) (packed (leaf_room p) (in_use three)) ≡ Some (leaf_slots p 0)
  pub split : is_split p ≡ true → AreHalves p (packed (leaf_room p) (in_use three))

-- so are the directories of journals of all new images
pub record JournalsAreInserted : Type 0 where
  pub linear : (p : Plan) → IsFitting p → IsStamped p → has_hashed_journals p ≡ false → IsPutLinear p
  pub hashed : (p : Plan) → IsFitting p → IsStamped p → has_hashed_journals p ≡ true → IsPutHashed p
