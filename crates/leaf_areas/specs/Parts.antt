-- Which records of an area are meant, and the first of these.
use Rattle.std.specs.Prelude.{ℕ, ◌≡◌, ◌+◌, ◌≤◌, Bool, true, List, ◌∷◌, length, filter}
use Rattle.gfs2_layout.specs.Area.{Slot, name_of, slots_of, IsArea}
use Rattle.gfs2_layout.specs.Structures.{is_in_use}
use Rattle.gfs2_layout.specs.declared.dirent.Dirent.{Dirent}
use Rattle.leaf_areas.specs.Splitting.{is_lower}
use Rattle.leaf_areas.specs.declared.parts.Part.{Part}
use Rattle.leaf_areas.specs.declared.parts.Part.TheVariants.{InUse, Lower}

-- a record is one of these
abbrev pub belongs : Part → Slot → Bool
belongs InUse s = is_in_use s.head
belongs (Lower depth) s = is_lower depth s

-- a record in use has its name, of the length that it tells, in it
pub record HoldsItsName (s : Slot) : Type 0 where
  pub used : is_in_use s.head ≡ true
  pub whole : length (name_of s) ≡ s.head.name_len
  pub within : 40 + s.head.name_len ≤ s.head.rec_len

-- of the records that are meant the first has this head and name, and the others are those in the rest
pub record IsNextOf (part : Part) (area : List ℕ) (head : Dirent) (name rest : List ℕ) : Type 0 where
  pub next : Slot
  pub slots : filter (belongs part) (slots_of area) ≡ next ∷ filter (belongs part) (slots_of rest)
  pub head_is : head ≡ next.head
  pub name_is : name ≡ name_of next
  pub holds : HoldsItsName next
  pub later : IsArea rest
  pub within : next.head.rec_len + length rest ≤ length area
