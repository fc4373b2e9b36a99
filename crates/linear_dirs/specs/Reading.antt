-- What the code holds of a linear directory, as what it stands for.
use Rattle.std.specs.Prelude.{ℕ, ◌≡◌, ◌+◌, ◌≤◌, true, false, List, [], ◌∷◌, length, map, filter, take, drop, None, Some, Ok}
use Rattle.std.specs.FinMap.{insert}
use Rattle.drafts.specs.Fates.{Drafted}
use Rattle.drafts.specs.declared.fate.Fate.TheVariants.{Put}
use Rattle.gfs2_layout.specs.Area.{Slot, IsArea, IsRecordAt, first_named, slots_of}
use Rattle.gfs2_layout.specs.Cutting.{slot_from}
use Rattle.gfs2_layout.specs.Exchanges.{directory_count}
use Rattle.gfs2_layout.specs.Holding.{Holding}
use Rattle.gfs2_layout.specs.Inode.{dinode_in, height_in, is_directory_in, is_hashed_in, linear_area}
use Rattle.gfs2_layout.specs.Records.{Record, record_of, record_named, records_in}
use Rattle.gfs2_layout.specs.Structures.{dinode_length, dinode_of, dinode_read, is_in_use}
use Rattle.gfs2_layout.specs.declared.dinode.Dinode.{Dinode}
use Rattle.glock_names.specs.Views.{Seen}
use Rattle.dinode_tree.specs.Reading.{IsRightDinode, inode_lock}
use Rattle.linear_dirs.specs.Exchanges.{uncounted}
use Rattle.linear_dirs.specs.declared.removing.Place.{Place}

-- these bytes follow the dinode in a block of the view, and records fill them
pub record IsAreaIn (v : Seen) (dir : ℕ) (area : List ℕ) : Type 0 where
  pub bytes : List ℕ
  pub there : v.block_at dir ≡ Some bytes
  pub behind : area ≡ drop dinode_length bytes
  pub large : dinode_length ≤ length bytes
  pub short : length area ≤ 4096
  pub filled : IsArea area

-- where the view has the directory's block, this is its dinode
abbrev pub IsDinodeIn : Seen → ℕ → Dinode → Type 0
IsDinodeIn v dir d = (bytes : List ℕ) → v.block_at dir ≡ Some bytes → d ≡ dinode_of bytes

-- some records follow it
abbrev pub HasAreaIn : Seen → ℕ → Type 0
HasAreaIn v dir = (area : List ℕ) × IsAreaIn v dir area

-- the draft puts the directory's block, and no other: a whole block with this dinode, and an area of records behind it
pub record IsBlockPut {V : Type 0} (seen : V → Seen) (old new : Drafted V) (dir : ℕ) (d : Dinode) (bytes : List ℕ) : Type 0 where
  pub long : length bytes ≡ (seen old.view).size
  pub put : new ≡ record old { fates = insert old.fates dir (Put (inode_lock dir) false bytes) }
  pub read : dinode_read bytes ≡ Ok d
  pub filled : IsArea (drop dinode_length bytes)

-- a linear directory's dinode, and the records behind it
pub record IsDirectoryOf (h : Holding) (d : Dinode) (area : List ℕ) : Type 0 where
  pub right : IsRightDinode h
  pub dinode : d ≡ dinode_in h
  pub records : area ≡ linear_area h
  pub directory : is_directory_in h ≡ true
  pub linear : is_hashed_in h ≡ false
  pub stuffed : height_in h ≡ 0
  pub size : dinode_length + (dinode_in h).size ≡ h.size

-- what those of these records say that are in use
abbrev pub told_in : List Slot → List Record
told_in slots = map record_of (filter (λ s. is_in_use s.head) slots)

-- the dinode counts a record less, and so many links less
pub record IsFewer (d d' : Dinode) (lost : ℕ) : Type 0 where
  pub others : uncounted d' ≡ uncounted d
  pub entries : d'.entries + 1 ≡ d.entries
  pub links : d'.nlink + lost ≡ d.nlink

-- at this place of an area the first record of a name begins, which is so many of its directory's links
pub record IsPlaceOf (area name : List ℕ) (p : Place) : Type 0 where
  pub at : IsRecordAt area p.at
  pub none_before : first_named name (slots_of (take p.at area)) ≡ None
  pub first : first_named name (slots_of area) ≡ Some (slot_from p.at area)
  pub used : is_in_use (slot_from p.at area).head ≡ true
  pub named : record_named (records_in area) name ≡ Some (record_of (slot_from p.at area))
  pub links : p.links ≡ directory_count (record_of (slot_from p.at area) ∷ [])
