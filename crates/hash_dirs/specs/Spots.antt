-- A record that was found: in an area, in a leaf, in a chain.
use Rattle.std.specs.Prelude.{ℕ, ◌≡◌, ◌+◌, ◌≤◌, true, List, length, take, drop, Option, None, Some, option_map}
use Rattle.gfs2_layout.specs.Area.{IsRecordAt, first_named, slots_of}
use Rattle.gfs2_layout.specs.Cutting.{slot_from}
use Rattle.gfs2_layout.specs.Holding.{Holding}
use Rattle.gfs2_layout.specs.Inode.{leaf_length}
use Rattle.gfs2_layout.specs.Records.{record_of}
use Rattle.gfs2_layout.specs.Structures.{is_in_use, leaf_of}
use Rattle.glock_names.specs.Views.{Seen}
use Rattle.glock_names.specs.declared.steps.Entry.{Entry}
use Rattle.resource_groups.specs.Putting.{HasDataBlock}
use Rattle.linear_dirs.specs.Shown.{entry_of}
use Rattle.hash_dirs.specs.Finding.{AreLeafHeads, IsNamedLater}
use Rattle.hash_dirs.specs.Shown.{IsInChain}
use Rattle.hash_dirs.specs.Walking.{IsAreaOfBlock, IsSmall}
use Rattle.hash_dirs.specs.declared.finding.Found.{Found}
use Rattle.hash_dirs.specs.declared.finding.Spot.{Spot}

-- the first record of the name in an area, and where it leads
pub record IsSpotOf (area name : List ℕ) (s : Spot) : Type 0 where
  pub at : IsRecordAt area s.at
  pub none_before : first_named name (slots_of (take s.at area)) ≡ None
  pub first : first_named name (slots_of area) ≡ Some (slot_from s.at area)
  pub used : is_in_use (slot_from s.at area).head ≡ true
  pub entry : s.entry ≡ entry_of (record_of (slot_from s.at area))

-- the same of a leaf, as the view has its block
pub record IsSpotIn (v : Seen) (name : List ℕ) (f : Found) : Type 0 where
  pub small : IsSmall f.block
  pub inside : HasDataBlock v f.block
  pub bytes : List ℕ
  pub there : v.block_at f.block ≡ Some bytes
  pub head : f.head ≡ leaf_of bytes
  pub large : leaf_length ≤ length bytes
  pub area : IsAreaOfBlock (drop leaf_length bytes)
  pub spot : IsSpotOf (drop leaf_length bytes) name f.spot

-- no leaf before it in the chain of pointer i has the name, and it is a leaf, as each of those
pub record IsInPlace (h : Holding) (i : ℕ) (name : List ℕ) (f : Found) : Type 0 where
  pub place : ℕ
  pub chain : IsInChain h i place f.block
  pub later : IsNamedLater h i name place
  pub heads : AreLeafHeads h i (place + 1)

-- where it leads, if there is one
abbrev pub entry_at : Option Found → Option Entry
entry_at found = option_map (λ (f : Found). f.spot.entry) found
