-- What a search for the blocks of a new name tells of a view, as the bits of its groups say.
use Rattle.std.specs.Prelude.{ℕ, List, ◌∷◌}
use Rattle.glock_names.specs.Views.{Seen, HasGroup}
use Rattle.glock_names.specs.declared.views.Group.{Group}
use Rattle.resource_groups.specs.Shown.{IsDataOf}
use Rattle.room_search.specs.Blocks.{States}
use Rattle.room_search.specs.Searches.{IsRoom, IsShort}
use Rattle.making_calls.specs.declared.blocks.NewRoom.{NewRoom}
use Rattle.making_calls.specs.declared.blocks.NewRoom.TheVariants as taken
use Rattle.making_calls.specs.declared.blocks.Room.{Room}

-- all of its blocks: the new inode's, and the rest
abbrev pub blocks_of : Room → List ℕ
blocks_of r = r.new.block ∷ r.rest.items

-- they are those that a node with this group takes, as many as are needed; and the first is a data block of this group
pub record IsNewRoom (v : Seen) (says : States) (own : Group) (need : ℕ) (r : Room) : Type 0 where
  pub has : HasGroup v r.new.group
  pub data_block : IsDataOf r.new.group r.new.block
  pub room : IsRoom v says v.groups own need (blocks_of r)

-- the blocks are found, or so few are free in all groups
abbrev pub IsTaken : Seen → States → Group → ℕ → NewRoom → Type 0
IsTaken v says own need (taken.Is r) = IsNewRoom v says own need r
IsTaken v says own need (taken.TooFew free) = IsShort says v.groups own need free
