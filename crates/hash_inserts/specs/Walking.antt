-- What is found along a chain of leaves for a name of some length.
use Rattle.std.specs.Prelude.{ℕ, ◌≡◌, ◌+◌, ◌<◌, ◌==◌, Bool, true, if◌then◌else◌, Option, None, Some}
use Rattle.gfs2_layout.specs.Area.{slots_of}
use Rattle.gfs2_layout.specs.Holding.{Holding}
use Rattle.gfs2_layout.specs.Inode.{leaf_area, leaf_in}
use Rattle.glock_names.specs.Views.{Seen, HasBlock}
use Rattle.resource_groups.specs.Putting.{HasDataBlock}
use Rattle.hash_steps.specs.Shown.{IsInChain}
use Rattle.hash_steps.specs.Leaves.{IsFullBefore, has_room_for}
use Rattle.hash_inserts.specs.declared.walking.Walked.{Walked}

-- the first leaf with room so far, once one more was looked at
abbrev pub first_with : Option ℕ → Bool → ℕ → Option ℕ
first_with (Some x) room leaf = Some x
first_with None room leaf = if room then Some leaf else None

-- a leaf of the chain that is the first with room, before this place
pub record IsFirstBefore (h : Holding) (i len place x : ℕ) : Type 0 where
  pub at : ℕ
  pub before : at < place
  pub chain : IsInChain h i at x
  pub full_before : IsFullBefore h i len at
  pub room : has_room_for len (slots_of (leaf_area h x)) ≡ true

-- so it was found, or none has room before this place
abbrev pub IsRoomBefore : Holding → ℕ → ℕ → ℕ → Option ℕ → Type 0
IsRoomBefore h i len place None = IsFullBefore h i len place
IsRoomBefore h i len place (Some x) = IsFirstBefore h i len place x

-- the view has the block, which is a data block of a group
abbrev pub SeesLeaf : Seen → ℕ → Type 0
SeesLeaf v x = HasBlock v x × HasDataBlock v x

-- so each leaf of the chain before this place
abbrev pub SeesChainBefore : Seen → Holding → ℕ → ℕ → Type 0
SeesChainBefore v h i place = (earlier x : ℕ) → earlier < place → IsInChain h i earlier x → SeesLeaf v x

-- The chain was gone along to its last leaf.
pub record IsWalked (v : Seen) (h : Holding) (i len : ℕ) (w : Walked) : Type 0 where
  pub at : ℕ
  pub chain : IsInChain h i at w.last
  pub ends : (leaf_in h w.last).next ≡ 0
  pub single : w.single ≡ (at == 0)
  pub room : IsRoomBefore h i len (at + 1) w.with_room
  pub there : SeesChainBefore v h i (at + 1)
