-- What the answer of a file call is to the machine: its view, its change and its locks.
use Rattle.std.specs.Prelude.{ℕ, ◌≡◌, ◌==◌, ◌&&◌, not, Bool, true, false, nat_lt, if◌then◌else◌, List, [], ◌∷◌, map, Option, None, Some}
use Rattle.cluster_laws.specs.Files.{Cell, State, Ex}
use Rattle.gfs2_layout.specs.declared.rindex.Rindex.{Rindex}
use Rattle.glock_names.specs.Views.{Seen, IsView, group_of_entry}
use Rattle.glock_names.specs.declared.LockName.{LockName}
use Rattle.drafts.specs.declared.change.Change.{Change}
use Rattle.drafts.specs.declared.change.Written.{Written}
use Rattle.image_model.specs.Groups.{end_of}
use Rattle.image_changes.specs.Changes.{Place}
use Rattle.image_changes.specs.Does.{frees}
use Rattle.image_machine.specs.Volumes.{Volume}

-- what a block has, and where it belongs
abbrev pub BlockCell : Type 0
BlockCell = Cell (List ℕ) Place

-- ---- a change, block by block

-- a block that is written, under the lock that is told with it
abbrev pub used_cell : List ℕ → LockName → BlockCell
used_cell bytes lock = record { content = bytes; place = record { lock = Some lock; free = false } }

-- a free block of the group whose header is in this block; what it has is no matter
abbrev pub free_cell : ℕ → BlockCell
free_cell g = record { content = []; place = record { lock = Some (record { kind = 3; number = g }); free = true } }

-- the block is a data block of the group
abbrev pub is_data_of : Rindex → ℕ → Bool
is_data_of g b = not (nat_lt b g.data0) && nat_lt b (end_of g)

-- the block of the header of the group whose data block this is
abbrev pub group_of : List Rindex → ℕ → ℕ
group_of [] b = 0
group_of (g ∷ gs) b = if is_data_of g b then g.address else group_of gs b

-- at the place of a written block stands its lock
abbrev pub written_cell : List Written → List LockName → ℕ → Option BlockCell
written_cell [] locks b = None
written_cell (w ∷ ws) [] b = None
written_cell (w ∷ ws) (lock ∷ locks) b = if w.block == b then Some (used_cell w.bytes lock) else written_cell ws locks b

abbrev pub or_else : {A : Type 0} → Option A → Option A → Option A
or_else None later = later
or_else (Some a) later = Some a

-- what a change has of each block
abbrev pub cells_of : Volume → Change → ℕ → Option BlockCell
cells_of v change b = or_else (written_cell change.blocks.items change.locks.items b) (if frees change b then Some (free_cell (group_of v.layout.groups b)) else None)

-- ---- a view

-- what the view knows of the volume is so
pub record IsOfVolume (v : Volume) (seen : Seen) : Type 0 where
  pub view : IsView seen
  pub size : v.size ≡ seen.size
  pub root : v.layout.root ≡ seen.root
  pub groups : map group_of_entry v.layout.groups ≡ seen.groups

-- the cells have the bytes of each block that the view has
abbrev pub HasBlocksOf : Seen → (ℕ → Option BlockCell) → Type 0
HasBlocksOf seen cells = (b : ℕ) (bytes : List ℕ) → seen.block_at b ≡ Some bytes → (x : BlockCell) × (cells b ≡ Some x) × (x.content ≡ bytes)

-- each lock that the view holds exclusive is held so
abbrev pub HoldsAll : Seen → (Option LockName → State) → Type 0
HoldsAll seen held = (lock : LockName) → seen.state_of lock ≡ Ex → held (Some lock) ≡ Ex
