-- The tree of inodes that a walk found below a top directory. Places are counted over all of it: the top has place 0, and
-- the entry with index i has place i + 1.
use Rattle.std.specs.Prelude.{ℕ, zero, suc, ◌≡◌, ◌≤◌, List, Option, Some, slice_get}
use Rattle.std.specs.Option.{option_map}
use Rattle.file_tree.specs.Names.{IsName}
use Rattle.image_model.specs.Claims.{Claims}
use Rattle.image_model.specs.Owners.{Named}
use Rattle.image_reader.specs.Reading.{image_at, IsDinodeBlock}
use Rattle.image_reader.specs.declared.blocks.Blocks.{Blocks}
use Rattle.image_reader.specs.declared.directory.Found.{Found}
use Rattle.image_reader.specs.declared.inode.Inode.{Inode}

abbrev pub IsEntryAt : List Found → ℕ → Found → Type 0
IsEntryAt found i f = slice_get found i ≡ Some f

-- the inode at a place
abbrev pub inode_at : Inode → List Found → ℕ → Option Inode
inode_at top found zero = Some top
inode_at top found (suc i) = option_map (λ (f : Found). f.inode) (slice_get found i)

-- the entry with this index is of the image, and its name leads to it from the directory above it, which was found before
pub record IsNamed (image : Blocks) (top : Inode) (found : List Found) (i : ℕ) (f : Found) : Type 0 where
  pub of_image : f.inode.block.image ≡ image
  pub name : IsName f.name
  pub above : Inode
  pub before : f.up ≤ i
  pub up : inode_at top found f.up ≡ Some above
  pub parent : f.parent ≡ above.block.number
  pub claimed : Claims (image_at image) f.by f.inode.block.number (Named f.parent f.name)

-- an entry for this name of the directory at place p, which leads to the inode in block b
pub record HasEntry (found : List Found) (p : ℕ) (name : List ℕ) (b : ℕ) : Type 0 where
  pub index : ℕ
  pub entry : Found
  pub there : IsEntryAt found index entry
  pub up : entry.up ≡ p
  pub named : entry.name ≡ name
  pub block : entry.inode.block.number ≡ b

-- Each name of each directory at a place has its entry, and every entry is that of such a name, once.
pub record IsTreeOf (image : Blocks) (top : Inode) (found : List Found) : Type 0 where
  pub of_image : top.block.image ≡ image
  pub dinode : IsDinodeBlock top.block
  pub named : (i : ℕ) (f : Found) → IsEntryAt found i f → IsNamed image top found i f
  pub all : (p : ℕ) (a : Inode) (by b : ℕ) (name : List ℕ) → inode_at top found p ≡ Some a
      → Claims (image_at image) by b (Named a.block.number name) → HasEntry found p name b
  pub once : (i j : ℕ) (f g : Found) → IsEntryAt found i f → IsEntryAt found j g → f.up ≡ g.up → f.name ≡ g.name → i ≡ j
