-- Images that stand, as a view shows their frame.
use Rattle.std.specs.Prelude.{ℕ, ◌≡◌, List, length, map, Result, Ok, Err, Some, ⊤}
use Rattle.std.specs.List.{range_with_len}
use Rattle.gfs2_layout.specs.Inode.{content_block}
use Rattle.glock_names.specs.Views.{Seen}
use Rattle.image_model.specs.Claims.{every}
use Rattle.image_model.specs.Image.{Image}
use Rattle.image_model.specs.Owners.{Owners}
use Rattle.image_model.specs.Stands.{IsLaid, Layout}
use Rattle.image_model.specs.SystemFiles.{IsSystemBlock}
use Rattle.log_layout.specs.Journal.{ring_of}
use Rattle.image_journals.specs.Frames.{IsPlace}
use Rattle.image_journals.specs.declared.unfound.Unfound.{Unfound}
use Rattle.image_journals.specs.declared.unfound.Unfound.TheVariants.{Broken, NoMemory}

-- the master directory, the list of groups, or the directory of journals: the files by which journals and groups are found
pub data IsIndex (l : Layout) (d : ℕ) : Type 0 where
  master : d ≡ l.master → IsIndex l d
  rindex : d ≡ l.rindex → IsIndex l d
  jindex : d ≡ l.jindex → IsIndex l d

-- the view has the block, a whole one
abbrev pub HasWhole : Seen → ℕ → Type 0
HasWhole v b = (bytes : List ℕ) × (v.block_at b ≡ Some bytes) × (length bytes ≡ v.size)

-- The image stands under this table with this layout, and the view has each block of its system files: as it is there, but for the places of journals, where it may have any bytes.
pub record ShowsFrame (v : Seen) (r : Image) (o : Owners) (l : Layout) : Type 0 where
  pub laid : IsLaid r o l
  pub size : v.size ≡ r.size
  pub whole : (b : ℕ) → IsSystemBlock r b → HasWhole v b
  pub same : (b : ℕ) → IsSystemBlock r b → ¬ (IsPlace r b) → v.block_at b ≡ Some (r.at b)

-- a fact of what was found; or there was no memory
abbrev pub IfMemory : {A : Type 0} → Result A Unfound → (A → Type 0) → Type 0
IfMemory (Ok a) P = P a
IfMemory (Err Broken) P = ⊥
IfMemory (Err NoMemory) P = ⊤

-- these are the blocks at the places of the journal with its dinode in block d
abbrev pub AreItsBlocks : Image → ℕ → List ℕ → Type 0
AreItsBlocks r d blocks = blocks ≡ map (content_block (every r d)) (range_with_len 0 (ring_of (every r d)).places)
