-- How many journals a run tells as not clean, where all was done.
use Rattle.std.specs.Prelude.{ℕ, ◌≡◌, not, Contains, List, count_by, IsTrue, Some}
use Rattle.fault_counts.specs.Causes.{WentUp}
use Rattle.file_tree.specs.Tree.{Tree}
use Rattle.image_model.specs.Image.{Image, image_of}
use Rattle.image_mount.specs.Mounted.{Journal, MountedValue, IsMounted}
use Rattle.lone_fences.specs.Heads.{head_on}
use Rattle.run_rules.specs.History.{NoneStopped}
use Rattle.shared_disk.specs.Disk.{DiskState}
use Rattle.script_lang.specs.Script.{ScriptValue}
use Rattle.trace_text.specs.declared.item.TraceItem.{TraceItem}
use Rattle.run_reports.specs.Dirty.{dirty_by}
use Rattle.run_reports.specs.declared.status.Status.{Status}
use Rattle.run_reports.specs.declared.status.Status.TheVariants as status
use Rattle.cluster_program.specs.Mounting.{IsImageOf, is_clean_in}
use Rattle.cluster_program.specs.Runs.{ChangesNothing}

-- of the journals that were mounted, those whose head isn't clean in this image
abbrev pub dirty_in : Image → MountedValue → ℕ
dirty_in im m = count_by (λ (j : Journal). not (is_clean_in im j)) m.journals

-- those whose head isn't clean on this disk, at the places at which they were mounted
abbrev pub dirty_on : DiskState → List Journal → ℕ
dirty_on d journals = count_by (λ (j : Journal). not (head_on d j.blocks).is_clean) journals

-- so many of the journals of what is mounted of the image that was given aren't clean in the one that was left
abbrev pub IsCountLeft : DiskState → DiskState → ℕ → Type 0
IsCountLeft given left dirty = (m : MountedValue) × (IsMounted (image_of given) m × (dirty ≡ dirty_in (image_of left) m))

-- and on the disk that was left
abbrev pub IsCountFound : DiskState → DiskState → ℕ → Type 0
IsCountFound given left dirty = (m : MountedValue) × (IsMounted (image_of given) m × (dirty ≡ dirty_on left m.journals))

-- So many are told where all was done. Where a node stopped, they are those that are found so, on a disk that tells its blocks. Where none did, the items leave so many; and it is the image's count, if that stands for a tree, or if no
-- answered call changes anything, as in a replay.
pub record IsDirtyCount (given left : DiskState) (s : ScriptValue) (items : List TraceItem) (dirty : ℕ) : Type 0 where
  pub found : (NoneStopped items → ⊥) → IsTrue given.tells → IsCountFound given left dirty
  pub by_items : NoneStopped items → dirty ≡ dirty_by s items
  pub standing : NoneStopped items → (tree : Tree) → IsImageOf given tree → IsCountLeft given left dirty
  pub unchanged : NoneStopped items → ChangesNothing items → IsTrue given.tells → IsCountLeft given left dirty

-- Why they aren't counted: the disk failed as the run read this block of one of these journals, or there was no memory.
pub data IsUnreadHead (journals : List Journal) (before now : ℕ) : Status → Type 0 where
  UnreadBlock : (journal : Journal) (block x y : ℕ) → Contains journals journal → Contains journal.blocks block → WentUp before now x y → IsUnreadHead journals before now (status.DeviceFault 0 (Some block) x y)
  UnreadForMemory : IsUnreadHead journals before now status.NoMemory
