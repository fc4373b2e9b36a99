-- What a log asks of a change.
use Rattle.std.specs.Prelude.{ℕ, ◌≡◌, ◌≢◌, ◌<◌, true, false, List, [], Some}
use Rattle.file_tree.specs.Tree.{Tree}
use Rattle.file_tree.specs.declared.call.Call.{Call}
use Rattle.file_tree.specs.declared.reply.Reply.{Reply}
use Rattle.gfs2_layout.specs.Bytes.{u32_at}
use Rattle.gfs2_layout.specs.Structures as layout
use Rattle.glock_names.specs.Views.{IsView, Seen}
use Rattle.glock_names.specs.declared.LockName.{LockName}
use Rattle.drafts.specs.declared.change.Change.{Change}
use Rattle.image_model.specs.Image.{Image}
use Rattle.image_model.specs.Owners.{Owners}
use Rattle.image_model.specs.Stands.{IsLaid, Layout}
use Rattle.image_changes.specs.Changes.{cover, is_free}
use Rattle.image_changes.specs.Does.{AreInside, Does, IsOf, has_block, is_content_of, is_nothing}
use Rattle.log_values.specs.Changes.{CanBeAdded}

-- ---- the blocks of an image

-- the bytes begin with the magic, and are no header of a journal
pub record IsStructure (bytes : List ℕ) : Type 0 where
  pub magic : u32_at 0 bytes ≡ layout.magic
  pub other : u32_at 4 bytes ≢ 8

-- In an image that is laid out right: each block that a lock covers, that isn't free and has no content of a file, has a structure.
abbrev pub CoveredBlocksAreStructures : Type 0
CoveredBlocksAreStructures = (im : Image) (o : Owners) (l : Layout) (b : ℕ) (lock : LockName) → IsLaid im o l → cover l b (o b) ≡ Some lock → is_free (o b) ≡ false → is_content_of im o (o b) ≡ false
    → IsStructure (im.at b)

-- ---- changes

-- A change can be added to a log whose blocks have this size; each block that it writes or frees is one of so many; and it writes some, if it isn't nothing.
pub record CanBeLogged (size count : ℕ) (change : Change) : Type 0 where
  pub can : CanBeAdded size change
  pub inside : (b : ℕ) → has_block change b ≡ true → b < count
  pub some : is_nothing change ≡ false → change.blocks.items ≢ []

-- so is each change of a call that does what it should, over a view that may be of an image that stands
abbrev pub AnswersCanBeLogged : Type 0
AnswersCanBeLogged = (v : Seen) (call : Call) (reply : Reply) (change : Change) (im : Image) (o : Owners) (l : Layout) (t : Tree) → IsView v → IsOf v im o l t → AreInside v change
    → Does v call reply change → CanBeLogged v.size im.count change
