-- What a node that holds every lock reads of a disk, and the image on which it works.
use Rattle.std.specs.Prelude.{ℕ, ◌≡◌, ◌<◌, false, IsTrue, List, length, None, Some}
use Rattle.std.specs.FinMap.{get, insert}
use Rattle.file_tree.specs.Tree.{Tree}
use Rattle.glock_names.specs.declared.LockName.{LockName}
use Rattle.image_model.specs.Image.{Image}
use Rattle.image_model.specs.Owners.{Owners}
use Rattle.image_model.specs.Stands.{Layout}
use Rattle.image_changes.specs.Changes.{cover, is_free}
use Rattle.image_changes.specs.Does.{IsOf}
use Rattle.shared_disk.specs.Disk.{DiskState, read_gives}
use Rattle.lone_view.specs.Seeing.{Lone, seen_alone}
use Rattle.lone_answers.specs.Answers.{IsAsked}

-- ---- reads

-- a block of this content is kept
abbrev pub keeping : Lone → ℕ → List ℕ → Lone
keeping n b bytes = record n { blocks = insert n.blocks b bytes }

-- A block of the disk that a call asks for, and that wasn't kept, is kept from now on: a whole block, which is, where the disk tells its blocks, what node 1 reads there.
pub record ReadsOne (d : DiskState) (n n' : Lone) : Type 0 where
  pub block : ℕ
  pub lock : LockName
  pub bytes : List ℕ
  pub inside : block < d.count
  pub asked : IsAsked n block lock
  pub absent : get n.blocks block ≡ None
  pub whole : length bytes ≡ n.size
  pub told : IsTrue d.tells → bytes ≡ read_gives d 1 block
  pub kept : n' ≡ keeping n block bytes

-- so blocks were read, one after another
pub data HasRead (d : DiskState) (n : Lone) : Lone → Type 0 where
  Nothing : HasRead d n n
  OneMore : (now next : Lone) → HasRead d n now → ReadsOne d now next → HasRead d n next

-- ---- the image on which the node works

-- The disk tells its blocks. The image has as many, its view may be of it, and of each block that it doesn't keep, that a lock covers and that isn't free, the image has what node 1 reads there.
pub record WorksOn (d : DiskState) (n : Lone) (im : Image) (o : Owners) (l : Layout) (t : Tree) : Type 0 where
  pub tells : IsTrue d.tells
  pub count : im.count ≡ d.count
  pub view : IsOf (seen_alone n) im o l t
  pub unread : (b : ℕ) (lock : LockName) → get n.blocks b ≡ None → cover l b (o b) ≡ Some lock → is_free (o b) ≡ false → im.at b ≡ read_gives d 1 b

-- there is no such image
abbrev pub WorksOnNone : DiskState → Lone → Type 0
WorksOnNone d n = (im : Image) (o : Owners) (l : Layout) (t : Tree) → WorksOn d n im o l t → ⊥
