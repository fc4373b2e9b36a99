-- What a walk finds in directories.
use Rattle.std.specs.Prelude.{ℕ, ◌≡◌, ◌<◌, true, List, Contains}
use Rattle.gfs2_layout.specs.Area.{Slot, name_of, slots_of}
use Rattle.gfs2_layout.specs.Structures.{is_in_use}
use Rattle.gfs2_layout.specs.declared.dirent.Dirent.{Dirent}
use Rattle.image_model.specs.Claims.{Claims, HasInode, HasArea}
use Rattle.image_reader.specs.Reading.{image_at}
use Rattle.file_tree.specs.Names.{IsName}
use Rattle.gfs2_layout.specs.Records.{Record}
use Rattle.image_model.specs.Owners.{Named}
use Rattle.image_model.specs.Rules.{HasRecordIn}
use Rattle.image_reader.specs.declared.blocks.Blocks.{Blocks}
use Rattle.image_reader.specs.declared.directory.Found.{Found}

-- what a record's head and its name say
abbrev pub said_by : Dirent → List ℕ → Record
said_by head name = record { name = name; number = head.inum.number; address = head.inum.address; kind = head.kind }

-- the directory in block a has this record in block x
abbrev pub HasRecordAt : Blocks → ℕ → ℕ → Dirent → List ℕ → Type 0
HasRecordAt image a x head name = HasRecordIn (image_at image) a x (said_by head name)

-- it was found in the image: a directory there has its name, and that leads to it
pub record IsFoundIn (image : Blocks) (f : Found) : Type 0 where
  pub same : f.inode.block.image ≡ image
  pub named : IsName f.name
  pub claimed : Claims (image_at image) f.by f.inode.block.number (Named f.parent f.name)
  pub parent : HasInode (image_at image) f.parent
  pub inside : f.parent < image.count

-- the directory in block a has, in block x, a record in use with this head and this name
pub record HasSlotAt (image : Blocks) (a x : ℕ) (head : Dirent) (name : List ℕ) : Type 0 where
  pub area : List ℕ
  pub has : HasArea (image_at image) a x area
  pub slot : Slot
  pub there : Contains (slots_of area) slot
  pub used : is_in_use slot.head ≡ true
  pub head_is : head ≡ slot.head
  pub name_is : name ≡ name_of slot
