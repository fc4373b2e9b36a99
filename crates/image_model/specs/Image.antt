-- An image: blocks of one size.
use Rattle.std.specs.Prelude.{ℕ, ◌≡◌, ◌/◌, ◌<◌, List, length}
use Rattle.gfs2_layout.specs.Device.{IsBlockSize, superblock_place}
use Rattle.gfs2_layout.specs.Structures.{superblock_of}
use Rattle.gfs2_layout.specs.declared.superblock.SuperBlock.{SuperBlock}
use Rattle.shared_disk.specs.Blocks.{block_in}
use Rattle.shared_disk.specs.Disk.{DiskState}

-- what each block holds
abbrev pub Blocks : Type 0
Blocks = ℕ → List ℕ

-- how many bytes a block has, how many blocks there are, and what each holds
pub record Image : Type 0 where
  pub size : ℕ
  pub count : ℕ
  pub at : Blocks

-- the image on a disk, as far as the disk tells it
abbrev pub image_of : DiskState → Image
image_of s = record { size = s.size; count = s.count; at = s.block_at }

-- the image that these bytes are
abbrev pub image_in : ℕ → List ℕ → Image
image_in size bytes = record { size = size; count = length bytes / size; at = block_in size bytes }

-- the blocks are of one of the four sizes, each of them whole
pub record IsImage (im : Image) : Type 0 where
  pub block_size : IsBlockSize im.size
  pub whole : (b : ℕ) → b < im.count → length (im.at b) ≡ im.size

abbrev pub superblock_in : Image → SuperBlock
superblock_in im = superblock_of (im.at (superblock_place im.size))
