-- The system files, and the blocks by which they are found and read.
use Rattle.std.specs.Prelude.{ℕ, ◌≡◌, ◌<◌}
use Rattle.gfs2_layout.specs.Device.{superblock_place}
use Rattle.gfs2_layout.specs.Inode.{Leads, content_count}
use Rattle.image_model.specs.Claims.{every, Claims, IsRindex, IsJindex, HasJournal, master_of}
use Rattle.image_model.specs.Image.{Image}
use Rattle.image_model.specs.Owners.{Chained}

-- the inode in block d is the master directory, the list of groups, the directory of journals, or a journal
pub data IsSystemFile (im : Image) (d : ℕ) : Type 0 where
  is_master : d ≡ master_of im → IsSystemFile im d
  is_rindex : IsRindex im d → IsSystemFile im d
  is_jindex : IsJindex im d → IsSystemFile im d
  is_journal : (j : ℕ) → HasJournal im j d → IsSystemFile im d

-- A block of the system files: the superblock; the dinode of one; a block to which a pointer leads below it, before the file's end; or a leaf of one.
pub data IsSystemBlock (im : Image) (b : ℕ) : Type 0 where
  of_superblock : b ≡ superblock_place im.size → IsSystemBlock im b
  of_dinode : IsSystemFile im b → IsSystemBlock im b
  of_content : (d p k level first : ℕ) → IsSystemFile im d → Leads (every im d) p k level first b → first < content_count (every im d) → IsSystemBlock im b
  of_leaf : (d by hash place : ℕ) → IsSystemFile im d → Claims im by b (Chained d hash place) → IsSystemBlock im b

-- the other image has each block of the first one's system files as it is there
pub record HasSameSystem (im other : Image) : Type 0 where
  pub size : other.size ≡ im.size
  pub count : other.count ≡ im.count
  pub same : (b : ℕ) → IsSystemBlock im b → other.at b ≡ im.at b
