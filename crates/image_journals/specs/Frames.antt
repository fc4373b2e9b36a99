-- The frame of an image: its system files, but for what stands at the places of journals.
use Rattle.std.specs.Prelude.{ℕ, ◌≡◌, ◌<◌}
use Rattle.gfs2_layout.specs.Inode.{Leads, content_count}
use Rattle.image_model.specs.Claims.{HasJournal, every}
use Rattle.image_model.specs.Image.{Image}
use Rattle.image_model.specs.SystemFiles.{IsSystemBlock}

-- the block is at a place of a journal, of one behind a gap in the numbers too: one of its blocks of content
pub record IsPlace (im : Image) (b : ℕ) : Type 0 where
  pub number : ℕ
  pub dinode : ℕ
  pub journal : HasJournal im number dinode
  pub from : ℕ
  pub pointer : ℕ
  pub first : ℕ
  pub leads : Leads (every im dinode) from pointer 0 first b
  pub within : first < content_count (every im dinode)

-- the other image has each block of the first one's system files as it is there, but for the places of its journals, where anything may stand
pub record HasSameFrame (im other : Image) : Type 0 where
  pub size : other.size ≡ im.size
  pub count : other.count ≡ im.count
  pub same : (b : ℕ) → IsSystemBlock im b → ¬ (IsPlace im b) → other.at b ≡ im.at b
