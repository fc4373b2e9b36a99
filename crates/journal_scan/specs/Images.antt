-- A journal in memory.
use Rattle.std.specs.Prelude.{◌≡◌, ◌*◌, length}
use Rattle.gfs2_layout.specs.Bytes.{slice}
use Rattle.gfs2_layout.specs.Device.{IsBlockSize}
use Rattle.log_layout.specs.Journal.{Ring}
use Rattle.journal_scan.specs.declared.image.JournalImage.{JournalImage}

-- its ring: the blocks one behind the other
abbrev pub ring_of : JournalImage → Ring
ring_of j = record { size = j.block_size; places = j.length; at = λ p. slice (p * j.block_size) j.block_size j.bytes }

-- it has so many blocks of one of the four sizes
pub record IsImage (j : JournalImage) : Type 0 where
  pub size : IsBlockSize j.block_size
  pub whole : length j.bytes ≡ j.length * j.block_size
