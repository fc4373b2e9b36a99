-- What the code that counts holds, as what it stands for.
use Rattle.std.specs.Prelude.{◌≡◌}
use Rattle.gfs2_layout.specs.Holding.{Holding}
use Rattle.gfs2_layout.specs.Inode.{height_in}
use Rattle.growth_laws.specs.Need.{has_content}
use Rattle.file_fills.specs.declared.needing.Write.{Write}

-- the write is one to this file
pub record IsWriteTo (h : Holding) (write : Write) : Type 0 where
  pub own : write.inode ≡ h.own
  pub size : write.size ≡ h.size
  pub height : write.height ≡ height_in h
  pub content : write.content ≡ has_content h
