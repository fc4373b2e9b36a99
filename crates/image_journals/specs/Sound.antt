-- Sound directories that a view shows whole.
use Rattle.std.specs.Prelude.{ℕ, ◌≡◌, true, Some, IsSome}
use Rattle.gfs2_layout.specs.Holding.{Holding, bytes_at}
use Rattle.gfs2_layout.specs.Inode.{is_directory_in}
use Rattle.glock_names.specs.Views.{Seen}
use Rattle.hash_dirs.specs.Shown.{IsSound}

-- the inode is a directory that is sound in itself, and the view has each of its blocks
pub record IsDirectoryIn (v : Seen) (h : Holding) : Type 0 where
  pub sound : IsSound h
  pub directory : is_directory_in h ≡ true
  pub size : h.size ≡ v.size
  pub has : (b : ℕ) → IsSome (h.cell b) → v.block_at b ≡ Some (bytes_at h b)
