-- An inode with other times.
use Rattle.std.specs.Prelude.{ℕ, ◌≡◌, ◌≢◌, drop, Some}
use Rattle.gfs2_layout.specs.Headers.{HasHeader}
use Rattle.gfs2_layout.specs.Holding.{Holding, Itself, part_at, bytes_at}
use Rattle.gfs2_layout.specs.Inode.{IsInode, dinode_in, head_of, content_of, records_of}
use Rattle.gfs2_layout.specs.Structures.{dinode_length}
use Rattle.gfs2_layout.specs.Writing.{dinode_put}
use Rattle.gfs2_layout.specs.declared.dinode.Dinode.{Dinode}

-- the dinode with this time as that of its content's and its own last change
abbrev pub with_times : Dinode → ℕ → Dinode
with_times d time = record d { mtime = time; ctime = time }

-- The inode's dinode is written over the old one with other times, and all behind it stays, as does each other block of the inode, byte by byte. An inode
-- that is sound and whose dinode's block is its dinode's alone is sound again, with the same content and the same records.
pub record IsTouched (h h' : Holding) (time : ℕ) : Type 0 where
  pub dinode : dinode_in h' ≡ with_times (dinode_in h) time
  pub head : head_of h' ≡ head_of h
  pub header : HasHeader 4 400 (bytes_at h' h.own)
  pub written : bytes_at h' h.own ≡ dinode_put (with_times (dinode_in h) time) (bytes_at h h.own)
  pub behind : drop dinode_length (bytes_at h' h.own) ≡ drop dinode_length (bytes_at h h.own)
  pub others : (b : ℕ) → b ≢ h.own → h'.cell b ≡ h.cell b
  pub sound : part_at h h.own ≡ Some Itself → IsInode h → IsInode h'
  pub content : part_at h h.own ≡ Some Itself → IsInode h → content_of h' ≡ content_of h
  pub records : part_at h h.own ≡ Some Itself → records_of h' ≡ records_of h
