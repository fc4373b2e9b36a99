-- Content behind a dinode: the bytes of the block after it is put or has another size.
use Rattle.std.specs.Prelude.{ℕ, ◌≡◌, ◌+◌, ◌≤◌, min, max, List, length, take, drop, Ok}
use Rattle.file_tree.specs.Apply.{overwritten}
use Rattle.gfs2_layout.specs.Bytes.{put_at}
use Rattle.gfs2_layout.specs.Structures.{dinode_length, dinode_read}
use Rattle.gfs2_layout.specs.Writing.{dinode_put, zeros_from}
use Rattle.gfs2_layout.specs.declared.dinode.Dinode.{Dinode}

-- the content behind a dinode that says this size
abbrev pub stuffed_in : Dinode → List ℕ → List ℕ
stuffed_in d bytes = take d.size (drop dinode_length bytes)

-- these bytes over the content from a place on, with zeros between its end and that place; behind the content the block has what it had
abbrev pub stuffed_bytes : Dinode → ℕ → List ℕ → List ℕ → List ℕ
stuffed_bytes d at new bytes = dinode_put (record d { size = max d.size (at + length new) }) (put_at dinode_length (overwritten at new (stuffed_in d bytes)) bytes)

-- so many bytes of content, and zeros behind whichever end is less
abbrev pub resized_bytes : Dinode → ℕ → List ℕ → List ℕ
resized_bytes d size bytes = dinode_put (record d { size = size }) (zeros_from (dinode_length + min d.size size) bytes)

-- a whole block that says the dinode, with this content behind it
pub record IsStuffedBlock (size : ℕ) (d : Dinode) (content bytes : List ℕ) : Type 0 where
  pub whole : length bytes ≡ size
  pub read : dinode_read bytes ≡ Ok d
  pub says : d.size ≡ length content
  pub room : dinode_length + length content ≤ size
  pub area : take (length content) (drop dinode_length bytes) ≡ content
