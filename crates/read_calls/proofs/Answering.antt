-- What is answered of an inode, and what is told to be wrong with it.
use Rattle.std.proofs.Common.{◌≡◌, true, false, sym, ap, ◌∙◌}
use Rattle.gfs2_layout.specs.Holding.{Holding}
use Rattle.gfs2_layout.specs.Inode.{dinode_in, has_hash_flag, is_directory_in, is_hashed_in}
use Rattle.gfs2_layout.specs.Structures.{is_directory}
use Rattle.gfs2_layout.specs.declared.dinode.Dinode.{Dinode}
use Rattle.image_model.proofs.Rows.{and_left}

pub file_so : (h : Holding) (d : Dinode) → d ≡ dinode_in h → is_directory d ≡ false → is_directory_in h ≡ false
file_so h d is file = ap is_directory (sym is) ∙ file

pub directory_of_hashed : (h : Holding) → is_hashed_in h ≡ true → is_directory_in h ≡ true
directory_of_hashed h hashed = and_left (is_directory_in h) (has_hash_flag (dinode_in h)) hashed
