-- In a sound linear directory nothing is broken.
use Rattle.std.proofs.Common.{◌≡◌, ℕ, ◌+◌, true, false, length}
use Rattle.std.specs.Prelude.{Contains}
use Rattle.file_tree.specs.Names.{IsName}
use Rattle.gfs2_layout.specs.Exchanges.{directory_count}
use Rattle.gfs2_layout.specs.Holding.{Holding}
use Rattle.gfs2_layout.specs.Inode.{IsInode, dinode_in, is_directory_in, is_hashed_in, records_of}
use Rattle.gfs2_layout.specs.Records.{Record, is_dots}
use Rattle.dinode_tree.specs.Broken as inode
use Rattle.linear_dirs.specs.Broken.{IsBroken, of_inode, not_stuffed, not_filled, no_area, no_name, wrong_entries, wrong_links}

module _ (h : Holding) (whole : (rule b : ℕ) → inode.IsBroken h rule b → ⊥) (sound : IsInode h) (directory : is_directory_in h ≡ true) (linear : is_hashed_in h ≡ false)
    (names : (r : Record) → Contains (records_of h) r → is_dots r.name ≡ false → IsName r.name) (entries : (dinode_in h).entries ≡ length (records_of h))
    (links : (dinode_in h).nlink ≡ 2 + directory_count (records_of h)) where
  pub unbroken : (rule b : ℕ) → IsBroken h rule b → ⊥
  unbroken _ _ (of_inode rule b broken) = whole rule b broken
  unbroken _ _ (not_stuffed high) = high (sound.linear directory linear).stuffed
  unbroken _ _ (not_filled other) = other (sound.linear directory linear).size
  unbroken _ _ (no_area none) = none (sound.linear directory linear).area.fills
  unbroken _ _ (no_name r has dots wrong) = wrong (names r has dots)
  unbroken _ _ (wrong_entries other) = other entries
  unbroken _ _ (wrong_links other) = other links
