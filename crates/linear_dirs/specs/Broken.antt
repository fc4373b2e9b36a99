-- What breaks which rule in a linear directory.
use Rattle.std.specs.Prelude.{ℕ, ◌≡◌, ◌≢◌, ◌+◌, false, Contains, length}
use Rattle.file_tree.specs.Names.{IsName}
use Rattle.gfs2_layout.specs.Area.{IsArea}
use Rattle.gfs2_layout.specs.Exchanges.{directory_count}
use Rattle.gfs2_layout.specs.Holding.{Holding}
use Rattle.gfs2_layout.specs.Inode.{dinode_in, height_in, linear_area, records_of}
use Rattle.gfs2_layout.specs.Records.{Record, is_dots}
use Rattle.gfs2_layout.specs.Structures.{dinode_length}
use Rattle.dinode_tree.specs.Broken as inode

-- `IsBroken h rule b`: block b breaks this rule
pub data IsBroken (h : Holding) : ℕ → ℕ → Type 0 where
  of_inode : (rule b : ℕ) → inode.IsBroken h rule b → IsBroken h rule b
  -- 8: its content isn't the rest of its dinode's block
  not_stuffed : height_in h ≢ 0 → IsBroken h 8 h.own
  not_filled : dinode_length + (dinode_in h).size ≢ h.size → IsBroken h 8 h.own
  -- 9: its records don't fill the rest of the block, or a name isn't one
  no_area : ¬ (IsArea (linear_area h)) → IsBroken h 9 h.own
  no_name : (r : Record) → Contains (records_of h) r → is_dots r.name ≡ false → ¬ (IsName r.name) → IsBroken h 9 h.own
  -- 12: its dinode counts other records, or other links, than it has
  wrong_entries : (dinode_in h).entries ≢ length (records_of h) → IsBroken h 12 h.own
  wrong_links : (dinode_in h).nlink ≢ 2 + directory_count (records_of h) → IsBroken h 12 h.own
