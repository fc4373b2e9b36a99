-- Laws of a directory's table as a file.
use Rattle.std.specs.Prelude.{ℕ, ◌≡◌, ◌+◌, ◌*◌, true, List}
use Rattle.gfs2_layout.specs.Device.{IsBlockSize}
use Rattle.gfs2_layout.specs.Holding.{Holding}
use Rattle.gfs2_layout.specs.Inode.{dinode_in, height_in, is_directory_in, table_count}
use Rattle.growth_laws.specs.Files.{with_cells}
use Rattle.growth_laws.specs.Need.{needed}
use Rattle.growth_drafts.specs.Taken.{IsCounted}
use Rattle.pointer_tables.specs.Directories.{IsPlaced, IsTreeSound}
use Rattle.table_growth.specs.Pointers.{EachPointerLeads}
use Rattle.table_growth.specs.Tables.{IsTableFile, doubling_need_of, table_blocks, tree_blocks}
use Rattle.table_files.specs.Files.{SaysInstead, file_cells, file_dinode}

-- A directory of which the table has no hole and is as long as its depth says.
pub record IsTable (h : Holding) : Type 0 where
  pub block_size : IsBlockSize h.size
  pub directory : is_directory_in h ≡ true
  pub size : (dinode_in h).size ≡ 8 * table_count h
  pub sound : IsTreeSound h
  pub placed : IsPlaced h
  pub leads : EachPointerLeads h

-- how many blocks it has but its leaves
abbrev pub table_file_blocks : Holding → ℕ
table_file_blocks h = 1 + tree_blocks h.size (height_in h) (table_blocks h.size (table_count h))

-- with a file's dinode in its block, and without its leaves, it is a file that counts its blocks
abbrev pub TablesAreFiles : Type 0
TablesAreFiles = (h : Holding) (bytes : List ℕ) → IsTable h → SaysInstead h (file_dinode h (table_file_blocks h)) bytes
    → IsCounted (with_cells h (file_cells h bytes)) × IsTableFile h (with_cells h (file_cells h bytes))

-- a table that is twice as long, written over it, needs what a doubling needs
abbrev pub DoublingsAreWrites : Type 0
DoublingsAreWrites = (h : Holding) (bytes : List ℕ) → IsTable h → SaysInstead h (file_dinode h (table_file_blocks h)) bytes
    → needed (with_cells h (file_cells h bytes)) 0 (table_blocks h.size (2 * table_count h) * h.size) ≡ doubling_need_of h
