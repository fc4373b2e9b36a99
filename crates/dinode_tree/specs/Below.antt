-- The blocks to which the pointers of an inode lead.
use Rattle.std.specs.Prelude.{ℕ, ◌≡◌, ◌≢◌, ◌⊎◌, ⊤, ◌+◌, ◌-◌, ◌*◌, ◌<◌, ◌≤◌, Contains, List, length, Some}
use Rattle.gfs2_layout.specs.Bytes.{u64_at}
use Rattle.gfs2_layout.specs.Holding.{Holding}
use Rattle.gfs2_layout.specs.Inode.{Leads, header_length, fan, span}
use Rattle.glock_names.specs.Views.{Seen}
use Rattle.dinode_tree.specs.declared.below.Below.{Below}
use Rattle.dinode_tree.specs.declared.below.PointedBlock.{PointedBlock}
use Rattle.dinode_tree.specs.declared.ways.Link.{Link}
use Rattle.dinode_tree.specs.declared.ways.Way.{Way}

-- a pointer of the inode leads to the block
abbrev pub IsBelow : Holding → ℕ → Type 0
IsBelow h b = (from k level first : ℕ) × Leads h from k level first b

-- a pointer of the inode that stands in block `from` leads to block b
abbrev pub IsLedFrom : Holding → ℕ → ℕ → Type 0
IsLedFrom h from b = (k level first : ℕ) × Leads h from k level first b

-- the list tells of block b, and of a block in which a pointer to it stands
abbrev pub TellsOfBlock : List PointedBlock → ℕ → Type 0
TellsOfBlock list b = (p : PointedBlock) × Contains list p × (p.block ≡ b)

-- every block of content is wanted
abbrev pub AnyIndex : ℕ → Type 0
AnyIndex i = ⊤

-- ---- what the code holds that goes down row by row

-- the inode has the link: its index is that of the first block of content below it
abbrev pub IsLed : Holding → Link → Type 0
IsLed h link = (k : ℕ) × Leads h link.way.from k link.way.level link.way.index link.block

-- the link of pointer k of a block whose pointers begin at this byte, the first of them with this way
pub record IsPointing (bytes : List ℕ) (start : ℕ) (way : Way) (k : ℕ) (link : Link) : Type 0 where
  pub some : u64_at (start + 8 * k) bytes ≢ 0
  pub is : link ≡ record { way = record way { index = way.index + k * span (length bytes) way.level }; block = u64_at (start + 8 * k) bytes }

-- the way of the first pointer of the indirect block to which a link leads
abbrev pub way_below : Link → Way
way_below link = record { from = link.block; level = link.way.level - 1; index = link.way.index; left = 0 }

-- the link is of a pointer of the indirect block, as the view has it, to which another link leads
abbrev pub IsUnder : Seen → Link → Link → Type 0
IsUnder v over link = (bytes : List ℕ) × (v.block_at over.block ≡ Some bytes) × ((k : ℕ) × (k < fan (length bytes) header_length) × IsPointing bytes header_length (way_below over) k link)

-- the same, of one of the links of a row
abbrev pub IsUnderRow : Seen → List Link → Link → Type 0
IsUnderRow v row link = (over : Link) × Contains row over × IsUnder v over link

-- the block to which a link leads, and that in which its pointer stands
abbrev pub pointed_by : Link → PointedBlock
pointed_by link = record { block = link.block; from = link.way.from }

-- these links and no others are added: each one's block to the blocks, and the link itself to the row, where it leads to an indirect block
pub record AreAdded (old new : Below) (P : Link → Type 0) : Type 0 where
  pub blocks_stay : (p : PointedBlock) → Contains old.found.items p → Contains new.found.items p
  pub blocks_come : (l : Link) → P l → Contains new.found.items (pointed_by l)
  pub blocks_only : (p : PointedBlock) → Contains new.found.items p → Contains old.found.items p ⊎ ((l : Link) × P l × (p ≡ pointed_by l))
  pub row_stays : (l : Link) → Contains old.row.items l → Contains new.row.items l
  pub row_comes : (l : Link) → P l → 1 ≤ l.way.level → Contains new.row.items l
  pub row_only : (l : Link) → Contains new.row.items l → Contains old.row.items l ⊎ (P l × (1 ≤ l.way.level))

-- All blocks are found that stand so many levels above content or further up, and no others than the inode has; and the row has a link to
-- each of those at this level, where that isn't content.
pub record HasRows (h : Holding) (level : ℕ) (below : Below) : Type 0 where
  pub only : (p : PointedBlock) → Contains below.found.items p → IsLedFrom h p.from p.block
  pub all : (from k at first b : ℕ) → level ≤ at → Leads h from k at first b → TellsOfBlock below.found.items b
  pub led : (l : Link) → Contains below.row.items l → IsLed h l × (l.way.level ≡ level) × (1 ≤ level)
  pub row : (from k first b : ℕ) → 1 ≤ level → Leads h from k level first b → (l : Link) × Contains below.row.items l × (l.block ≡ b)
