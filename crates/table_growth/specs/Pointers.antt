-- The pointers of a hashed directory's table, one by one, and what is told of them.
use Rattle.std.specs.Prelude.{ℕ, ◌≡◌, ◌≢◌, ◌⊎◌, ◌+◌, ◌*◌, ◌/◌, ◌%◌, ◌<◌, ◌≤◌, ◌==◌, if◌then◌else◌}
use Rattle.gfs2_layout.specs.Holding.{Holding}
use Rattle.gfs2_layout.specs.Inode.{entry, entry_block, header_length, height_in, table_count, unit}
use Rattle.gfs2_layout.specs.Structures.{dinode_length}
use Rattle.dinode_tree.specs.Broken as inode_rules

-- none of its pointers is 0: so its table has no hole
abbrev pub EachPointerLeads : Holding → Type 0
EachPointerLeads h = (i : ℕ) → i < table_count h → entry h i ≢ 0

-- index i is one of so many neighbouring ones
pub record IsWithin (from count i : ℕ) : Type 0 where
  pub low : from ≤ i
  pub high : i < from + count

-- the block has one of so many neighbouring pointers
abbrev pub HasPointerOf : Holding → ℕ → ℕ → ℕ → Type 0
HasPointerOf h from count b = (i : ℕ) × IsWithin from count i × (b ≡ entry_block h i)

-- from which byte of its block on a pointer stands: behind the dinode, or behind a table block's header
abbrev pub entry_place : Holding → ℕ → ℕ
entry_place h i = if height_in h == 0 then dinode_length + 8 * i else header_length + 8 * i % unit h

-- none of so many neighbouring pointers stands in the n bytes of the block from this one on
abbrev pub IsBesidePointers : Holding → ℕ → ℕ → ℕ → ℕ → ℕ → Type 0
IsBesidePointers h from count b at n = (i : ℕ) → IsWithin from count i → b ≡ entry_block h i → (at + n ≤ entry_place h i) ⊎ (entry_place h i + 8 ≤ at)

-- the block of content with this index has one of so many neighbouring pointers, where it is there
abbrev pub IsOfPointers : Holding → ℕ → ℕ → ℕ → Type 0
IsOfPointers h from count k = (i : ℕ) × IsWithin from count i × (k ≡ 8 * i / unit h)

-- `IsTableBroken h rule b`: block b breaks this rule, of the inode or of its table
pub data IsTableBroken (h : Holding) : ℕ → ℕ → Type 0 where
  of_inode : (rule b : ℕ) → inode_rules.IsBroken h rule b → IsTableBroken h rule b
  -- 14: a pointer leads nowhere
  leads_nowhere : (i : ℕ) → i < table_count h → entry h i ≡ 0 → IsTableBroken h 14 (entry_block h i)
