-- A directory of any form as a view shows it, and what it says of a name.
use Rattle.std.specs.Prelude.{ℕ, ◌≡◌, ◌≢◌, ◌^◌, ◌<◌, true, false, List, Option, None, Some, IsSome, length}
use Rattle.std.specs.Option.{option_map}
use Rattle.crc_words.specs.Remainder.{crc32_of}
use Rattle.gfs2_layout.specs.Holding.{Holding}
use Rattle.gfs2_layout.specs.Inode.{dinode_in, is_directory_in, is_hashed_in, records_of, table_count}
use Rattle.gfs2_layout.specs.Records.{names_of, record_named}
use Rattle.std.specs.List.Sorted.{IsPermutation}
use Rattle.gfs2_layout.specs.Structures.{dinode_of, is_directory}
use Rattle.glock_names.specs.Views.{Seen}
use Rattle.glock_names.specs.declared.steps.Entry.{Entry}
use Rattle.glock_names.specs.declared.steps.Missing.{Missing}
use Rattle.dinode_tree.specs.Broken as rules
use Rattle.dinode_tree.specs.Shown as inode
use Rattle.dinode_tree.specs.Reading.{AreWholeBefore}
use Rattle.dinode_tree.specs.Walking.{missing_dinode}
use Rattle.linear_dirs.specs.Broken as linear
use Rattle.linear_dirs.specs.Shown.{entry_of}
use Rattle.tree_tables.specs.Broken as leaves
use Rattle.tree_tables.specs.Finding.{IsFoundBy}
use Rattle.tree_tables.specs.Leaves.{AreLeaves, records_among}
use Rattle.tree_tables.specs.Shown as hashed

-- ---- what a view shows

-- where the view has this block, it is the dinode of a directory
abbrev pub IsDirectoryIn : Seen → ℕ → Type 0
IsDirectoryIn v dir = (bytes : List ℕ) → v.block_at dir ≡ Some bytes → is_directory (dinode_of bytes) ≡ true

-- The holding may be that of the inode with its dinode in block a, as far as the view tells: it has each block to which a pointer of it leads; and of a
-- hashed directory it has each leaf of the chains, and the blocks of its table are whole ones.
pub record IsShown (v : Seen) (a : ℕ) (h : Holding) : Type 0 where
  pub inode : inode.IsShown v a h
  pub leaves : is_hashed_in h ≡ true → (i place x : ℕ) → hashed.IsInChain h i place x → x ≢ 0 → IsSome (h.cell x)
  pub whole : is_hashed_in h ≡ true → (at : ℕ) → AreWholeBefore h at

-- a directory that isn't hashed
pub record IsLinearDirectory (h : Holding) : Type 0 where
  pub directory : is_directory_in h ≡ true
  pub linear : is_hashed_in h ≡ false

-- ---- what a directory says

-- `Says h name found`: where the first record of the name leads; of a hashed directory the first along the chain of the name's hash, which has 32 bits.
pub data Says (h : Holding) (name : List ℕ) : Option Entry → Type 0 where
  in_linear : is_hashed_in h ≡ false → Says h name (option_map entry_of (record_named (records_of h) name))
  in_hashed : (found : Option Entry) → is_hashed_in h ≡ true → crc32_of name < 2 ^ 32 → IsFoundBy h name found → Says h name found

-- the directory has the name, which leads to block b
pub record HasName (h : Holding) (name : List ℕ) (b : ℕ) : Type 0 where
  pub entry : Entry
  pub says : Says h name (Some entry)
  pub address : entry.addr ≡ b

-- These are its names, but `.` and `..`: of a linear directory those of its records in order; of a hashed one that is sound those of all its records.
pub record AreNames (h : Holding) (names : List (List ℕ)) : Type 0 where
  pub in_linear : is_hashed_in h ≡ false → names ≡ names_of (records_of h)
  pub in_sound : hashed.IsSound h → IsPermutation names (names_of (records_of h))

-- the dinode of a hashed directory counts the records of all its leaves
pub record CountsItsLeaves (h : Holding) : Type 0 where
  pub leaves : List ℕ
  pub are : AreLeaves h leaves
  pub entries : (dinode_in h).entries ≡ length (records_among h leaves)

-- ---- what is asked for

-- The view hasn't this block, without which it isn't told where a name leads: the dinode's; of a hashed directory one of the way to the pointer for the
-- name's hash, or a leaf of that chain.
pub data IsNeededFor (v : Seen) (h : Holding) (name : List ℕ) (m : Missing) : Type 0 where
  the_dinode : m ≡ missing_dinode h.own → v.block_at h.own ≡ None → IsNeededFor v h name m
  in_hashed : is_hashed_in h ≡ true → hashed.IsNeededFor v h (λ i. i ≡ hashed.index_for h name) m → IsNeededFor v h name m

-- the same of all names
pub data IsNeededForAll (v : Seen) (h : Holding) (m : Missing) : Type 0 where
  the_dinode : m ≡ missing_dinode h.own → v.block_at h.own ≡ None → IsNeededForAll v h m
  in_hashed : is_hashed_in h ≡ true → hashed.IsNeededFor v h (λ i. i < table_count h) m → IsNeededForAll v h m

-- ---- damage

-- the block breaks this rule of an inode, or of a directory's form, as the view shows it
pub data IsBroken (v : Seen) (h : Holding) (rule b : ℕ) : Type 0 where
  of_inode : rules.IsBroken h rule b → IsBroken v h rule b
  in_linear : is_directory_in h ≡ true → is_hashed_in h ≡ false → linear.IsBroken h rule b → IsBroken v h rule b
  in_hashed : is_hashed_in h ≡ true → leaves.IsWrongIn v h rule b → IsBroken v h rule b
