-- What becomes of a directory's table, block by block: pointers that are set, and a table that is doubled.
use Rattle.std.specs.Prelude.{ℕ, suc, zero, ◌≡◌, ◌≢◌, ◌⊎◌, ◌+◌, ◌-◌, ◌*◌, ◌^◌, ◌<◌, ◌≤◌, ◌==◌, false, if◌then◌else◌, Contains, List, ◌++◌, length, take, drop, replicate, Option, None, Some, IsSome}
use Rattle.std.specs.FinMap.{FinMap, get}
use Rattle.std.specs.Ordering.{nat_cmp}
use Rattle.drafts.specs.declared.fate.Fate.{Fate}
use Rattle.drafts.specs.declared.fate.Fate.TheVariants.{Put}
use Rattle.gfs2_layout.specs.Bytes.{slice}
use Rattle.gfs2_layout.specs.Holding.{Cell, Holding, part_at, bytes_at}
use Rattle.gfs2_layout.specs.Inode.{block_count, content_count, dinode_in, entry, entry_block, header_length, height_in, is_leaf_part, pieces, span, table_count, unit}
use Rattle.gfs2_layout.specs.Structures.{dinode_length}
use Rattle.gfs2_layout.specs.Writing.{header_put}
use Rattle.dinode_tree.specs.Below.{IsBelow}
use Rattle.dinode_tree.specs.Pads.{KeepsPads}
use Rattle.dinode_tree.specs.Reading.{inode_lock}
use Rattle.growth_laws.specs.Files.{IsPlaced as StandsAt}
use Rattle.growth_laws.specs.Need.{raised_to}
use Rattle.growth_drafts.specs.Taken.{AreFreeFor, HasTaken}
use Rattle.file_growth.specs.Causes.{ChangesOnly}
use Rattle.file_growth.specs.Headers.{HaveSamePads}
use Rattle.file_growth.specs.Written.{IsWritten}
use Rattle.pointer_tables.specs.Directories.{IsPlaced, IsTreeSound}
use Rattle.pointer_tables.specs.Tables.{IsDoubled, LeavesStay, is_within}
use Rattle.table_growth.specs.Pointers.{EachPointerLeads, IsBesidePointers}

-- ---- what becomes of its blocks in the draft

-- From one directory to another the draft puts each block of it under its lock, or leaves it as it was; and nothing becomes of any other block.
pub record DraftsDirectory (old new : FinMap nat_cmp Fate) (h g : Holding) : Type 0 where
  pub own : (b : ℕ) → IsSome (g.cell b) → ((get new b ≡ get old b) × (bytes_at g b ≡ bytes_at h b)) ⊎ (get new b ≡ Some (Put (inode_lock g.own) false (bytes_at g b)))
  pub others : (b : ℕ) → (IsSome (g.cell b) → ⊥) → get new b ≡ get old b

-- ---- pointers that are set

-- So many neighbouring pointers lead to this leaf, and all else stays: each pointer stands where it stood, and of each block so do the bytes in which
-- none of these pointers stands.
pub record HasPointersSet (h g : Holding) (from count leaf : ℕ) : Type 0 where
  pub sound : IsTreeSound h → IsTreeSound g
  pub placed : IsPlaced h → IsPlaced g
  pub dinode : dinode_in g ≡ dinode_in h
  pub front : take dinode_length (bytes_at g h.own) ≡ take dinode_length (bytes_at h h.own)
  pub entries : (i : ℕ) → i < table_count h → entry g i ≡ (if is_within from count i then leaf else entry h i)
  pub blocks : (i : ℕ) → i < table_count h → entry_block g i ≡ entry_block h i
  pub others : (x at n : ℕ) → IsBesidePointers h from count x at n → slice at n (bytes_at g x) ≡ slice at n (bytes_at h x)
  pub stays : LeavesStay h g

-- ---- how many blocks a doubling takes

-- how many blocks stand below a dinode of this height whose content takes so many blocks, none of them a hole
abbrev pub tree_blocks : ℕ → ℕ → ℕ → ℕ
tree_blocks size zero count = 0
tree_blocks size (suc level) count = tree_blocks size level count + pieces count (span size level)

-- how many blocks of content a table of so many pointers takes that doesn't stand behind its dinode
abbrev pub table_blocks : ℕ → ℕ → ℕ
table_blocks size count = pieces (8 * count) (size - header_length)

-- the height of a dinode of this height that gets a table of so many pointers below it: as that of a file of as many whole blocks
abbrev pub table_height : ℕ → ℕ → ℕ → ℕ
table_height size height count = raised_to size height (table_blocks size count * size) (10 - height)

-- how many blocks a doubling takes, of a table of so many pointers under a dinode of this height
abbrev pub doubling_need : ℕ → ℕ → ℕ → ℕ
doubling_need size height count =
    tree_blocks size (table_height size height (2 * count)) (table_blocks size (2 * count)) - tree_blocks size height (table_blocks size count)

abbrev pub doubling_need_of : Holding → ℕ
doubling_need_of h = doubling_need h.size (height_in h) (table_count h)

-- ---- a table that is doubled

-- a directory, in an image of fewer than 2^64 blocks, whose table can be doubled: it isn't as deep as one may be, and blocks of the room may be taken for
-- it, and are enough
pub record CanDouble (h : Holding) (room : List ℕ) : Type 0 where
  pub few : h.count < 2 ^ 64
  pub sound : IsTreeSound h
  pub placed : IsPlaced h
  pub leads : EachPointerLeads h
  pub greatest : 2 * table_count h ≤ 8 * h.size
  pub free : AreFreeFor h room
  pub enough : doubling_need_of h ≤ length room

-- Whatever the directory is: what was taken is the front of the room, and nothing becomes of any block but the dinode's, those below it, and these.
pub record TakesWithin (old new : FinMap nat_cmp Fate) (room left : List ℕ) (h : Holding) : Type 0 where
  pub taken : List ℕ
  pub front : room ≡ taken ++ left
  pub changes : ChangesOnly old new (λ b. (b ≡ h.own) ⊎ (IsBelow h b ⊎ Contains taken b))

-- ---- the table as a file

-- a block that is no leaf
abbrev pub without_leaf : Option Cell → Option Cell
without_leaf None = None
without_leaf (Some c) = if is_leaf_part (Some c.part) then None else Some c

-- A directory without its leaves as a regular file of whole blocks: each block of the table, header and all, is one of its content, and all stand
-- where they stood. A table behind the dinode is no content of it.
pub record IsTableFile (h f : Holding) : Type 0 where
  pub size : f.size ≡ h.size
  pub count : f.count ≡ h.count
  pub own : f.own ≡ h.own
  pub itself : part_at f h.own ≡ part_at h h.own
  pub others : (b : ℕ) → b ≢ h.own → f.cell b ≡ without_leaf (h.cell b)
  pub dinode : dinode_in f ≡ record (dinode_in h) {
    mode = 33188;
    nlink = 1;
    depth = 0;
    size = (if height_in h == 0 then 0 else content_count h * h.size);
    blocks = block_count f;
  }
  pub pointers : height_in h ≢ 0 → drop dinode_length (bytes_at f h.own) ≡ drop dinode_length (bytes_at h h.own)
  pub pads : HaveSamePads (bytes_at h h.own) (bytes_at f h.own)

-- From one directory to the other its blocks come, stand and have their headers as a file's do over whose first byte, and those behind it, bytes are written.
pub record GrowsAsFile (h g : Holding) (taken : List ℕ) : Type 0 where
  pub before : Holding
  pub after : Holding
  pub bytes : List ℕ
  pub of_old : IsTableFile h before
  pub of_new : IsTableFile g after
  pub written : IsWritten before after 0 bytes taken

-- the header of a new table block
abbrev pub table_header : List ℕ
table_header = header_put (record { kind = 7; format = 700; jid = 0 }) (replicate header_length 0)

-- each table block that was there keeps its header, pads too, and one that was taken has a new one's
pub record KeepsTableHeaders (h g : Holding) (taken : List ℕ) : Type 0 where
  pub old : (b first : ℕ) → IsSome (h.cell b) → StandsAt g b 0 first → take header_length (bytes_at g b) ≡ take header_length (bytes_at h b)
  pub new : (b first : ℕ) → Contains taken b → StandsAt g b 0 first → take header_length (bytes_at g b) ≡ table_header

-- behind the last pointer its block has zeros
abbrev pub IsClearBehind : Holding → Type 0
IsClearBehind g = (b i : ℕ) → StandsAt g b 0 i → (dinode_in g).size < (i + 1) * unit g
    → drop (header_length + ((dinode_in g).size - i * unit g)) (bytes_at g b) ≡ replicate (unit g - ((dinode_in g).size - i * unit g)) 0

-- What a doubling leaves: the table is twice as long, and what it took is the front of the room, as many blocks as it needed.
pub record TakesDoubled (old new : FinMap nat_cmp Fate) (room left : List ℕ) (h g : Holding) : Type 0 where
  pub taken : List ℕ
  pub doubled : IsDoubled h g taken
  pub has : HasTaken h g taken
  pub needed : length taken ≡ doubling_need_of h
  pub front : room ≡ taken ++ left
  pub drafted : DraftsDirectory old new h g
  pub pads : KeepsPads (bytes_at h h.own) (bytes_at g g.own)
  pub headers : KeepsTableHeaders h g taken
  pub clear : IsClearBehind g
  pub grown : GrowsAsFile h g taken
