-- What an inode says, read from its own blocks alone, and the rules that these blocks keep.
use Rattle.std.specs.Prelude.{ℕ, zero, suc, ◌≡◌, ◌≢◌, ◌⊎◌, ◌+◌, ◌-◌, ◌*◌, ◌/◌, ◌%◌, ◌^◌, ◌<◌, ◌≤◌, ◌==◌, ◌&&◌, Bool, true, false, is_some, if◌then◌else◌, List, length, take, drop, filter, flat_map, count_by, replicate, Contains, Option, Some}
use Rattle.std.specs.List.{range_with_len}
use Rattle.crc_words.specs.Remainder.{crc32_of}
use Rattle.gfs2_layout.specs.Bytes.{u32_at, u64_at}
use Rattle.gfs2_layout.specs.Structures.{dinode_of, dinode_length, is_directory, is_regular, leaf_of}
use Rattle.gfs2_layout.specs.declared.dinode.Dinode.{Dinode}
use Rattle.gfs2_layout.specs.declared.leaf.Leaf.{Leaf}
use Rattle.gfs2_layout.specs.Headers.{HasHeader}
use Rattle.gfs2_layout.specs.Holding.{Holding, Part, Pointed, InChain, bytes_at, part_at}
use Rattle.gfs2_layout.specs.Records.{Record, records_in, IsRecordArea}

unfoldable pub dinode_in : Holding → Dinode
dinode_in h = dinode_of (bytes_at h h.own)

abbrev pub height_in : Holding → ℕ
height_in h = (dinode_in h).height

-- the flag of a hashed directory
abbrev pub has_hash_flag : Dinode → Bool
has_hash_flag d = d.flags / 2 % 2 == 1

abbrev pub is_directory_in : Holding → Bool
is_directory_in h = is_directory (dinode_in h)

abbrev pub is_hashed_in : Holding → Bool
is_hashed_in h = is_directory (dinode_in h) && has_hash_flag (dinode_in h)

-- ---- pointers: of the dinode behind its 232 bytes, of an indirect block behind its header

abbrev pub header_length : ℕ
header_length = 24

-- how many pointers a block has from this byte on
abbrev pub fan : ℕ → ℕ → ℕ
fan size start = (size - start) / 8

-- pointer k of a block, whose pointers begin at this byte; 0 leads nowhere
abbrev pub pointer : Holding → ℕ → ℕ → ℕ → ℕ
pointer h start b k = u64_at (start + 8 * k) (bytes_at h b)

-- how many blocks of content a block leads to that stands so many levels above content
abbrev pub span : ℕ → ℕ → ℕ
span size zero = 1
span size (suc level) = fan size header_length * span size level

-- ---- content

-- the block of content with index i below block b, so many levels down; 0 where a pointer on the way is
abbrev pub descend : Holding → ℕ → ℕ → ℕ → ℕ
descend h zero b i = b
descend h (suc level) b i =
    if b == 0 then 0 else descend h level (pointer h header_length b (i / span h.size level)) (i % span h.size level)

-- the block of content with index i, of an inode whose content isn't in its dinode; 0 is a hole
unfoldable pub content_block : Holding → ℕ → ℕ
content_block h i =
    let level = height_in h - 1 in
    descend h level (pointer h dinode_length h.own (i / span h.size level)) (i % span h.size level)

-- how much of the content a block carries: a table block of a directory has a header before it
abbrev pub unit : Holding → ℕ
unit h = if is_directory_in h then h.size - header_length else h.size

-- what a block of content carries; a hole stands for zeros
abbrev pub carried : Holding → ℕ → List ℕ
carried h b = if b == 0 then replicate (unit h) 0 else drop (h.size - unit h) (bytes_at h b)

-- how many pieces of this length it takes for n bytes
abbrev pub pieces : ℕ → ℕ → ℕ
pieces n each = (n + each - 1) / each

-- how many blocks of content the size asks for
abbrev pub content_count : Holding → ℕ
content_count h = pieces (dinode_in h).size (unit h)

-- the content: behind the dinode at height 0, and else in the blocks of content, one after another
unfoldable pub content_of : Holding → List ℕ
content_of h = take (dinode_in h).size (
    if height_in h == 0 then drop dinode_length (bytes_at h h.own)
    else flat_map (λ i. carried h (content_block h i)) (range_with_len 0 (content_count h)))

-- ---- the records of a directory: behind the dinode of a linear one, in the leaves of a hashed one

abbrev pub leaf_length : ℕ
leaf_length = 104

abbrev pub linear_area : Holding → List ℕ
linear_area h = drop dinode_length (bytes_at h h.own)

abbrev pub leaf_area : Holding → ℕ → List ℕ
leaf_area h x = drop leaf_length (bytes_at h x)

abbrev pub is_leaf_part : Option Part → Bool
is_leaf_part (Some (InChain hash place)) = true
is_leaf_part _ = false

-- the leaves that it has, in rising order
abbrev pub leaves_of : Holding → List ℕ
leaves_of h = filter (λ x. is_leaf_part (part_at h x)) (range_with_len 0 h.count)

-- all its records; no rule and no reading looks at their order
unfoldable pub records_of : Holding → List Record
records_of h = if is_hashed_in h then flat_map (λ x. records_in (leaf_area h x)) (leaves_of h) else records_in (linear_area h)

-- what a record repeats of the inode that it names
pub record Head : Type 0 where
  pub number : ℕ
  pub is_dir : Bool

abbrev pub head_of : Holding → Head
head_of h = record { number = (dinode_in h).num.number; is_dir = is_directory_in h }

-- ---- the blocks of content, and the indirect blocks above them

-- pointer k of block b of this inode leads to block c, which stands so many levels above content and begins at this index of it
pub data Leads (h : Holding) : ℕ → ℕ → ℕ → ℕ → ℕ → Type 0 where
  from_dinode : (k level : ℕ) → height_in h ≡ suc level → k < fan h.size dinode_length → pointer h dinode_length h.own k ≢ 0
      → Leads h h.own k level (k * span h.size level) (pointer h dinode_length h.own k)
  from_block : (b k level first c j : ℕ) → Leads h b k (suc level) first c → j < fan h.size header_length → pointer h header_length c j ≢ 0
      → Leads h c j level (first + j * span h.size level) (pointer h header_length c j)

-- P of each pointer of the block that isn't zero, and of the block to which it leads
abbrev pub EachPointer : Holding → ℕ → ℕ → (ℕ → ℕ → Type 0) → Type 0
EachPointer h start b P = (k : ℕ) → k < fan h.size start → pointer h start b k ≢ 0 → P k (pointer h start b k)

-- the pointer leads to a block of this inode whose part it is, and to content before the inode's end
pub record IsChild (h : Holding) (b k level first c : ℕ) : Type 0 where
  pub part : part_at h c ≡ Some (Pointed b k level first)
  pub within : first < content_count h

-- the pointer that a block's part tells: of the dinode, or of an indirect block one level above
pub data IsPointed (h : Holding) (x b k level first : ℕ) : Type 0 where
  by_dinode : b ≡ h.own → height_in h ≡ suc level → k < fan h.size dinode_length → pointer h dinode_length b k ≡ x
      → first ≡ k * span h.size level → IsPointed h x b k level first
  by_block : (above j start : ℕ) → part_at h b ≡ Some (Pointed above j (suc level) start) → k < fan h.size header_length → pointer h header_length b k ≡ x
      → first ≡ start + k * span h.size level → IsPointed h x b k level first

-- Each pointer leads to a block of this inode whose part it is, and each block of it that has such a part is led to by
-- that pointer. Every sentence looks at one block and at those that it points to or that point to it.
pub record HasTree (h : Holding) : Type 0 where
  pub top : (level : ℕ) → height_in h ≡ suc level → EachPointer h dinode_length h.own (λ k c. IsChild h h.own k level (k * span h.size level) c)
  pub inner : (x b k level first : ℕ) → part_at h x ≡ Some (Pointed b k (suc level) first)
      → EachPointer h header_length x (λ j c. IsChild h x j level (first + j * span h.size level) c)
  pub pointed : (x b k level first : ℕ) → part_at h x ≡ Some (Pointed b k level first) → IsPointed h x b k level first
  pub below : (x b k level first : ℕ) → part_at h x ≡ Some (Pointed b k level first) → level < height_in h
  pub indirect : (x b k level first : ℕ) → part_at h x ≡ Some (Pointed b k (suc level) first) → HasHeader 5 500 (bytes_at h x)
  pub table : (x b k first : ℕ) → is_directory_in h ≡ true → part_at h x ≡ Some (Pointed b k 0 first) → HasHeader 7 700 (bytes_at h x)

-- the content fits into the dinode at height 0, and else below it
pub record Fits (h : Holding) : Type 0 where
  pub low : height_in h ≤ 10
  pub stuffed : height_in h ≡ 0 → dinode_length + (dinode_in h).size ≤ h.size
  pub under : (level : ℕ) → height_in h ≡ suc level → content_count h ≤ fan h.size dinode_length * span h.size level

-- ---- a hashed directory: a table of pointers to leaves

abbrev pub depth_in : Holding → ℕ
depth_in h = (dinode_in h).depth

abbrev pub table_count : Holding → ℕ
table_count h = 2 ^ depth_in h

-- pointer i of the table
abbrev pub entry : Holding → ℕ → ℕ
entry h i = u64_at (8 * i) (content_of h)

-- the block of a directory that has pointer i of its table; its dinode's where the table has a hole there
abbrev pub entry_block : Holding → ℕ → ℕ
entry_block h i =
    if height_in h == 0 then h.own
    else (let b = content_block h (8 * i / unit h) in if b == 0 then h.own else b)

abbrev pub leaf_in : Holding → ℕ → Leaf
leaf_in h x = leaf_of (bytes_at h x)

-- the top bits of a hash: so many
abbrev pub top_bits : ℕ → ℕ → ℕ
top_bits depth hash = hash / 2 ^ (32 - depth)

-- the top bits of the hashes of index i: at most as many as the table's depth
abbrev pub index_bits : Holding → ℕ → ℕ → ℕ
index_bits h depth i = i / 2 ^ (depth_in h - depth)

-- the first of the hashes that belong to the leaf to which pointer i leads
abbrev pub first_hash : Holding → ℕ → ℕ
first_hash h i = let depth = (leaf_in h (entry h i)).depth in index_bits h depth i * 2 ^ (32 - depth)

-- a leaf of the chain for the hashes from this one on
pub record IsLeaf (h : Holding) (hash x : ℕ) : Type 0 where
  pub header : HasHeader 6 600 (bytes_at h x)
  pub records_format : u32_at 28 (bytes_at h x) ≡ 1200
  pub depth : (leaf_in h x).depth ≤ depth_in h
  pub area : IsRecordArea (leaf_area h x)
  pub entries : (leaf_in h x).entries ≡ length (records_in (leaf_area h x))
  pub hashes : (r : Record) → Contains (records_in (leaf_area h x)) r → top_bits (leaf_in h x).depth (crc32_of r.name) ≡ top_bits (leaf_in h x).depth hash

-- the leaf behind another one in a chain
pub record IsNextLeaf (h : Holding) (hash place x y : ℕ) : Type 0 where
  pub part : part_at h y ≡ Some (InChain hash (place + 1))
  pub depth : (leaf_in h y).depth ≡ (leaf_in h x).depth

-- Each pointer leads to the first leaf of the chain for its hashes, and every pointer for these hashes does. Each leaf
-- leads to the next, and each leaf of the directory is led to from where its part tells.
pub record IsHashed (h : Holding) : Type 0 where
  pub least : h.size / 16 ≤ table_count h
  pub greatest : table_count h ≤ 8 * h.size
  pub size : (dinode_in h).size ≡ 8 * table_count h
  pub leads : (i : ℕ) → i < table_count h → part_at h (entry h i) ≡ Some (InChain (first_hash h i) 0)
  pub runs : (i j : ℕ) → i < table_count h → j < table_count h
      → index_bits h (leaf_in h (entry h i)).depth j ≡ index_bits h (leaf_in h (entry h i)).depth i → entry h j ≡ entry h i
  pub next : (x hash place : ℕ) → part_at h x ≡ Some (InChain hash place) → (leaf_in h x).next ≢ 0 → IsNextLeaf h hash place x (leaf_in h x).next
  pub headed : (x hash : ℕ) → part_at h x ≡ Some (InChain hash 0) → (i : ℕ) × (i < table_count h) × (entry h i ≡ x)
  pub chained : (x hash place : ℕ) → part_at h x ≡ Some (InChain hash (suc place)) → (y : ℕ) × (part_at h y ≡ Some (InChain hash place)) × ((leaf_in h y).next ≡ x)
  pub leaves : (x hash place : ℕ) → part_at h x ≡ Some (InChain hash place) → IsLeaf h hash x

-- a linear directory: its records fill the rest of the dinode's block
pub record IsLinear (h : Holding) : Type 0 where
  pub stuffed : height_in h ≡ 0
  pub size : dinode_length + (dinode_in h).size ≡ h.size
  pub area : IsRecordArea (linear_area h)

-- ---- an inode that is sound in itself

-- how many blocks it has: its dinode, the blocks below it, and its leaves
unfoldable pub block_count : Holding → ℕ
block_count h = count_by (λ b. is_some (h.cell b)) (range_with_len 0 h.count)

-- one sentence for each rule that looks at the inode's own blocks alone
pub record IsInode (h : Holding) : Type 0 where
  pub whole : (b : ℕ) (p : Part) → part_at h b ≡ Some p → length (bytes_at h b) ≡ h.size
  pub header : HasHeader 4 400 (bytes_at h h.own)
  pub address : (dinode_in h).num.address ≡ h.own
  pub number : (dinode_in h).num.number ≢ 0
  pub mode : (is_directory_in h ≡ true) ⊎ (is_regular (dinode_in h) ≡ true)
  pub links : is_directory_in h ≡ false → (dinode_in h).nlink ≡ 1
  pub fits : Fits h
  pub tree : HasTree h
  pub linear : is_directory_in h ≡ true → is_hashed_in h ≡ false → IsLinear h
  pub hashed : is_hashed_in h ≡ true → IsHashed h
  pub leafless : is_hashed_in h ≡ false → (x hash place : ℕ) → part_at h x ≡ Some (InChain hash place) → ⊥
  pub blocks : (dinode_in h).blocks ≡ block_count h
