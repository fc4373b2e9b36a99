-- Steps from one state of a file to the next, each of one block: a hole is filled, the height rises, a block is freed, bytes of content
-- are put, the size changes. In each the file has other cells, and its size of blocks, its count of them and its own block stay.
use Rattle.std.specs.Prelude.{ℕ, suc, ◌≡◌, ◌≢◌, ◌+◌, ◌-◌, ◌*◌, ◌<◌, ◌≤◌, ◌==◌, if◌then◌else◌, List, ◌++◌, length, take, drop, replicate, Option, None, Some}
use Rattle.gfs2_layout.specs.Headers.{HasHeader}
use Rattle.gfs2_layout.specs.Holding.{Part, Pointed, Cell, Holding, part_at, bytes_at}
use Rattle.gfs2_layout.specs.Inode.{dinode_in, height_in, header_length, fan, span, pointer, unit, content_block, content_count, content_of, pieces, IsPointed}
use Rattle.gfs2_layout.specs.Structures.{dinode_length}
use Rattle.growth_laws.specs.Files.{with_cells}

-- ---- what a step leaves alone

-- blocks but these two keep their parts, and with a part their length and, as content, their bytes; headers stay
pub record StaysBut (h h' : Holding) (b : ℕ) : Type 0 where
  pub parts : (x : ℕ) → x ≢ b → part_at h' x ≡ part_at h x
  pub lengths : (x : ℕ) → x ≢ b → length (bytes_at h' x) ≡ length (bytes_at h x)
  pub headers : (x kind format : ℕ) → x ≢ b → HasHeader kind format (bytes_at h x) → HasHeader kind format (bytes_at h' x)
  pub contents : (x above j first : ℕ) → x ≢ b → part_at h x ≡ Some (Pointed above j 0 first) → bytes_at h' x ≡ bytes_at h x

-- each pointer but this one of this block leads where it led: of the dinode, and of the indirect blocks but b
pub record PointersStayBut (h h' : Holding) (b from k : ℕ) : Type 0 where
  pub of_dinode : (j : ℕ) → (h.own ≡ from → j ≢ k) → pointer h' dinode_length h.own j ≡ pointer h dinode_length h.own j
  pub of_blocks : (x j : ℕ) → x ≢ h.own → x ≢ b → (x ≡ from → j ≢ k) → pointer h' header_length x j ≡ pointer h header_length x j

-- ---- a hole is filled

-- The hole: pointer k of a block leads nowhere, so many levels above content, and content would begin at this index below it. Before the
-- file's end a new block fills it: zeros on the level of content, and further up an indirect block that leads nowhere.
pub record IsFilled (h : Holding) (cell : ℕ → Option Cell) (from k level first b : ℕ) : Type 0 where
  pub hole : IsPointed h 0 from k level first
  pub within : first < content_count h
  pub new : h.cell b ≡ None
  pub some : b ≢ 0
  pub inside : b < h.count
  pub filled : IsPointed (with_cells h cell) b from k level first
  pub part : part_at (with_cells h cell) b ≡ Some (Pointed from k level first)
  pub whole : length (bytes_at (with_cells h cell) b) ≡ h.size
  pub zeros : level ≡ 0 → bytes_at (with_cells h cell) b ≡ replicate h.size 0
  pub header : (below : ℕ) → level ≡ suc below → HasHeader 5 500 (bytes_at (with_cells h cell) b)
  pub leads_nowhere : (below j : ℕ) → level ≡ suc below → pointer (with_cells h cell) header_length b j ≡ 0
  pub dinode : dinode_in (with_cells h cell) ≡ dinode_in h
  pub stays : StaysBut h (with_cells h cell) b
  pub pointers : PointersStayBut h (with_cells h cell) b from k

-- ---- a block is freed

-- The block is content, or an indirect block that leads nowhere; the pointer that led to it leads nowhere.
pub record IsFreed (h : Holding) (cell : ℕ → Option Cell) (from k level first b : ℕ) : Type 0 where
  pub part : part_at h b ≡ Some (Pointed from k level first)
  pub inside : b < h.count
  pub led_nowhere : (below j : ℕ) → level ≡ suc below → j < fan h.size header_length → pointer h header_length b j ≡ 0
  pub gone : cell b ≡ None
  pub hole : IsPointed (with_cells h cell) 0 from k level first
  pub dinode : dinode_in (with_cells h cell) ≡ dinode_in h
  pub stays : StaysBut h (with_cells h cell) b
  pub pointers : PointersStayBut h (with_cells h cell) b from k

-- ---- the height rises by one

-- where a pointer stands afterwards: the dinode's stand in the new block
abbrev pub moved_from : ℕ → ℕ → ℕ → ℕ
moved_from own b from = if from == own then b else from

abbrev pub moved : ℕ → ℕ → Option Part → Option Part
moved own b (Some (Pointed from k level first)) = Some (Pointed (moved_from own b from) k level first)
moved own b part = part

-- The dinode's pointers, one of which leads somewhere, move to a new indirect block to which its first pointer leads.
pub record IsRaised (h : Holding) (cell : ℕ → Option Cell) (level b : ℕ) : Type 0 where
  pub high : height_in h ≡ suc level
  pub low : level < 9
  pub leads : (k : ℕ) × (k < fan h.size dinode_length) × (pointer h dinode_length h.own k ≢ 0)
  pub new : h.cell b ≡ None
  pub some : b ≢ 0
  pub inside : b < h.count
  pub part : part_at (with_cells h cell) b ≡ Some (Pointed h.own 0 (suc level) 0)
  pub whole : length (bytes_at (with_cells h cell) b) ≡ h.size
  pub header : HasHeader 5 500 (bytes_at (with_cells h cell) b)
  pub dinode : dinode_in (with_cells h cell) ≡ record (dinode_in h) { height = suc (suc level) }
  pub own_header : HasHeader 4 400 (bytes_at (with_cells h cell) h.own)
  pub own_whole : length (bytes_at (with_cells h cell) h.own) ≡ h.size
  pub first : pointer (with_cells h cell) dinode_length h.own 0 ≡ b
  pub rest : (j : ℕ) → j ≢ 0 → j < fan h.size dinode_length → pointer (with_cells h cell) dinode_length h.own j ≡ 0
  pub moved_here : (j : ℕ) → j < fan h.size dinode_length → pointer (with_cells h cell) header_length b j ≡ pointer h dinode_length h.own j
  pub none_behind : (j : ℕ) → fan h.size dinode_length ≤ j → j < fan h.size header_length → pointer (with_cells h cell) header_length b j ≡ 0
  pub parts : (x : ℕ) → x ≢ b → part_at (with_cells h cell) x ≡ moved h.own b (part_at h x)
  pub others : (x : ℕ) → x ≢ b → x ≢ h.own → bytes_at (with_cells h cell) x ≡ bytes_at h x

-- ---- stuffed content moves to a block of its own, the first of height 1

pub record IsUnstuffed (h : Holding) (cell : ℕ → Option Cell) (b : ℕ) : Type 0 where
  pub stuffed : height_in h ≡ 0
  pub content : (dinode_in h).size ≢ 0
  pub new : h.cell b ≡ None
  pub some : b ≢ 0
  pub inside : b < h.count
  pub part : part_at (with_cells h cell) b ≡ Some (Pointed h.own 0 0 0)
  pub bytes : bytes_at (with_cells h cell) b ≡ content_of h ++ replicate (h.size - (dinode_in h).size) 0
  pub dinode : dinode_in (with_cells h cell) ≡ record (dinode_in h) { height = 1 }
  pub own_header : HasHeader 4 400 (bytes_at (with_cells h cell) h.own)
  pub own_whole : length (bytes_at (with_cells h cell) h.own) ≡ h.size
  pub first : pointer (with_cells h cell) dinode_length h.own 0 ≡ b
  pub rest : (j : ℕ) → j ≢ 0 → j < fan h.size dinode_length → pointer (with_cells h cell) dinode_length h.own j ≡ 0
  pub parts : (x : ℕ) → x ≢ b → part_at (with_cells h cell) x ≡ part_at h x
  pub others : (x : ℕ) → x ≢ b → x ≢ h.own → bytes_at (with_cells h cell) x ≡ bytes_at h x

-- ---- a file without blocks beside its dinode's gets another height

-- it has no other block, and no content where one of the heights is 0
pub record IsBareTo (h : Holding) (cell : ℕ → Option Cell) (height : ℕ) : Type 0 where
  pub bare : (b from k level first : ℕ) → part_at h b ≢ Some (Pointed from k level first)
  pub low : height ≤ 10
  pub enough : (level : ℕ) → height ≡ suc level → content_count h ≤ fan h.size dinode_length * span h.size level
  pub from_stuffed : height_in h ≡ 0 → (dinode_in h).size ≡ 0
  pub to_stuffed : height ≡ 0 → (dinode_in h).size ≡ 0
  pub dinode : dinode_in (with_cells h cell) ≡ record (dinode_in h) { height = height }
  pub own_header : HasHeader 4 400 (bytes_at (with_cells h cell) h.own)
  pub own_whole : length (bytes_at (with_cells h cell) h.own) ≡ h.size
  pub none : (j : ℕ) → j < fan h.size dinode_length → pointer (with_cells h cell) dinode_length h.own j ≡ 0
  pub parts : (x : ℕ) → part_at (with_cells h cell) x ≡ part_at h x
  pub others : (x : ℕ) → x ≢ h.own → bytes_at (with_cells h cell) x ≡ bytes_at h x

-- ---- bytes of content are put

-- the block of content with index i has these bytes, a whole block
pub record IsContentPut (h : Holding) (cell : ℕ → Option Cell) (i : ℕ) (new : List ℕ) : Type 0 where
  pub in_blocks : height_in h ≢ 0
  pub within : i < content_count h
  pub there : content_block h i ≢ 0
  pub whole : length new ≡ h.size
  pub bytes : bytes_at (with_cells h cell) (content_block h i) ≡ new
  pub parts : (x : ℕ) → part_at (with_cells h cell) x ≡ part_at h x
  pub others : (x : ℕ) → x ≢ content_block h i → bytes_at (with_cells h cell) x ≡ bytes_at h x

-- ---- content in the dinode's block

-- The file keeps its content behind its dinode, and this is it afterwards; the dinode says so, and nothing else anew.
pub record IsStuffedAs (h : Holding) (cell : ℕ → Option Cell) (content : List ℕ) : Type 0 where
  pub stuffed : height_in h ≡ 0
  pub room : dinode_length + length content ≤ h.size
  pub dinode : dinode_in (with_cells h cell) ≡ record (dinode_in h) { size = length content }
  pub area : take (length content) (drop dinode_length (bytes_at (with_cells h cell) h.own)) ≡ content
  pub own_header : HasHeader 4 400 (bytes_at (with_cells h cell) h.own)
  pub own_whole : length (bytes_at (with_cells h cell) h.own) ≡ h.size
  pub parts : (x : ℕ) → part_at (with_cells h cell) x ≡ part_at h x
  pub others : (x : ℕ) → x ≢ h.own → bytes_at (with_cells h cell) x ≡ bytes_at h x

-- ---- the size changes

-- Of a file in blocks: from byte `from` of the content on, what its blocks carry up to the last one's end is zeros. So what a later end uncovers
-- reads as zeros, whatever stood there.
abbrev pub IsClearFrom : Holding → ℕ → Type 0
IsClearFrom h from = (i : ℕ) → content_block h i ≢ 0 → i < content_count h → from < (i + 1) * h.size
    → drop (from - i * h.size) (bytes_at h (content_block h i)) ≡ replicate (h.size - (from - i * h.size)) 0

-- The dinode says another size, which the height reaches. Where it is less, no block stands past the new end; where it is more, the file is
-- clear from the old end on.
pub record IsSized (h : Holding) (cell : ℕ → Option Cell) (size : ℕ) : Type 0 where
  pub in_blocks : height_in h ≢ 0
  pub reached : (level : ℕ) → height_in h ≡ suc level → pieces size (unit h) ≤ fan h.size dinode_length * span h.size level
  pub no_block : (b from k level first : ℕ) → part_at h b ≡ Some (Pointed from k level first) → first < pieces size (unit h)
  pub clear : (dinode_in h).size < size → IsClearFrom h (dinode_in h).size
  pub dinode : dinode_in (with_cells h cell) ≡ record (dinode_in h) { size = size }
  pub own_header : HasHeader 4 400 (bytes_at (with_cells h cell) h.own)
  pub own_whole : length (bytes_at (with_cells h cell) h.own) ≡ h.size
  pub pointers : (j : ℕ) → pointer (with_cells h cell) dinode_length h.own j ≡ pointer h dinode_length h.own j
  pub parts : (x : ℕ) → part_at (with_cells h cell) x ≡ part_at h x
  pub others : (x : ℕ) → x ≢ h.own → bytes_at (with_cells h cell) x ≡ bytes_at h x
