-- Laws of one step each: it keeps the rules of a file, its content becomes so, and so many blocks are there.
use Rattle.std.specs.Prelude.{ℕ, suc, ◌≡◌, ◌≢◌, ◌↔◌, ◌⊎◌, ◌+◌, ◌*◌, ◌^◌, ◌<◌, ◌≤◌, true, List, ◌++◌, length, take, drop, replicate, Option, None, Some, Ok}
use Rattle.file_tree.specs.Apply.{resized, overwritten}
use Rattle.gfs2_layout.specs.Device.{IsBlockSize}
use Rattle.gfs2_layout.specs.Holding.{Part, Itself, Pointed, Cell, Holding, part_at, bytes_at}
use Rattle.gfs2_layout.specs.Inode.{dinode_in, height_in, header_length, fan, span, pointer, content_block, content_count, content_of, block_count, IsPointed, IsInode}
use Rattle.gfs2_layout.specs.Structures.{dinode_length, dinode_read, is_regular}
use Rattle.gfs2_layout.specs.declared.dinode.Dinode.{Dinode}
use Rattle.gfs2_layout.specs.Bytes.{u64_at}
use Rattle.gfs2_layout.specs.Headers.{HasHeader}
use Rattle.growth_laws.specs.Blocks.{IsNewBlock, rewritten_cells, filled_cells, freed_cells}
use Rattle.growth_laws.specs.Files.{IsFile, with_cells, places_on, block_on, IsPlaced}
use Rattle.growth_laws.specs.Need.{is_there, is_over, needed_below}
use Rattle.growth_laws.specs.Steps.{IsFilled, IsFreed, IsRaised, IsUnstuffed, IsBareTo, IsContentPut, IsStuffedAs, IsSized}

-- ---- files and inodes

-- an inode that is a regular file keeps the rules of one
abbrev pub InodesAreFiles : Type 0
InodesAreFiles = (h : Holding) → IsBlockSize h.size → part_at h h.own ≡ Some Itself → ((b : ℕ) → part_at h b ≡ Some Itself → b ≡ h.own) → part_at h 0 ≡ None → is_regular (dinode_in h) ≡ true → IsInode h → IsFile h

-- a file whose dinode says how many blocks it has is an inode that is sound in itself
abbrev pub FilesAreInodes : Type 0
FilesAreInodes = (h : Holding) → IsFile h → (dinode_in h).blocks ≡ block_count h → IsInode h

-- ---- places

-- the block at a place of the tree is the one whose part says that it stands there
abbrev pub PlacesAreParts : Type 0
PlacesAreParts = (h : Holding) (level j c : ℕ) → IsFile h → level < height_in h → j < places_on h level → c ≢ 0
    → (block_on h level j ≡ c) ↔ IsPlaced h c level (j * span h.size level)

-- and each block whose part tells of a pointer stands at a place
abbrev pub PartsHavePlaces : Type 0
PartsHavePlaces = (h : Holding) (c level first : ℕ) → IsFile h → IsPlaced h c level first
    → (j : ℕ) × (first ≡ j * span h.size level) × (j < places_on h level) × (block_on h level j ≡ c)

-- the blocks of content are those on level 0
abbrev pub ContentIsLevelZero : Type 0
ContentIsLevelZero = (h : Holding) (i : ℕ) → content_block h i ≡ block_on h 0 i

-- the places of the highest level are the dinode's pointers
abbrev pub TopPlacesAreThePointers : Type 0
TopPlacesAreThePointers = (h : Holding) (level j : ℕ) → IsFile h → height_in h ≡ suc level → j < fan h.size dinode_length
    → (block_on h level j ≡ pointer h dinode_length h.own j) × IsPointed h (pointer h dinode_length h.own j) h.own j level (j * span h.size level)

-- and those of a lower one the pointers of the blocks of the level above
abbrev pub PlacesFollowPointers : Type 0
PlacesFollowPointers = (h : Holding) (level q k c : ℕ) → IsFile h → suc level < height_in h → q < places_on h (suc level) → k < fan h.size header_length → block_on h (suc level) q ≡ c → c ≢ 0
    → (block_on h level (q * fan h.size header_length + k) ≡ pointer h header_length c k)
    × IsPointed h (pointer h header_length c k) c k level ((q * fan h.size header_length + k) * span h.size level)

-- ---- a hole is filled

abbrev pub FillsKeepFiles : Type 0
FillsKeepFiles = (h : Holding) (cell : ℕ → Option Cell) (from k level first b : ℕ) → IsFile h → IsFilled h cell from k level first b → IsFile (with_cells h cell)

abbrev pub FillsKeepContent : Type 0
FillsKeepContent = (h : Holding) (cell : ℕ → Option Cell) (from k level first b : ℕ) → IsFile h → IsFilled h cell from k level first b → content_of (with_cells h cell) ≡ content_of h

abbrev pub FillsAddOne : Type 0
FillsAddOne = (h : Holding) (cell : ℕ → Option Cell) (from k level first b : ℕ) → IsFilled h cell from k level first b → block_count (with_cells h cell) ≡ block_count h + 1

-- one place gets the block, and all others have what they had
abbrev pub FillsOnePlace : Type 0
FillsOnePlace = (h : Holding) (cell : ℕ → Option Cell) (from k level first b l j : ℕ) → IsFile h → IsFilled h cell from k level first b → l < height_in h → j < places_on h l
    → ((l ≡ level) × (j * span h.size l ≡ first) × (block_on h l j ≡ 0) × (block_on (with_cells h cell) l j ≡ b)) ⊎ ((l ≡ level → j * span h.size l ≢ first) × (block_on (with_cells h cell) l j ≡ block_on h l j))

-- a block that fills a hole on the way of a write to a file that is high enough is one that it needed
abbrev pub FillsLowerNeed : Type 0
FillsLowerNeed = (h : Holding) (cell : ℕ → Option Cell) (from k level first b at end j : ℕ) → IsFile h → IsFilled h cell from k level first b
    → first ≡ j * span h.size level → is_over h.size at end level j ≡ true → needed_below h at end (height_in h) ≡ needed_below (with_cells h cell) at end (height_in h) + 1

-- ---- a block is freed

abbrev pub FreesKeepFiles : Type 0
FreesKeepFiles = (h : Holding) (cell : ℕ → Option Cell) (from k level first b : ℕ) → IsFile h → IsFreed h cell from k level first b → IsFile (with_cells h cell)

-- the content before the block stays
abbrev pub FreesKeepTheFront : Type 0
FreesKeepTheFront = (h : Holding) (cell : ℕ → Option Cell) (from k level first b n : ℕ) → IsFile h → IsFreed h cell from k level first b
    → n ≤ first * h.size → take n (content_of (with_cells h cell)) ≡ take n (content_of h)

-- an indirect block carries nothing
abbrev pub IndirectFreesKeepContent : Type 0
IndirectFreesKeepContent = (h : Holding) (cell : ℕ → Option Cell) (from k level first b : ℕ) → IsFile h → IsFreed h cell from k level first b → level ≢ 0
    → content_of (with_cells h cell) ≡ content_of h

abbrev pub FreesTakeOne : Type 0
FreesTakeOne = (h : Holding) (cell : ℕ → Option Cell) (from k level first b : ℕ) → IsFreed h cell from k level first b → block_count h ≡ block_count (with_cells h cell) + 1

-- ---- the height

abbrev pub RaisesKeepFiles : Type 0
RaisesKeepFiles = (h : Holding) (cell : ℕ → Option Cell) (level b : ℕ) → IsFile h → IsRaised h cell level b
    → IsFile (with_cells h cell) × (content_of (with_cells h cell) ≡ content_of h) × (block_count (with_cells h cell) ≡ block_count h + 1)

abbrev pub UnstuffingKeepsFiles : Type 0
UnstuffingKeepsFiles = (h : Holding) (cell : ℕ → Option Cell) (b : ℕ) → IsFile h → IsUnstuffed h cell b
    → IsFile (with_cells h cell) × (content_of (with_cells h cell) ≡ content_of h) × (block_count (with_cells h cell) ≡ block_count h + 1)

abbrev pub BareFilesChangeHeight : Type 0
BareFilesChangeHeight = (h : Holding) (cell : ℕ → Option Cell) (height : ℕ) → IsFile h → IsBareTo h cell height
    → IsFile (with_cells h cell) × (content_of (with_cells h cell) ≡ content_of h)

-- the block that is taken is one that a higher file needs
abbrev pub RaisesLowerNeed : Type 0
RaisesLowerNeed = (h : Holding) (cell : ℕ → Option Cell) (level b at end height : ℕ) → IsFile h → IsRaised h cell level b → suc level < height
    → needed_below h at end height ≡ needed_below (with_cells h cell) at end height + 1

abbrev pub UnstuffingLowersNeed : Type 0
UnstuffingLowersNeed = (h : Holding) (cell : ℕ → Option Cell) (b at end height : ℕ) → IsFile h → IsUnstuffed h cell b → 0 < height
    → needed_below h at end height ≡ needed_below (with_cells h cell) at end height + 1

-- ---- content and size

-- bytes over those of a block of content from a place on are bytes over the content
abbrev pub PutsOverwrite : Type 0
PutsOverwrite = (h : Holding) (cell : ℕ → Option Cell) (i at : ℕ) (new : List ℕ) → IsFile h → at + length new ≤ h.size → i * h.size + at + length new ≤ (dinode_in h).size
    → IsContentPut h cell i (take at (bytes_at h (content_block h i)) ++ (new ++ drop (at + length new) (bytes_at h (content_block h i))))
    → IsFile (with_cells h cell) × (content_of (with_cells h cell) ≡ overwritten (i * h.size + at) new (content_of h))

-- content behind the dinode is what was put there
abbrev pub StuffedContentIsPut : Type 0
StuffedContentIsPut = (h : Holding) (cell : ℕ → Option Cell) (content : List ℕ) → IsFile h → IsStuffedAs h cell content
    → IsFile (with_cells h cell) × (content_of (with_cells h cell) ≡ content)

-- the content is cut, or goes on with zeros
abbrev pub SizesResize : Type 0
SizesResize = (h : Holding) (cell : ℕ → Option Cell) (size : ℕ) → IsFile h → IsSized h cell size
    → IsFile (with_cells h cell) × (content_of (with_cells h cell) ≡ resized size (content_of h))

-- ---- what composes

-- writes of two pieces one behind the other are a write of both
abbrev pub WritesJoin : Type 0
WritesJoin = (at : ℕ) (front back bytes : List ℕ) → overwritten (at + length front) back (overwritten at front bytes) ≡ overwritten at (front ++ back) bytes

-- a write that ends past the content is a resize to its end and then a write within
abbrev pub WritesGrowFirst : Type 0
WritesGrowFirst = (at size : ℕ) (new bytes : List ℕ) → length bytes ≤ size → at + length new ≡ size → overwritten at new (resized size bytes) ≡ overwritten at new bytes

-- ---- steps as bytes

-- the numbers behind a place are those behind another place of other bytes, where what stands behind is the same; of zeros they are 0
abbrev pub NumbersBehindAreTheSame : Type 0
NumbersBehindAreTheSame = (a b : List ℕ) (s t i : ℕ) → drop s a ≡ drop t b → u64_at (s + i) a ≡ u64_at (t + i) b

abbrev pub ZerosAreNoNumber : Type 0
ZerosAreNoNumber = (a : List ℕ) (s i n : ℕ) → drop s a ≡ replicate n 0 → u64_at (s + i) a ≡ 0

-- a number in the first or in the second of two lists of bytes
abbrev pub NumbersInFront : Type 0
NumbersInFront = (a b : List ℕ) (i : ℕ) → i + 8 ≤ length a → u64_at i (a ++ b) ≡ u64_at i a

abbrev pub NumbersAtTheBack : Type 0
NumbersAtTheBack = (a b : List ℕ) (i : ℕ) → u64_at (length a + i) (a ++ b) ≡ u64_at i b

-- another dinode in the inode's own block, and the same behind it: the inode says so, and the pointers stay
abbrev pub WrittenDinodesAreSaid : Type 0
WrittenDinodesAreSaid = (h : Holding) (p : Part) (bytes : List ℕ) (d : Dinode) → part_at h h.own ≡ Some p → dinode_read bytes ≡ Ok d
    → (dinode_in (with_cells h (rewritten_cells h h.own bytes)) ≡ d) × HasHeader 4 400 (bytes_at (with_cells h (rewritten_cells h h.own bytes)) h.own)
    × (drop dinode_length bytes ≡ drop dinode_length (bytes_at h h.own)
    → (j : ℕ) → pointer (with_cells h (rewritten_cells h h.own bytes)) dinode_length h.own j ≡ pointer h dinode_length h.own j)

-- a block with other bytes keeps its part, and every other block what it had
abbrev pub RewritesKeepTheRest : Type 0
RewritesKeepTheRest = (h : Holding) (x : ℕ) (p : Part) (bytes : List ℕ) → part_at h x ≡ Some p
    → ((y : ℕ) → part_at (with_cells h (rewritten_cells h x bytes)) y ≡ part_at h y) × (bytes_at (with_cells h (rewritten_cells h x bytes)) x ≡ bytes)
    × ((y : ℕ) → y ≢ x → bytes_at (with_cells h (rewritten_cells h x bytes)) y ≡ bytes_at h y)

-- a block with a header to which a pointer is put that was 0 fills the hole
abbrev pub PutPointersFill : Type 0
PutPointersFill = (h : Holding) (from k level first b : ℕ) (bytes : List ℕ) → IsFile h → IsPointed h 0 from k level first → first < content_count h → h.cell b ≡ None
    → b ≢ 0 → b < h.count → b < 2 ^ 64 → IsNewBlock h.size level bytes → IsFilled h (filled_cells h from k level first b bytes) from k level first b

-- and 0 put over the pointer to a block that leads nowhere frees that block
abbrev pub ClearedPointersFree : Type 0
ClearedPointersFree = (h : Holding) (from k level first b : ℕ) → IsFile h → part_at h b ≡ Some (Pointed from k level first) → b < h.count
    → ((below j : ℕ) → level ≡ suc below → j < fan h.size header_length → pointer h header_length b j ≡ 0)
    → IsFreed h (freed_cells h from k b) from k level first b

-- ---- what is there

-- where a write needs no more block, a block stands at each place on its way
abbrev pub NothingIsLacking : Type 0
NothingIsLacking = (h : Holding) (at end height level j : ℕ) → needed_below h at end height ≡ 0 → level < height → is_over h.size at end level j ≡ true → 512 ≤ h.size
    → is_there h level j ≡ true
