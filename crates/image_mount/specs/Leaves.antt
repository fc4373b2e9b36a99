-- The walk over the leaves of a hashed directory, as the code has it.
use Rattle.std.specs.Prelude.{ℕ, ◌≡◌, ◌≢◌, ◌⊎◌, ◌+◌, ◌-◌, ◌*◌, ◌^◌, ◌<◌, ◌≤◌, true, List, length, map, flat_map, Contains, Option, None, Some, IfSome, slice_get}
use Rattle.std.specs.List.Sorted.{IsStrictlyIncreasing}
use Rattle.crc_words.specs.Remainder.{crc32_of}
use Rattle.gfs2_layout.specs.Bytes.{u32_at, u64_at}
use Rattle.gfs2_layout.specs.Device.{superblock_place}
use Rattle.gfs2_layout.specs.Exchanges.{directory_count}
use Rattle.gfs2_layout.specs.Headers.{HasHeader}
use Rattle.gfs2_layout.specs.Holding.{Holding}
use Rattle.dinode_tree.specs.Reading.{IsRightDinode}
use Rattle.gfs2_layout.specs.Inode.{dinode_in, is_directory_in, is_hashed_in, content_of, depth_in, table_count, entry, first_hash, leaf_in, leaf_area, top_bits, IsLeaf}
use Rattle.gfs2_layout.specs.Records.{Record}
use Rattle.image_model.specs.Claims.{every, Claims, HasDirectory, master_of}
use Rattle.image_model.specs.Image.{Image}
use Rattle.image_reader.specs.Leaves.{HasClaim, AreChained, leaf_records}
use Rattle.image_model.specs.Owners.{Owner, Chained, is_dinode}
use Rattle.image_reader.specs.Owning.{AreClaims, IsPlaced}
use Rattle.image_model.specs.Rules.{HasRecordIn, IsHashedAt}
use Rattle.image_reader.specs.declared.hash_table.HashTable.{HashTable}
use Rattle.image_reader.specs.declared.owners.Claim.{Claim}
use Rattle.image_mount.specs.Found.{HasFormat, IsInChain, ComesBefore, first_other, name_count, IsReached}
use Rattle.image_mount.specs.Kept.{Kept}
use Rattle.image_mount.specs.Listing.{said, AreDistinct}
use Rattle.image_mount.specs.Looks.{HasHeadedContent, HasSoundLeaves, IsInRun, IsSoundArea, IsTableSized, LeadsToLeaf, IsLookedAt}
use Rattle.image_mount.specs.Marked.{HasKeptContent, IsTaken}
use Rattle.image_mount.specs.Searching.{IsListingFile}
use Rattle.image_mount.specs.Sifting.{IsBeside}
use Rattle.image_mount.specs.declared.inodes.Inode.{Inode}
use Rattle.image_mount.specs.declared.leaf.LeafAt.{LeafAt}
use Rattle.image_mount.specs.declared.leaf.LeafLink.{LeafLink}
use Rattle.image_mount.specs.declared.leaf.LeafWalk.{LeafWalk}
use Rattle.image_mount.specs.declared.leaf.Names.{Names}
use Rattle.image_mount.specs.declared.leaf.Names.TheVariants.{Files}
use Rattle.image_mount.specs.declared.listing.Named.{Named}

-- the inode is the master directory's, and keeps the rules of its dinode
pub record IsMasterIn (im : Image) (inode : Inode) : Type 0 where
  pub format : HasFormat im
  pub block : inode.block ≡ master_of im
  pub from : inode.from ≡ superblock_place im.size
  pub dinode : inode.dinode ≡ dinode_in (every im inode.block)
  pub right : IsRightDinode (every im inode.block)
  pub reached : IsReached im inode.block
  pub directory : is_directory_in (every im inode.block) ≡ true

-- the inode is that of a directory of the system, and keeps the rules of its dinode
pub record IsSystemDirectory (im : Image) (inode : Inode) : Type 0 where
  pub format : HasFormat im
  pub owner : Owner
  pub claimed : Claims im inode.from inode.block owner
  pub is_inode : is_dinode owner ≡ true
  pub read : IsListingFile im inode.block
  pub from_reached : IsReached im inode.from
  pub dinode : inode.dinode ≡ dinode_in (every im inode.block)
  pub right : IsRightDinode (every im inode.block)
  pub reached : IsReached im inode.block
  pub directory : is_directory_in (every im inode.block) ≡ true

-- the directory is a hashed one, and this is its table
pub record IsTableOf (im : Image) (inode : Inode) (table : HashTable) : Type 0 where
  pub file : IsSystemDirectory im inode
  pub hashed : is_hashed_in (every im inode.block) ≡ true
  pub depth : table.depth ≡ depth_in (every im inode.block)
  pub content : table.bytes.items ≡ content_of (every im inode.block)
  pub size : (dinode_in (every im inode.block)).size ≡ 8 * 2 ^ table.depth
  pub sized : IsTableSized im inode.block
  pub headed : HasHeadedContent im inode.block

-- ---- a leaf

-- the head of a leaf of the directory in block a: its header, the format of its records, and a depth that is at most the table's
pub record IsLeafHead (im : Image) (a x : ℕ) : Type 0 where
  pub header : HasHeader 6 600 (im.at x)
  pub records_format : u32_at 28 (im.at x) ≡ 1200
  pub depth : (leaf_in (every im a) x).depth ≤ depth_in (every im a)

-- the directory in block a has this leaf, at its place in the chain of a pointer, and in that of the first pointer for its hash; the pointers from that one to `behind` lead to the chain
pub record IsLeafIn (im : Image) (a : ℕ) (at : LeafAt) : Type 0 where
  pub reached : IsReached im at.block
  pub head : at.head ≡ leaf_in (every im a) at.block
  pub well : IsLeafHead im a at.block
  pub claimed : (by : ℕ) × Claims im by at.block (Chained a at.hash at.place)
  pub placed : IsPlaced im at.block (Chained a at.hash at.place)
  pub chain : IsInChain (every im a) at.pointer at.place at.block
  pub hash : at.hash ≡ first_hash (every im a) at.pointer
  pub some : at.pointer < at.behind
  pub within : at.behind ≤ table_count (every im a)
  pub run : (j : ℕ) → at.pointer ≤ j → j < at.behind → (entry (every im a) j ≡ entry (every im a) at.pointer) × (first_hash (every im a) j ≡ at.hash) × IsInRun (every im a) at.pointer j
  pub pointed : LeadsToLeaf (every im a) at.pointer

-- the record has the hash of the leaf's chain, as far as the leaf is deep
abbrev pub HasHashOf : LeafAt → Named → Type 0
HasHashOf at n = top_bits at.head.depth (crc32_of n.name.now) ≡ top_bits at.head.depth at.hash

-- the block is a leaf of the chain for the hashes from this one on, whose records are right
pub record IsSoundLeaf (im : Image) (a hash x : ℕ) : Type 0 where
  pub area : IsSoundArea (leaf_area (every im a) x)
  pub leaf : IsLeaf (every im a) hash x

-- ---- the walk

-- what a walk came to in a chain of the table, where this leaf is open, whose next isn't looked for yet, and the pointer is the next
abbrev pub IsPassed : Option LeafAt → ℕ → ℕ → ℕ → Type 0
IsPassed None index j place = j < index
IsPassed (Some at) index j place = ComesBefore j place at.pointer (at.place + 1)

abbrev pub block_of : Option LeafAt → Option ℕ
block_of None = None
block_of (Some at) = Some at.block

-- each record of the leaf is among these, with its block
abbrev pub IsListed : Image → ℕ → ℕ → List Named → Type 0
IsListed im a x records = (r : Record) → Contains (leaf_records (every im a) x) r → (k : ℕ) × ((n : Named) × (slice_get records k ≡ Some n) × (said n ≡ r) × (n.block ≡ x))

-- The leaves that are claimed are these, in rising order. They have as many names, with those that have others than were looked for;
-- and where there are none of these, as many records, and directories among them.
pub record AreLeavesOf (im : Image) (a : ℕ) (entries : List (Option Claim)) (records : List Record) (others : ℕ) : Type 0 where
  pub leaves : List ℕ
  pub rise : IsStrictlyIncreasing leaves
  pub only : (x : ℕ) → Contains leaves x → (hash place : ℕ) × HasClaim entries x (Chained a hash place)
  pub all : (x hash place : ℕ) → HasClaim entries x (Chained a hash place) → Contains leaves x
  pub names : name_count (flat_map (leaf_records (every im a)) leaves) ≡ name_count records + others
  pub count : others ≡ 0 → length (flat_map (leaf_records (every im a)) leaves) ≡ length records
  pub directories : others ≡ 0 → directory_count (flat_map (leaf_records (every im a)) leaves) ≡ directory_count records

-- a record that was found stands in a leaf that is claimed
pub record IsFoundIn (im : Image) (a : ℕ) (entries : List (Option Claim)) (n : Named) : Type 0 where
  pub stands : HasRecordIn im a n.block (said n)
  pub reached : IsReached im n.block
  pub leaf : (hash place : ℕ) × HasClaim entries n.block (Chained a hash place)

-- a leaf that is claimed has a record with another name than are looked for
pub record HasBeside (im : Image) (a : ℕ) (names : Names) (entries : List (Option Claim)) : Type 0 where
  pub block : ℕ
  pub hash : ℕ
  pub place : ℕ
  pub claimed : HasClaim entries block (Chained a hash place)
  pub row : Record
  pub there : Contains (leaf_records (every im a) block) row
  pub beside : IsBeside names row.name

-- the leaf is open: it is claimed, and its next isn't looked for yet
pub record IsOpen (im : Image) (a : ℕ) (walk : LeafWalk) (at : LeafAt) : Type 0 where
  pub is : IsLeafIn im a at
  pub claimed : HasClaim walk.owners.entries.items at.block (Chained a at.hash at.place)

-- each leaf that is claimed has its next one as deep as itself; but for one, where one is open
abbrev pub AreDeep : Holding → List (Option Claim) → Option ℕ → Type 0
AreDeep h entries opened = (x hash place : ℕ) → HasClaim entries x (Chained h.own hash place) → opened ≢ Some x → (leaf_in h x).next ≢ 0
    → (leaf_in h (leaf_in h x).next).depth ≡ (leaf_in h x).depth

-- how far a walk over the leaves of the directory in block a has come
pub record IsWalked (im : Image) (a : ℕ) (walk : LeafWalk) : Type 0 where
  pub claims : AreClaims im walk.owners.entries.items
  pub within : walk.index ≤ table_count (every im a)
  pub headed : (j : ℕ) → j < walk.index → HasClaim walk.owners.entries.items (entry (every im a) j) (Chained a (first_hash (every im a) j) 0)
  pub chained : AreChained (every im a) walk.owners.entries.items (block_of walk.tail)
  pub opened : IfSome walk.tail (IsOpen im a walk)
  pub passed : (j place y : ℕ) → IsPassed walk.tail walk.index j place → IsInChain (every im a) j place y → HasClaim walk.owners.entries.items y (Chained a (first_hash (every im a) j) place)
  pub listed : walk.others ≡ 0 → (x hash place : ℕ) → HasClaim walk.owners.entries.items x (Chained a hash place) → IsListed im a x walk.records.items
  pub found : (k : ℕ) (n : Named) → slice_get walk.records.items k ≡ Some n → IsFoundIn im a walk.owners.entries.items n
  pub sound : (x hash place : ℕ) → HasClaim walk.owners.entries.items x (Chained a hash place) → IsSoundLeaf im a hash x
  pub pointed : (j : ℕ) → j < walk.index → LeadsToLeaf (every im a) j
  pub deep : AreDeep (every im a) walk.owners.entries.items (block_of walk.tail)
  pub distinct : AreDistinct (map said walk.records.items)
  pub leaves : AreLeavesOf im a walk.owners.entries.items (map said walk.records.items) walk.others
  pub beside : 0 < walk.others → HasBeside im a walk.names walk.owners.entries.items
  -- in the master directory none is let past
  pub plain : walk.names ≡ Files → (x hash place : ℕ) → HasClaim walk.owners.entries.items x (Chained a hash place) → first_other (leaf_records (every im a) x) ≡ None
  pub files : walk.names ≡ Files → walk.others ≡ 0

-- no leaf is open that has a next
abbrev pub IsClosed : Option LeafAt → Type 0
IsClosed None = Unit {0}
IsClosed (Some at) = at.head.next ≡ 0

-- the leaf behind that which is open
pub record IsBehind (tail at : LeafAt) : Type 0 where
  pub more : tail.head.next ≢ 0
  pub block : at.block ≡ tail.head.next
  pub hash : at.hash ≡ tail.hash
  pub place : at.place ≡ tail.place + 1
  pub pointer : at.pointer ≡ tail.pointer
  pub behind : at.behind ≡ tail.behind
  pub depth : at.head.depth ≡ tail.head.depth

-- the leaf to which a walk comes next: behind that which is open, or the first of the next pointer's chain
abbrev pub ComesNext : LeafWalk → LeafAt → Type 0
ComesNext walk at =
    ((tail : LeafAt) × (walk.tail ≡ Some tail) × IsBehind tail at) ⊎ (IsClosed walk.tail × (at.pointer ≡ walk.index) × (at.place ≡ 0))

-- the number of a walk's next leaf, behind this one of its chain or the first of the next pointer's
abbrev pub IsLinkBy : LeafWalk → HashTable → ℕ → Option LeafAt → Type 0
IsLinkBy walk table number (Some tail) = (walk.tail ≡ Some tail) × (tail.head.next ≢ 0) × (number ≡ tail.head.next)
IsLinkBy walk table number None = IsClosed walk.tail × (walk.index < 2 ^ table.depth) × (number ≡ u64_at (8 * walk.index) table.bytes.items) × (number ≢ 0)

abbrev pub IsLinkOf : LeafWalk → HashTable → LeafLink → Type 0
IsLinkOf walk table link = IsLinkBy walk table link.number link.tail

-- the pointer leads to a block of the device, which has these bytes
pub record IsPointed (im : Image) (table : HashTable) (i : ℕ) (bytes : List ℕ) : Type 0 where
  pub some : u64_at (8 * i) table.bytes.items ≢ 0
  pub reached : IsReached im (u64_at (8 * i) table.bytes.items)
  pub is : im.at (u64_at (8 * i) table.bytes.items) ≡ bytes

-- the leaf is one of the master directory, and each record that comes before its own is a system file's, or leads nowhere on
pub record IsFirstTold (im : Image) (a : ℕ) (at : LeafAt) : Type 0 where
  pub master : a ≡ master_of im
  pub looked : IsLookedAt im a
  pub hashed : IsHashedAt im a
  pub before : (j earlier y : ℕ) → ComesBefore j earlier at.pointer at.place → IsInChain (every im a) j earlier y → first_other (leaf_records (every im a) y) ≡ None

-- the leaf is one of the directory; and where that is the master directory, none before it has a record that isn't a system file's
pub record IsTold (im : Image) (names : Names) (a : ℕ) (at : LeafAt) : Type 0 where
  pub format : HasFormat im
  pub leaf : IsLeafIn im a at
  pub first : names ≡ Files → IsFirstTold im a at

-- the leaf comes next in a walk over its directory, which is the master directory where names of system files are looked for
pub record IsNextLeaf (im : Image) (walk : LeafWalk) (at : LeafAt) : Type 0 where
  pub format : HasFormat im
  pub looked : IsLookedAt im walk.directory
  pub hashed : IsHashedAt im walk.directory
  pub leaf : IsLeafIn im walk.directory at
  pub next : ComesNext walk at
  pub walked : IsWalked im walk.directory walk
  pub master : walk.names ≡ Files → walk.directory ≡ master_of im

-- in the master directory names of system files are looked for, and nowhere else
abbrev pub LooksFor : Image → ℕ → Names → Type 0
LooksFor im a names = names ≡ Files → a ≡ master_of im

-- each leaf of the directory was come to
abbrev pub AreAllLeaves : Image → ℕ → LeafWalk → Type 0
AreAllLeaves im a walk = (by x hash place : ℕ) → Claims im by x (Chained a hash place) → HasClaim walk.owners.entries.items x (Chained a hash place)

-- every leaf of the directory, which is a hashed one, was come to
pub record IsGoneOver (im : Image) (a : ℕ) (walk : LeafWalk) : Type 0 where
  pub hashed : IsHashedAt im a
  pub directory : HasDirectory im a
  pub walked : IsWalked im a walk
  pub all : AreAllLeaves im a walk
  pub sized : IsTableSized im a
  pub leaves : HasSoundLeaves im a

-- the walk is at its end
abbrev pub HasEnded : LeafWalk → ℕ → Type 0
HasEnded walk count = IsClosed walk.tail × (walk.index ≡ count)

abbrev pub one_if_open : Option LeafAt → ℕ
one_if_open None = 0
one_if_open (Some at) = 1

-- how many steps a walk has at most before it, over a table of so many pointers
abbrev pub steps_left : LeafWalk → ℕ → ℕ
steps_left walk count = 2 * walk.owners.free + (count - walk.index) + one_if_open walk.tail

-- each leaf that is claimed was read
abbrev pub AreLeavesRead : LeafWalk → ℕ → Kept → Type 0
AreLeavesRead walk a k = (x hash place : ℕ) → HasClaim walk.owners.entries.items x (Chained a hash place) → IsTaken k x

-- the blocks of a hashed directory's table are kept, and each of its leaves was read
pub record HasReadDirectory (im : Image) (k : Kept) (a : ℕ) : Type 0 where
  pub content : HasKeptContent k (every im a)
  pub leaves : (by x hash place : ℕ) → Claims im by x (Chained a hash place) → IsTaken k x
