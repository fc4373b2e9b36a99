-- What holds while a walk goes over the leaves of a hashed directory.
use Rattle.std.specs.Prelude.{ℕ, ◌≡◌, ◌≢◌, ◌⊎◌, ◌+◌, ◌*◌, ◌^◌, min, false, List, length, flat_map, codes, Contains, Option, Some, slice_get}
use Rattle.std.specs.Option.{option_map}
use Rattle.std.specs.List.Sorted.{IsStrictlyIncreasing}
use Rattle.gfs2_layout.specs.Exchanges.{directory_count}
use Rattle.gfs2_layout.specs.Holding.{Holding}
use Rattle.gfs2_layout.specs.Inode.{content_of, depth_in, leaf_in, leaf_area, entry, first_hash}
use Rattle.gfs2_layout.specs.Records.{Record, records_in}
use Rattle.image_reader.specs.Going.{IsGoing, AreFound, most}
use Rattle.image_model.specs.Owners.{Owner, Chained}
use Rattle.image_reader.specs.Owning.{owner_of}
use Rattle.image_reader.specs.Reading.{held}
use Rattle.image_reader.specs.declared.directory.Found.{Found}
use Rattle.image_reader.specs.declared.directory.Tally.{Tally}
use Rattle.image_reader.specs.declared.directory.Visit.{Visit}
use Rattle.image_reader.specs.declared.hashed.LeafAt.{LeafAt}
use Rattle.image_reader.specs.declared.hash_table.HashTable.{HashTable}
use Rattle.image_reader.specs.declared.inode.Inode.{Inode}
use Rattle.image_reader.specs.declared.owners.Claim.{Claim}
use Rattle.image_reader.specs.declared.walk.Walk.{Walk}

-- the block is entered with this owner
pub record HasClaim (entries : List (Option Claim)) (b : ℕ) (o : Owner) : Type 0 where
  pub claim : Claim
  pub there : slice_get entries b ≡ Some (Some claim)
  pub owner : owner_of claim ≡ o

-- what was counted is these records, as far as numbers go; and where no `.` or no `..` was seen, there is none
pub record IsTallyOf (tally : Tally) (records : List Record) : Type 0 where
  pub entries : tally.entries ≡ min (length records) most
  pub directories : tally.directories ≡ min (directory_count records) most
  pub dot : tally.dot ≡ false → (r : Record) → Contains records r → r.name ≡ codes "." → ⊥
  pub dots : tally.dots ≡ false → (r : Record) → Contains records r → r.name ≡ codes ".." → ⊥

-- the block is of the inode's image, and this is what its head says
pub record IsLeafOf (inode : Inode) (c : LeafAt) : Type 0 where
  pub same : c.block.image ≡ inode.block.image
  pub read : c.leaf ≡ leaf_in (held inode) c.block.number

-- the records in a leaf
abbrev pub leaf_records : Holding → ℕ → List Record
leaf_records h x = records_in (leaf_area h x)

-- the leaves that are claimed for the directory are these, in rising order; their records are counted, and what they name was found
pub record AreLeavesOver (visit : Visit) (entries : List (Option Claim)) (tally : Tally) (found : List Found) : Type 0 where
  pub leaves : List ℕ
  pub rise : IsStrictlyIncreasing leaves
  pub only : (x : ℕ) → Contains leaves x → (hash place : ℕ) × HasClaim entries x (Chained visit.inode.block.number hash place)
  pub all : (x hash place : ℕ) → HasClaim entries x (Chained visit.inode.block.number hash place) → Contains leaves x
  pub counted : IsTallyOf tally (flat_map (leaf_records (held visit.inode)) leaves)
  pub named : (x : ℕ) → Contains leaves x → AreFound found visit (leaf_records (held visit.inode) x)

-- each leaf that is claimed has the next of its chain claimed; but for one, where one is open
abbrev pub AreChained : Holding → List (Option Claim) → Option ℕ → Type 0
AreChained h entries opened = (x hash place : ℕ) → HasClaim entries x (Chained h.own hash place) → opened ≢ Some x → (leaf_in h x).next ≢ 0
    → HasClaim entries (leaf_in h x).next (Chained h.own hash (place + 1))

abbrev pub number_of : Option LeafAt → Option ℕ
number_of c = option_map (λ (l : LeafAt). l.block.number) c

pub record AreLeavesGoing (walk : Walk) (visit : Visit) (tally : Tally) (found : List Found) (opened : Option ℕ) : Type 0 where
  pub going : IsGoing walk visit found
  pub over : AreLeavesOver visit walk.owners.entries.items tally found
  pub chained : AreChained (held visit.inode) walk.owners.entries.items opened

-- the leaf is claimed, at its place in its chain
abbrev pub IsClaimedLeaf : Walk → Visit → LeafAt → Type 0
IsClaimedLeaf walk visit c = HasClaim walk.owners.entries.items c.block.number (Chained visit.inode.block.number c.hash c.place)

-- the leaf to which pointer j of the table leads is claimed as the first of its chain
abbrev pub IsHeaded : Walk → Visit → ℕ → Type 0
IsHeaded walk visit j = HasClaim walk.owners.entries.items (entry (held visit.inode) j) (Chained visit.inode.block.number (first_hash (held visit.inode) j) 0)

-- leaves that are claimed for the directory are those that were, and this block
abbrev pub LeavesOnly : ℕ → ℕ → List (Option Claim) → List (Option Claim) → Type 0
LeavesOnly a b old new = (x hash place : ℕ) → HasClaim new x (Chained a hash place) → HasClaim old x (Chained a hash place) ⊎ (x ≡ b)

abbrev pub LeavesStay : ℕ → List (Option Claim) → List (Option Claim) → Type 0
LeavesStay a old new = (x hash place : ℕ) → HasClaim new x (Chained a hash place) → HasClaim old x (Chained a hash place)

-- the table's bytes are the directory's content, and it is as deep as that says
pub record IsTableOf (inode : Inode) (table : HashTable) : Type 0 where
  pub depth : table.depth ≡ depth_in (held inode)
  pub content : table.bytes.items ≡ content_of (held inode)
  pub size : inode.dinode.size ≡ 8 * 2 ^ table.depth
