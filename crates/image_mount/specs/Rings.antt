-- What is known of the image while the journals are looked for.
use Rattle.std.specs.Prelude.{ℕ, ◌≡◌, ◌≢◌, ◌⊎◌, ◌^◌, ◌%◌, ◌<◌, ◌≤◌, true, List, length, map, flat_map, Contains, slice_get, slice_index, Some}
use Rattle.profile_limits.specs.Limits.{least_journal_blocks, most_journal_blocks}
use Rattle.std.specs.List.{All, range_with_len}
use Rattle.dinode_tree.specs.Reading.{IsHeadedWay}
use Rattle.dinode_tree.specs.declared.locating.Located.{Located}
use Rattle.gfs2_layout.specs.Device.{superblock_place}
use Rattle.gfs2_layout.specs.Inode.{Leads, dinode_in, content_block}
use Rattle.log_layout.specs.Journal.{ring_of, head_in}
use Rattle.log_layout.specs.Journal.{Ring as JournalRing}
use Rattle.log_layout.specs.declared.log_header.LogHeader.{LogHeader}
use Rattle.image_model.specs.Claims.{every, Claims}
use Rattle.image_model.specs.Image.{Image}
use Rattle.image_model.specs.Journals.{journal_name}
use Rattle.image_model.specs.Owners.{Below}
use Rattle.image_model.specs.Stands.{Layout, IsJournalAt}
use Rattle.image_model.specs.SystemFiles.{IsSystemBlock}
use Rattle.image_mount.specs.Found.{HasNames, IsReached}
use Rattle.image_mount.specs.Looks.{IsTrueEntry, IsLookedAt}
use Rattle.image_mount.specs.Mounted.{Journal, IsJournalOf}
use Rattle.image_mount.specs.Refusals.{IsJournalSized}
use Rattle.image_mount.specs.Searching.{IsListingFile, IsWanted}
use Rattle.image_mount.specs.Groups.{IsNamedIn}
use Rattle.image_mount.specs.System.{IsSystemOf}
use Rattle.image_mount.specs.Kept.{Kept, seen_of}
use Rattle.image_mount.specs.Marked.{IsKeptWay}
use Rattle.image_mount.specs.declared.journals.Ring.{Ring}
use Rattle.image_mount.specs.declared.listing.Link.{Link}
use Rattle.image_mount.specs.declared.system.System.{System}

-- each block that is kept was wanted
abbrev pub AreWanted : Image → Kept → Type 0
AreWanted im k = (b : ℕ) (bytes : List ℕ) → (seen_of k).block_at b ≡ Some bytes → (from : ℕ) × IsWanted im b from

-- the block is a place of a journal: of one of those whose dinodes are in these blocks, or one of the first so many of that in block d
pub record IsPlace (im : Image) (done : List ℕ) (d n b : ℕ) : Type 0 where
  pub apart : b ≢ superblock_place im.size
  pub inode : ℕ
  pub by : ℕ
  pub pointer : ℕ
  pub index : ℕ
  pub claimed : Claims im by b (Below inode by pointer 0 index)
  pub plain : ¬ (IsListingFile im inode)
  pub of : Contains done inode ⊎ ((inode ≡ d) × (index < n))
  pub system : IsSystemBlock im b

-- each block that was read as a leaf was wanted
abbrev pub AreWantedLeaves : Image → Kept → Type 0
AreWantedLeaves im k = (b : ℕ) → slice_get k.leaves b ≡ Some true → (from : ℕ) × IsWanted im b from

-- each block that was read was wanted, whether it is kept or not, and each that is marked is such a place
pub record IsSearched (im : Image) (done : List ℕ) (d n : ℕ) (k : Kept) : Type 0 where
  pub wanted : AreWanted im k
  pub leaves : AreWantedLeaves im k
  pub marked : (b : ℕ) → slice_get k.places b ≡ Some true → IsPlace im done d n b

-- a journal by its record in the directory of journals; those before it are as large as they may be
pub record IsJournalIn (im : Image) (journal : Link) : Type 0 where
  pub layout : Layout
  pub names : HasNames im layout
  pub index : ℕ
  pub before : (i d : ℕ) → i < index → IsJournalAt layout i d → IsJournalSized im d
  pub at : IsJournalAt layout index journal.entry.addr
  pub named : IsNamedIn im layout.jindex journal.from (journal_name index) journal.entry

-- a journal that is looked for next, after those whose dinodes are in these blocks
pub record IsNext (im : Image) (done : List ℕ) (system : System) (journal : Link) : Type 0 where
  pub looked : IsSystemOf im system
  pub named : IsJournalIn im journal
  pub plain : ¬ (IsListingFile im journal.entry.addr)
  pub new : ¬ (Contains done journal.entry.addr)

-- the journal with its dinode in block d has so many places
pub record HasPlaces (im : Image) (d places : ℕ) : Type 0 where
  pub reached : IsReached im d
  pub count : places ≡ (ring_of (every im d)).places
  pub looked : IsLookedAt im d
  pub whole : (dinode_in (every im d)).size % im.size ≡ 0
  pub large : 512 ≤ im.size
  pub most : places ≤ most_journal_blocks
  pub least : least_journal_blocks ≤ places

-- the block of content with index `place` is where the pointer in block `from` leads
pub record IsPlaceAt (im : Image) (d place : ℕ) (located : Located) : Type 0 where
  pub reached : IsReached im located.from
  pub block : located.block ≡ content_block (every im d) place
  pub leads : (k : ℕ) × Leads (every im d) located.from k 0 place located.block
  pub headed : IsHeadedWay (every im d) place

-- the blocks at the first so many places of a journal
pub record AreBlocksOf (im : Image) (d n : ℕ) (blocks : List ℕ) : Type 0 where
  pub all : blocks ≡ map (content_block (every im d)) (range_with_len 0 n)
  pub reached : All (IsReached im) blocks
  pub system : All (IsSystemBlock im) blocks
  pub headed : (p : ℕ) → p < n → IsHeadedWay (every im d) p

-- the block is none with the dinode of the master directory, of the list of groups or of the directory of journals
pub record IsOwn (system : System) (dinode : ℕ) : Type 0 where
  pub master : dinode ≢ system.superblock.master.address
  pub rindex : dinode ≢ system.rindex
  pub jindex : dinode ≢ system.jindex

-- the blocks at all places of the journal with its dinode in block d
pub record IsRingOf (im : Image) (d : ℕ) (blocks : List ℕ) : Type 0 where
  pub places : HasPlaces im d (ring_of (every im d)).places
  pub are : AreBlocksOf im d (ring_of (every im d)).places blocks

-- each of these journals has its ring, and its record is true of its dinode
pub record AreRings (im : Image) (journals : List Link) (rings : List Ring) : Type 0 where
  pub dinodes : map (λ (ring : Ring). ring.dinode) rings ≡ map (λ (e : Link). e.entry.addr) journals
  pub each : All (λ (ring : Ring). IsRingOf im ring.dinode ring.blocks.items) rings
  pub entries : All (λ (e : Link). IsTrueEntry im e.entry) journals

-- what leads to each of these places of the journal with its dinode in block d is kept
abbrev pub AreKeptWays : Image → Kept → ℕ → List ℕ → Type 0
AreKeptWays im k d blocks = (p : ℕ) → p < length blocks → IsKeptWay k (every im d) p

-- the blocks at the places of all these journals
abbrev pub all_places : List Ring → List ℕ
all_places rings = flat_map (λ (ring : Ring). ring.blocks.items) rings

-- what is mounted of a journal, whose sequence is one of the profile
pub record IsLowJournal (im : Image) (journal : Journal) : Type 0 where
  pub is : IsJournalOf im journal.dinode journal
  pub low : journal.head.sequence < 2 ^ 63

-- each of these rings has its journal
pub record AreJournals (im : Image) (rings : List Ring) (journals : List Journal) : Type 0 where
  pub dinodes : map (λ (j : Journal). j.dinode) journals ≡ map (λ (ring : Ring). ring.dinode) rings
  pub each : All (IsLowJournal im) journals

-- what a journal has at each of its places
abbrev pub ring_at : Image → List ℕ → JournalRing
ring_at im blocks = record { size = im.size; places = length blocks; at = λ p. im.at (slice_index blocks p) }

-- the head of the journal with its dinode in block d, of which the sequence is one of the profile
pub record IsHeadOf (im : Image) (d : ℕ) (head : LogHeader) : Type 0 where
  pub head_is : head_in (ring_of (every im d)) ≡ Some head
  pub low : head.sequence < 2 ^ 63
