-- Laws of images.
use Rattle.std.specs.Prelude.{ℕ, ◌≡◌, ◌⊎◌, ◌<◌, ◌↔◌, true, List, Some}
use Rattle.std.specs.List.Sorted.{IsPermutation}
use Rattle.file_tree.specs.Tree.{Tree}
use Rattle.image_model.specs.Image.{Image}
use Rattle.image_model.specs.Claims.{every, Claims}
use Rattle.image_model.specs.Journals.{IsJournal}
use Rattle.image_model.specs.Replays.{HasItsJournals, IsLiveTwice, IsReplayable, Replayed, StandsReplayed}
use Rattle.image_model.specs.Rules.{Breaks, IsReached}
use Rattle.gfs2_layout.specs.declared.dinode.Dinode.{Dinode}
use Rattle.log_layout.specs.Journal.{IsClean, ring_of}
use Rattle.log_layout.specs.Laws.{SaysTheSame}
use Rattle.image_model.specs.Owners.{Owner, Owners, Below, Chained, is_dinode, IsUsed, holding}
use Rattle.gfs2_layout.specs.Inode.{Fits, Head, content_block}
use Rattle.gfs2_layout.specs.Holding.{Part, Itself, Pointed, InChain, bytes_at, part_at}
use Rattle.gfs2_layout.specs.Records.{Record, child_named}
use Rattle.image_model.specs.Stands.{Layout, IsJournalAt, IsLaid, IsDirectory, Stands}
use Rattle.image_model.specs.SystemFiles.{HasSameSystem, IsSystemBlock, IsSystemFile}

-- an image stands for at most one tree
abbrev pub OneTree : Type 0
OneTree = (im : Image) (t u : Tree) → Stands im t → Stands im u → t ≡ u

-- each block of an image has one owner, whatever table and layout are found
abbrev pub OneTable : Type 0
OneTable = (im : Image) (owners other : Owners) (l m : Layout) → IsLaid im owners l → IsLaid im other m → (b : ℕ) → owners b ≡ other b

-- an image that stands for a tree breaks no rule
abbrev pub NothingBreaks : Type 0
NothingBreaks = (im : Image) (t : Tree) → Stands im t → (rule b : ℕ) → Breaks im rule b → ⊥

-- a look over the image comes to each block that breaks a rule
abbrev pub BrokenAreReached : Type 0
BrokenAreReached = (im : Image) (rule b : ℕ) → Breaks im rule b → IsReached im b

-- the records of a directory in another order are a directory's too, and each name leads where it led
abbrev pub AnyOrder : Type 0
AnyOrder = (rs ss : List Record) → IsPermutation rs ss → (heads : ℕ → Head) (owners : Owners) (a : ℕ) (d : Dinode) → IsDirectory heads owners a rs d
    → IsDirectory heads owners a ss d × ((name : List ℕ) → child_named rs name ≡ child_named ss name)

-- what an inode holds of a block is told by the block's owner
pub record OwnersAreHeld (im : Image) (owners : Owners) : Type 0 where
  pub own : (a : ℕ) → is_dinode (owners a) ≡ true → part_at (holding im owners a) a ≡ Some Itself
  pub itself : (a b : ℕ) → part_at (holding im owners a) b ≡ Some Itself → b ≡ a
  pub pointed : (a b above k level first : ℕ) → (part_at (holding im owners a) b ≡ Some (Pointed above k level first)) ↔ (owners b ≡ Below a above k level first)
  pub chained : (a b hash place : ℕ) → (part_at (holding im owners a) b ≡ Some (InChain hash place)) ↔ (owners b ≡ Chained a hash place)
  pub bytes : (a b : ℕ) (part : Part) → part_at (holding im owners a) b ≡ Some part → bytes_at (holding im owners a) b ≡ im.at b

abbrev pub HoldingsAreOwned : Type 0
HoldingsAreOwned = (im : Image) (owners : Owners) → OwnersAreHeld im owners

-- in an image that stands a block is claimed by its owner, where one uses it, and by no other
abbrev pub OwnersClaim : Type 0
OwnersClaim = (im : Image) (owners : Owners) (l : Layout) → IsLaid im owners l → (b : ℕ) (o : Owner)
    → ((by : ℕ) × Claims im by b o) ↔ ((owners b ≡ o) × IsUsed o)

-- a journal that is read block after block is that which is read from its own blocks: what it says, the count of its places, and each place
pub record ReadsAlike (im : Image) (owners : Owners) (a : ℕ) : Type 0 where
  pub says : SaysTheSame (ring_of (holding im owners a)) (ring_of (every im a))
  pub places : (ring_of (holding im owners a)).places ≡ (ring_of (every im a)).places
  pub blocks : (p : ℕ) → p < (ring_of (holding im owners a)).places → content_block (holding im owners a) p ≡ content_block (every im a) p

-- so it is with each journal of an image that stands
abbrev pub JournalsReadAlike : Type 0
JournalsReadAlike = (im : Image) (owners : Owners) (l : Layout) → IsLaid im owners l → (a : ℕ) → is_dinode (owners a) ≡ true → IsJournal (holding im owners a) → ReadsAlike im owners a

-- there is at most one replayed image, whatever layout is found
abbrev pub OneReplay : Type 0
OneReplay = (im a b : Image) (l m : Layout) → Replayed im l a → Replayed im m b → a ≡ b

-- and it is that by any layout that has the image's journals
abbrev pub ReplayedByAny : Type 0
ReplayedByAny = (im replayed : Image) (l m : Layout) → HasItsJournals im l → Replayed im m replayed → Replayed im l replayed

-- and there is one where the image can be replayed
abbrev pub ReplayedIsThere : Type 0
ReplayedIsThere = (im : Image) (l : Layout) → IsReplayable im l → (replayed : Image) × Replayed im l replayed

-- an image whose journals are clean is its own replayed image
abbrev pub CleanImagesStay : Type 0
CleanImagesStay = (im : Image) (l : Layout) → HasItsJournals im l → ((j d : ℕ) → IsJournalAt l j d → IsClean (ring_of (every im d))) → Replayed im l im

-- an image that stands as it lies, with all its journals clean, stands for that tree
abbrev pub CleanImagesStand : Type 0
CleanImagesStand = (im : Image) (t : Tree) (s : Stands im t) → ((j d : ℕ) → IsJournalAt s.layout j d → IsClean (ring_of (every im d))) → StandsReplayed im t

-- and the tree for which an image stands, its journals replayed, is one
abbrev pub OneReplayedTree : Type 0
OneReplayedTree = (im : Image) (t u : Tree) → StandsReplayed im t → StandsReplayed im u → t ≡ u

-- where a block is live in two journals there is no replayed image
abbrev pub TwiceLiveIsNotReplayed : Type 0
TwiceLiveIsNotReplayed = (im replayed : Image) (l : Layout) (block : ℕ) → IsLiveTwice im l block → Replayed im l replayed → ⊥

-- a replay leaves the blocks of the system files as they are
abbrev pub ReplaysKeepSystem : Type 0
ReplaysKeepSystem = (im replayed : Image) (l : Layout) → Replayed im l replayed → HasSameSystem im replayed

-- an image that has the blocks of another's system files has the same system files, where these fit their dinodes in one of the two
abbrev pub SystemIsTheSame : Type 0
SystemIsTheSame = (im other : Image) → HasSameSystem im other → ((d : ℕ) → IsSystemFile im d → IsSystemFile other d → Fits (every im d) ⊎ Fits (every other d))
    → (b : ℕ) → IsSystemBlock im b ↔ IsSystemBlock other b
