-- The image that a replay of every journal leaves.
use Rattle.std.specs.Prelude.{ℕ, ◌≡◌, ◌≢◌, ◌⊎◌, ◌<◌, ◌≤◌, List, length, Option, None, Some}
use Rattle.file_tree.specs.Tree.{Tree}
use Rattle.gfs2_layout.specs.declared.rindex.Rindex.{Rindex}
use Rattle.gfs2_layout.specs.Inode.{content_block}
use Rattle.log_layout.specs.Journal.{ring_of}
use Rattle.log_layout.specs.Live.{IsReadable, live_in}
use Rattle.image_model.specs.Claims.{every, HasGroup, HasJournal}
use Rattle.image_model.specs.Groups.{IsHeaderOf, IsDataOf}
use Rattle.image_model.specs.Image.{Image}
use Rattle.image_model.specs.Stands.{Layout, IsJournalAt, Stands}
use Rattle.image_model.specs.SystemFiles.{IsSystemBlock}

-- what is live of a block in the journal with its dinode in block d
abbrev pub live_at : Image → ℕ → ℕ → Option (List ℕ)
live_at im d block = live_in (ring_of (every im d)) block

-- the block is live in journal i and in journal j of this layout
pub record IsLiveInBoth (im : Image) (l : Layout) (i j block : ℕ) : Type 0 where
  pub first : ℕ
  pub second : ℕ
  pub first_at : IsJournalAt l i first
  pub second_at : IsJournalAt l j second
  pub one : List ℕ
  pub other : List ℕ
  pub one_live : live_at im first block ≡ Some one
  pub other_live : live_at im second block ≡ Some other

-- the layout's journals are those of the image as it lies: whatever the names from `journal0` on lead to, as far as there is no gap
pub record HasItsJournals (im : Image) (l : Layout) : Type 0 where
  pub there : (j d : ℕ) → IsJournalAt l j d → HasJournal im j d
  pub all : (j d : ℕ) → HasJournal im j d → j ≤ length l.journals → IsJournalAt l j d

-- a block that a replay may change: a group's header, a block of its bitmap or a data block, and neither a journal's place nor a block by which the journals and groups are found
pub record MayChange (im : Image) (l : Layout) (block : ℕ) : Type 0 where
  pub there : block < im.count
  pub group : (g : Rindex) × HasGroup im g × (IsHeaderOf g block ⊎ IsDataOf g block)
  pub no_place : (j d p : ℕ) → IsJournalAt l j d → p < (ring_of (every im d)).places → content_block (every im d) p ≢ block
  pub apart : ¬ (IsSystemBlock im block)

-- The image can be replayed: each of its journals can be read, no block is live in two of them, and what is live may be changed.
pub record IsReplayable (im : Image) (l : Layout) : Type 0 where
  pub journals : HasItsJournals im l
  pub readable : (j d : ℕ) → IsJournalAt l j d → IsReadable (ring_of (every im d))
  pub once : (i j block : ℕ) → IsLiveInBoth im l i j block → i ≡ j
  pub inside : (j d block : ℕ) (bytes : List ℕ) → IsJournalAt l j d → live_at im d block ≡ Some bytes → MayChange im l block

-- The image with every journal's live blocks put in their places, where it can be replayed.
pub record Replayed (im : Image) (l : Layout) (replayed : Image) : Type 0 where
  pub replayable : IsReplayable im l
  pub size : replayed.size ≡ im.size
  pub count : replayed.count ≡ im.count
  pub live : (j d block : ℕ) (bytes : List ℕ) → IsJournalAt l j d → live_at im d block ≡ Some bytes → replayed.at block ≡ bytes
  pub others : (block : ℕ) → ((j d : ℕ) → IsJournalAt l j d → live_at im d block ≡ None) → replayed.at block ≡ im.at block

-- The image, its journals replayed, stands for the tree.
pub record StandsReplayed (im : Image) (t : Tree) : Type 0 where
  pub layout : Layout
  pub replayed : Image
  pub is : Replayed im layout replayed
  pub stands : Stands replayed t

-- Rule 20: a block is live in two journals. It speaks of the journals of an image as it lies, and where it is broken there is no replayed image.
pub record IsLiveTwice (im : Image) (l : Layout) (block : ℕ) : Type 0 where
  pub one : ℕ
  pub other : ℕ
  pub apart : one ≢ other
  pub live : IsLiveInBoth im l one other block
