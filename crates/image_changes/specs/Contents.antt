-- Contents of blocks that don't matter: of free blocks, of a file's blocks of content to the rules of its inode, and of the places of
-- journals.
use Rattle.std.specs.Prelude.{ℕ, ◌≡◌, ◌≢◌, ◌⊎◌, ◌<◌, true, length, Some}
use Rattle.file_tree.specs.Tree.{Tree}
use Rattle.gfs2_layout.specs.Holding.{Pointed, Holding, part_at, bytes_at, Itself}
use Rattle.gfs2_layout.specs.Inode.{dinode_in, content_block, IsInode}
use Rattle.log_layout.specs.Journal.{ring_of}
use Rattle.log_layout.specs.Live.{IsReadable}
use Rattle.gfs2_layout.specs.Structures.{is_regular}
use Rattle.image_model.specs.Image.{Image}
use Rattle.image_model.specs.Owners.{Owners, Free, holding}
use Rattle.image_model.specs.Stands.{Layout, IsJournalAt}
use Rattle.image_changes.specs.Changes.{IsRingPlace}
use Rattle.image_changes.specs.Instances.{StandsBy}

-- ---- within an inode

-- the inode has the same blocks, and the same bytes in each but those of its blocks of content
pub record SameButContent (h h' : Holding) : Type 0 where
  pub size : h'.size ≡ h.size
  pub count : h'.count ≡ h.count
  pub own : h'.own ≡ h.own
  pub parts : (b : ℕ) → part_at h' b ≡ part_at h b
  pub lengths : (b : ℕ) → length (bytes_at h' b) ≡ length (bytes_at h b)
  pub bytes : (b : ℕ) → ((above k first : ℕ) → part_at h b ≢ Some (Pointed above k 0 first)) → bytes_at h' b ≡ bytes_at h b

-- the rules of a regular file don't look at what its blocks of content have
abbrev pub ContentDoesNotMatter : Type 0
ContentDoesNotMatter = (h h' : Holding) → is_regular (dinode_in h) ≡ true → part_at h h.own ≡ Some Itself
    → SameButContent h h' → IsInode h → IsInode h'

-- ---- within an image

-- as many blocks of that size, each whole
pub record IsAsLarge (im im' : Image) : Type 0 where
  pub size : im'.size ≡ im.size
  pub count : im'.count ≡ im.count
  pub whole : (b : ℕ) → b < im.count → length (im'.at b) ≡ im.size

-- the contents of free blocks don't matter
abbrev pub FreeBlocksDoNotMatter : Type 0
FreeBlocksDoNotMatter = (im im' : Image) (o : Owners) (l : Layout) (t : Tree) → IsAsLarge im im' → ((b : ℕ) → (im'.at b ≡ im.at b) ⊎ ((g : ℕ) × (o b ≡ Free g)))
    → StandsBy im o l t → StandsBy im' o l t × ((a : ℕ) → holding im' o a ≡ holding im o a)

-- each inode but the journals has what it had, and each place of a journal's ring is the block that it was
pub record OnlyPlacesChange (im im' : Image) (o : Owners) (l : Layout) : Type 0 where
  pub others : (a : ℕ) → ((j : ℕ) → IsJournalAt l j a → ⊥) → holding im' o a ≡ holding im o a
  pub places : (j d p : ℕ) → IsJournalAt l j d → p < (ring_of (holding im o d)).places → content_block (holding im' o d) p ≡ content_block (holding im o d) p
  pub as_many : (j d : ℕ) → IsJournalAt l j d → (ring_of (holding im' o d)).places ≡ (ring_of (holding im o d)).places

-- the contents of the places of journals don't matter, where each journal can be read
abbrev pub PlacesDoNotMatter : Type 0
PlacesDoNotMatter = (im im' : Image) (o : Owners) (l : Layout) (t : Tree) → IsAsLarge im im' → ((b : ℕ) → (im'.at b ≡ im.at b) ⊎ IsRingPlace o l b)
    → ((j d : ℕ) → IsJournalAt l j d → IsReadable (ring_of (holding im' o d))) → StandsBy im o l t
    → StandsBy im' o l t × OnlyPlacesChange im im' o l
