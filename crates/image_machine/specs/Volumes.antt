-- What no run changes of an image, and which contents of its blocks stand for a tree: images as a file system of the cluster's machine.
use Rattle.std.specs.Prelude.{ℕ, zero, suc, ◌≡◌, ◌<◌, nat_lt, if◌then◌else◌, true, List, [], ◌∷◌, Option, Some}
use Rattle.file_tree.specs.Tree.{Tree}
use Rattle.gfs2_layout.specs.Device.{superblock_place}
use Rattle.gfs2_layout.specs.Holding.{Holding}
use Rattle.gfs2_layout.specs.Inode.{content_block}
use Rattle.log_layout.specs.Journal.{Ring, ring_of}
use Rattle.log_layout.specs.Live.{IsReadable}
use Rattle.glock_names.specs.declared.LockName.{LockName}
use Rattle.image_model.specs.Claims.{every}
use Rattle.image_model.specs.Image.{Image}
use Rattle.image_model.specs.Owners.{Owners, holding}
use Rattle.image_model.specs.Stands.{Layout, IsJournalAt}
use Rattle.image_changes.specs.Changes.{Place, place_of}
use Rattle.image_changes.specs.Instances.{StandsBy}
use Rattle.tree_histories.specs.Trees.{Images}

-- ---- what no run changes

-- How many bytes a block has and how many blocks there are, the bytes of the superblock, what mounting finds, and of each journal, by the block of its dinode, how many
-- places its ring has and in which block each place is.
pub record Volume : Type 0 where
  pub size : ℕ
  pub count : ℕ
  pub superblock : List ℕ
  pub layout : Layout
  pub places : ℕ → ℕ
  pub place : ℕ → ℕ → ℕ

-- the volume that lies in an image with this layout
abbrev pub volume_of : Image → Layout → Volume
volume_of im l = record {
  size = im.size;
  count = im.count;
  superblock = im.at (superblock_place im.size);
  layout = l;
  places = λ d. (ring_of (every im d)).places;
  place = λ d p. content_block (every im d) p;
}

-- the block is a place of a journal's ring
pub record IsPlace (v : Volume) (b : ℕ) : Type 0 where
  pub journal : ℕ
  pub dinode : ℕ
  pub place : ℕ
  pub at : IsJournalAt v.layout journal dinode
  pub low : place < v.places dinode
  pub is : v.place dinode place ≡ b

-- ---- contents

-- Contents are bytes, however many: of a block's bytes they are the first, and zeros come behind them.
unfoldable pub fitted : ℕ → List ℕ → List ℕ
fitted zero bytes = []
fitted (suc n) [] = 0 ∷ fitted n []
fitted (suc n) (byte ∷ bytes) = byte ∷ fitted n bytes

-- The image with these contents. All numbers are blocks; those past the device's end belong to nobody, and what they have is never looked at.
abbrev pub image_with : Volume → (ℕ → List ℕ) → Image
image_with v contents = record { size = v.size; count = v.count; at = λ b. if nat_lt b v.count then fitted v.size (contents b) else contents b }

-- a journal's ring, in the blocks where its places are
abbrev pub ring_in : Volume → (ℕ → List ℕ) → ℕ → Ring
ring_in v contents d = record { size = v.size; places = v.places d; at = λ p. (image_with v contents).at (v.place d p) }

-- each journal can be read: it has an accepted head, and no chunk from its tail to its head is bad
abbrev pub RingsCanBeRead : Volume → (ℕ → List ℕ) → Type 0
RingsCanBeRead v contents = (j d : ℕ) → IsJournalAt v.layout j d → IsReadable (ring_in v contents d)

-- the inode in block d, a journal, has its places where they are
pub record HasItsPlaces (v : Volume) (d : ℕ) (h : Holding) : Type 0 where
  pub as_many : (ring_of h).places ≡ v.places d
  pub there : (p : ℕ) → p < v.places d → content_block h p ≡ v.place d p

-- ---- what the contents stand for

-- The contents stand for the tree, and each block belongs where it is told: the image is laid out right by some owners and by what mounting found, its root reads as the
-- tree, and its superblock and the places of its journals are those of the volume.
pub record StandsAt (v : Volume) (contents : ℕ → List ℕ) (places : ℕ → Place) (t : Tree) : Type 0 where
  pub owners : Owners
  pub stands : StandsBy (image_with v contents) owners v.layout t
  pub told : (b : ℕ) → places b ≡ place_of v.layout owners b
  pub superblock : (image_with v contents).at (superblock_place v.size) ≡ v.superblock
  pub rings : (j d : ℕ) → IsJournalAt v.layout j d → HasItsPlaces v d (holding (image_with v contents) owners d)

-- ---- the file system

-- the lock of the inode whose dinode is in this block
abbrev pub inode_at : ℕ → Option LockName
inode_at n = Some (record { kind = 2; number = n })

-- A block belongs under a lock, or under none, which nobody holds: the superblock, blocks of nobody, and what journals have.
abbrev pub images_of : Volume → Images
images_of v = record {
  Content = List ℕ;
  Place = Place;
  Lock = Option LockName;
  lock_of = λ p. p.lock;
  IsFree = λ p. p.free ≡ true;
  StandsFor = StandsAt v;
  inode = inode_at;
  IsRing = IsPlace v;
  RingsAreGood = RingsCanBeRead v;
}
