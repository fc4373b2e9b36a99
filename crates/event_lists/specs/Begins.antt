-- The start of a cluster over a disk whose journals may be dirty: what they have live is the past's.
use Rattle.std.specs.Prelude.{ℕ, ◌≡◌, ◌==◌, ◌&&◌, Bool, false, if◌then◌else◌, Option, None, Some, []}
use Rattle.cluster_laws.specs.Files.{Files, Image, Un, Ex}
use Rattle.cluster_laws.specs.Book.{Book}
use Rattle.cluster_laws.specs.Mirror.{Disk}
use Rattle.lock_laws.specs.Lock.{starting}
use Rattle.cluster_events.specs.Cluster.{Cluster, Starts}

-- what a start is made of
pub record Start (F : Files) : Type 0 where
  -- the image, its journals replayed, with the place of each block, and the tree that it stands for
  pub image : Image F
  pub tree : F.Tree
  -- the disk as it is, and what its journals have live, all together
  pub blocks : ℕ → F.Content
  pub live : ℕ → Option F.Content
  -- which nodes join at the start, which slots wait since a journal is dirty, and a number for the past, which waits where one does
  pub runs : ℕ → Bool
  pub waits : ℕ → Bool
  pub past : ℕ
  -- no call is told yet: any will do
  pub told : F.Said

pub record IsStart (F : Files) (s : Start F) : Type 0 where
  pub stands : F.Stands (s.image) (s.tree)
  pub replayed : (b : ℕ) (v : F.Content) → s.live b ≡ Some v → (s.image b).content ≡ v
  pub rest : (b : ℕ) → s.live b ≡ None → (s.image b).content ≡ s.blocks b
  pub gone : s.runs (s.past) ≡ false
  pub clean : s.waits (s.past) ≡ false → (b : ℕ) → s.live b ≡ None

abbrev pub owner_of : {A : Type 0} → ℕ → Option A → Option ℕ
owner_of past None = None
owner_of past (Some v) = Some past

abbrev pub starting_book : (F : Files) → Start F → Book F
starting_book F s = record {
  owner = λ b. owner_of (s.past) (s.live b);
  unowned = s.image;
  says = λ i k b. s.image b;
  low = λ i. 0;
  published = λ i. 0;
  answered = λ i. 0;
  state = λ i l. if (i == s.past) && s.waits i then Ex else Un;
  cache = λ i b. None;
  told = λ i n. s.told;
  view = λ i n b. None;
  change = λ i n b. None;
  start = s.tree;
  kept = [];
}

abbrev pub starting_disk : (F : Files) → Start F → Disk F
starting_disk F s = record {
  blocks = s.blocks;
  flight = λ r b. None;
  heads = λ i c. record { cut = 0; live = λ b. if i == s.past then s.live b else None };
}

abbrev pub started : (F : Files) → Start F → Cluster F
started F s = record {
  world = record { book = starting_book F s; disk = starting_disk F s; items = []; sure = λ i. 0 };
  locks = λ l i. starting (s.runs i) (s.waits i);
  runs = s.runs;
  waits = s.waits;
  fenced = λ i. false;
  header_of = λ i. None;
  unlost = λ i. 0;
  past = s.past;
}

abbrev pub StartsFromDisk : Files → Type 0
StartsFromDisk F = (s : Start F) → IsStart F s → Starts F (started F s)
