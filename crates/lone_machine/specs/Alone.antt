-- The machine of one node that runs alone and holds its locks from the start: no other has answered a call, holds a lock, or has a block or a write.
use Rattle.std.specs.Prelude.{ℕ, ◌≡◌, ◌⊎◌, ◌==◌, ◌++◌, if◌then◌else◌, suc, Bool, [], ◌∷◌, None, Some}
use Rattle.cluster_laws.specs.Files.{Files, CellOf, Image, Part, LockOf, Does, Guards, Tells, Tracks, State, Un}
use Rattle.cluster_laws.specs.Book.{at, Book, W, publish, tried, flushed, relocked, lost}
use Rattle.cluster_laws.specs.Locks.{read_into}
use Rattle.cluster_laws.specs.Mirror.{Head, Near, chosen, ended, flown, headed, renumbered}
use Rattle.cluster_laws.specs.History.{Called, Gone, Item}
use Rattle.cluster_laws.specs.World.{BeginsAt, Run, World, nothing}

-- ---- the start

-- what a run begins with: the node, the states in which it holds the locks, the image with the place of each block, the tree that it stands for, what the disk has, and some
-- call with its reply, since none is told yet
pub record Begun (F : Files) : Type 0 where
  pub node : ℕ
  pub held : F.Lock → State
  pub image : Image F
  pub tree : F.Tree
  pub blocks : ℕ → F.Content
  pub told : F.Said

-- the image stands for the tree, and is what the disk has, but for free blocks: each journal is clean
pub record IsBegun (F : Files) (s : Begun F) : Type 0 where
  pub stands : F.Stands s.image s.tree
  pub same : (b : ℕ) → Near F (s.blocks b) (s.image b)

abbrev pub begun_book : (F : Files) → Begun F → Book F
begun_book F s = record {
  owner = λ b. None;
  unowned = s.image;
  says = λ j k b. s.image b;
  low = λ j. 0;
  published = λ j. 0;
  answered = λ j. 0;
  state = λ j l. if j == s.node then s.held l else Un;
  cache = λ j b. None;
  told = λ j n. s.told;
  view = λ j n b. None;
  change = λ j n b. None;
  start = s.tree;
  kept = [];
}

abbrev pub begun : (F : Files) → Begun F → World F
begun F s = record {
  book = begun_book F s;
  disk = record { blocks = s.blocks; flight = λ r b. None; heads = λ j c. record { cut = 0; live = λ b. None } };
  items = [];
  sure = λ j. 0;
}

-- ---- what always holds

-- the image with all calls of the node: what it works on
abbrev pub now : (F : Files) → World F → Image F
now F w = W F w.book w.book.answered

-- The machine has come to this from the start. The node holds its locks as it did then and has published what it answered; what belongs to somebody is the node's, and
-- what is in flight is its own.
pub record IsAlone (F : Files) (s : Begun F) (w : World F) : Type 0 where
  pub begins : BeginsAt F (begun F s)
  pub run : Run F (begun F s) w
  pub held : w.book.state s.node ≡ s.held
  pub told : w.book.published s.node ≡ w.book.answered s.node
  pub owners : (b j : ℕ) → w.book.owner b ≡ Some j → j ≡ s.node
  pub silent : (j : ℕ) → (j ≡ s.node → ⊥) → w.book.answered j ≡ 0
  pub writes : (r b : ℕ) → (r ≡ s.node → ⊥) → w.disk.flight r b ≡ None

-- the cells are of blocks that the node works on, under locks that it holds
abbrev pub AreOfNow : (F : Files) → Begun F → World F → Part F → Type 0
AreOfNow F s w cells = (b : ℕ) (x : CellOf F) → cells b ≡ Some x → (now F w b ≡ x) × (s.held (LockOf F x) ≡ Un → ⊥)

-- ---- a call

-- Such an answer the node may give, from this view and with this change: as the machine asks of an answer, and what it caches afterwards is the change's or what it works on.
pub record MayAnswer (F : Files) (s : Begun F) (w : World F) (said : F.Said) (view change cache : Part F) : Type 0 where
  pub sees : AreOfNow F s w view
  pub does : Does F view said change
  pub guards : Guards F s.held view change
  pub tells : Tells F said change
  pub tracks : Tracks F view change
  pub cached : (b : ℕ) (x : CellOf F) → cache b ≡ Some x → (change b ≡ Some x) ⊎ ((change b ≡ None) × (now F w b ≡ x) × (s.held (LockOf F x) ≡ Un → ⊥))

-- the answered call is published
abbrev pub publishes : (F : Files) → ℕ → World F → World F
publishes F i w = record w {
  book = publish F w.book i;
  items = w.items ++ (Called (record { node = i; number = suc (w.book.published i); said = w.book.told i (suc (w.book.published i)) }) ∷ []);
}

-- the node answers a call that is no sync, and publishes it
abbrev pub answers : (F : Files) → Begun F → World F → F.Said → Part F → Part F → Part F → World F
answers F s w said view change cache = publishes F s.node (record w { book = tried F w.book s.node said view change cache })

-- It answers a sync, which changes nothing, and publishes it: its number is then the last that must not be lost.
abbrev pub syncs : (F : Files) → Begun F → World F → F.Said → World F
syncs F s w said = publishes F s.node (record w {
  book = tried F w.book s.node said (nothing F) (nothing F) (w.book.cache s.node);
  sure = at w.sure s.node (suc (w.book.answered s.node));
})

-- the item of the node's next call
abbrev pub next_item : (F : Files) → Begun F → World F → F.Said → Item F
next_item F s w said = Called (record { node = s.node; number = suc (w.book.answered s.node); said = said })

-- ---- a read

-- the node has read a block that it hadn't cached
abbrev pub reads : (F : Files) → Begun F → World F → ℕ → World F
reads F s w b = record w { book = relocked F w.book w.book.state (read_into F w.book s.node b) }

-- its cache is as small as this
abbrev pub forgets : (F : Files) → World F → (ℕ → Part F) → World F
forgets F w cache = record w { book = relocked F w.book w.book.state cache }

-- ---- its journal

-- what its journal's head has, and the one in flight
abbrev pub head_of : (F : Files) → Begun F → World F → Bool → Head F
head_of F s w c = w.disk.heads s.node c

-- a header for its journal is in flight
abbrev pub begins_header : (F : Files) → Begun F → World F → Head F → World F
begins_header F s w h = record w { disk = headed F w.disk s.node h }

-- it is on the disk, or never will be
abbrev pub ends_header : (F : Files) → Begun F → World F → Bool → World F
ends_header F s w c = record w { book = flushed F w.book s.node ((head_of F s w c).cut); disk = chosen F w.disk s.node c }

-- a block is on its way home
abbrev pub writes_home : (F : Files) → Begun F → World F → ℕ → F.Content → World F
writes_home F s w b v = record w { disk = flown F w.disk s.node b v }

-- what was in flight is settled, and the blocks are then these
abbrev pub settles : (F : Files) → Begun F → World F → (ℕ → F.Content) → World F
settles F s w x = record w { disk = ended F w.disk s.node x }

-- as a barrier does it: each write is in its place; or as a fence may: any bytes where one was in flight
abbrev pub MaySettle : (F : Files) → Begun F → World F → (ℕ → F.Content) → Type 0
MaySettle F s w x = (b : ℕ) → (x b ≡ w.disk.blocks b) ⊎ ((v : F.Content) × (w.disk.flight s.node b ≡ Some v))

-- the live blocks of its journal put in their places, by one of the two heads
abbrev pub IsReplayAlone : (F : Files) → Begun F → World F → Bool → (ℕ → F.Content) → (ℕ → F.Content) → Type 0
IsReplayAlone F s w c x r = (b : ℕ) → ((v : F.Content) × ((head_of F s w c).live b ≡ Some v) × (r b ≡ v)) ⊎ (((head_of F s w c).live b ≡ None) × (r b ≡ x b))

-- ---- the end of its life

-- its calls above k are lost
abbrev pub loses : (F : Files) → Begun F → World F → ℕ → World F
loses F s w k = record w {
  book = lost F w.book s.node k;
  disk = renumbered F w.disk s.node (w.book.answered s.node);
  items = w.items ++ (Gone s.node (w.book.low s.node) k ∷ []);
}
