-- Blocks that go back to nobody, and what a node has let go with them.
use Rattle.std.specs.Prelude.{ℕ, suc, ◌≡◌, ◌≤◌, ◌<◌, ◌⊎◌, Bool, true, false, None, Some}
use Rattle.cluster_laws.specs.Files.{Files, CellOf, Part, Un}
use Rattle.cluster_laws.specs.Book.{at, Book, settled, relocked}
use Rattle.cluster_laws.specs.Mirror.{Disk}
use Rattle.cluster_laws.specs.Log.{Untouched}
use Rattle.cluster_events.specs.Cluster.{Cluster, BookOf, with_book, restated, freed, Events}
use Rattle.lock_laws.specs.Lock.{Node}

abbrev pub DiskOf : (F : Files) → Cluster F → Disk F
DiskOf F c = (c.world).disk

-- Of the blocks of node i those go back that no head has live and no call above low touches, and no others: so each that stays is live or touched.
pub record GivesBack (F : Files) (B : Book F) (D : Disk F) (i : ℕ) (back : ℕ → Bool) : Type 0 where
  pub own : (b : ℕ) → back b ≡ true → B.owner b ≡ Some i
  pub unlive : (c : Bool) (b : ℕ) → back b ≡ true → (D.heads i c).live b ≡ None
  pub untouched : (b : ℕ) → back b ≡ true → Untouched F B i (B.low i) (B.answered i) b
  pub rest : (b : ℕ) → back b ≡ false → B.owner b ≡ Some i → ((c : Bool) × (v : F.Content) × ((D.heads i c).live b ≡ Some v))
      ⊎ ((n : ℕ) × (x : CellOf F) × (B.low i ≤ n) × (n < B.answered i) × (B.change i (suc n) b ≡ Some x))

-- ---- a release: the blocks went back, and the node's locks and cache are these

abbrev pub released : (F : Files) → Cluster F → ℕ → (ℕ → Bool) → (F.Lock → ℕ → Node) → Part F → Cluster F
released F c i back locks cache = record c {
  world = with_book F c (relocked F (settled F (BookOf F c) i back) (restated F c i locks) (at ((BookOf F c).cache) i cache));
  locks = locks;
}

-- from c the cluster came to c1, and from there the node let its locks go
pub record IsReleased (F : Files) (c c1 : Cluster F) (i : ℕ) (locks : F.Lock → ℕ → Node) (cache : Part F) : Type 0 where
  pub back : ℕ → Bool
  pub gives : GivesBack F (BookOf F c1) (DiskOf F c1) i back
  pub events : Events F c (released F c1 i back locks cache)

-- ---- a slot that is recovered: blocks of node o went back, and node i's locks and its slot's wait are over

abbrev pub recovered : (F : Files) → Cluster F → ℕ → ℕ → (ℕ → Bool) → Cluster F
recovered F c o i back = record c {
  world = with_book F c (relocked F (settled F (BookOf F c) o back) (at ((BookOf F c).state) i (λ l. Un)) ((BookOf F c).cache));
  locks = λ l. at (c.locks l) i (freed (c.locks l i));
  waits = at (c.waits) i false;
}

-- from c the cluster came to c1, and from there the slot was recovered; node i has no block then
pub record IsRecovered (F : Files) (c c1 : Cluster F) (o i : ℕ) : Type 0 where
  pub back : ℕ → Bool
  pub gives : GivesBack F (BookOf F c1) (DiskOf F c1) o back
  pub events : Events F c (recovered F c1 o i back)
  pub blocks : (b : ℕ) → (BookOf F (recovered F c1 o i back)).owner b ≡ Some i → ⊥
