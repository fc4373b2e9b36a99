-- The invariant of the cluster part by part, as images, journals, caches and locks show it: for every set of nodes that might stop, and every choice of
-- the headers in flight.
use Rattle.std.specs.Prelude.{ℕ, zero, suc, ◌-◌, ◌≡◌, ◌≤◌, ◌<◌, ◌⊎◌, Bool, true, false, if◌then◌else◌, None, Some, List, [], ◌∷◌, ◌++◌}
use Rattle.cluster_laws.specs.Files.{Files, CellOf, Part, LockOf, RightTo, State, Un, Ex}
use Rattle.cluster_laws.specs.Book.{W, InBox, publish}
use Rattle.cluster_laws.specs.Mirror.{Near, IsReplay, FreeIsFree, placed}
use Rattle.cluster_laws.specs.History.{Called, living, saids, Legal, Loss, gones, AreLives}
use Rattle.cluster_laws.specs.Log.{Untouched, Last}
use Rattle.cluster_laws.specs.World.{World, Sound, Run}
use Rattle.cluster_laws.specs.Laws.{head_cuts, AreLosses}
use Rattle.glock_names.specs.StateOrder.{leq, may_cache}
use Rattle.lock_laws.specs.Lock.{goes, eff, has_report}
use Rattle.cluster_laws.specs.World as world
use Rattle.cluster_events.specs.Cluster.{Cluster, BookOf, HeadersFlyAlone, Together, Event, Works, GoesDown, Stops}

-- ---- the history and the image where a set of nodes stops

-- the next call of node i is published
abbrev pub published_one : (F : Files) → ℕ → World F → World F
published_one F i w = record w {
  book = publish F (w.book) i;
  items = w.items ++ (Called (record { node = i; number = suc ((w.book).published i); said = (w.book).told i (suc ((w.book).published i)) }) ∷ []);
}

abbrev pub published_next : (F : Files) → ℕ → ℕ → World F → World F
published_next F zero i w = w
published_next F (suc n) i w = published_next F n i (published_one F i w)

-- all that node i answered is published
abbrev pub published_of : (F : Files) → ℕ → World F → World F
published_of F i w = published_next F ((w.book).answered i - (w.book).published i) i w

-- all that the nodes below n answered, in the order of the nodes
abbrev pub published_below : (F : Files) → ℕ → World F → World F
published_below F zero w = w
published_below F (suc n) w = published_of F n (published_below F n w)

abbrev pub PublishedFrom : (F : Files) → ℕ → World F → Type 0
PublishedFrom F n w = (i : ℕ) → n ≤ i → (w.book).published i ≡ (w.book).answered i

-- what is left of each node's calls where these nodes stop, and the journals turn out to have these heads
abbrev pub cut_of : (F : Files) → World F → (ℕ → Bool) → (ℕ → Bool) → ℕ → ℕ
cut_of F w stops choice i = if stops i then head_cuts F (w.disk) choice i else (w.book).answered i

-- the block is unflushed at a node that doesn't stop, with this content, or free and with any
abbrev pub IsUnflushed : (F : Files) → World F → (ℕ → Bool) → (ℕ → Bool) → ℕ → F.Content → Type 0
IsUnflushed F w stops choice b d = (i : ℕ) × (stops i ≡ false) × ((l : Last F (w.book) i (head_cuts F (w.disk) choice i) ((w.book).answered i) b) × Near F d (l.cell))

abbrev pub NoneUnflushed : (F : Files) → World F → (ℕ → Bool) → (ℕ → Bool) → ℕ → Type 0
NoneUnflushed F w stops choice b = (i : ℕ) → stops i ≡ false → Untouched F (w.book) i (head_cuts F (w.disk) choice i) ((w.book).answered i) b

abbrev pub IsLive : (F : Files) → World F → (ℕ → Bool) → ℕ → F.Content → Type 0
IsLive F w choice b d = (i : ℕ) × (v : F.Content) × (((w.disk).heads i (choice i)).live b ≡ Some v) × (d ≡ v)

abbrev pub NoneLive : (F : Files) → World F → (ℕ → Bool) → ℕ → Type 0
NoneLive F w choice b = (i : ℕ) → ((w.disk).heads i (choice i)).live b ≡ None

-- the disk with the headers that the choice takes as new and no other write in flight, with all live blocks on it, and over these the unflushed
-- blocks of every node that doesn't stop
abbrev pub Shows : (F : Files) → World F → (ℕ → Bool) → (ℕ → Bool) → (ℕ → F.Content) → Type 0
Shows F w stops choice r = (b : ℕ) → IsUnflushed F w stops choice b (r b)
    ⊎ (NoneUnflushed F w stops choice b × (IsLive F w choice b (r b) ⊎ (NoneLive F w choice b × (r b ≡ (w.disk).blocks b))))

-- The first part. The history is the published items, then the answered calls of each node that aren't published, then a loss by the rule for each life of a node
-- that stops, which may keep calls behind the accepted head's that change nothing: it is legal, and the image stands for the tree at its end.
pub record IsRight (F : Files) (w : World F) (n : ℕ) (stops choice : ℕ → Bool) (ls : List Loss) : Type 0 where
  pub legal : Legal F ((published_below F n w).items ++ gones F ls) ((w.book).start)
  pub tree : F.Tree
  pub answers : RightTo F (saids F (living F ((published_below F n w).items ++ gones F ls))) ((w.book).start) tree
  pub stands : F.Stands (W F (w.book) (cut_of F w stops choice)) tree
  pub shown : FreeIsFree F → (r : ℕ → F.Content) → Shows F w stops choice r → F.Stands (placed F r (W F (w.book) (cut_of F w stops choice))) tree

abbrev pub EverySetMayStop : Files → Type 0
EverySetMayStop F = (w : World F) (n : ℕ) (stops choice : ℕ → Bool) (ls : List Loss) → Sound F w → PublishedFrom F n w
    → AreLosses F (w.book) ((w.book).answered) (cut_of F w stops choice) ls → IsRight F w n stops choice ls

-- the calls that are published for it are steps
abbrev pub AllIsPublished : Files → Type 0
AllIsPublished F = (w : World F) (n : ℕ) → Sound F w → PublishedFrom F n w
    → Run F w (published_below F n w) × ((i : ℕ) → ((published_below F n w).book).published i ≡ (w.book).answered i) × ((published_below F n w).disk ≡ w.disk)

-- The second part. Where every node stops, the image is the disk replayed, and the calls that aren't published are none of its history: no such call is
-- part of a flush.
pub record IsReplayed (F : Files) (w : World F) (n : ℕ) (choice : ℕ → Bool) (ls : List Loss) : Type 0 where
  pub image : (r : ℕ → F.Content) → IsReplay F (w.disk) choice ((w.disk).blocks) r → Shows F w (λ i. true) choice r
  pub history : saids F (living F ((published_below F n w).items ++ gones F ls)) ≡ saids F (living F (w.items ++ gones F ls))
  pub flushed : (i : ℕ) → head_cuts F (w.disk) choice i ≤ (w.book).published i

abbrev pub AllMayStop : Files → Type 0
AllMayStop F = (w : World F) (n : ℕ) (choice : ℕ → Bool) (ls : List Loss) → Sound F w → PublishedFrom F n w
    → AreLives ((w.book).answered) (head_cuts F (w.disk) choice) ls → IsReplayed F w n choice ls

-- ---- journals, caches, writes in flight

-- The third part. What is live in a journal is under a lock that its node holds exclusive, or held when it stopped, in every image; and no two journals
-- have one block live.
pub record LivesAreHeld (F : Files) (w : World F) : Type 0 where
  pub held : (i : ℕ) (c : Bool) (b : ℕ) (v : F.Content) (cut : ℕ → ℕ) → ((w.disk).heads i c).live b ≡ Some v → InBox F (w.book) cut
      → (w.book).state i (LockOf F (W F (w.book) cut b)) ≡ Ex
  pub apart : (i j : ℕ) (c d : Bool) (b : ℕ) (u v : F.Content) → ((w.disk).heads i c).live b ≡ Some u → ((w.disk).heads j d).live b ≡ Some v → i ≡ j

-- The fourth: so is what a call that isn't in the journal wrote or freed.
abbrev pub UnflushedAreHeld : (F : Files) → World F → Type 0
UnflushedAreHeld F w = (i n b : ℕ) (x : CellOf F) (cut : ℕ → ℕ) → (w.book).low i ≤ n → n < (w.book).answered i → (w.book).change i (suc n) b ≡ Some x → InBox F (w.book) cut
    → (w.book).state i (LockOf F (W F (w.book) cut b)) ≡ Ex

-- The sixth. A cached block is that of every image in which its node doesn't stop, and the node holds its lock.
abbrev pub CachedAreSeen : (F : Files) → World F → Type 0
CachedAreSeen F w = (j b : ℕ) (x : CellOf F) (cut : ℕ → ℕ) → (w.book).cache j b ≡ Some x → cut j ≡ (w.book).answered j
    → (W F (w.book) cut b ≡ x) × ((w.book).state j (LockOf F x) ≡ Un → ⊥)

-- The seventh, of writes home: they have the live content of a block of one node, whichever header it turns out to have.
abbrev pub FlightsAreLive : (F : Files) → World F → Type 0
FlightsAreLive F w = (r b : ℕ) (v : F.Content) → (w.disk).flight r b ≡ Some v
    → (i : ℕ) × ((w.book).owner b ≡ Some i) × ((c : Bool) → ((w.disk).heads i c).live b ≡ Some v)

pub record WorldParts (F : Files) (w : World F) : Type 0 where
  pub lives : LivesAreHeld F w
  pub unflushed : UnflushedAreHeld F w
  pub cached : CachedAreSeen F w
  pub flights : FlightsAreLive F w

abbrev pub PartsHold : Files → Type 0
PartsHold F = (w : World F) → Sound F w → WorldParts F w

-- ---- locks

-- The fifth. Held states go together, those of stopped nodes until they are recovered among them; while the past holds a lock nobody else does.
pub record StatesGo (F : Files) (c : Cluster F) : Type 0 where
  pub nodes : (i j : ℕ) (l : F.Lock) → (i ≡ j → ⊥) → (i ≡ c.past → ⊥) → (j ≡ c.past → ⊥) → goes ((BookOf F c).state i l) ((BookOf F c).state j l) ≡ true
  pub past : (i : ℕ) (l : F.Lock) → (i ≡ c.past → ⊥) → ((BookOf F c).state (c.past) l ≡ Un → ⊥) → (BookOf F c).state i l ≡ Un

-- The eighth. A master that has heard a node's reports has at least what the node holds and what is granted to it.
abbrev pub MasterKnows : (F : Files) → Cluster F → Type 0
MasterKnows F c = (i : ℕ) (l : F.Lock) → (c.locks l i).taken ≡ true → has_report ((c.locks l i).up) ≡ false
    → (leq (eff (c.locks l i)) ((c.locks l i).table) ≡ true) × ((s : State) → (c.locks l i).down ≡ Some s → leq s ((c.locks l i).table) ≡ true)

pub record LockParts (F : Files) (c : Cluster F) : Type 0 where
  pub states : StatesGo F c
  pub master : MasterKnows F c

abbrev pub LockPartsHold : Files → Type 0
LockPartsHold F = (c : Cluster F) → Together F c → LockParts F c

-- The rest of the seventh, of who writes. A write home in flight is of the journal's own node, or the journal's slot waits, and so is a header; while a header is in
-- flight nothing is in flight to a block of its journal; who is fenced has neither in flight.
pub record WritesAreOwn (F : Files) (c : Cluster F) : Type 0 where
  pub homes : HeadersFlyAlone F c
  pub headers : (i r : ℕ) → c.header_of i ≡ Some r → (r ≡ i) ⊎ (c.waits i ≡ true)
  -- the journal has two heads only while a header of it is in flight
  pub one_head : (i : ℕ) → c.header_of i ≡ None → ((c.world).disk).heads i true ≡ ((c.world).disk).heads i false
  pub fenced : (i : ℕ) → c.fenced i ≡ true → ((b : ℕ) → ((c.world).disk).flight i b ≡ None) × ((k : ℕ) → c.header_of k ≡ Some i → ⊥)

abbrev pub WritersHold : Files → Type 0
WritersHold F = (c : Cluster F) → Together F c → WritesAreOwn F c

-- ---- in which states a node may have a block cached: `may_cache`, under a deferred lock all but the plain content of files

-- `own` is what each node keeps for all its calls. The book's cache has beside it what is kept beside one call: what a read under a deferred lock gave.
abbrev pub CachesAllow : (F : Files) → (CellOf F → Bool) → (ℕ → Part F) → Cluster F → Type 0
CachesAllow F plain own c = (j b : ℕ) (x : CellOf F) → own j b ≡ Some x
    → ((BookOf F c).cache j b ≡ Some x) × (may_cache ((BookOf F c).state j (LockOf F x)) (plain x) ≡ true)

-- What a node keeps after an event it kept before; or its call wrote it; or it read it in a state that may cache it. What the event takes out of the cache, and
-- what a lower state may not cache, it keeps no more.
abbrev pub KeptFrom : (F : Files) (plain : CellOf F → Bool) (own : ℕ → Part F) (c c' : Cluster F) → Event F c c' → ℕ → ℕ → CellOf F → Type 0
KeptFrom F plain own c _ (Works _ (world.Answers k said v change cache no_sync a) may) j b x =
    ((j ≡ k → ⊥) × (own j b ≡ Some x)) ⊎ ((j ≡ k) × (cache b ≡ Some x) × ((own j b ≡ Some x) ⊎ (change b ≡ Some x)))
KeptFrom F plain own c _ (Works _ (world.Reads k n held) may) j b x = (own j b ≡ Some x)
    ⊎ ((j ≡ k) × (b ≡ n) × (x ≡ W F (BookOf F c) ((BookOf F c).answered) n) × (may_cache ((BookOf F c).state j (LockOf F x)) (plain x) ≡ true))
KeptFrom F plain own c _ (Works _ (world.Shrinks k cache forgets) may) j b x = (own j b ≡ Some x) × (j ≡ k → cache j b ≡ Some x)
KeptFrom F plain own c _ (GoesDown i locks cache here h all clean cached) j b x = (own j b ≡ Some x)
    × (j ≡ i → (cache b ≡ Some x) × (may_cache ((locks (LockOf F x) i).state) (plain x) ≡ true))
KeptFrom F plain own c _ (Stops i here runs all) j b x = (own j b ≡ Some x) × (j ≡ i → ⊥)
KeptFrom F plain own c _ _ j b x = own j b ≡ Some x

-- what nodes have to mind for that
abbrev pub StateMinds : (F : Files) (plain : CellOf F → Bool) (own own' : ℕ → Part F) (c c' : Cluster F) → Event F c c' → Type 0
StateMinds F plain own own' c c' event = (j b : ℕ) (x : CellOf F) → own' j b ≡ Some x → KeptFrom F plain own c c' event j b x

abbrev pub StateMindedKeeps : Files → Type 0
StateMindedKeeps F = (plain : CellOf F → Bool) (own own' : ℕ → Part F) (c c' : Cluster F) (event : Event F c c') → Together F c → StateMinds F plain own own' c c' event
    → CachesAllow F plain own c → CachesAllow F plain own' c'

-- at a start nothing is kept
abbrev pub StartAllows : Files → Type 0
StartAllows F = (plain : CellOf F → Bool) (c : Cluster F) → CachesAllow F plain (λ j b. None) c
