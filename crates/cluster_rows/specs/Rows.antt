-- What the table of items says of each item, of the event that makes it.
use Rattle.std.specs.Prelude.{ℕ, suc, ◌≡◌, ◌≤◌, ◌<◌, ◌⊎◌, ⊤, Bool, true, false, None, Some}
use Rattle.cluster_laws.specs.Files.{Files, CellOf, LockOf, State, Un, Ex}
use Rattle.cluster_laws.specs.Book.{W, InBox}
use Rattle.cluster_laws.specs.Mirror.{Head}
use Rattle.cluster_laws.specs.History.{calls_of, LossIsRight}
use Rattle.cluster_laws.specs.Log.{Untouched, Calm, IsHeader}
use Rattle.cluster_laws.specs.World.{World, Sound}
use Rattle.cluster_laws.specs.World as world
use Rattle.lock_laws.specs.Lock.{Node, goes, leq}
use Rattle.lock_laws.specs.Lock as lock
use Rattle.cluster_events.specs.Cluster.{WritesFor, IsIdle, Cluster, BookOf, Sends, OfOne, Receives, NoGrant, Takes, Event, Works, Mails, IsGranted, GoesDown, Stops, Fences, Joins, Recovers, Together}

-- the lock that covers the block is the same question in each image that a stop might leave: each cut of the box
abbrev pub InEach : (F : Files) → Cluster F → ℕ → (F.Lock → Type 0) → Type 0
InEach F c b P = (cut : ℕ → ℕ) → InBox F (BookOf F c) cut → P (LockOf F (W F (BookOf F c) cut b))

-- ---- the rows

-- read: the node's state on the lock isn't un. (What is read is what the disk has: a condition of the event.)
abbrev pub ReadRow : (F : Files) → Cluster F → ℕ → ℕ → Type 0
ReadRow F c j b = InEach F c b (λ l. (BookOf F c).state j l ≡ Un → ⊥)

-- call: the node is a member whose slot doesn't wait
abbrev pub AnswerRow : (F : Files) → Cluster F → ℕ → Type 0
AnswerRow F c j = (c.runs j ≡ true) × (c.waits j ≡ false)

-- and the number is the node's next
abbrev pub CallRow : (F : Files) → Cluster F → ℕ → Type 0
CallRow F c i = suc ((BookOf F c).published i) ≡ suc (calls_of F i ((c.world).items))

-- head: the node that has it in flight then had no write home and no header in flight, and writes for the journal; the number of the last call isn't below that of
-- the accepted head, and isn't above the node's last
pub record HeadRow (F : Files) (c c' : Cluster F) (i : ℕ) (h : Head F) : Type 0 where
  pub writer : (r : ℕ) × (c'.header_of i ≡ Some r) × WritesFor F c r i × IsIdle F c r
  pub risen : (((c.world).disk).heads i false).cut ≤ h.cut
  pub within : h.cut ≤ calls_of F i ((c.world).items)

-- home: the bytes are the block's live content, whichever header is accepted, and the node's state on its lock is ex. A replay's content: the same, of the
-- slot that waits
pub record HomeRow (F : Files) (c : Cluster F) (r b : ℕ) (v : F.Content) (i : ℕ) : Type 0 where
  pub member : c.runs r ≡ true
  pub whose : (r ≡ i) ⊎ (c.waits i ≡ true)
  pub live : (d : Bool) → (((c.world).disk).heads i d).live b ≡ Some v
  pub exclusive : InEach F c b (λ l. (BookOf F c).state i l ≡ Ex)

-- lost: a life of the node has ended and has no loss yet, it was fenced, its slot waits, and what is kept is right
pub record LostRow (F : Files) (c : Cluster F) (i k : ℕ) : Type 0 where
  pub waits : c.waits i ≡ true
  pub over : (c.runs i ≡ true) ⊎ (c.fenced i ≡ true)
  pub ended : (m : ℕ) × (c.unlost i ≡ suc m)
  pub right : LossIsRight F ((c.world).items) i ((BookOf F c).low i) k

-- grant: an ask of the node stands (for this state: `GrantsAreAsked`), no slot waits, and the state goes with every other node's, stopped nodes and the past among them
pub record GrantRow (F : Files) (c : Cluster F) (i : ℕ) (l : F.Lock) (s : State) : Type 0 where
  pub asked : (c.locks l i).asked ≡ true
  pub none_waits : (k : ℕ) → c.waits k ≡ false
  pub others : (j : ℕ) → (j ≡ i → ⊥) → goes s ((BookOf F c).state j l) ≡ true

-- ask: of a member that holds nothing, has no ask, and whose slot doesn't wait
pub record AskRow (F : Files) (c : Cluster F) (i : ℕ) (l : F.Lock) : Type 0 where
  pub member : c.runs i ≡ true
  pub slot : c.waits i ≡ false
  pub settled : (c.locks l i).fresh ≡ false
  pub un : (c.locks l i).state ≡ Un
  pub none_stands : (c.locks l i).asked ≡ false

-- recovered: the slot waits, no header of its journal is in flight, nothing is live in it, and each life of the node that ended has its loss. (Of a slot that waited
-- since the start the journal is the past's: `StartRecoveryIsEvents`.)
pub record RecoveredRow (F : Files) (c : Cluster F) (i : ℕ) : Type 0 where
  pub waits : c.waits i ≡ true
  pub unheaded : c.header_of i ≡ None
  pub clean : (d : Bool) (b : ℕ) → (((c.world).disk).heads i d).live b ≡ None
  pub told : c.unlost i ≡ 0

-- down: the state is weaker, and was not un. From ex no block that the lock covers is live in the node's journal, and the node has no write in flight to one
pub record DownRow (F : Files) (c : Cluster F) (i : ℕ) (locks : F.Lock → ℕ → Node) (l : F.Lock) : Type 0 where
  pub weaker : ((locks l i).state ≡ (c.locks l i).state)
      ⊎ ((leq ((locks l i).state) ((c.locks l i).state) ≡ true) × ((locks l i).state ≡ (c.locks l i).state → ⊥) × ((c.locks l i).state ≡ Un → ⊥))
  pub unlive : (c.locks l i).state ≡ Ex → ((locks l i).state ≡ Ex → ⊥) → (d : Bool) (b : ℕ) (v : F.Content) → (((c.world).disk).heads i d).live b ≡ Some v
      → InEach F c b (λ m. m ≡ l → ⊥)
  pub landed : (c.locks l i).state ≡ Ex → ((locks l i).state ≡ Ex → ⊥) → (b : ℕ) (v : F.Content) → ((c.world).disk).flight i b ≡ Some v
      → InEach F c b (λ m. m ≡ l → ⊥)

-- which grants are taken
abbrev pub GrantsRow : (F : Files) (c : Cluster F) (i : ℕ) (l : F.Lock) (n : ℕ → Node) → Receives i (c.locks l) n → Type 0
GrantsRow F c i l _ NoGrant = ⊤
GrantsRow F c i l _ (Takes s down member fresh runs) = GrantRow F c i l s

-- which messages are asks
abbrev pub AsksRow : (F : Files) (c : Cluster F) (l : F.Lock) (n : ℕ → Node) → Sends (c.locks l) n → Type 0
AsksRow F c l _ (OfOne k _ (lock.Asks s member fresh taken waits un asked) state slot same) = AskRow F c k l
AsksRow F c l _ _ = ⊤

abbrev pub Row : (F : Files) (c c' : Cluster F) → Event F c c' → Type 0
Row F c _ (Works _ (world.Answers j said v change cache no_sync a) may) = AnswerRow F c j
Row F c _ (Works _ (world.Syncs j said does still calm) may) = AnswerRow F c j
Row F c _ (Works _ (world.Publishes i some) may) = AnswerRow F c i × CallRow F c i
Row F c c' (Works _ (world.Begins i h single heads) may) = HeadRow F c c' i h
Row F c _ (Works _ (world.Writes r b v i live) may) = HomeRow F c r b v i
Row F c _ (Mails locks h) = (l : F.Lock) → AsksRow F c l (locks l) (h l)
Row F c _ (Works _ (world.Reads j b held) may) = AnswerRow F c j × ReadRow F c j b
Row F c _ (Works _ (world.Loses i k all above below calm next none single) may) = LostRow F c i k
Row F c _ (IsGranted i locks here none h) = (l : F.Lock) → GrantsRow F c i l (locks l) (h l)
Row F c _ (GoesDown i locks cache here h all clean cached) = (l : F.Lock) → DownRow F c i locks l
-- crash, withdraw: it was a member
Row F c _ (Stops i here runs all) = c.runs i ≡ true
-- fence: it has stopped, and was not fenced since
Row F c _ (Fences i out unfenced none) = (c.runs i ≡ false) × (c.fenced i ≡ false)
-- join: it was fenced since its stop, and its slot doesn't wait where a node runs
Row F c _ (Joins i here out fenced waits) = (c.runs i ≡ false) × (c.fenced i ≡ true) × ((c.waits i ≡ false) ⊎ ((k : ℕ) → c.runs k ≡ false))
Row F c _ (Recovers i here wait nothing_left unheaded told) = RecoveredRow F c i
Row F c _ _ = ⊤

abbrev pub RowsHold : Files → Type 0
RowsHold F = (c c' : Cluster F) (event : Event F c c') → Together F c → Row F c c' event

-- a clean header, up to whose number no call that isn't in the journal touches a block: every live block is home on the disk. The number is that of the node's last
-- call in an unmount, and that of the accepted head in a replay
abbrev pub CleanRow : Files → Type 0
CleanRow F = (w : World F) (i u : ℕ) (h : Head F) → IsHeader F (w.book) (w.disk) i u h → ((b : ℕ) → h.live b ≡ None)
    → ((b : ℕ) → Untouched F (w.book) i ((w.book).low i) u b)
    → (b : ℕ) (v : F.Content) → ((w.disk).heads i false).live b ≡ Some v → (w.disk).blocks b ≡ v

-- ---- full: what a node saw that answered nospace

-- A call was answered from a view, and none of its node's calls before it, down to the journal's, changes anything. Then each block of the view is, in every image
-- that a stop might leave and in which this call is not published yet, as it was seen: so are the groups' bitmaps that the count of free blocks is taken from.
abbrev pub ViewsAreSeen : Files → Type 0
ViewsAreSeen F = (w : World F) (i n b : ℕ) (x : CellOf F) → Sound F w → (w.book).published i ≤ n → n < (w.book).answered i → Calm F (w.book) i ((w.book).low i) n
    → (w.book).view i (suc n) b ≡ Some x → (cut : ℕ → ℕ) → InBox F (w.book) cut → cut i ≤ n → W F (w.book) cut b ≡ x

-- a lock that the node holds exclusive stays so while an answered call of it isn't published: so does every group's, from a nospace answer to its item
abbrev pub HeldStays : Files → Type 0
HeldStays F = (c c' : Cluster F) (event : Event F c c') (i : ℕ) (l : F.Lock) → Together F c → (BookOf F c).published i < (BookOf F c).answered i
    → (BookOf F c).state i l ≡ Ex → (BookOf F c').state i l ≡ Ex

-- and that none of these changes anything stays so
abbrev pub CalmStays : Files → Type 0
CalmStays F = (w v : World F) (i n : ℕ) → world.Step F w v → Sound F w → n ≤ (w.book).answered i → Calm F (w.book) i ((w.book).low i) n → Calm F (v.book) i ((v.book).low i) n
