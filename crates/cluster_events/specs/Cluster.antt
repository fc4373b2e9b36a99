-- Nodes, journals, disk and, of each lock, the lock manager, as one machine.
use Rattle.std.specs.Prelude.{ℕ, suc, ◌-◌, ◌≡◌, ◌≤◌, ◌⊎◌, ⊤, Bool, true, false, ◌&&◌, not, Option, None, Some, [], ◌∷◌, ◌++◌}
use Rattle.cluster_laws.specs.Files.{Files, CellOf, Part, LockOf, State, Un, Ex, laid}
use Rattle.cluster_laws.specs.Book.{at, Book, W, relocked}
use Rattle.cluster_laws.specs.Mirror.{Near}
use Rattle.cluster_laws.specs.World.{World, nothing, BeginsAt, Headline}
use Rattle.cluster_laws.specs.World as world
use Rattle.lock_laws.specs.Lock.{leq, Node, Message, Asked, Lowered, starting, Compatible}
use Rattle.lock_laws.specs.Lock as lock

pub record Cluster (F : Files) : Type 0 where
  pub world : World F
  -- of each lock the nodes, and what its master has of them
  pub locks : F.Lock → ℕ → Node
  -- joined and not stopped; its slot waits for replay; fenced since its stop
  pub runs : ℕ → Bool
  pub waits : ℕ → Bool
  pub fenced : ℕ → Bool
  -- of each journal the node that has a header for it in flight
  pub header_of : ℕ → Option ℕ
  -- how many lives of a node have ended, and their losses are not told yet
  pub unlost : ℕ → ℕ
  -- the node that stands for the past. Its slot waits while one waits since the start
  pub past : ℕ

-- a member whose slot doesn't wait: it answers calls, and takes and gives up locks
abbrev pub acts : (F : Files) → Cluster F → ℕ → Bool
acts F c i = c.runs i && not (c.waits i)

abbrev pub BookOf : (F : Files) → Cluster F → Book F
BookOf F c = (c.world).book

-- ---- what one event does to a lock

-- messages: nobody's state changes
pub data Sends (l : ℕ → Node) : (ℕ → Node) → Type 0 where
  Rests : Sends l l
  -- an ask, a message that the master takes, a grant that is dropped, a view that is taken
  OfOne : (k : ℕ) (n : Node) → lock.Move (l k) n → n.state ≡ (l k).state → n.waits ≡ (l k).waits → n.member ≡ (l k).member → Sends l (at l k n)
  Granted : (k : ℕ) (s : State) → ((i : ℕ) → (l i).roll ≡ true → (l i).heard ≡ true) → ((i : ℕ) → (l i).waits ≡ false)
      → (l k).wants ≡ Some s → ((i : ℕ) → (i ≡ k → ⊥) → lock.goes s ((l i).table) ≡ true)
      → Sends l (at l k (record (l k) { table = s; wants = None; down = Some s }))

-- node i takes a grant, or none
pub data Receives (i : ℕ) (l : ℕ → Node) : (ℕ → Node) → Type 0 where
  NoGrant : Receives i l l
  Takes : (s : State) → (l i).down ≡ Some s → (l i).member ≡ true → (l i).fresh ≡ false → (l i).waits ≡ false
      → Receives i l (at l i (record (l i) { state = s; asked = false; down = None }))

-- node i's state goes down, or stays
pub data Weakens (i : ℕ) (l : ℕ → Node) : (ℕ → Node) → Type 0 where
  Keeps : Weakens i l l
  GoesTo : (s : State) → (l i).member ≡ true → (l i).fresh ≡ false → (l i).taken ≡ true → (l i).waits ≡ false → leq s ((l i).state) ≡ true → ((l i).state ≡ Un → ⊥)
      → (s ≡ (l i).state → ⊥)
      → Weakens i l (at l i (record (l i) { state = s; up = (l i).up ++ (Lowered s ∷ []) }))

-- ---- events

-- a node that hasn't stopped writes for a journal: its own, or that of a slot that waits
abbrev pub WritesFor : (F : Files) → Cluster F → ℕ → ℕ → Type 0
WritesFor F c r i = (c.runs r ≡ true) × ((r ≡ i) ⊎ (c.waits i ≡ true))

-- no write home of it is in flight, and no header
abbrev pub IsIdle : (F : Files) → Cluster F → ℕ → Type 0
IsIdle F c r = ((b : ℕ) → ((c.world).disk).flight r b ≡ None) × ((k : ℕ) → c.header_of k ≡ Some r → ⊥)

abbrev pub HasIdleWriter : (F : Files) → Cluster F → ℕ → Type 0
HasIdleWriter F c i = (r : ℕ) × WritesFor F c r i × IsIdle F c r

-- who acts in an event of nodes, journals and disk; states of locks don't change in it
abbrev pub MayWork : (F : Files) (c : Cluster F) (w : World F) → world.Step F (c.world) w → Type 0
MayWork F c _ (world.Answers j said v change cache no_sync a) = acts F c j ≡ true
MayWork F c _ (world.Syncs j said does still calm) = acts F c j ≡ true
-- what is read is what the disk has, the node's own write in flight first
MayWork F c _ (world.Reads j b held) = (acts F c j ≡ true)
    × Near F (laid (((c.world).disk).flight j b) (((c.world).disk).blocks b)) (W F (BookOf F c) ((BookOf F c).answered) b)
-- while no header of the journal is in flight
MayWork F c _ (world.Writes r b v i live) = WritesFor F c r i × (c.header_of i ≡ None)
-- a barrier leaves what was written; a fence, once the node has stopped, any bytes
MayWork F c _ (world.Lands r x settles) = ((b : ℕ) → x b ≡ laid (((c.world).disk).flight r b) (((c.world).disk).blocks b)) ⊎ (c.runs r ≡ false)
-- by a node with nothing in flight, while no header of the journal is in flight, nor anything to a block of it. While its slot waits it is a replay's clean header,
-- with the number of the accepted head
MayWork F c _ (world.Begins i h single heads) = HasIdleWriter F c i × (c.header_of i ≡ None)
    × ((r b : ℕ) (v : F.Content) → ((c.world).disk).flight r b ≡ Some v → (BookOf F c).owner b ≡ Some i → ⊥)
    × (c.waits i ≡ true → h.cut ≡ (BookOf F c).low i)
-- its writer's barrier puts it on the disk; a fence, once the writer has stopped, finds it there or not
MayWork F c _ (world.Ends i d) = (r : ℕ) × (c.header_of i ≡ Some r) × ((d ≡ true) ⊎ (c.runs r ≡ false))
-- of a life that has ended and has no loss yet, and was fenced: it is, or the node has joined since
MayWork F c _ (world.Loses i k all above below calm next none single) = (c.waits i ≡ true) × ((c.runs i ≡ true) ⊎ (c.fenced i ≡ true)) × ((m : ℕ) × (c.unlost i ≡ suc m))
MayWork F c _ (world.Lower i state cache lowers) = ⊥
MayWork F c _ (world.Grants i state raises) = ⊥
MayWork F c _ _ = ⊤

-- who has a header in flight, and which losses are left to tell, after such an event
abbrev pub headers_after : (F : Files) (c : Cluster F) (w : World F) (step : world.Step F (c.world) w) → MayWork F c w step → ℕ → Option ℕ
headers_after F c _ (world.Begins i h single heads) may = at (c.header_of) i (Some ((may.0).0))
headers_after F c _ (world.Ends i d) may = at (c.header_of) i None
headers_after F c _ _ may = c.header_of

abbrev pub unlost_after : (F : Files) (c : Cluster F) (w : World F) → world.Step F (c.world) w → ℕ → ℕ
unlost_after F c _ (world.Loses i k all above below calm next none single) = at (c.unlost) i (c.unlost i - 1)
unlost_after F c _ _ = c.unlost

abbrev pub worked : (F : Files) (c : Cluster F) (w : World F) (step : world.Step F (c.world) w) → MayWork F c w step → Cluster F
worked F c w step may = record c { world = w; header_of = headers_after F c w step may; unlost = unlost_after F c w step }

abbrev pub with_book : (F : Files) → Cluster F → Book F → World F
with_book F c B = record (c.world) { book = B }

-- the book, where node i's states are those of the locks
abbrev pub restated : (F : Files) → Cluster F → ℕ → (F.Lock → ℕ → Node) → ℕ → F.Lock → State
restated F c i locks = at ((BookOf F c).state) i (λ l. (locks l i).state)

-- in no cut of the box node i has a block under the lock
abbrev pub NothingUnder : (F : Files) → Book F → ℕ → F.Lock → Type 0
NothingUnder F B i l = (k b : ℕ) → B.owner b ≡ Some i → B.low i ≤ k → k ≤ B.answered i → LockOf F (B.says i k b) ≡ l → ⊥

abbrev pub stopped : Node → Node
stopped n = record n { member = false; waits = true }

abbrev pub freed : Node → Node
freed n = record n { waits = false; state = Un }

abbrev pub joined : Node → Node
joined n = record n { member = true; fresh = true; asked = false }

pub data Event (F : Files) (c : Cluster F) : Cluster F → Type 0 where
  -- a call is answered or published, a header or a write home begins or ends, a block is read, blocks are given back, a life's calls are lost
  Works : (w : World F) (step : world.Step F (c.world) w) → (may : MayWork F c w step) → Event F c (worked F c w step may)
  Mails : (locks : F.Lock → ℕ → Node) → ((l : F.Lock) → Sends (c.locks l) (locks l)) → Event F c (record c { locks = locks })
  -- while no slot waits; else a grant that comes is dropped
  IsGranted : (i : ℕ) (locks : F.Lock → ℕ → Node) → (i ≡ c.past → ⊥) → ((k : ℕ) → c.waits k ≡ false) → ((l : F.Lock) → Receives i (c.locks l) (locks l))
      → Event F c (record c { world = with_book F c (relocked F (BookOf F c) (restated F c i locks) ((BookOf F c).cache)); locks = locks })
  -- of what is exclusive no more node i has no block in any cut of the box; what is left of its cache is under locks that it holds
  GoesDown : (i : ℕ) (locks : F.Lock → ℕ → Node) (cache : Part F) → (i ≡ c.past → ⊥) → ((l : F.Lock) → Weakens i (c.locks l) (locks l))
      → (BookOf F c).published i ≡ (BookOf F c).answered i
      → ((l : F.Lock) → (c.locks l i).state ≡ Ex → ((locks l i).state ≡ Ex) ⊎ NothingUnder F (BookOf F c) i l)
      → ((b : ℕ) (x : CellOf F) → cache b ≡ Some x → ((BookOf F c).cache i b ≡ Some x) × ((locks (LockOf F x) i).state ≡ Un → ⊥))
      → Event F c (record c { world = with_book F c (relocked F (BookOf F c) (restated F c i locks) (at ((BookOf F c).cache) i cache)); locks = locks })
  -- a crash or a withdraw: all that the node answered is published, its cache is gone, its locks stay
  Stops : (i : ℕ) → (i ≡ c.past → ⊥) → c.runs i ≡ true → (BookOf F c).published i ≡ (BookOf F c).answered i
      → Event F c (record c {
        world = with_book F c (relocked F (BookOf F c) ((BookOf F c).state) (at ((BookOf F c).cache) i (nothing F)));
        locks = λ l. at (c.locks l) i (stopped (c.locks l i));
        runs = at (c.runs) i false;
        waits = at (c.waits) i true;
        fenced = at (c.fenced) i false;
        unlost = at (c.unlost) i (suc (c.unlost i));
      })
  -- nothing of it is in flight any more
  Fences : (i : ℕ) → c.runs i ≡ false → c.fenced i ≡ false → IsIdle F c i → Event F c (record c { fenced = at (c.fenced) i true })
  Views : Event F c (record c { locks = λ l k. lock.anew (c.locks l k) })
  -- by a join line: it was fenced, and its slot doesn't wait, or no node runs
  Joins : (i : ℕ) → (i ≡ c.past → ⊥) → c.runs i ≡ false → c.fenced i ≡ true → (c.waits i ≡ false) ⊎ ((k : ℕ) → c.runs k ≡ false)
      → Event F c (record c { locks = λ l. at (c.locks l) i (joined (c.locks l i)); runs = at (c.runs) i true; fenced = at (c.fenced) i false })
  -- node i's slot is recovered: it has no block any more, no header of its journal is in flight, each of its lives that ended has its loss; and its locks end
  Recovers : (i : ℕ) → (i ≡ c.past → ⊥) → c.waits i ≡ true → ((b : ℕ) → (BookOf F c).owner b ≡ Some i → ⊥) → c.header_of i ≡ None → c.unlost i ≡ 0
      → Event F c (record c {
        world = with_book F c (relocked F (BookOf F c) (at ((BookOf F c).state) i (λ l. Un)) ((BookOf F c).cache));
        locks = λ l. at (c.locks l) i (freed (c.locks l i));
        waits = at (c.waits) i false;
      })
  -- the last slot that waited since the start is recovered
  PastEnds : c.waits (c.past) ≡ true → ((b : ℕ) → (BookOf F c).owner b ≡ Some (c.past) → ⊥) → c.header_of (c.past) ≡ None
      → Event F c (record c {
        world = with_book F c (relocked F (BookOf F c) (at ((BookOf F c).state) (c.past) (λ l. Un)) ((BookOf F c).cache));
        locks = λ l. at (c.locks l) (c.past) (freed (c.locks l (c.past)));
        waits = at (c.waits) (c.past) false;
      })

pub data Events (F : Files) : Cluster F → Cluster F → Type 0 where
  Done : (c : Cluster F) → Events F c c
  Then : (a b c : Cluster F) → Event F a b → Events F b c → Events F a c

-- ---- what holds after every event

-- A write home in flight is of the journal's own node, or its slot waits; and while a header of a journal is in flight, nothing is in flight to a block of it.
abbrev pub HeadersFlyAlone : (F : Files) → Cluster F → Type 0
HeadersFlyAlone F c = (i r b : ℕ) (v : F.Content) → ((c.world).disk).flight r b ≡ Some v → (BookOf F c).owner b ≡ Some i
    → (c.header_of i ≡ None) × ((r ≡ i) ⊎ (c.waits i ≡ true))

pub record Together (F : Files) (c : Cluster F) : Type 0 where
  pub world : world.Sound F (c.world)
  pub locks : (l : F.Lock) → lock.Sound (c.locks l)
  -- a state of the book is that of the lock; the past's is the book's alone
  pub tied : (i : ℕ) (l : F.Lock) → (i ≡ c.past → ⊥) → (BookOf F c).state i l ≡ (c.locks l i).state
  pub members : (i : ℕ) (l : F.Lock) → (c.locks l i).member ≡ c.runs i
  pub waiting : (i : ℕ) (l : F.Lock) → (c.locks l i).waits ≡ c.waits i
  -- the past doesn't run, and no life of it ended
  pub gone : c.runs (c.past) ≡ false
  pub lifeless : c.unlost (c.past) ≡ 0
  -- while a slot waits since the start nobody holds a lock or is granted one
  pub idle : c.waits (c.past) ≡ true → (l : F.Lock) (i : ℕ) → ((c.locks l i).state ≡ Un) × ((c.locks l i).down ≡ None)
  -- after that the past holds nothing
  pub ended : c.waits (c.past) ≡ false → (l : F.Lock) → (BookOf F c).state (c.past) l ≡ Un
  -- who doesn't act has published all that it answered, and has nothing cached
  pub quiet : (i : ℕ) → acts F c i ≡ false → ((BookOf F c).published i ≡ (BookOf F c).answered i) × ((b : ℕ) → (BookOf F c).cache i b ≡ None)
  -- who is fenced has stopped, and has nothing in flight
  pub settled : (i : ℕ) → c.fenced i ≡ true → (c.runs i ≡ false) × IsIdle F c i
  -- while no header of a journal is in flight it has one head
  pub headers : (i : ℕ) → c.header_of i ≡ None → ((c.world).disk).heads i true ≡ ((c.world).disk).heads i false
  -- who writes for a journal, a header or a block home, is its node, or its slot waits
  pub writers : (i r : ℕ) → c.header_of i ≡ Some r → (r ≡ i) ⊎ (c.waits i ≡ true)
  pub alone : HeadersFlyAlone F c

-- the start: nobody holds a lock, and nothing is in flight. Where a slot waits, what its journal has live is the past's
pub record Starts (F : Files) (c : Cluster F) : Type 0 where
  pub world : BeginsAt F (c.world)
  pub locks : (l : F.Lock) (i : ℕ) → c.locks l i ≡ starting (c.runs i) (c.waits i)
  pub unheld : (i : ℕ) (l : F.Lock) → (i ≡ c.past → ⊥) → (BookOf F c).state i l ≡ Un
  pub gone : c.runs (c.past) ≡ false
  pub clean : c.waits (c.past) ≡ false → (l : F.Lock) → (BookOf F c).state (c.past) l ≡ Un
  pub fenced : (i : ℕ) → c.fenced i ≡ false
  pub resting : (r b : ℕ) → ((c.world).disk).flight r b ≡ None
  pub headers : (i : ℕ) → (c.header_of i ≡ None) × (((c.world).disk).heads i true ≡ ((c.world).disk).heads i false)
  pub unlost : (i : ℕ) → c.unlost i ≡ 0

abbrev pub StartIsTogether : Files → Type 0
StartIsTogether F = (c : Cluster F) → Starts F c → Together F c

abbrev pub EventKeeps : Files → Type 0
EventKeeps F = (c c' : Cluster F) → Event F c c' → Together F c → Together F c'

-- each event is a list of the steps of nodes, journals and disk, which so hold what they hold at each of them
abbrev pub EventIsSteps : Files → Type 0
EventIsSteps F = (c c' : Cluster F) → Event F c c' → Together F c → world.Run F (c.world) (c'.world)

abbrev pub EveryCluster : Files → Type 0
EveryCluster F = (a c : Cluster F) → Starts F a → Events F a c → Together F c × Headline F (c.world) × ((l : F.Lock) → Compatible (c.locks l))
