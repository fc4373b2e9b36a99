-- The cluster behind turns: a value for each node, and one for the wire between them. What each value has to say of the cluster, and which changes a seat may
-- make: an event that one node makes alone, or one that it makes with the wire.
use Rattle.std.specs.Prelude.{ℕ, suc, ◌≡◌, ◌≢◌, ◌≤◌, ◌<◌, ◌⊎◌, Option, None, Some, List, ◌++◌, length, slice_get, slice_set}
use Rattle.cluster_laws.specs.Files.{Files, Part}
use Rattle.cluster_laws.specs.Book.{tried, relocked}
use Rattle.cluster_laws.specs.Locks.{Forgets}
use Rattle.cluster_laws.specs.History.{Item}
use Rattle.cluster_laws.specs.World.{Answering, nothing, Headline}
use Rattle.cluster_events.specs.Cluster.{Cluster, BookOf, Starts, Events, Together}
use Rattle.lock_laws.specs.Lock.{Compatible}

-- ---- what one node has of the cluster

pub record SameNode (F : Files) (i : ℕ) (c c' : Cluster F) : Type 0 where
  -- which blocks are its own, and what it has there
  pub keeps : (b : ℕ) → (BookOf F c).owner b ≡ Some i → (BookOf F c').owner b ≡ Some i
  pub no_more : (b : ℕ) → (BookOf F c').owner b ≡ Some i → (BookOf F c).owner b ≡ Some i
  pub says : (BookOf F c').says i ≡ (BookOf F c).says i
  -- its calls
  pub low : (BookOf F c').low i ≡ (BookOf F c).low i
  pub published : (BookOf F c').published i ≡ (BookOf F c).published i
  pub answered : (BookOf F c').answered i ≡ (BookOf F c).answered i
  pub told : (BookOf F c').told i ≡ (BookOf F c).told i
  pub view : (BookOf F c').view i ≡ (BookOf F c).view i
  pub change : (BookOf F c').change i ≡ (BookOf F c).change i
  -- its locks, its cache, its last sync
  pub state : (BookOf F c').state i ≡ (BookOf F c).state i
  pub cache : (BookOf F c').cache i ≡ (BookOf F c).cache i
  pub sure : (c'.world).sure i ≡ (c.world).sure i

-- what lies between the nodes: the disk and who has a header in flight, the items and which losses are left, messages, and the lists of who runs, waits and is fenced
pub record SameWire (F : Files) (c c' : Cluster F) : Type 0 where
  pub disk : (c'.world).disk ≡ (c.world).disk
  pub items : (c'.world).items ≡ (c.world).items
  pub kept : (BookOf F c').kept ≡ (BookOf F c).kept
  pub published : (BookOf F c').published ≡ (BookOf F c).published
  pub start : (BookOf F c').start ≡ (BookOf F c).start
  pub locks : c'.locks ≡ c.locks
  pub runs : c'.runs ≡ c.runs
  pub waits : c'.waits ≡ c.waits
  pub fenced : c'.fenced ≡ c.fenced
  pub header_of : c'.header_of ≡ c.header_of
  pub unlost : c'.unlost ≡ c.unlost
  pub past : c'.past ≡ c.past

-- only this node's own has changed
pub record OnlyOf (F : Files) (j : ℕ) (c c' : Cluster F) : Type 0 where
  pub wire : SameWire F c c'
  pub others : (i : ℕ) → (i ≡ j → ⊥) → SameNode F i c c'

-- A try that answers a call, or a sync, or that makes the cache smaller, changes nothing of another node or of the wire.
pub record TriesAreAlone (F : Files) : Type 0 where
  pub answers : (c : Cluster F) (j : ℕ) (said : F.Said) (v change cache : Part F) → Together F c → Answering F (BookOf F c) j said v change cache
      → OnlyOf F j c (record c { world = record (c.world) { book = tried F (BookOf F c) j said v change cache } })
  pub syncs : (c : Cluster F) (j : ℕ) (said : F.Said) (sure : ℕ → ℕ) → Together F c → ((i : ℕ) → (i ≡ j → ⊥) → sure i ≡ (c.world).sure i)
      → OnlyOf F j c (record c { world = record (c.world) { book = tried F (BookOf F c) j said (nothing F) (nothing F) ((BookOf F c).cache j); sure = sure } })
  pub shrinks : (c : Cluster F) (j : ℕ) (cache : ℕ → Part F) → Forgets F (BookOf F c) j cache
      → OnlyOf F j c (record c { world = record (c.world) { book = relocked F (BookOf F c) ((BookOf F c).state) cache } })

-- ---- what is behind the turns

-- a machine of nodes and a wire: its states, which of them a run comes to, from which to which it may go on, and what only this node's own has changed between
pub record Machine : Type 1 where
  pub State : Type 0
  pub IsReached : State → Type 0
  pub LeadsTo : State → State → Type 0
  pub OnlyOf : ℕ → State → State → Type 0

-- what a run comes to it still comes to when it goes on
abbrev pub RunsGoOn : Machine → Type 0
RunsGoOn M = (c c' : M.State) → M.IsReached c → M.LeadsTo c c' → M.IsReached c'

-- a cluster, with how it was reached: by these events, from a start
pub record Reached (F : Files) (c : Cluster F) : Type 0 where
  pub begin : Cluster F
  pub starts : Starts F begin
  pub events : Events F begin c

abbrev pub clusters : Files → Machine
clusters F = record { State = Cluster F; IsReached = Reached F; LeadsTo = Events F; OnlyOf = OnlyOf F }

-- ---- the values behind the turns

-- what each value has to say of the machine
pub record Ties (M : Machine) : Type 1 where
  pub Value : Type 0
  -- what node and wire agree on beside the machine: how far the wire has shown each node the lines of its clients
  pub Shown : Type 0
  -- the nodes are parts 0 to nodes - 1, and the wire is the next, the last
  pub nodes : ℕ
  pub IsNode : ℕ → M.State → Shown → Value → Type 0
  pub IsWire : M.State → Shown → Value → Type 0
  -- the node whose value it is; the wire's is no node's
  pub which : Value → Option ℕ
  -- the second value is the first, or one that the first grew into
  pub Grows : Value → Value → Type 0

-- A node's value may speak of all that its node has and of all that lies between the nodes: who runs and waits, heads, locks, items. An event that another
-- node makes alone changes none of it.
pub record AreLocal (M : Machine) (T : Ties M) : Type 0 where
  pub is_node : (i : ℕ) (c : M.State) (s : T.Shown) (v : T.Value) → T.IsNode i c s v → T.which v ≡ Some i
  pub is_wire : (c : M.State) (s : T.Shown) (v : T.Value) → T.IsWire c s v → T.which v ≡ None
  pub node_local : (i j : ℕ) (c c' : M.State) (s : T.Shown) (v : T.Value) → (i ≡ j → ⊥) → M.OnlyOf j c c' → T.IsNode i c s v → T.IsNode i c' s v
  pub wire_local : (j : ℕ) (c c' : M.State) (s : T.Shown) (v : T.Value) → M.OnlyOf j c c' → T.IsWire c s v → T.IsWire c' s v
  pub grows_reflexive : (v : T.Value) → T.Grows v v
  pub grows_transitive : (u v w : T.Value) → T.Grows u v → T.Grows v w → T.Grows u w

-- the values are tied to this state
pub record Fits (M : Machine) (T : Ties M) (state : M.State) (shown : T.Shown) (parts : List T.Value) : Type 0 where
  pub count : length parts ≡ suc (T.nodes)
  pub node : (i : ℕ) (v : T.Value) → i < T.nodes → slice_get parts i ≡ Some v → T.IsNode i state shown v
  pub wire : (v : T.Value) → slice_get parts (T.nodes) ≡ Some v → T.IsWire state shown v

-- a run came to a state that the values are tied to: so whatever holds of every run holds of this one
pub record Holds (M : Machine) (T : Ties M) (parts : List T.Value) : Type 0 where
  pub state : M.State
  pub shown : T.Shown
  pub reached : M.IsReached state
  pub fits : Fits M T state shown parts

-- each node has a value that is tied to the state
abbrev pub AreTied : (M : Machine) (T : Ties M) → M.State → T.Shown → Type 0
AreTied M T c s = (j : ℕ) → j < T.nodes → (v : T.Value) × T.IsNode j c s v

-- A change that node i may make alone: a run goes on by what changes only what is its own, whatever the rest of the state is.
abbrev pub MayAlone : (M : Machine) (T : Ties M) → ℕ → T.Value → T.Value → Type 0
MayAlone M T i old new = (c : M.State) (s : T.Shown) → M.IsReached c → T.IsNode i c s old
    → (c' : M.State) × M.LeadsTo c c' × M.OnlyOf i c c' × T.IsNode i c' s new

-- Changes that it may make with the wire: the run goes on to where every other node's value still fits. That every node has a value that fits tells what the wire
-- knows of other nodes: that they have no line open, where all are to stop.
abbrev pub MayPaired : (M : Machine) (T : Ties M) → ℕ → T.Value → T.Value → T.Value → T.Value → Type 0
MayPaired M T i old old_wire new new_wire = (c : M.State) (s : T.Shown) → M.IsReached c → AreTied M T c s → T.IsNode i c s old → T.IsWire c s old_wire
    → (c' : M.State) × (s' : T.Shown) × M.LeadsTo c c' × ((j : ℕ) (v : T.Value) → j < T.nodes → (j ≡ i → ⊥) → T.IsNode j c s v → T.IsNode j c' s' v)
    × T.IsNode i c' s' new × T.IsWire c' s' new_wire

-- ---- the rule of turns

-- a value stays, or a node's becomes what it may become alone
abbrev pub Alone : (M : Machine) (T : Ties M) → T.Value → T.Value → Type 0
Alone M T old new = (old ≡ new) ⊎ ((i : ℕ) × (T.which old ≡ Some i) × (i < T.nodes) × MayAlone M T i old new × T.Grows old new)

-- a node's value, and the wire's after it
abbrev pub WithWire : (M : Machine) (T : Ties M) → T.Value → T.Value → T.Value → T.Value → Type 0
WithWire M T old old_wire new new_wire = (T.which old_wire ≡ None) × T.Grows old new × T.Grows old_wire new_wire
    × ((i : ℕ) × (T.which old ≡ Some i) × (i < T.nodes) × MayPaired M T i old old_wire new new_wire)

-- in either order
abbrev pub Paired : (M : Machine) (T : Ties M) → T.Value → T.Value → T.Value → T.Value → Type 0
Paired M T old_a old_b new_a new_b = WithWire M T old_a old_b new_a new_b ⊎ WithWire M T old_b old_a new_b new_a

-- what a rule of turns owes, member by member, with `Holds`, `Alone`, `Paired` and `Grows` as its words
pub record RuleOfTurns (M : Machine) (T : Ties M) : Type 0 where
  pub alone_keeps : (parts : List T.Value) (p : ℕ) (old new : T.Value) → Holds M T parts → slice_get parts p ≡ Some old → Alone M T old new → Holds M T (slice_set parts p new)
  pub paired_keeps : (parts : List T.Value) (a b : ℕ) (old_a old_b new_a new_b : T.Value) → a ≢ b → Holds M T parts
      → slice_get parts a ≡ Some old_a → slice_get parts b ≡ Some old_b → Paired M T old_a old_b new_a new_b → Holds M T (slice_set (slice_set parts a new_a) b new_b)
  pub unchanged_alone : (v : T.Value) → Alone M T v v
  pub alone_grows : (old new : T.Value) → Alone M T old new → T.Grows old new
  pub paired_grows : (old_a old_b new_a new_b : T.Value) → Paired M T old_a old_b new_a new_b → T.Grows old_a new_a × T.Grows old_b new_b
  pub grows_reflexive : (v : T.Value) → T.Grows v v
  pub grows_transitive : (u v w : T.Value) → T.Grows u v → T.Grows v w → T.Grows u w

abbrev pub TurnsKeep : (M : Machine) → Ties M → Type 0
TurnsKeep M T = AreLocal M T → RuleOfTurns M T

-- a start that the values are tied to holds
abbrev pub StartHolds : (F : Files) → Ties (clusters F) → Type 0
StartHolds F T = (c : Cluster F) (shown : T.Shown) (parts : List T.Value) → Starts F c → Fits (clusters F) T c shown parts → Holds (clusters F) T parts

-- and of values that hold: so it is of the cluster that they are tied to, whatever the turns were
abbrev pub HeldIsRight : (F : Files) → Ties (clusters F) → Type 0
HeldIsRight F T = (parts : List T.Value) (h : Holds (clusters F) T parts) → Together F (h.state) × Headline F ((h.state).world) × ((l : F.Lock) → Compatible ((h.state).locks l))

-- ---- what grows

-- the items before are a front of the items after, and so are each node's answered calls; the tree at the start stays
pub record Grown (F : Files) (c c' : Cluster F) : Type 0 where
  pub items : (more : List (Item F)) × ((c'.world).items ≡ (c.world).items ++ more)
  pub answered : (i : ℕ) → (BookOf F c).answered i ≤ (BookOf F c').answered i
  pub told : (i n : ℕ) → n ≤ (BookOf F c).answered i → (BookOf F c').told i n ≡ (BookOf F c).told i n
  pub start : (BookOf F c').start ≡ (BookOf F c).start

abbrev pub EventsGrow : Files → Type 0
EventsGrow F = (c c' : Cluster F) → Events F c c' → Together F c → Grown F c c'
