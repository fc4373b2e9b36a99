-- How a node takes its live blocks home.
use Rattle.std.specs.Prelude.{ℕ, ◌≡◌, ◌==◌, ◌+◌, ◌<◌, if◌then◌else◌, List, [], ◌∷◌, ◌++◌, Option, None, Some}
use Rattle.std.specs.FinMap as table
use Rattle.std.specs.List.{count_by, filter_map}
use Rattle.glock_names.specs.declared.LockName.{LockName}
use Rattle.log_memory.specs.Locks.{IsNextLock}
use Rattle.log_memory.specs.Rows.{is_away}
use Rattle.log_tables.specs.Versions.Way.{Home}
use Rattle.log_values.specs.Flushing.{AllAreHome}
use Rattle.log_values.specs.Homing.{HomeAnswer, Settles}
use Rattle.log_values.specs.Log.{Entry, LogValue}
use Rattle.log_values.specs.declared.steps.LogStep.TheVariants as step
use Rattle.logged_steps.specs.States.{flies_home}
use Rattle.shared_disk.specs.Disk.{DiskState, Operation, flight_to}
use Rattle.trace_text.specs.declared.item.TraceItem.{TraceItem}
use Rattle.trace_text.specs.declared.item.TraceItem.TheVariants as trace
use Rattle.logged_node.specs.Flushing.{GoesBySteps}
use Rattle.logged_node.specs.Nodes.{IsNodeOn, IsResting, IsSmall}
use Rattle.logged_node.specs.declared.node.Node.{Node}

-- It is taking blocks home: no flush is under way, and what is in flight is what is on its way home.
pub record IsHoming (d : DiskState) (n : Node) : Type 0 where
  pub on : IsNodeOn d n
  pub idle : n.log.flush ≡ None
  pub flies : (b : ℕ) → flight_to (d.in_flight 1) b ≡ flies_home (table.get n.log.live b)
  pub small : IsSmall n.log

-- a live block once it is home
abbrev pub at_home : Option Entry → Option Entry
at_home None = None
at_home (Some e) = Some (record e { way = Home })

-- What this changes of a node: where its live blocks are, and nothing else of its log, of what it keeps or of its calls.
pub record MovesHome (n n' : Node) : Type 0 where
  pub view : n'.view ≡ n.view
  pub numbers : n'.numbers ≡ n.numbers
  pub unmounts : n'.unmounts ≡ n.unmounts
  pub log : n'.log ≡ record n.log { live = n'.log.live }
  pub live : (b : ℕ) → at_home (table.get n'.log.live b) ≡ at_home (table.get n.log.live b)

-- how many live blocks are away, and not on their way
abbrev pub waiting : LogValue → ℕ
waiting log = count_by (λ (e : ℕ × Entry). is_away e.1.way) (table.entries log.live)

-- ---- in which order

-- So many blocks were sent home, one after the other: each the least that is away under the least lock under which one is. Barriers bring home what is on its way.
pub data AreSent (log : LogValue) : LogValue → List ℕ → Type 0 where
  none : AreSent log log []
  one : (mid new : LogValue) (before : List ℕ) (lock : LockName) (b : ℕ) (bytes : List ℕ) → AreSent log mid before → IsNextLock mid lock → HomeAnswer mid new lock bytes (Some (step.Write b)) → AreSent log new (before ++ b ∷ [])
  settled : (mid new : LogValue) (before : List ℕ) → AreSent log mid before → Settles mid new → AreSent log new before

-- the blocks that items tell to be written home
abbrev pub home_told : TraceItem → Option ℕ
home_told (trace.WriteHome node b) = Some b
home_told _ = None

abbrev pub homes_in : List TraceItem → List ℕ
homes_in items = filter_map home_told items

-- these are, and the items that came tell so
pub record SendsInOrder (n n' : Node) : Type 0 where
  pub blocks : List ℕ
  pub are : AreSent n.log n'.log blocks
  pub told : homes_in n'.items.items ≡ homes_in n.items.items ++ blocks

-- The blocks that were sent home since these items, so far: the first of those that are away in this log, in order.
pub record SentSoFar (log : LogValue) (items items' : List TraceItem) : Type 0 where
  pub new : LogValue
  pub blocks : List ℕ
  pub are : AreSent log new blocks
  pub told : homes_in items' ≡ homes_in items ++ blocks

-- ---- with which barriers

-- These items tell of blocks that were sent, so many of them since the last barrier: a barrier is behind each write that was the 512th in flight, and none else.
pub data RestsWhereFull : ℕ → List TraceItem → Type 0 where
  begins : RestsWhereFull 0 []
  sends : (flying b : ℕ) (items : List TraceItem) → RestsWhereFull flying items → flying + 1 < 512 → RestsWhereFull (flying + 1) (items ++ trace.WriteHome 1 b ∷ [])
  fills : (flying b : ℕ) (items : List TraceItem) → RestsWhereFull flying items → flying + 1 ≡ 512 → RestsWhereFull 0 (items ++ (trace.WriteHome 1 b ∷ trace.Barrier 1 ∷ []))

-- and at the end there is one where any is in flight
abbrev pub last_rest : ℕ → List TraceItem
last_rest flying = if flying == 0 then [] else trace.Barrier 1 ∷ []

-- so it is behind these items
pub record RestsAsDue (items items' : List TraceItem) : Type 0 where
  pub flying : ℕ
  pub sent : List TraceItem
  pub are : RestsWhereFull flying sent
  pub told : items' ≡ items ++ (sent ++ last_rest flying)

-- one block is sent, and is in flight; or with it 512 were, and a barrier is made
pub data SendsOne (n n' : Node) : Type 0 where
  flies : (b : ℕ) → n'.items.items ≡ n.items.items ++ trace.WriteHome 1 b ∷ [] → n'.flying ≡ n.flying + 1 → n.flying + 1 < 512 → SendsOne n n'
  rests : (b : ℕ) → n'.items.items ≡ n.items.items ++ (trace.WriteHome 1 b ∷ trace.Barrier 1 ∷ []) → n'.flying ≡ 0 → n.flying + 1 ≡ 512 → SendsOne n n'

-- and so far, with so many in flight
pub record RestsSoFar (items items' : List TraceItem) (flying : ℕ) : Type 0 where
  pub sent : List TraceItem
  pub are : RestsWhereFull flying sent
  pub told : items' ≡ items ++ sent

-- ---- from one node to the other

-- some are on their way, or home
pub record GoesHomeward (d : DiskState) (list : Option (List Operation)) (n : Node) (d' : DiskState) (list' : Option (List Operation)) (n' : Node) : Type 0 where
  pub goes : GoesBySteps d list n d' list' n'
  pub homing : IsHoming d' n'
  pub moves : MovesHome n n'
  pub order : SendsInOrder n n'

-- all are home, and the node rests
pub record HasGoneHome (d : DiskState) (list : Option (List Operation)) (n : Node) (d' : DiskState) (list' : Option (List Operation)) (n' : Node) : Type 0 where
  pub goes : GoesBySteps d list n d' list' n'
  pub resting : IsResting d' n'
  pub moves : MovesHome n n'
  pub order : SendsInOrder n n'
  pub home : AllAreHome n'.log
