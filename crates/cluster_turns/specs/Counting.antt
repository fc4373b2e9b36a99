-- A small choice of values, at which the premises of the turns are met: a node's value counts the calls that it answered and the lines that it was shown, and
-- the wire's says what is published, who runs, and what it has shown to whom.
use Rattle.std.specs.Prelude.{ℕ, suc, ◌≡◌, ◌≤◌, ◌<◌, ◌⊎◌, ⊤, Bool, true, false, Option, None, Some, List, [], ◌∷◌}
use Rattle.cluster_laws.specs.Files.{Files, Does}
use Rattle.cluster_laws.specs.Log.{Calm}
use Rattle.cluster_laws.specs.World.{nothing}
use Rattle.cluster_laws.specs.Book.{at}
use Rattle.cluster_events.specs.Cluster.{Cluster, BookOf, acts, Starts}
use Rattle.cluster_turns.specs.Turns.{Ties, clusters, Holds, AreLocal, MayAlone, MayPaired}

pub data Count : Type 0 where
  OfNode : (node answered shown : ℕ) → Count
  OfWire : (shown published : ℕ → ℕ) (runs : ℕ → Bool) → Count

abbrev pub node_of : Count → Option ℕ
node_of (OfNode i answered shown) = Some i
node_of (OfWire shown published runs) = None

-- it answers at most what it was shown; while a line is open it is a member whose slot doesn't wait; and nothing that it answered is unflushed and changes
-- anything
pub record CountsNode (F : Files) (i : ℕ) (c : Cluster F) (s : ℕ → ℕ) (j a n : ℕ) : Type 0 where
  pub node : j ≡ i
  pub answered : a ≡ (BookOf F c).answered i
  pub shown : n ≡ s i
  pub order : a ≤ n
  pub acting : (a ≡ n) ⊎ (acts F c i ≡ true)
  pub calm : Calm F (BookOf F c) i ((BookOf F c).low i) ((BookOf F c).answered i)

pub record CountsWire (F : Files) (nodes : ℕ) (c : Cluster F) (s n p : ℕ → ℕ) (r : ℕ → Bool) : Type 0 where
  pub shown : n ≡ s
  pub published : p ≡ (BookOf F c).published
  pub runs : r ≡ c.runs
  pub past : (i : ℕ) → i < nodes → i ≡ c.past → ⊥

abbrev pub IsCountOfNode : (F : Files) → ℕ → Cluster F → (ℕ → ℕ) → Count → Type 0
IsCountOfNode F i c s (OfNode node answered shown) = CountsNode F i c s node answered shown
IsCountOfNode F i c s (OfWire shown published runs) = ⊥

abbrev pub IsCountOfWire : (F : Files) → ℕ → Cluster F → (ℕ → ℕ) → Count → Type 0
IsCountOfWire F nodes c s (OfNode node answered shown) = ⊥
IsCountOfWire F nodes c s (OfWire shown published runs) = CountsWire F nodes c s shown published runs

-- these nodes are below the number
abbrev pub AreBelow : ℕ → List ℕ → Type 0
AreBelow nodes [] = ⊤
AreBelow nodes (i ∷ is) = (i < nodes) × AreBelow nodes is

-- who runs once these have stopped; and each runs when it is stopped
abbrev pub running : (ℕ → Bool) → List ℕ → ℕ → Bool
running runs [] = runs
running runs (i ∷ is) = running (at runs i false) is

abbrev pub AllRun : (ℕ → Bool) → List ℕ → Type 0
AllRun runs [] = ⊤
AllRun runs (i ∷ is) = (runs i ≡ true) × AllRun (at runs i false) is

abbrev pub counting : (F : Files) → ℕ → Ties (clusters F)
counting F nodes = record {
  Value = Count;
  Shown = ℕ → ℕ;
  nodes = nodes;
  IsNode = IsCountOfNode F;
  IsWire = IsCountOfWire F nodes;
  which = node_of;
  Grows = λ u v. node_of u ≡ node_of v;
}

-- Such values are ties, and at each start, whose past is none of the nodes, there are some. A node with an open line may answer a sync alone, by its own value, whatever the rest of the cluster is. And where every line that was shown is published, a seat at one node may stop all these nodes at once, with its own value and the wire's:
-- a line `crash all`. What each other node answered can't be read off these two values; that its value fits tells it.
pub record CountsAreTies (F : Files) (nodes : ℕ) : Type 0 where
  pub starts : (c : Cluster F) → Starts F c → ((i : ℕ) → i < nodes → i ≡ c.past → ⊥) → (parts : List Count) × Holds (clusters F) (counting F nodes) parts
  pub local : AreLocal (clusters F) (counting F nodes)
  pub sync_alone : (i a n : ℕ) (said : F.Said) → i < nodes → Does F (nothing F) said (nothing F) → F.Changes said ≡ false → a < n
      → MayAlone (clusters F) (counting F nodes) i (OfNode i a n) (OfNode i (suc a) n)
  pub crash_all : (i : ℕ) (own : Count) (is : List ℕ) (shown : ℕ → ℕ) (runs : ℕ → Bool) → i < nodes → AreBelow nodes is → AllRun runs is
      → MayPaired (clusters F) (counting F nodes) i own (OfWire shown shown runs) own (OfWire shown shown (running runs is))
