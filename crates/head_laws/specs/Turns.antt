-- The cluster with its trace behind turns: what a seat may change then has its items, and what holds of all parts carries the run that came there.
use Rattle.std.specs.Prelude.{ℕ, ◌≡◌, ◌≤◌, List, length}
use Rattle.run_rules.specs.Lives.{AcceptedHead, TraceKeptRight}
use Rattle.script_lang.specs.declared.script.Client.{Client}
use Rattle.tree_histories.specs.Trees.{Images, Trees}
use Rattle.cluster_turns.specs.Turns.{Machine, OnlyOf, Ties, Fits, Holds, TurnsKeep}
use Rattle.head_laws.specs.Traces.{Traced, Begins}
use Rattle.head_laws.specs.Tellings.{Tellings}

-- a cluster with its trace, and what the disk had behind so many items: of those that there are
pub record Told (I : Images) : Type 0 where
  pub traced : Traced I
  pub behind : ℕ → ℕ → AcceptedHead

-- by this run, from a start
pub record ReachedByTellings (I : Images) (clients : List Client) (s : Told I) : Type 0 where
  pub begin : Traced I
  pub begins : Begins I clients (s.behind) begin
  pub run : Tellings I clients (s.behind) begin (s.traced)

-- The run goes on. What the disk had behind the items that there were stays; what it has behind further ones is told with these.
pub record TellingsLead (I : Images) (clients : List Client) (s u : Told I) : Type 0 where
  pub disk : (i p : ℕ) → p ≤ length ((s.traced).items) → s.behind i p ≡ u.behind i p
  pub run : Tellings I clients (u.behind) (s.traced) (u.traced)

-- only this node's own has changed: no item came, and no header
pub record OnlyOfTold (I : Images) (j : ℕ) (s u : Told I) : Type 0 where
  pub cluster : OnlyOf (Trees I) j ((s.traced).cluster) ((u.traced).cluster)
  pub names : (u.traced).names ≡ (s.traced).names
  pub silent : (u.traced).silent ≡ (s.traced).silent
  pub items : (u.traced).items ≡ (s.traced).items
  pub behind : u.behind ≡ s.behind

abbrev pub told_clusters : Images → List Client → Machine
told_clusters I clients = record { State = Told I; IsReached = ReachedByTellings I clients; LeadsTo = TellingsLead I clients; OnlyOf = OnlyOfTold I }

-- Of local ties the rule of turns is kept; a start that the values are tied to holds; and where values hold each loss among the items is right, as in every run.
pub record ToldTurnsKeep (I : Images) (clients : List Client) (T : Ties (told_clusters I clients)) : Type 0 where
  pub turns : TurnsKeep (told_clusters I clients) T
  pub starts : (a : Told I) (shown : T.Shown) (parts : List T.Value) → Begins I clients (a.behind) (a.traced) → Fits (told_clusters I clients) T a shown parts → Holds (told_clusters I clients) T parts
  pub losses : (parts : List T.Value) (h : Holds (told_clusters I clients) T parts) → TraceKeptRight clients ((h.state).behind) (((h.state).traced).items)
