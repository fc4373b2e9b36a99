-- How the run of one node with its log begins.
use Rattle.std.specs.Prelude.{ℕ, ◌≡◌, List, ◌∷◌}
use Rattle.std.specs.List.{AllByRecursion}
use Rattle.image_machine.specs.Volumes.{Volume}
use Rattle.log_values.specs.Laws.{empty_log}
use Rattle.logged_steps.specs.Laws.{IsLoggedAt}
use Rattle.logged_steps.specs.Points.{Point}
use Rattle.logged_steps.specs.LoggedLaws.{no_numbers}
use Rattle.logged_steps.specs.States.{trees_on}
use Rattle.lone_machine.specs.Alone.{Begun}
use Rattle.run_rules.specs.Lives.{Life}
use Rattle.script_lang.specs.declared.script.Client.{Client}
use Rattle.trace_text.specs.declared.item.TraceItem.{TraceItem}
use Rattle.trace_text.specs.declared.item.TraceItem.TheVariants as trace

-- the life of node 1 that begins with the first item
abbrev pub only_life : Life
only_life = record { node = 1; join = 0 }

-- an item of a replay: of a write or a barrier, or that a slot is recovered
abbrev pub IsOfReplay : TraceItem → Type 0
IsOfReplay (trace.WriteReplay node block) = node ≡ 1
IsOfReplay (trace.Barrier node) = node ≡ 1
IsOfReplay (trace.Recovered node by) = by ≡ 1
IsOfReplay _ = ⊥

-- Node 1 has joined, and may have replayed journals; it is one alone on an image, with an empty log, and has answered nothing.
pub record BeginsAt (v : Volume) (s : Begun (trees_on v)) (d : ℕ) (clients : List Client) (a : Point) : Type 0 where
  pub at : IsLoggedAt v s d clients a
  pub log : a.log ≡ empty_log a.log.journal a.log.head a.log.sequence
  pub numbers : a.numbers ≡ no_numbers
  pub replays : List TraceItem
  pub items : a.items ≡ trace.Join 1 ∷ replays
  pub of_replay : AllByRecursion IsOfReplay replays
