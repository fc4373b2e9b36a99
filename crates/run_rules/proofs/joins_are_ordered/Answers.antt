use Rattle.std.proofs.Common.{◌≡◌, inl, inr, ◌+◌, ℕ, List, Some}
use Rattle.std.proofs.lemmas.Bool.{cases_lt}
use Rattle.std.specs.List.{slice_get}
use Rattle.trace_text.specs.declared.item.TraceItem.{TraceItem}
use Rattle.script_lang.specs.Script.{ScriptValue}
use Rattle.script_lang.specs.declared.script.Line.TheVariants as line
use Rattle.run_rules.specs.Follows.{ByArmed, ByLine, JoinsBy, Order}
use Rattle.run_rules.proofs.joins_are_ordered.Goals as goal

its_line : (s : ScriptValue) (items : List TraceItem) (p node : ℕ) (o : Order) → JoinsBy s items p node o → (l : ℕ) × (slice_get s.lines l ≡ Some (line.Join node))
its_line s items p node (ByLine l) joins = (l, joins.0)
its_line s items p node (ByArmed a) joins = absurd joins

pub returns-clause-start : goal.returns-clause-start
returns-clause-start c s items follows p node is = elim (cases_lt p s.nodes) [
  | inl low ↦ let same = follows.start p _ is low in let its : node ≡ p + 1 = cc in inl (low, its)
  | inr past ↦ let its = its_line s items p node (follows.order p) (follows.joins p node is past) in inr (past, its.0, its.1)
]

pub returns-clause-crashes : goal.returns-clause-crashes
returns-clause-crashes c s items follows p node is = elim (cases_lt p s.nodes) [
  | inl low ↦ let same = follows.start p _ is low in cc
  | inr past ↦ past
]
