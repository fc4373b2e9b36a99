use Rattle.std.proofs.Common.{◌≡◌, ◌≤◌, ℕ, ◌++◌, length}
use Rattle.std.specs.List.{flat_map, AllByRecursion}
use Rattle.run_reports.specs.StatusText.{holder_text, holders_text}
use Rattle.run_reports.proofs.status_text.append_holders.Given as goal

abbrev pub invariant-loop-rest : goal.invariant-loop-rest
invariant-loop-rest l = record {
  nodes : AllByRecursion (λ (n : ℕ). n ≤ 8) l.rest;
  text : l.text.items ++ flat_map (holder_text l.nodes) l.rest ≡ l.initial.text.items ++ holders_text l.nodes;
}

abbrev pub decreases-loop-rest : goal.decreases-loop-rest
decreases-loop-rest l = length l.rest
