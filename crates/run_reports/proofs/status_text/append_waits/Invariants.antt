use Rattle.std.proofs.Common.{◌≡◌, ◌++◌, length}
use Rattle.std.specs.List.{flat_map}
use Rattle.run_reports.specs.StatusText.{waits_text, ended}
use Rattle.glock_names.specs.declared.Waits.{Waits}
use Rattle.run_reports.proofs.status_text.append_waits.Given as goal

abbrev pub invariant-loop-rest : goal.invariant-loop-rest
invariant-loop-rest l = l.text.items ++ flat_map (λ (w : Waits). ended (waits_text l.clients w)) l.rest ≡ l.initial.text.items ++ flat_map (λ (w : Waits). ended (waits_text l.clients w)) l.waits

abbrev pub decreases-loop-rest : goal.decreases-loop-rest
decreases-loop-rest l = length l.rest
