use Rattle.journal_scan.proofs.Steps.{IsOn}
use Rattle.journal_scan.proofs.scanning.scan_from.Given as goal

abbrev pub invariant-loop-taken : goal.invariant-loop-taken
invariant-loop-taken l = IsOn l.j l.tail l.count l.place l.taken l.scan
