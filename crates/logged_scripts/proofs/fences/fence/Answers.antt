use Rattle.std.proofs.Common.{sym, subst, arith}
use Rattle.logged_scripts.specs.declared.ends.RunEnd.{RunEnd}
use Rattle.logged_scripts.specs.Ends.{HasCause}
use Rattle.logged_scripts.proofs.Fenced.{cause_of_fence}
use Rattle.logged_scripts.proofs.fences.fence.Goals as goal

pub returns-in-Err-clause-ends : goal.returns-in-Err-clause-ends
returns-in-Err-clause-ends g c = record { why = c.in-Err.end; is = c.end_of_fence.ensures; ends = c.in-Err.ensures.ends }

pub returns-in-Err-clause-cause : goal.returns-in-Err-clause-cause
returns-in-Err-clause-cause g c =
    let before = g.D.SharedDisk.faults c.args.disk.now in
    let now = g.D.SharedDisk.faults c.fence_crashed.new.disk in
    let count = (g.D.SharedDisk.state c.args.disk.now).count in
    subst (λ (e : RunEnd). HasCause count c.args.journal.now before now e) (sym c.end_of_fence.ensures)
    (cause_of_fence count c.args.journal.now before before now c.in-Err.end (λ i. omega arith) c.in-Err.ensures.cause)
