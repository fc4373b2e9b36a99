use Rattle.std.proofs.Common.{◌≡◌, ◌<◌, ℕ, List, length, rules, sym, subst, arith}
use Rattle.std.proofs.lemmas.Bool.Decides.{nat_tests}
use Rattle.journal_reads.specs.Reading.{HasCause}
use Rattle.cluster_program.specs.Dirty.{IsUnreadHead}
use Rattle.cluster_program.proofs.Counts.{unread_head}
use Rattle.cluster_program.proofs.dirty.count_dirty.Goals as goal

pub returns-in-Err-clause-ends : goal.returns-in-Err-clause-ends
returns-in-Err-clause-ends g c =
    let low : c.loop-journal.journal-index < length c.args.journals.now = grind (arith, nat_tests) in
    let blocks : c.deref.result.now ≡ c.journal-item.result.blocks = search rules in
    let cause = subst (λ bs. HasCause bs (g.D.SharedDisk.faults c.loop-journal.disk 0) (g.D.SharedDisk.faults c.left_head.new.disk 0) c.in-Err.fault) blocks c.in-Err.ensures.cause in
    subst (IsUnreadHead c.args.journals.now (g.D.SharedDisk.faults c.args.disk.now 0) (g.D.SharedDisk.faults c.left_head.new.disk 0)) (sym c.unread.ensures)
    (unread_head c.args.journals.now c.loop-journal.journal-index c.journal-item.result c.in-Err.fault _ _ _ low c.journal-item.is (c.loop-journal.invariant.reads.later 0) cause)
