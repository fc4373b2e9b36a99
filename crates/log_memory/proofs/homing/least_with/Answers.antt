use Rattle.std.proofs.Common.{◌+◌, ◌<◌, sym, ap, ◌∙◌, subst}
use Rattle.std.specs.FinMap as table
use Rattle.log_memory.specs.Locks.{IsLeastOf, lesser_of}
use Rattle.log_memory.proofs.LeastLocks.{with_away, with_other}
use Rattle.log_memory.proofs.RowsRead.{entry_at}
use Rattle.log_memory.proofs.homing.least_with.Goals as goal

pub returns-then-is_away : goal.returns-then-is_away
returns-then-is_away c =
    let es = table.entries c.args.tables.now.live in
    let row = entry_at es c.args.place (subst (λ n. c.args.place < n) (table.len-entries c.args.tables.now.live) c.requires.there) in
    subst (IsLeastOf es (c.args.place + 1)) (sym (c.lesser.ensures ∙ ap (lesser_of c.args.least) (c.live_lock.ensures row.0 row.1)))
    (with_away es c.args.place row.0 row.1 c.args.least c.requires.before (sym (c.is_away.ensures row.0 row.1) ∙ c.if-is_away.true))

pub returns-else-is_away : goal.returns-else-is_away
returns-else-is_away c =
    let es = table.entries c.args.tables.now.live in
    let row = entry_at es c.args.place (subst (λ n. c.args.place < n) (table.len-entries c.args.tables.now.live) c.requires.there) in
    with_other es c.args.place row.0 row.1 c.args.least c.requires.before (sym (c.is_away.ensures row.0 row.1) ∙ c.if-is_away.false)
