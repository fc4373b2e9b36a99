use Rattle.log_tables.proofs.Steps.{new_gives}
use Rattle.log_tables.proofs.tables.Tables.new.Goals as goal

pub invariant_of-result : goal.invariant_of-result
invariant_of-result c =
    (new_gives c.args.frames c.args.size c.args.places c.requires.frames.1 c.in_ok-pool.pool c.in_ok-fresh.fresh c.in_ok-flushed.flushed c.in_ok-live.live c.in_ok-pool.ensures c.in_ok-fresh.ensures
    c.in_ok-flushed.ensures c.in_ok-live.ensures).0

pub returns : goal.returns
returns c =
    (new_gives c.args.frames c.args.size c.args.places c.requires.frames.1 c.in_ok-pool.pool c.in_ok-fresh.fresh c.in_ok-flushed.flushed c.in_ok-live.live c.in_ok-pool.ensures c.in_ok-fresh.ensures
    c.in_ok-flushed.ensures c.in_ok-live.ensures).1
