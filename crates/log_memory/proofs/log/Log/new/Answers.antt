use Rattle.log_memory.proofs.NewLogs.{new_gives}
use Rattle.log_memory.proofs.log.Log.new.Goals as goal

pub invariant_of-result : goal.invariant_of-result
invariant_of-result c =
    let sets = c.in_ok-gone in
    let lists = c.in_ok-revokes in
    (new_gives c.args.journal c.args.head c.args.sequence lists.field-0.revokes lists.field-0.content lists.field-0.metadata c.in_ok-tables.tables sets.field-0.gone sets.field-0.revoked
    c.requires.journal c.requires.head c.in_ok-tables.ensures sets.ensures.gone sets.ensures.revoked
    lists.ensures.revokes.items lists.ensures.revokes.capacity lists.ensures.content.items lists.ensures.content.capacity lists.ensures.metadata.items lists.ensures.metadata.capacity).0

pub returns : goal.returns
returns c =
    let sets = c.in_ok-gone in
    let lists = c.in_ok-revokes in
    (new_gives c.args.journal c.args.head c.args.sequence lists.field-0.revokes lists.field-0.content lists.field-0.metadata c.in_ok-tables.tables sets.field-0.gone sets.field-0.revoked
    c.requires.journal c.requires.head c.in_ok-tables.ensures sets.ensures.gone sets.ensures.revoked
    lists.ensures.revokes.items lists.ensures.revokes.capacity lists.ensures.content.items lists.ensures.content.capacity lists.ensures.metadata.items lists.ensures.metadata.capacity).1
