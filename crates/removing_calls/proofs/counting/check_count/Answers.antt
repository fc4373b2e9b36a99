use Rattle.dinode_tree.proofs.Dinodes.{lacks}
use Rattle.removing_calls.proofs.Counts.{area_broken, count_right, count_wrong}
use Rattle.removing_calls.proofs.counting.check_count.Goals as goal

pub returns-then-not-is_area-clause-damaged : goal.returns-then-not-is_area-clause-damaged
returns-then-not-is_area-clause-damaged g c h shown =
    area_broken (g.V.View.seen c.args.view.now) h c.args.dir c.in-Some.bytes.now shown c.in-Some.ensures.some (c.requires.linear h shown) (lacks c.is_area.result c.is_area.ensures c.if-not-is_area.true)

pub returns-then-count_records-entries-clause-damaged : goal.returns-then-count_records-entries-clause-damaged
returns-then-count_records-entries-clause-damaged g c h shown =
    count_wrong (g.V.View.seen c.args.view.now) h c.args.dir c.in-Some.bytes.now shown c.in-Some.ensures.some (c.requires.linear h shown) c.count_records.result c.args.entries c.count_records.ensures
    (c.requires.entries h shown) c.if-count_records-entries.true

pub returns-clause-counted : goal.returns-clause-counted
returns-clause-counted g c h shown =
    count_right (g.V.View.seen c.args.view.now) h c.args.dir c.in-Some.bytes.now shown c.in-Some.ensures.some (c.requires.linear h shown) c.count_records.result c.args.entries c.count_records.ensures
    (c.requires.entries h shown) c.if-count_records-entries.false
