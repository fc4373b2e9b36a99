use Rattle.hash_dirs.proofs.Counted.{all_counted, counted_on, none_counted, there_is, too_many}
use Rattle.hash_dirs.proofs.gathering.have_records.Goals as goal

pub records_at-records-requires : goal.records_at-records-requires
records_at-records-requires g c = c.requires.read _ (there_is c.args.leaves.now c.loop-leaf.leaf-index c.loop-leaf-test.true)

pub loop-leaf-init : goal.loop-leaf-init
loop-leaf-init g c h shown are = none_counted h c.args.leaves.now c.args.count

pub returns-then-records-left : goal.returns-then-records-left
returns-then-records-left g c h shown are =
    too_many (g.V.View.seen c.args.view.now) c.args.dir c.args.leaves.now c.requires.read h shown are c.loop-leaf.leaf-index c.loop-leaf-test.true (there_is c.args.leaves.now c.loop-leaf.leaf-index c.loop-leaf-test.true)
    c.records_at-records.result c.records_at-records.ensures c.args.count c.loop-leaf.left c.if-records-left.true (c.loop-leaf.invariant h shown are)

pub loop-leaf-preserved : goal.loop-leaf-preserved
loop-leaf-preserved g c h shown are =
    counted_on (g.V.View.seen c.args.view.now) c.args.dir c.args.leaves.now c.requires.read h shown are c.loop-leaf.leaf-index c.loop-leaf-test.true (there_is c.args.leaves.now c.loop-leaf.leaf-index c.loop-leaf-test.true)
    c.records_at-records.result c.records_at-records.ensures c.args.count c.loop-leaf.left c.if-records-left.false (c.loop-leaf.invariant h shown are)

pub returns : goal.returns
returns g c h shown are =
    all_counted (g.V.View.seen c.args.view.now) c.args.dir c.args.leaves.now c.requires.read h shown are c.loop-leaf.leaf-index c.args.count c.loop-leaf.left c.loop-leaf-test.false (c.loop-leaf.invariant h shown are)
