use Rattle.lone_runs.proofs.Apart.{apart_by_rise}
use Rattle.lone_runs.proofs.placing.are_apart.Goals as goal

pub returns : goal.returns
returns c =
    apart_by_rise c.rise.result c.args.blocks.now c.in_ok-sorted.sorted.items c.sort_unstable.new.self.items c.deref.result.now c.in_ok-sorted.ensures.items c.sort_unstable.ensures.permutation c.sort_unstable.ensures.sorted
    c.deref.ensures.value c.rise.ensures
