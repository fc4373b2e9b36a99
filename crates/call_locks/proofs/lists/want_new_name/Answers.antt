use Rattle.call_locks.proofs.Paths.{ok_new}
use Rattle.call_locks.proofs.lists.want_new_name.Goals as goal

pub returns : goal.returns
returns c = ok_new c.want_way.result c.args.path.now c.args.wants.now.items c.want_way.new.wants.items c.depth_of-depth.result c.depth_of-depth.ensures c.if-depth-eq0.false c.want_way.ensures
