use Rattle.std.proofs.Common.{length, ap, arith}
use Rattle.call_locks.proofs.Paths.{few_names}
use Rattle.call_locks.proofs.lists.depth_of.Goals as goal

pub overflow_cast-result : goal.overflow_cast-result
overflow_cast-result c = omega (arith, few_names c.args.path.now, ap length c.names.ensures.names)
