use Rattle.std.proofs.Common.{◌+◌, ◌-◌}
use Rattle.hash_inserts.proofs.counting.+count_from.Given as goal

abbrev pub decreases-count_from : goal.decreases-count_from
decreases-count_from l = 31 - (l.one.depth + l.one.table)
