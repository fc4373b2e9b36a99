use Rattle.std.proofs.Common.{refl, arith}
use Rattle.file_tests.proofs.groups.a_block_is_not_taken_where_none_is_counted.Goals as goal

pub set_state-requires-clause-block : goal.set_state-requires-clause-block
set_state-requires-clause-block g c = (record { addr = 130; length = 1; first = 131; count = 8 }, (0, omega arith, refl), record { low = omega arith; high = omega arith })
