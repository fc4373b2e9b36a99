use Rattle.std.proofs.Common.{arith}
use Rattle.hash_dirs.proofs.Indexes.{bits_low}
use Rattle.hash_dirs.proofs.finding.index_of.Goals as goal

pub returns-clause-low : goal.returns-clause-low
returns-clause-low c = bits_low c.args.depth c.from.result (omega arith) (omega (arith, c.from.ensures, c.ranges.hash.fits))
