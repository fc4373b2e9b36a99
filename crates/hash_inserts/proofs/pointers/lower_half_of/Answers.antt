use Rattle.std.proofs.Common.{ℕ, ◌+◌, ◌-◌, ◌*◌, ◌/◌, ◌%◌, ◌^◌, ◌≤◌, arith}
use Rattle.std.proofs.Math.Pow.{pow_mono}
use Rattle.hash_steps.proofs.Indexes.{run_within}
use Rattle.hash_inserts.proofs.pointers.lower_half_of.Goals as goal

half_within : (q run half all : ℕ) → (q + 1) * run ≤ all → half ≤ run → q * run % 4294967296 + 1 * half % 4294967296 ≤ all
half_within q run half all within less = by (q * run) (omega (arith, within))
  where
    by : (n : ℕ) → n + run ≤ all → n % 4294967296 + 1 * half % 4294967296 ≤ all
    by n some = omega (arith, some, less)

pub returns-clause-within : goal.returns-clause-within
returns-clause-within c =
    let s : ℕ = c.args.table - c.args.depth in
    half_within (c.args.index / 2 ^ s) (2 ^ s) (2 ^ (s - 1)) (2 ^ c.args.table) (run_within c.args.index c.args.table c.args.depth (omega (arith, c.requires.depth)) c.requires.low) (pow_mono {i = s - 1} {j = s} (omega arith))
