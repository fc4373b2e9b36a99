use Rattle.std.proofs.Common.{◌<◌, ◌≤◌, ◌^◌, sym, subst}
use Rattle.hash_dirs.proofs.Indexes.{run_end, run_further, run_within}
use Rattle.hash_dirs.proofs.listing.behind_run.Goals as goal

pub returns-clause-value : goal.returns-clause-value
returns-clause-value c = run_end c.args.index c.args.table c.args.depth c.requires.depth c.requires.table c.requires.low

pub returns-clause-more : goal.returns-clause-more
returns-clause-more c = subst (λ n. c.args.index < n) (sym (run_end c.args.index c.args.table c.args.depth c.requires.depth c.requires.table c.requires.low)) (run_further c.args.index c.args.table c.args.depth)

pub returns-clause-within : goal.returns-clause-within
returns-clause-within c = subst (λ n. n ≤ 2 ^ c.args.table) (sym (run_end c.args.index c.args.table c.args.depth c.requires.depth c.requires.table c.requires.low)) (run_within c.args.index c.args.table c.args.depth c.requires.depth c.requires.low)
