use Rattle.std.proofs.Common.{◌≡◌, ℕ, ◌+◌, ◌*◌, ◌<◌}
use Rattle.gfs2_layout.specs.Bytes.{u64_at}
use Rattle.file_fills.proofs.numbers.has_pointer.Given as goal

abbrev pub invariant-loop-k : goal.invariant-loop-k
invariant-loop-k l = (k : ℕ) → k < l.k → u64_at (232 + 8 * k) l.bytes ≡ 0
