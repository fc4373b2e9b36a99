use Rattle.std.proofs.Common.{ℕ, ◌≡◌, ◌*◌, ◌/◌, ◌<◌, length}
use Rattle.gfs2_layout.specs.Bytes.{u64_at}
use Rattle.table_changes.proofs.doubling.each_twice.Given as goal

abbrev pub invariant-loop-k : goal.invariant-loop-k
invariant-loop-k l = record {
  long : length l.twice.items ≡ 8 * (2 * l.k);
  each : (i : ℕ) → i < 2 * l.k → u64_at (8 * i) l.twice.items ≡ u64_at (8 * (i / 2)) l.bytes;
}
