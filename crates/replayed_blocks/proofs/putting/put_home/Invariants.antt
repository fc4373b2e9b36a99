use Rattle.std.proofs.Common.{◌≡◌, ◌-◌, ℕ, length, drop}
use Rattle.std.specs.Prelude.{unwrap_or}
use Rattle.shared_disk.specs.Blocks.{block_in}
use Rattle.replayed_blocks.specs.Rows.{bytes_home}
use Rattle.replayed_blocks.proofs.putting.put_home.Given as goal

abbrev pub invariant-loop-done : goal.invariant-loop-done
invariant-loop-done l = record {
  long : length l.row ≡ length l.fn.row;
  blocks : (k : ℕ) → block_in l.size l.row k ≡ unwrap_or (bytes_home (drop (length l.home - l.done) l.home) k) (block_in l.size l.fn.row k);
}
