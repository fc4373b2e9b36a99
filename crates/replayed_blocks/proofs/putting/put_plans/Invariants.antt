use Rattle.std.proofs.Common.{◌≡◌, ◌-◌, ℕ, length, drop}
use Rattle.std.specs.Prelude.{unwrap_or}
use Rattle.shared_disk.specs.Blocks.{block_in}
use Rattle.image_replays.specs.Replays.{put_by}
use Rattle.replayed_blocks.proofs.putting.put_plans.Given as goal

abbrev pub invariant-loop-done : goal.invariant-loop-done
invariant-loop-done l = record {
  long : length l.row ≡ length l.fn.row;
  blocks : (k : ℕ) → block_in l.size l.row k ≡ unwrap_or (put_by (drop (length l.plans - l.done) l.plans) k) (block_in l.size l.fn.row k);
}
