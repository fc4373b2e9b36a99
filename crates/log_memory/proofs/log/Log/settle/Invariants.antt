use Rattle.std.proofs.Common.{◌≡◌}
use Rattle.log_values.specs.Log.{LogValue}
use Rattle.log_memory.proofs.Barriers.{IsSettledUpTo}
use Rattle.log_memory.proofs.log.Log.settle.Given as goal

abbrev pub invariant-loop-place : goal.invariant-loop-place
invariant-loop-place l = record {
  same : l.self ≡ (let n : LogValue = record l.initial.self { live = l.self.live } in n);
  settled : IsSettledUpTo l.initial.self l.self.live l.place;
}
