use Rattle.std.proofs.Common.{◌≡◌}
use Rattle.log_values.specs.Log.{LogValue}
use Rattle.log_memory.proofs.Revoking.{IsRevokedUpTo}
use Rattle.log_memory.proofs.log.Log.revoke_of.Given as goal

abbrev pub invariant-loop-place : goal.invariant-loop-place
invariant-loop-place l = record {
  same : l.self ≡ (let n : LogValue = record l.initial.self { gone = l.self.gone } in n);
  revoked : IsRevokedUpTo l.initial.self l.self.gone l.lock l.place;
}
