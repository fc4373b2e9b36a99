use Rattle.std.proofs.Common.{◌≡◌, [], take}
use Rattle.revoke_table.specs.Revokes.{all_revoked}
use Rattle.peer_replay.proofs.Revoking.{gathered}
use Rattle.peer_replay.proofs.homes.gather_revokes.Given as goal

abbrev pub invariant-loop-t : goal.invariant-loop-t
invariant-loop-t l = l.table ≡ all_revoked (gathered (take l.t-index l.transactions) [])
