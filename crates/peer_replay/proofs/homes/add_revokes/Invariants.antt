use Rattle.std.proofs.Common.{◌≡◌, ℕ, List, take}
use Rattle.revoke_table.specs.Revokes.{all_revoked}
use Rattle.peer_replay.specs.Plans.{revokes_onto}
use Rattle.peer_replay.proofs.homes.add_revokes.Given as goal

abbrev pub invariant-loop-block : goal.invariant-loop-block
invariant-loop-block l = (rs : List (ℕ × ℕ)) → l.initial.table ≡ all_revoked rs → l.table ≡ all_revoked (revokes_onto l.sequence (take l.block-index l.blocks) rs)
