use Rattle.std.proofs.Common.{◌-◌}
use Rattle.turn_pairs.proofs.raised_together.Given as goal

-- the gap is the distance at the start
abbrev pub ghosts-raised : goal.ghosts-raised
ghosts-raised g a = record { gap = a.high - a.low }
