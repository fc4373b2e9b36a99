-- The rows compute.
use Rattle.std.proofs.Common.{refl}
use Rattle.run_rules.specs.Heads.{RowsOfHeads, EachLossHasALife, RowsOfRecoveries}

pub rows : RowsOfHeads
rows = record { new = refl; old = refl; base = refl; unnamed = refl; clean = refl; replays = refl; early = refl; silent = refl; behind = refl; second = refl; lives = refl; next = refl }

pub each_has_a_life : EachLossHasALife
each_has_a_life behind right = let r = right 6 1 0 refl in let e = r.1 in cc

pub recoveries : RowsOfRecoveries
recoveries = record { once = refl; twice = refl; dirty = refl; two = refl; second = refl; silent = refl; more = refl; other = refl; late = refl; last = refl; over = refl }
