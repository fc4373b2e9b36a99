use Rattle.std.proofs.Common.{sym, subst₂}
use Rattle.pair_walks.specs.Turns.{IsTurn}
use Rattle.pair_walks.proofs.turns.turn_of.Goals as goal

pub returns-in-Inode-second : goal.returns-in-Inode-second
returns-in-Inode-second c = subst₂ (λ one two. IsTurn one two c.args.ends c.lesser.result) (sym c.in-Inode.is) (sym c.in-Inode-second.is) (c.lesser.ensures c.args.ends)
