use Rattle.std.proofs.Common.{arith}
use Rattle.image_reader.proofs.Visits.{wrong_blocks}
use Rattle.image_reader.proofs.inode.Inode.check_blocks.Goals as goal

pub returns-then-self-eq0 : goal.returns-then-self-eq0
returns-then-self-eq0 c = record { damaged = wrong_blocks c.args.self.now _ c.args.beside c.damaged.ensures c.requires.inode c.requires.count (λ e. absurd (omega (arith, e, c.if-self-eq0.true))) }

pub returns-then-self-beside : goal.returns-then-self-beside
returns-then-self-beside c = record {
  damaged = wrong_blocks c.args.self.now _ c.args.beside c.damaged-then-self-beside.ensures c.requires.inode c.requires.count (λ e. c.if-self-beside.true (omega (arith, e, c.if-self-eq0.false)));
}
