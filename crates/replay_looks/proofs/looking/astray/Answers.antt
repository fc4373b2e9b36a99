use Rattle.journal_reads.specs.Reading.{ring_read}
use Rattle.replay_looks.proofs.Stops.{hindered_stray}
use Rattle.replay_looks.proofs.looking.astray.Goals as goal

pub returns-in-Ok-clause-why : goal.returns-in-Ok-clause-why
returns-in-Ok-clause-why g c tells readable bytes live =
    hindered_stray (ring_read (g.D.SharedDisk.state c.args.disk.now) c.args.node c.args.blocks.now) c.args.dinode c.args.blocks.now c.args.number c.in-Ok.place bytes live (c.in-Ok.ensures.number tells readable bytes live)
