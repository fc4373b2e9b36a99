use Rattle.std.proofs.Common.{◌∙◌}
use Rattle.journal_reads.proofs.FirstPlaces.{one_more}
use Rattle.journal_reads.proofs.blocks.append_block.Goals as goal

pub returns-clause-blocks : goal.returns-clause-blocks
returns-clause-blocks g c are =
    one_more (g.D.SharedDisk.state c.args.disk.now) c.args.node c.args.blocks.now c.args.place c.args.bytes.now.items c.read_block.new.into _ (c.read_block.auto.into ∙ c.requires.size)
    c.in-Ok.ensures.bytes c.in_ok-extend_from_slice.ensures.items are
