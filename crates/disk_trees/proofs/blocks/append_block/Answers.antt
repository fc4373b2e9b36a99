use Rattle.std.proofs.Common.{◌∙◌}
use Rattle.disk_trees.proofs.FirstBlocks.{one_read}
use Rattle.disk_trees.proofs.blocks.append_block.Goals as goal

pub returns-clause-blocks : goal.returns-clause-blocks
returns-clause-blocks g c are =
    one_read (g.D.SharedDisk.state c.args.disk.now) c.args.number c.args.bytes.now.items c.read_block.new.into _ c.requires.idle
    (c.read_block.auto.into ∙ c.requires.size) c.in-Ok.ensures.bytes c.in_ok-extend_from_slice.ensures.items are
