use Rattle.std.proofs.Common.{ap, ◌∙◌}
use Rattle.gfs2_layout.specs.Writing.{superblock_put}
use Rattle.mkgfs2_tool.specs.Blocks.{superblock}
use Rattle.mkgfs2_tool.proofs.plan.Plan.put_superblock.Goals as goal

pub returns : goal.returns
returns c = c.write.ensures.bytes ∙ ap (λ s. superblock_put s c.clear.new.block) c.superblock.ensures ∙ ap (superblock_put (superblock c.args.self.now)) c.clear.ensures
