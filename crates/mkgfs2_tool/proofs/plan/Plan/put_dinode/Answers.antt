use Rattle.std.proofs.Common.{ap, ◌∙◌}
use Rattle.gfs2_layout.specs.Writing.{dinode_put}
use Rattle.mkgfs2_tool.proofs.plan.Plan.put_dinode.Goals as goal

pub returns : goal.returns
returns c = c.write.ensures.bytes ∙ ap (dinode_put c.args.dinode) c.clear.ensures
