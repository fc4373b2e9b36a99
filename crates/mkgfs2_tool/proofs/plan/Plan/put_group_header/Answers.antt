use Rattle.std.proofs.Common.{ap, ◌∙◌}
use Rattle.gfs2_layout.specs.Writing.{group_put}
use Rattle.mkgfs2_tool.proofs.plan.Plan.put_group_header.Goals as goal

pub returns : goal.returns
returns c = c.write.ensures.bytes ∙ ap (λ h. group_put h c.clear.new.block) c.group_header.ensures ∙ ap (group_put _) c.clear.ensures
