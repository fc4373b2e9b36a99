use Rattle.std.proofs.Common.{ap, ◌∙◌}
use Rattle.gfs2_layout.specs.Bytes.{put_at}
use Rattle.gfs2_layout.specs.Writing.{dinode_put}
use Rattle.mkgfs2_tool.specs.Blocks.{dinode, dinode_block, system_file, zeros}
use Rattle.mkgfs2_tool.proofs.plan.Plan.put_stuffed.Goals as goal

pub returns : goal.returns
unfolding dinode_block
returns c =
    c.put_bytes.ensures
    ∙ ap (put_at 232 c.args.entries.now) c.put_dinode.ensures
    ∙ ap (λ d. put_at 232 c.args.entries.now (dinode_put d (zeros c.args.self.now)))
    (c.dinode-dinode.ensures ∙ ap (dinode c.args.self.now 3 2) (c.system_file.ensures ∙ ap system_file c.group_list.ensures.value))
