use Rattle.std.proofs.Common.{ap, ◌∙◌}
use Rattle.gfs2_layout.specs.Bytes.{put_at}
use Rattle.gfs2_layout.specs.Writing.{dinode_put}
use Rattle.mkgfs2_tool.specs.Files.{children}
use Rattle.mkgfs2_tool.specs.Blocks.{addresses, dinode, dinode_block, pointing_dinode, zeros}
use Rattle.mkgfs2_tool.proofs.plan.Plan.put_pointing_dinode.Goals as goal

pub returns : goal.returns
unfolding pointing_dinode dinode_block
returns c =
    let pointers = addresses c.args.self.now c.args.place (children c.args.shape 0 0) in
    c.put_children.ensures
    ∙ ap (put_at 232 pointers) c.put_dinode.ensures
    ∙ ap (λ d. put_at 232 pointers (dinode_put d (zeros c.args.self.now))) (c.dinode-dinode.ensures ∙ ap (dinode c.args.self.now c.args.number c.args.place) c.system_file.ensures)
