use Rattle.std.proofs.Common.{ap, ap₂, ◌∙◌, arith}
use Rattle.gfs2_layout.specs.Structures.{dinode_length}
use Rattle.dinode_tree.specs.Pads.{dinode_over}
use Rattle.linear_dirs.proofs.Looked.{over_mid, rest_is, rest_put}
use Rattle.writing_calls.specs.Contents.{area_after}
use Rattle.writing_calls.proofs.stuffed.write_block.Goals as goal

pub returns-clause-area : goal.returns-clause-area
returns-clause-area c =
    c.write.ensures.behind ∙ rest_put dinode_length c.args.block.now c.write_area.new.area (omega (arith, c.requires.content)) ∙ c.write_area.ensures
    ∙ ap (area_after c.args.at c.args.new.now c.args.dinode.now.size) (rest_is dinode_length c.args.block.now)

pub returns-clause-bytes : goal.returns-clause-bytes
returns-clause-bytes c =
    let after = area_after c.args.at c.args.new.now c.args.dinode.now.size in
    c.write.ensures.bytes ∙ over_mid c.dinode_with.result c.args.block.now c.write_area.new.area
    ∙ ap₂ (λ d area. dinode_over d c.args.block.now area) c.dinode_with.ensures (c.write_area.ensures ∙ ap after (rest_is dinode_length c.args.block.now))
