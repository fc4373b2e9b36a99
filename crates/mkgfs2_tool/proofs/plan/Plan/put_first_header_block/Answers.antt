use Rattle.std.proofs.Common.{◌≡◌, ◌-◌, length, ap, ◌∙◌, rules}
use Rattle.mkgfs2_tool.specs.Blocks.{bitmap, first_header_block}
use Rattle.mkgfs2_tool.proofs.PutLaws.{put_over}
use Rattle.mkgfs2_tool.proofs.plan.Plan.put_first_header_block.Goals as goal

pub returns : goal.returns
unfolding first_header_block
returns c =
    let size : length c.put_group_header.new.block ≡ c.args.self.now.size = search rules in
    let long : length c.put_bitmap.new.bytes ≡ length c.put_group_header.new.block - 128 = search rules in
    put_over 128 (length c.put_group_header.new.block - 128) c.put_group_header.new.block _ c.put_bitmap.new.bytes _ long c.put_group_header.ensures
    (c.put_bitmap.ensures ∙ ap (bitmap c.args.self.now c.args.group 0) {y = c.args.self.now.size - 128} (search (rules, size)))
