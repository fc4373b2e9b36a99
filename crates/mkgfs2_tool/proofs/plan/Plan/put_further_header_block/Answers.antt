use Rattle.std.proofs.Common.{◌≡◌, ◌+◌, ◌-◌, ◌*◌, length, ap, ◌∙◌, rules}
use Rattle.mkgfs2_tool.specs.Blocks.{bitmap, further_header_block}
use Rattle.mkgfs2_tool.proofs.PutLaws.{put_over}
use Rattle.mkgfs2_tool.proofs.plan.Plan.put_further_header_block.Goals as goal

pub returns : goal.returns
unfolding further_header_block
returns c =
    let size : length c.put_header.new.block ≡ c.args.self.now.size = search rules in
    let long : length c.put_bitmap.new.bytes ≡ length c.put_header.new.block - 24 = search rules in
    put_over 24 (length c.put_header.new.block - 24) c.put_header.new.block _ c.put_bitmap.new.bytes _ long c.put_header.ensures
    (c.put_bitmap.ensures ∙ ap (bitmap c.args.self.now c.args.group (c.args.self.now.size - 128 + (c.args.n - 1) * (c.args.self.now.size - 24))) {y = c.args.self.now.size - 24} (search (rules, size)))
