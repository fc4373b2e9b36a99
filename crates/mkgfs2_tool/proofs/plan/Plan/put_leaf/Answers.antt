use Rattle.std.proofs.Common.{◌≡◌, ◌-◌, length, rules}
use Rattle.mkgfs2_tool.specs.Blocks.{leaf_block}
use Rattle.mkgfs2_tool.proofs.PutLaws.{put_over}
use Rattle.mkgfs2_tool.proofs.plan.Plan.put_leaf.Goals as goal

pub returns : goal.returns
unfolding leaf_block
returns c =
    let long : length c.put_leaf_records.new.area ≡ length c.put_leaf_head.new.block - 104 = search rules in
    put_over 104 (length c.put_leaf_head.new.block - 104) c.put_leaf_head.new.block _ c.put_leaf_records.new.area _ long c.put_leaf_head.ensures c.put_leaf_records.ensures
