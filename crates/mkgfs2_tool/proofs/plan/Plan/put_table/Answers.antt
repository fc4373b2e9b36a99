use Rattle.std.proofs.Common.{◌≡◌, ◌+◌, ◌*◌, sym, ap, ◌∙◌, arith}
use Rattle.std.specs.Int.{w64, to_be_bytes}
use Rattle.gfs2_layout.specs.Bytes.{put_at}
use Rattle.mkgfs2_tool.specs.Groups.{data_address}
use Rattle.mkgfs2_tool.specs.Order.{leaf_place}
use Rattle.mkgfs2_tool.specs.Hashing.{leaf_of_pointer, table_bytes}
use Rattle.mkgfs2_tool.proofs.PutLaws.{put_none}
use Rattle.mkgfs2_tool.proofs.PointerLaws.{table_part, table_more}
use Rattle.mkgfs2_tool.proofs.plan.Plan.put_table.Goals as goal

pub loop-n-init : goal.loop-n-init
loop-n-init c = sym (put_none 232 c.args.block.now)

pub loop-n-preserved : goal.loop-n-preserved
loop-n-preserved c =
    c.put_bytes.ensures
    ∙ ap (λ b. put_at (232 + 8 * c.loop-n.n) b c.loop-n.block) (c.to_be_bytes.ensures ∙ ap (to_be_bytes w64) (c.data_address-address.ensures
    ∙ ap (data_address c.args.self.now) (c.leaf_place.ensures.value ∙ ap (leaf_place c.args.self.now) c.leaf_of_pointer.ensures.value)))
    ∙ ap (put_at (232 + 8 * c.loop-n.n) (to_be_bytes w64 (data_address c.args.self.now (leaf_place c.args.self.now (leaf_of_pointer c.args.self.now c.loop-n.n))))) c.loop-n.invariant
    ∙ table_more c.args.self.now c.loop-n.n c.args.block.now (omega (arith, c.requires.size, c.requires.plan.plan.size))

pub returns : goal.returns
unfolding table_bytes
returns c = let all : c.loop-n.n ≡ 32 = omega arith in c.loop-n.invariant ∙ ap (λ n. put_at 232 (table_part c.args.self.now n) c.args.block.now) all
