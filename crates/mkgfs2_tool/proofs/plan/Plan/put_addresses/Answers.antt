use Rattle.std.proofs.Common.{◌≡◌, ◌+◌, ◌*◌, sym, ap, ◌∙◌, arith}
use Rattle.std.specs.Int.{w64, to_be_bytes}
use Rattle.mkgfs2_tool.specs.Groups.{data_address}
use Rattle.std.specs.List.{range_with_len}
use Rattle.gfs2_layout.specs.Bytes.{put_at}
use Rattle.mkgfs2_tool.specs.Blocks.{addresses}
use Rattle.mkgfs2_tool.proofs.PutLaws.{put_none}
use Rattle.mkgfs2_tool.proofs.PointerLaws.{address_more}
use Rattle.mkgfs2_tool.proofs.plan.Plan.put_addresses.Goals as goal

pub loop-n-init : goal.loop-n-init
loop-n-init c = sym (put_none c.args.at c.args.block.now)

pub loop-n-preserved : goal.loop-n-preserved
loop-n-preserved c =
    c.put_bytes.ensures
    ∙ ap (λ b. put_at (c.args.at + 8 * c.loop-n.n) b c.loop-n.block) (c.to_be_bytes.ensures ∙ ap (to_be_bytes w64) c.data_address-address.ensures)
    ∙ ap (put_at (c.args.at + 8 * c.loop-n.n) (to_be_bytes w64 (data_address c.args.self.now (c.args.place + (c.args.first + c.loop-n.n))))) c.loop-n.invariant
    ∙ address_more c.args.self.now c.args.at c.args.place c.args.first c.loop-n.n c.args.block.now (omega arith)

pub returns : goal.returns
returns c = let all : c.loop-n.n ≡ c.args.count = omega arith in c.loop-n.invariant ∙ ap (λ n. put_at c.args.at (addresses c.args.self.now c.args.place (range_with_len c.args.first n)) c.args.block.now) all
