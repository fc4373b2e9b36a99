use Rattle.std.proofs.Common.{◌≡◌, length, take, refl, sym, ap, ◌∙◌, arith}
use Rattle.std.proofs.Math.Seq.{take-length}
use Rattle.mkgfs2_tool.specs.Blocks.{bitmap}
use Rattle.mkgfs2_tool.proofs.BitmapLaws.{byte_more}
use Rattle.mkgfs2_tool.proofs.plan.Plan.put_bitmap.Goals as goal

pub loop-n-init : goal.loop-n-init
loop-n-init c = refl

pub loop-n-preserved : goal.loop-n-preserved
loop-n-preserved c = byte_more c.args.self.now c.args.group c.args.start c.loop-n.n c.loop-n.bytes c.bitmap_byte.result (omega arith) c.loop-n.invariant c.bitmap_byte.ensures

pub returns : goal.returns
returns c =
    let all : c.loop-n.n ≡ length c.args.bytes.now = omega arith in
    let long : length c.loop-n.bytes ≡ c.loop-n.n = omega arith in
    sym (take-length c.loop-n.bytes) ∙ ap (λ n. take n c.loop-n.bytes) long ∙ c.loop-n.invariant ∙ ap (bitmap c.args.self.now c.args.group c.args.start) all
