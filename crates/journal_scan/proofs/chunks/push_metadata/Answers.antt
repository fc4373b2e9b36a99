use Rattle.std.proofs.Common.{◌+◌, ◌*◌, ◌++◌, ap, sym, ◌∙◌, ◌≡◌, arith}
use Rattle.std.specs.Prelude.{map}
use Rattle.std.specs.List.{range_with_len}
use Rattle.gfs2_layout.specs.Bytes.{u64_at}
use Rattle.log_layout.specs.declared.due.Due.TheVariants as variant
use Rattle.journal_scan.proofs.Grown.{grown, map_twice}
use Rattle.journal_scan.proofs.chunks.push_metadata.Goals as goal

pub loop-i-preserved : goal.loop-i-preserved
loop-i-preserved c =
    grown (λ i. variant.Metadata (u64_at (72 + 8 * i) c.args.block.now)) c.loop-i.i c.args.due.now.items c.loop-i.due.items c.push_back.new.self.items (variant.Metadata c.u64_at.result)
    c.loop-i.invariant c.in_ok-push_back.ensures.items (ap variant.Metadata c.u64_at.ensures)

pub returns : goal.returns
returns c =
    let all : c.loop-i.i ≡ c.args.entries = omega (arith, c.loop-i-test.false, c.loop-i.auto.i-end) in
    c.loop-i.invariant
    ∙ (λ t. c.args.due.now.items ++ map (λ i. variant.Metadata (u64_at (72 + 8 * i) c.args.block.now)) (range_with_len 0 (all t)))
    ∙ ap (λ l. c.args.due.now.items ++ l) (sym (map_twice variant.Metadata (λ i. u64_at (72 + 8 * i) c.args.block.now) (range_with_len 0 c.args.entries)))
