use Rattle.std.proofs.Common.{◌-◌, ◌∙◌, ap, length, arith}
use Rattle.std.proofs.lemmas.List.{length-drop}
use Rattle.image_reader.specs.Reading.{image_at}
use Rattle.image_reader.proofs.GroupFaults.{bits_first, bits_more, bits_length}
use Rattle.image_reader.proofs.Listed.{behind}
use Rattle.image_reader.proofs.groups.read_bitmap.Goals as goal

pub loop-k-init : goal.loop-k-init
loop-k-init c =
    let cut = c.in_ok-bits.ensures.items ∙ behind 128 c.bytes.result.now in
    record {
      bits = bits_first c.args.image.now c.in-Some.first c.args.group.now c.bytes.result.now _ c.in-Some.ensures.some.0 c.in-Some.ensures.some.1 c.bytes.ensures.value cut;
      length = ap length cut ∙ length-drop 128 c.bytes.result.now ∙ omega (arith, c.bytes.ensures.size, ap (λ b. b.size) c.in-Some.ensures.some.1);
      some = omega arith;
    }

pub loop-k-preserved : goal.loop-k-preserved
loop-k-preserved c =
    let i = c.loop-k.invariant in
    record {
      bits = bits_more (image_at c.args.image.now) c.args.group.now c.loop-k.k _ _ i.some i.bits c.in_ok-add_bits.ensures.bits;
      length = bits_length _ _ (c.args.image.now.size - 128) c.loop-k.k (c.args.image.now.size - 24) i.some i.length c.in_ok-add_bits.ensures.length;
      some = omega arith;
    }
