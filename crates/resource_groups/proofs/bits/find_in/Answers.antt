use Rattle.std.proofs.Common.{refl, sym, ◌∙◌, arith}
use Rattle.resource_groups.proofs.Bytes.{past_byte, none_free}
use Rattle.resource_groups.proofs.bits.find_in.Goals as goal

pub loop-place-preserved-then-free_in_byte-eq0 : goal.loop-place-preserved-then-free_in_byte-eq0
loop-place-preserved-then-free_in_byte-eq0 c = record {
  low = omega (arith, c.loop-place.invariant.low);
  none = past_byte c.args.bits.now c.args.from c.loop-place.place _ refl c.loop-place.invariant.none (none_free _ (sym c.free_in_byte.ensures.value ∙ c.if-free_in_byte-eq0.true));
}
