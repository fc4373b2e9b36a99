use Rattle.std.proofs.Common.{refl, arith}
use Rattle.resource_groups.proofs.Bytes.{byte_more}
use Rattle.resource_groups.proofs.bits.count_in.Goals as goal

pub loop-byte-preserved : goal.loop-byte-preserved
loop-byte-preserved c =
    let more = byte_more c.args.bits.now c.loop-byte.byte-index _ refl in
    record {
      value = omega (arith, more, c.loop-byte.invariant.value, c.free_in_byte-free.ensures.value);
      most = omega (arith, c.loop-byte.invariant.most, c.free_in_byte-free.ensures.most);
    }
