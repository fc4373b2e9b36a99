use Rattle.std.proofs.Common.{◌≡◌, ◌∙◌, ap, arith, subst, sym}
use Rattle.std.specs.Int.{w64}
use Rattle.gfs2_layout.specs.Bytes.{with_number}
use Rattle.gfs2_layout.specs.Area.{IsArea, slots_of}
use Rattle.gfs2_layout.proofs.Records.{area_on, record_length}
use Rattle.gfs2_layout.proofs.Cut.{emptied_here}
use Rattle.gfs2_layout.proofs.cutting.empty_here.Goals as goal

pub put_u64-requires : goal.put_u64-requires
put_u64-requires c = let long = record_length c.args.bytes.now (area_on c.args.bytes.now c.requires.some c.requires.area).good in omega (arith, long.0, long.1)

pub put_u64-requires-2 : goal.put_u64-requires-2
put_u64-requires-2 c = let long = record_length c.args.bytes.now (area_on c.args.bytes.now c.requires.some c.requires.area).good in omega (arith, long.0, long.1)

pub returns : goal.returns
returns c =
    let put = emptied_here c.args.bytes.now c.requires.area c.requires.some in
    let is : c.put_u64-2.new.bytes ≡ with_number w64 8 0 (with_number w64 0 0 c.args.bytes.now) = c.put_u64-2.ensures.bytes ∙ ap (with_number w64 8 0) c.put_u64.ensures.bytes in
    record { slots = ap slots_of is ∙ put.slots; area = subst IsArea (sym is) put.area }
