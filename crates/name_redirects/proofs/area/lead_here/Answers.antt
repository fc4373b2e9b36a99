use Rattle.std.proofs.Common.{◌≡◌, ◌∙◌, ap, arith, subst, sym}
use Rattle.std.specs.Int.{w64}
use Rattle.gfs2_layout.specs.Bytes.{with_number}
use Rattle.gfs2_layout.specs.Area.{IsArea, slots_of}
use Rattle.name_redirects.specs.Leading.{with_inum}
use Rattle.gfs2_layout.proofs.Records.{area_on, record_length}
use Rattle.name_redirects.proofs.Led.{led_here}
use Rattle.name_redirects.proofs.area.lead_here.Goals as goal

pub put_number-requires : goal.put_number-requires
put_number-requires c = let long = record_length c.args.bytes.now (area_on c.args.bytes.now c.requires.some c.requires.area).good in omega (arith, long.0, long.1)

pub put_number-requires-2 : goal.put_number-requires-2
put_number-requires-2 c = let long = record_length c.args.bytes.now (area_on c.args.bytes.now c.requires.some c.requires.area).good in omega (arith, long.0, long.1)

pub returns : goal.returns
returns c =
    let put = led_here c.args.bytes.now c.args.inum.now c.requires.area c.requires.some c.requires.used c.put_number.ensures.width c.put_number-2.ensures.width in
    let is : c.put_number-2.new.bytes ≡ with_inum 0 c.args.inum.now c.args.bytes.now = c.put_number-2.ensures.bytes ∙ ap (with_number w64 8 c.args.inum.now.address) c.put_number.ensures.bytes in
    record { bytes = is; slots = ap slots_of is ∙ put.slots; area = subst IsArea (sym is) put.area }
