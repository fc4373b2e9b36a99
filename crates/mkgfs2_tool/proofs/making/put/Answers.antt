use Rattle.std.proofs.Common.{◌+◌, ◌∙◌, ap, arith, length}
use Rattle.shared_disk.specs.Disk.{DiskState}
use Rattle.mkgfs2_tool.proofs.FlightLaws.{none_to, length-with}
use Rattle.mkgfs2_tool.proofs.DiskLaws.{begun, wrote_so, failed_write}
use Rattle.mkgfs2_tool.proofs.making.put.Goals as goal

pub returns-in_err-in_flight-clause-begun : goal.returns-in_err-in_flight-clause-begun
returns-in_err-in_flight-clause-begun g c = λ p old list bytes differs within made.
    begun p old _ list _ c.args.block (c.make_room.ensures.made p old list c.args.block made) (omega (arith, within))

pub put_in_flight-requires-clause-free : goal.put_in_flight-requires-clause-free
put_in_flight-requires-clause-free g c = none_to c.args.block _ (c.make_room.ensures.below c.args.block c.requires.below)

pub returns-in_err-put_in_flight-clause-begun : goal.returns-in_err-put_in_flight-clause-begun
returns-in_err-put_in_flight-clause-begun g c = λ p old list bytes differs within made.
    failed_write p old _ _ list _ _ c.args.block c.args.bytes.now bytes c.in_err-put_in_flight.ensures.err within differs (c.make_room.ensures.made p old list c.args.block made)

pub returns-clause-room : goal.returns-clause-room
returns-clause-room g c =
    let before = c.in_ok-in_flight.ensures.room in
    let longer = ap (λ (s : DiskState). length (s.in_flight 0)) c.in_ok-put_in_flight.ensures.ok.0 ∙ length-with _ (record { block = c.args.block; bytes = c.args.bytes.now }) (c.make_room.ensures.below c.args.block c.requires.below) in
    (omega (arith, before.0), longer ∙ ap (λ n. n + 1) before.1)

pub returns-clause-made : goal.returns-clause-made
returns-clause-made g c = λ p old list bytes differs within made.
    wrote_so p old _ _ list _ _ c.args.block c.args.bytes.now bytes c.in_ok-put_in_flight.ensures.ok.0 c.in_ok-put_in_flight.ensures.ok.1 within differs (c.make_room.ensures.made p old list c.args.block made)

pub returns-clause-begun : goal.returns-clause-begun
returns-clause-begun g c = λ p old list bytes differs within made.
    begun p old _ list _ (c.args.block + 1) (wrote_so p old _ _ list _ _ c.args.block c.args.bytes.now bytes c.in_ok-put_in_flight.ensures.ok.0 c.in_ok-put_in_flight.ensures.ok.1 within differs
    (c.make_room.ensures.made p old list c.args.block made)) (omega (arith, within))
