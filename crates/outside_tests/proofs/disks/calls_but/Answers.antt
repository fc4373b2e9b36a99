use Rattle.std.proofs.Common.{List, length, ap, ◌∙◌, arith}
use Rattle.shared_disk.specs.Disk.{DiskState, Flight, flight_to}
use Rattle.outside_tests.proofs.disks.calls_but.Goals as goal

pub write-requires-clause-free : goal.write-requires-clause-free
write-requires-clause-free c =
    let held = ap (λ (s : DiskState). s.in_flight 1) c.read_four.ensures ∙ c.in_ok-disk.ensures.2.none_in_flight 1 in
    ap (λ (fs : List Flight). flight_to fs 2) held

pub write-requires-clause-room : goal.write-requires-clause-room
write-requires-clause-room c =
    let held = ap (λ (s : DiskState). s.in_flight 1) c.read_four.ensures ∙ c.in_ok-disk.ensures.2.none_in_flight 1 in
    omega (arith, ap (λ (fs : List Flight). length fs) held)
