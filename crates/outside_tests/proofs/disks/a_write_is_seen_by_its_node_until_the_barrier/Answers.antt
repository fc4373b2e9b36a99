use Rattle.std.proofs.Common.{List, length, ap, ◌∙◌, arith}
use Rattle.shared_disk.specs.Disk.{DiskState, Flight, flight_to}
use Rattle.outside_tests.proofs.disks.a_write_is_seen_by_its_node_until_the_barrier.Goals as goal

pub put-requires-2-clause-free : goal.put-requires-2-clause-free
put-requires-2-clause-free g c =
    let held = ap (λ (s : DiskState). s.in_flight 0) c.read_four-2.ensures ∙ ap (λ (s : DiskState). s.in_flight 0) c.read_four.ensures ∙ ap (λ (s : DiskState). s.in_flight 0) c.put.ensures ∙ c.in_ok-disk.ensures.2.none_in_flight 0 in
    ap (λ (fs : List Flight). flight_to fs 1) held

pub put-requires-2-clause-room : goal.put-requires-2-clause-room
put-requires-2-clause-room g c =
    let held = ap (λ (s : DiskState). s.in_flight 0) c.read_four-2.ensures ∙ ap (λ (s : DiskState). s.in_flight 0) c.read_four.ensures ∙ ap (λ (s : DiskState). s.in_flight 0) c.put.ensures ∙ c.in_ok-disk.ensures.2.none_in_flight 0 in
    omega (arith, ap (λ (fs : List Flight). length fs) held)
