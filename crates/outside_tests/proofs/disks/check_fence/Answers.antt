use Rattle.std.proofs.Common.{List, [], ◌∷◌, length, ap, ◌∙◌, arith}
use Rattle.shared_disk.specs.Disk.{DiskState, Flight, flight_to, with_flight}
use Rattle.outside_tests.proofs.disks.check_fence.Goals as goal

pub put-requires-2-clause-free : goal.put-requires-2-clause-free
put-requires-2-clause-free g c =
    let held = ap (λ (s : DiskState). s.in_flight 2) c.put.ensures ∙ ap (λ (fs : List Flight). with_flight fs (record { block = 2; bytes = 70 ∷ 70 ∷ 70 ∷ 70 ∷ [] })) (c.in_ok-disk.ensures.2.none_in_flight 2) in
    ap (λ (fs : List Flight). flight_to fs 0) held

pub put-requires-2-clause-room : goal.put-requires-2-clause-room
put-requires-2-clause-room g c =
    let held = ap (λ (s : DiskState). s.in_flight 2) c.put.ensures ∙ ap (λ (fs : List Flight). with_flight fs (record { block = 2; bytes = 70 ∷ 70 ∷ 70 ∷ 70 ∷ [] })) (c.in_ok-disk.ensures.2.none_in_flight 2) in
    omega (arith, ap (λ (fs : List Flight). length fs) held)
