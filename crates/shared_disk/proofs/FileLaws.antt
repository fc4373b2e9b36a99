-- Places of blocks in a file.
use Rattle.std.proofs.Common.{◌≡◌, ℕ, ◌*◌, ◌^◌, ◌<◌, ◌≤◌, true, false, List, [], get_or, ap, ◌∙◌, arith}
use Rattle.std.specs.List.{AllByRecursion}
use Rattle.shared_disk.specs.Disk.{DiskState, Flight, AreFlights, after_fence, with_value}
use Rattle.shared_disk.specs.Files.{file_state}
use Rattle.shared_disk.specs.Nodes.{NodeStates, AreNodes, flights_of, with_flights, with_fence}
use Rattle.shared_disk.proofs.StateLaws.{disk_with_flights, disk_with_fence}
use Rattle.shared_disk.specs.Places.{flight_at, flights_at}
use Rattle.shared_disk.specs.declared.places.Place.{Place}
use Rattle.shared_disk.proofs.BlockLaws.{next_block}
use Rattle.shared_disk.proofs.FlightLaws.{all_weaken, all_map}

-- the place of each block that is in flight fits
pub offsets_fit : (count size : ℕ) (bytes : List ℕ) (places : List Place) → AreFlights count size (flights_at size bytes places) → count * size < 2 ^ 64 → AllByRecursion (λ p. p.block * size < 2 ^ 64) places
offsets_fit count size bytes places h whole =
    all_weaken (λ (p : Place). p.block < count) (λ (p : Place). p.block * size < 2 ^ 64) (λ p below. let step = next_block p.block count size below in omega arith) places (all_map (λ (f : Flight). f.block < count) (flight_at size bytes) places h.within)

-- the state of a file's disk after a fence
pub fence_state : (n : NodeStates) (node : ℕ) → AreNodes n → node ≤ 8 → file_state (with_fence (with_flights n node []) node true) ≡ after_fence (file_state n) node (flights_of n.flights node)
fence_state n node sound within =
    disk_with_fence false (λ block. []) (with_flights n node []) node true (omega (arith, sound.fences))
    ∙ ap (λ (s : DiskState). record s { is_fenced = with_value (λ i. get_or n.fenced i false) node true }) (disk_with_flights false (λ block. []) n node [] (omega (arith, sound.queues)))
