-- The writes that slots hold.
use Rattle.std.specs.Prelude.{ℕ, ◌≡◌, List, length, map}
use Rattle.std.specs.List.{AllByRecursion}
use Rattle.shared_disk.specs.Disk.{Flight}
use Rattle.shared_disk.specs.declared.flights.Slot.{Slot}

abbrev pub flight_in : Slot → Flight
flight_in s = record { block = s.block; bytes = s.bytes.items }

abbrev pub flights_in : List Slot → List Flight
flights_in slots = map flight_in slots

-- the buffer of each slot has this length
abbrev pub AreSized : ℕ → List Slot → Type 0
AreSized size slots = AllByRecursion (λ s. length s.bytes.items ≡ size) slots
