-- A disk in memory that was just made.
use Rattle.std.specs.Prelude.{ℕ, ◌/◌, List, [], length, None}
use Rattle.shared_disk.specs.Memory.{MemoryDisk}
use Rattle.shared_disk.specs.Nodes.{fresh}

-- the disk of these bytes, in blocks of so many: no call was made, and none fails
abbrev pub made_of : ℕ → List ℕ → MemoryDisk
made_of size bytes = record { nodes = fresh (length bytes / size) size; bytes = bytes; calls = 0; fails = []; outcomes = []; recorded = 0; list = None }
