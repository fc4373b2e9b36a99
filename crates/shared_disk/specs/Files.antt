-- The state of a disk over a file, which tells nothing of its blocks.
use Rattle.std.specs.Prelude.{false, []}
use Rattle.shared_disk.specs.Disk.{DiskState}
use Rattle.shared_disk.specs.Nodes.{NodeStates, disk_of}

abbrev pub file_state : NodeStates → DiskState
file_state n = disk_of false (λ block. []) n
