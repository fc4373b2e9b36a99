use Rattle.std.proofs.Common.{◌≡◌, take}
use Rattle.std.specs.Prelude.{map}
use Rattle.glock_names.specs.Views.{group_of_entry}
use Rattle.image_mount.proofs.mounting.map_groups.Given as goal

abbrev pub invariant-loop-entry : goal.invariant-loop-entry
invariant-loop-entry l = l.groups.items ≡ map group_of_entry (take l.entry-index l.entries)
