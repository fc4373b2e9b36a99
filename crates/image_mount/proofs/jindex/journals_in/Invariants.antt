use Rattle.std.proofs.Common.{◌≡◌, length}
use Rattle.image_mount.specs.System.{AreAmong}
use Rattle.image_mount.proofs.jindex.journals_in.Given as goal

abbrev pub invariant-loop-j : goal.invariant-loop-j
invariant-loop-j l = record {
  count : length l.journals.items ≡ l.j;
  among : AreAmong l.records l.journals.items;
}
