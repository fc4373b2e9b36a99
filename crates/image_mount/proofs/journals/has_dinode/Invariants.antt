use Rattle.std.proofs.Common.{◌≡◌, ◌≢◌, ◌<◌, ℕ, Some}
use Rattle.std.specs.Prelude.{slice_get}
use Rattle.image_mount.specs.declared.journals.Ring.{Ring}
use Rattle.image_mount.proofs.journals.has_dinode.Given as goal

abbrev pub invariant-loop-ring : goal.invariant-loop-ring
invariant-loop-ring l = (i : ℕ) (r : Ring) → i < l.ring-index → slice_get l.rings i ≡ Some r → r.dinode ≢ l.block
