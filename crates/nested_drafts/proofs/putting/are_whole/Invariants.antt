use Rattle.std.proofs.Common.{◌≡◌, length, take}
use Rattle.std.specs.Prelude.{Contains}
use Rattle.drafts.specs.declared.change.Written.{Written}
use Rattle.nested_drafts.proofs.putting.are_whole.Given as goal

abbrev pub invariant-loop-one : goal.invariant-loop-one
invariant-loop-one l = (w : Written) → Contains (take l.one-index l.blocks) w → length w.bytes ≡ l.size
