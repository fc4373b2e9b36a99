use Rattle.std.proofs.Common.{◌<◌, ◌^◌}
use Rattle.std.specs.List.{AllWithin}
use Rattle.drafts.specs.declared.change.Written.{Written}
use Rattle.log_widths.specs.Widths.{AreBytes}
use Rattle.loggable_changes.proofs.widths.have_widths.Given as goal

abbrev pub invariant-loop-written : goal.invariant-loop-written
invariant-loop-written l = record { numbers : AllWithin (λ (w : Written). w.block < 2 ^ 64) l.blocks 0 l.written-index; bytes : AllWithin (λ (w : Written). AreBytes w.bytes) l.blocks 0 l.written-index }
