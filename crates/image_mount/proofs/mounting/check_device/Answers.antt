use Rattle.std.proofs.Common.{sym, subst, arith}
use Rattle.image_mount.specs.Refusals.{IsOutside}
use Rattle.image_mount.specs.Refusals as outside
use Rattle.image_mount.specs.declared.field.Field.TheVariants as field
use Rattle.image_mount.proofs.Causes.{told_outside}
use Rattle.image_mount.proofs.mounting.check_device.Goals as goal

pub returns-then-count-gt-MOST_BLOCKS-clause-refused : goal.returns-then-count-gt-MOST_BLOCKS-clause-refused
returns-then-count-gt-MOST_BLOCKS-clause-refused c im same =
    told_outside im _ field.Device c.args.count c.outside.ensures (subst (IsOutside im field.Device) (sym same) (outside.device (omega (arith, c.if-count-gt-MOST_BLOCKS.true, same))))
