use Rattle.std.proofs.Common.{◌∙◌, ap, IsTrue, arith}
use Rattle.image_mount.specs.declared.field.Field.TheVariants as field
use Rattle.image_mount.specs.declared.fault.MountFault.TheVariants as fault
use Rattle.image_mount.proofs.Causes.{wrong_fs, wrong_multihost, wrong_bsize, wrong_shift, right_format, lacks}
use Rattle.image_mount.proofs.formats.check_formats.Goals as goal

pub returns-then-superblock-ne1801-clause-refused : goal.returns-then-superblock-ne1801-clause-refused
returns-then-superblock-ne1801-clause-refused c im super read of = wrong_fs im _ c.args.superblock.now super read (c.outside.ensures ∙ ap (fault.NotProfile field.FsFormat) c.from.ensures) c.if-superblock-ne1801.true

pub returns-then-superblock-ne1900-clause-refused : goal.returns-then-superblock-ne1900-clause-refused
returns-then-superblock-ne1900-clause-refused c im super read of =
    wrong_multihost im _ c.args.superblock.now super read (c.outside-then-superblock-ne1900.ensures ∙ ap (fault.NotProfile field.MultihostFormat) c.from-then-superblock-ne1900.ensures) c.if-superblock-ne1801.false c.if-superblock-ne1900.true

pub returns-then-superblock-size-clause-refused : goal.returns-then-superblock-size-clause-refused
returns-then-superblock-size-clause-refused c im super read of =
    wrong_bsize im _ c.args.superblock.now c.args.size super read of (c.outside-then-superblock-size.ensures ∙ ap (fault.NotProfile field.Bsize) c.from-then-superblock-size.ensures) c.if-superblock-ne1801.false c.if-superblock-ne1900.false c.if-superblock-size.true

pub returns-then-not-is_shift-clause-refused : goal.returns-then-not-is_shift-clause-refused
returns-then-not-is_shift-clause-refused c im super read of =
    wrong_shift im _ c.args.superblock.now c.args.size super read of (c.outside-then-not-is_shift.ensures ∙ ap (fault.NotProfile field.BsizeShift) c.from-then-not-is_shift.ensures) c.if-superblock-ne1801.false c.if-superblock-ne1900.false c.if-superblock-size.false
    (lacks c.is_shift.result c.is_shift.ensures c.if-not-is_shift.true)

pub returns-clause-format : goal.returns-clause-format
returns-clause-format c im super read of =
    let yes : IsTrue c.is_shift.result = grind (arith, c.if-not-is_shift.false) in
    right_format im c.args.superblock.now c.args.size super read of c.if-superblock-ne1801.false c.if-superblock-ne1900.false c.if-superblock-size.false (c.is_shift.ensures.0 yes)
