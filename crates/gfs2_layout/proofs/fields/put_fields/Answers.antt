use Rattle.std.proofs.Common.{length, sym, ◌∙◌, arith}
use Rattle.gfs2_layout.proofs.FieldsInPlace.{fields_on, room_for, no_fields, widths_on, widths_end}
use Rattle.gfs2_layout.specs.declared.fields.Number.TheVariants.{U16}
use Rattle.gfs2_layout.proofs.fields.put_fields.Goals as goal

pub loop-field-preserved : goal.loop-field-preserved
loop-field-preserved c =
    let room = room_for c.args.fields.now c.loop-field.field-index (0, U16 0) (length c.loop-field.bytes) c.loop-field-test.true c.loop-field.invariant.room in
    record {
      same = fields_on c.args.fields.now c.loop-field.field-index (0, U16 0) c.loop-field.bytes c.put_field.new.bytes _ c.loop-field-test.true c.put_field.ensures.bytes c.loop-field.invariant.same;
      widths = widths_on c.args.fields.now c.loop-field.field-index (0, U16 0) c.loop-field-test.true c.put_field.ensures.width c.loop-field.invariant.widths;
      room = omega (arith, room.1, c.put_field.auto.bytes);
    }

pub returns-clause-bytes : goal.returns-clause-bytes
returns-clause-bytes c = sym (no_fields c.args.fields.now c.loop-field.field-index c.loop-field.bytes c.loop-field-test.false) ∙ c.loop-field.invariant.same

pub returns-clause-widths : goal.returns-clause-widths
returns-clause-widths c = widths_end c.args.fields.now c.loop-field.field-index c.loop-field-test.false c.loop-field.invariant.widths
