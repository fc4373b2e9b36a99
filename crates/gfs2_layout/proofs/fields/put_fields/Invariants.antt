use Rattle.std.proofs.Common.{◌≡◌, ◌≤◌, length, drop}
use Rattle.gfs2_layout.specs.Fields.{HasItsWidth, end_of, with_fields}
use Rattle.std.specs.List.{AllByRecursion}
use Rattle.gfs2_layout.proofs.fields.put_fields.Given as goal

abbrev pub invariant-loop-field : goal.invariant-loop-field
invariant-loop-field l = record {
  same : with_fields (drop l.field-index l.fields) l.bytes ≡ with_fields l.fields l.initial.bytes;
  widths : AllByRecursion HasItsWidth (drop l.field-index l.fields) → AllByRecursion HasItsWidth l.fields;
  room : end_of (drop l.field-index l.fields) ≤ length l.bytes;
}
