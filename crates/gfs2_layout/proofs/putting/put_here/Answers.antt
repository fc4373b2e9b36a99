use Rattle.std.proofs.Common.{◌≤◌, length, rules, arith, refl}
use Rattle.gfs2_layout.specs.Structures.{dirent_of}
use Rattle.gfs2_layout.proofs.PutHere.{record_fits, whole_put, cut_fits, rest_put}
use Rattle.gfs2_layout.proofs.putting.put_here.Goals as goal

pub head-head-requires : goal.head-head-requires
head-head-requires c = (record_fits c.args.bytes.now c.args.name.now c.args.entry.now (dirent_of c.args.bytes.now) c.requires.area c.requires.some c.requires.entry c.requires.room refl).0

pub put_u16-requires : goal.put_u16-requires
put_u16-requires c =
    let long = (record_fits c.args.bytes.now c.args.name.now c.args.entry.now c.head-head.result c.requires.area c.requires.some c.requires.entry c.requires.room c.head-head.ensures).0 in
    omega (arith, long)

pub slice_bounds-write_record-count : goal.slice_bounds-write_record-count
slice_bounds-write_record-count c =
    (cut_fits c.args.bytes.now c.args.name.now c.args.entry.now c.head-head.result c.requires.area c.requires.some c.requires.entry c.requires.room c.head-head.ensures c.least_length-least.result c.least_length-least.ensures
    c.if-is_in_use.ensures c.put_u16.new.bytes c.put_u16.auto.bytes).0

pub slice_bounds-write_record-start : goal.slice_bounds-write_record-start
slice_bounds-write_record-start c =
    let inside : c.least_length-least.result ≤ length c.put_u16.new.bytes =
    (cut_fits c.args.bytes.now c.args.name.now c.args.entry.now c.head-head.result c.requires.area c.requires.some c.requires.entry c.requires.room c.head-head.ensures c.least_length-least.result c.least_length-least.ensures
    c.if-is_in_use.ensures c.put_u16.new.bytes c.put_u16.auto.bytes).0 in
    search rules

pub write_record-requires-clause-inside : goal.write_record-requires-clause-inside
write_record-requires-clause-inside c =
    (cut_fits c.args.bytes.now c.args.name.now c.args.entry.now c.head-head.result c.requires.area c.requires.some c.requires.entry c.requires.room c.head-head.ensures c.least_length-least.result c.least_length-least.ensures
    c.if-is_in_use.ensures c.put_u16.new.bytes c.put_u16.auto.bytes).1

pub write_record-requires-else-is_in_use-clause-inside : goal.write_record-requires-else-is_in_use-clause-inside
write_record-requires-else-is_in_use-clause-inside c =
    (record_fits c.args.bytes.now c.args.name.now c.args.entry.now c.head-head.result c.requires.area c.requires.some c.requires.entry c.requires.room c.head-head.ensures).1

pub returns-then-is_in_use : goal.returns-then-is_in_use
returns-then-is_in_use c =
    let put = rest_put c.args.bytes.now c.args.name.now c.args.entry.now c.head-head.result c.requires.area c.requires.some c.requires.entry c.requires.room c.head-head.ensures c.least_length-least.result c.least_length-least.ensures
    c.if-is_in_use.ensures c.put_u16.new.bytes c.write_record.new.bytes c.put_u16.ensures.bytes c.put_u16.ensures.width c.write_record.ensures.slot c.write_record.ensures.behind c.write_record.auto.bytes in
    record { slots = put.slots; area = put.area }

pub returns-else-is_in_use : goal.returns-else-is_in_use
returns-else-is_in_use c =
    let put = whole_put c.args.bytes.now c.args.name.now c.args.entry.now c.head-head.result c.requires.area c.requires.some c.requires.entry c.requires.room c.head-head.ensures c.write_record-else-is_in_use.new.bytes
    c.if-is_in_use.ensures c.write_record-else-is_in_use.ensures.slot c.write_record-else-is_in_use.ensures.behind c.write_record-else-is_in_use.auto.bytes in
    record { slots = put.slots; area = put.area }
