use Rattle.std.proofs.Common.{ap, ◌∙◌}
use Rattle.gfs2_layout.specs.Putting.{least_length}
use Rattle.gfs2_layout.proofs.PutRecord.{some_has_room, put_all}
use Rattle.gfs2_layout.proofs.putting.put_record.Goals as goal

pub returns-in-Some : goal.returns-in-Some
returns-in-Some c =
    let needs = c.least_length.ensures ∙ ap least_length c.requires.entry.name_len in
    let all = put_all c.args.area.now c.args.name.now c.args.entry.now c.least_length.result c.in-Some.at needs c.requires.entry c.in-Some.ensures c.put_here.new.bytes (record { slots = c.put_here.ensures.slots; area = c.put_here.ensures.area }) in
    record {
      room = some_has_room c.args.area.now c.args.name.now c.args.entry.now c.least_length.result c.in-Some.at needs c.requires.entry c.in-Some.ensures;
      full = λ h. cc;
      put = λ h. all.0;
      area = all.1;
    }
