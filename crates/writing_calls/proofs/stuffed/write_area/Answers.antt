use Rattle.std.proofs.Common.{ap, ◌∙◌}
use Rattle.writing_calls.specs.Contents.{put_over}
use Rattle.writing_calls.proofs.Areas.{area_written}
use Rattle.writing_calls.proofs.stuffed.write_area.Goals as goal

pub returns : goal.returns
returns c =
    c.put_bytes.ensures ∙ ap (put_over c.args.at c.args.new.now) c.clear_between.ensures
    ∙ area_written c.args.at c.args.size c.args.new.now c.args.area.now c.requires.content c.requires.room
