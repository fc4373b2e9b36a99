use Rattle.std.proofs.Common.{sym, ap, ◌∙◌}
use Rattle.gfs2_layout.specs.Structures.{dinode_read}
use Rattle.image_model.proofs.Held.{some_same}
use Rattle.name_drafts.proofs.Named.{ok_there}
use Rattle.name_drafts.proofs.directory.is_headed.Goals as goal

pub returns-in-Some-clause-headed : goal.returns-in-Some-clause-headed
returns-in-Some-clause-headed g c so bytes there =
    let read = ok_there c.read.result (sym c.is_ok.ensures.value ∙ so) in
    (read.0, ap dinode_read (some_same (sym there ∙ c.in-Some.ensures.some)) ∙ sym c.read.ensures ∙ read.1)
