use Rattle.std.proofs.Common.{◌∙◌, ap, sym}
use Rattle.glock_names.specs.Steps.{TellsOf}
use Rattle.glock_names.proofs.StepLaws.{answer_at}
use Rattle.linear_dirs.specs.Broken.{IsBroken}
use Rattle.gfs2_layout.specs.Records.{names_of}
use Rattle.linear_dirs.proofs.Looked.{handed, records_are}
use Rattle.linear_dirs.proofs.listing.names.Goals as goal

pub returns-clause-found : goal.returns-clause-found
returns-clause-found g c h shown =
    let is = answer_at _ _ _ c.in-Is.is (c.in_ok-found.ensures.read h shown) in
    c.in_ok-names.ensures.found ∙ ap names_of (sym (records_are h c.in-Is.found.dinode c.in-Is.found.area.now is))

pub returns-in_err-names-clause-damaged : goal.returns-in_err-names-clause-damaged
returns-in_err-names-clause-damaged g c h shown =
    let is = answer_at _ _ _ c.in-Is.is (c.in_ok-found.ensures.read h shown) in
    handed c.from_residual-in_err-names.result _ (TellsOf (IsBroken h)) c.from_residual-in_err-names.ensures.1 (c.in_err-names.ensures.damaged h shown.own (records_are h c.in-Is.found.dinode c.in-Is.found.area.now is))
