use Rattle.std.proofs.Common.{sym, ap, ◌∙◌}
use Rattle.image_model.specs.Stands.{flat_of}
use Rattle.image_model.proofs.Held.{none_some, some_same}
use Rattle.image_journals.specs.Shown.{master}
use Rattle.image_journals.proofs.Read.{handed}
use Rattle.image_journals.proofs.finding.find_in_master.Goals as goal

pub returns-in_err-master : goal.returns-in_err-master
returns-in_err-master c r o l d s dots child = handed c.from_residual.result _ _ _ c.from_residual.ensures.1 (c.in_err-master.ensures r o l s)

pub returns-in_err-found : goal.returns-in_err-found
returns-in_err-found c r o l d s dots child =
    let at = c.in_ok-master.ensures r o l s in
    handed c.from_residual-in_err-found.result _ _ _ c.from_residual-in_err-found.ensures.1 (c.in_err-found.ensures r o l s (master at) dots)

pub returns-in-Some : goal.returns-in-Some
returns-in-Some c r o l d s dots child =
    let at = c.in_ok-master.ensures r o l s in
    some_same (sym c.in-Some.is ∙ c.in_ok-found.ensures r o l s (master at) dots ∙ ap (λ a. (flat_of r o a).child c.args.name.now) at ∙ child)

pub returns-in-None : goal.returns-in-None
returns-in-None c r o l d s dots child =
    let at = c.in_ok-master.ensures r o l s in
    none_some (sym c.in-None.is ∙ c.in_ok-found.ensures r o l s (master at) dots ∙ ap (λ a. (flat_of r o a).child c.args.name.now) at ∙ child)
