use Rattle.std.proofs.Common.{List, position, sym, ap, ◌∙◌}
use Rattle.dlm_modes.specs.declared.Mode.TheVariants.{Nl}
use Rattle.dlm_master.specs.declared.claims.Claim.{Claim}
use Rattle.dlm_master.specs.Claims.{is_of}
use Rattle.dlm_master.proofs.ClaimLaws.{remove-without_claim, without_claim-none}
use Rattle.dlm_master.proofs.claims.drop_claim.Goals as goal

pub returns-in-Some : goal.returns-in-Some
returns-in-Some c =
    let at = ap (λ (l : List Claim). position (is_of c.args.node) l) c.deref.ensures.value in
    c.remove.ensures.items ∙ remove-without_claim c.args.claims.now.items c.in-Some.place c.args.node (record { node = c.args.node; mode = Nl }) (sym at ∙ (sym c.place_of.ensures ∙ c.in-Some.is))

pub returns-in_default : goal.returns-in_default
returns-in_default c =
    let at = ap (λ (l : List Claim). position (is_of c.args.node) l) c.deref.ensures.value in
    without_claim-none c.args.claims.now.items c.args.node (sym at ∙ (sym c.place_of.ensures ∙ c.in_default.is))
