use Rattle.std.proofs.Common.{List, position, sym, ap, ◌∙◌}
use Rattle.dlm_master.specs.declared.claims.Claim.{Claim}
use Rattle.dlm_master.specs.Claims.{is_of}
use Rattle.dlm_master.proofs.ClaimLaws.{set-with_claim, push-with_claim}
use Rattle.dlm_master.proofs.claims.put_claim.Goals as goal

pub returns-in_ok-push-in-None-clause-ok : goal.returns-in_ok-push-in-None-clause-ok
returns-in_ok-push-in-None-clause-ok c =
    let at = ap (λ (l : List Claim). position (is_of c.args.claim.node) l) c.deref.ensures.value in
    c.in_ok-push-in-None.ensures.items ∙ push-with_claim c.args.claims.now.items c.args.claim (sym at ∙ (sym c.place_of.ensures ∙ c.in-None.is))

pub returns-in-Some-clause-ok : goal.returns-in-Some-clause-ok
returns-in-Some-clause-ok c =
    let at = ap (λ (l : List Claim). position (is_of c.args.claim.node) l) c.deref.ensures.value in
    set-with_claim c.args.claims.now.items c.in-Some.place c.args.claim (sym at ∙ (sym c.place_of.ensures ∙ c.in-Some.is))
