use Rattle.std.proofs.Common.{List, position, sym, ap, ◌∙◌}
use Rattle.dlm_master.specs.declared.claims.Claim.{Claim}
use Rattle.dlm_master.specs.Claims.{is_of}
use Rattle.dlm_master.proofs.ClaimLaws.{set-with_claim, no-place}
use Rattle.dlm_master.proofs.claims.lower_claim.Goals as goal

pub returns-in-Some : goal.returns-in-Some
returns-in-Some c =
    let at = ap (λ (l : List Claim). position (is_of c.args.node) l) c.deref.ensures.value in
    rw (sym c.holds_nothing.ensures ∙ c.if-holds_nothing.false)
    (set-with_claim c.args.claims.now.items c.in-Some.place (record { node = c.args.node; mode = c.args.mode }) (sym at ∙ (sym c.place_of.ensures ∙ c.in-Some.is)))

pub returns-in_default : goal.returns-in_default
returns-in_default c =
    let at = ap (λ (l : List Claim). position (is_of c.args.node) l) c.deref.ensures.value in
    no-place c.args.claims.now.items c.args.node (sym at ∙ (sym c.place_of.ensures ∙ c.in_default.is)) c.requires
