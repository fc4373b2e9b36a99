use Rattle.std.proofs.Common.{Contains, slice_get, sym, ap, ◌∙◌, subst}
use Rattle.turn_table.proofs.Stepping.{at_shown}
use Rattle.turn_table.proofs.Filling.{one_filling}
use Rattle.turn_table.proofs.Opening.{closes}
use Rattle.turn_table.proofs.table.Turns.close.Goals as goal

pub empty_table-requires-clause-full : goal.empty_table-requires-clause-full
empty_table-requires-clause-full g c =
    let k = closes g.R.TurnRule.holds g.R.TurnRule.grows _ c.into_place.result.me.0 _ _ c.close_with.ensures.values.2 (c.into_place.ensures.same.1 ∙ c.requires.share) (c.into_place.ensures.same.3 ∙ c.requires.idle) in
    (k.0, k.2)

pub returns-clause-legal : goal.returns-clause-legal
returns-clause-legal g c =
    let k = closes g.R.TurnRule.holds g.R.TurnRule.grows _ c.into_place.result.me.0 _ _ c.close_with.ensures.values.2 (c.into_place.ensures.same.1 ∙ c.requires.share) (c.into_place.ensures.same.3 ∙ c.requires.idle) in
    let same = one_filling _ _ (c.empty_table.ensures.parts ∙ k.2) in
    subst g.R.TurnRule.holds (sym same) k.1

pub returns-clause-grown : goal.returns-clause-grown
returns-clause-grown g c = λ p x v seen at.
    let k = closes g.R.TurnRule.holds g.R.TurnRule.grows _ c.into_place.result.me.0 _ _ c.close_with.ensures.values.2 (c.into_place.ensures.same.1 ∙ c.requires.share) (c.into_place.ensures.same.3 ∙ c.requires.idle) in
    let same = one_filling _ _ (c.empty_table.ensures.parts ∙ k.2) in
    k.3 p x v (subst (λ notes. Contains notes (p, x)) (sym c.into_place.ensures.same.2) seen) (at_shown k.0 p v (ap (λ l. slice_get l p) (sym same) ∙ at))
