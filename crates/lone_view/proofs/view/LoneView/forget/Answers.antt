use Rattle.std.proofs.Common.{◌∙◌, ap, sym, subst}
use Rattle.std.specs.FinMap as map
use Rattle.glock_names.specs.Views.{IsView}
use Rattle.lone_view.specs.Seeing.{Lone, seen_alone}
use Rattle.lone_view.proofs.Kept.{kept_remove, smaller_view}
use Rattle.lone_view.proofs.view.LoneView.forget.Goals as goal

pub invariant_of-self : goal.invariant_of-self
invariant_of-self c = (
  subst (λ blocks. IsView (seen_alone (record { blocks = blocks; groups = c.self.inside.groups.items; root = c.self.inside.root; size = c.self.inside.size })))
      (sym (kept_remove _ _ c.args.block c.remove.ensures.updates.0))
      (smaller_view _ c.args.block c.self.invariant.0),
  c.remove.ensures.ordered,
)

pub returns : goal.returns
returns c = (λ i. record { blocks = kept_remove _ _ c.args.block c.remove.ensures.updates.0 i; groups = c.self.inside.groups.items; root = c.self.inside.root; size = c.self.inside.size })
    ∙ ap (λ (n : Lone). record n { blocks = map.remove n.blocks c.args.block }) c.self.view_is
