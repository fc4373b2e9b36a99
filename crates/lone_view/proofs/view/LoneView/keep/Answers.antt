use Rattle.std.proofs.Common.{◌∙◌, ap, sym, subst}
use Rattle.std.specs.FinMap as map
use Rattle.glock_names.specs.Views.{IsView}
use Rattle.lone_view.specs.Seeing.{Lone, seen_alone}
use Rattle.lone_view.proofs.Kept.{kept_insert, larger_view}
use Rattle.lone_view.proofs.view.LoneView.keep.Goals as goal

pub invariant_of-self-2 : goal.invariant_of-self-2
invariant_of-self-2 c = (
  subst (λ blocks. IsView (seen_alone (record { blocks = blocks; groups = c.self.inside.groups.items; root = c.self.inside.root; size = c.self.inside.size })))
      (sym (kept_insert _ _ c.args.block c.args.bytes c.in_ok-insert.ensures.updates.0))
      (larger_view _ c.args.block c.args.bytes c.self.invariant.0 (c.requires ∙ ap (λ (n : Lone). n.size) (sym c.self.view_is))),
  c.in_ok-insert.ensures.ordered,
)

pub returns-clause-ok : goal.returns-clause-ok
returns-clause-ok c = (λ i. record { blocks = kept_insert _ _ c.args.block c.args.bytes (c.in_ok-insert.ensures.updates.0) i; groups = c.self.inside.groups.items; root = c.self.inside.root; size = c.self.inside.size })
    ∙ ap (λ (n : Lone). record n { blocks = map.insert n.blocks c.args.block c.args.bytes }) c.self.view_is
