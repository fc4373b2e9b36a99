use Rattle.std.proofs.Common.{◌∙◌, length, ap, sym, subst}
use Rattle.std.specs.FinMap as map
use Rattle.drafts.specs.declared.fate.Fate.TheVariants.{Put}
use Rattle.drafts.specs.Fates.{AreWhole, Drafted}
use Rattle.drafts.proofs.Fates.{fates_insert, whole_insert, put_parts}
use Rattle.drafts.proofs.draft.Draft.put.Goals as goal

pub invariant_of-self-2 : goal.invariant_of-self-2
invariant_of-self-2 g c = (
  subst (AreWhole _) (sym (fates_insert _ _ c.args.block (Put c.args.lock c.args.plain c.new-bytes.result) (c.in_ok-insert.ensures.updates.0)))
      (whole_insert _ _ c.args.block (Put c.args.lock c.args.plain c.new-bytes.result) c.self.invariant.0 (λ lock plain bytes e.
      ap length (sym (put_parts _ _ _ _ _ _ e)) ∙ ap length (c.new-bytes.ensures ∙ c.in_ok-from_slice.ensures.items) ∙ c.requires ∙ ap (λ (d : Drafted _). (g.V.View.seen d.view).size) (sym c.self.view_is))),
  c.in_ok-insert.ensures.ordered,
)

pub returns-clause-ok : goal.returns-clause-ok
returns-clause-ok g c = (λ i. record { view = c.self.inside.view.now; fates = fates_insert _ _ c.args.block (Put c.args.lock c.args.plain c.new-bytes.result) (c.in_ok-insert.ensures.updates.0) i })
    ∙ (λ i. record { view = (c.self.view_is i).view; fates = map.insert (c.self.view_is i).fates c.args.block (Put c.args.lock c.args.plain ((c.new-bytes.ensures ∙ c.in_ok-from_slice.ensures.items) i)) })
