use Rattle.std.proofs.Common.{◌≡◌, ◌∙◌, ℕ, Bool, List, sym, subst}
use Rattle.std.specs.FinMap as map
use Rattle.glock_names.specs.declared.LockName.{LockName}
use Rattle.drafts.specs.declared.fate.Fate.TheVariants.{Put, Freed}
use Rattle.drafts.specs.Fates.{AreWhole}
use Rattle.drafts.proofs.Fates.{fates_insert, whole_insert}
use Rattle.drafts.proofs.draft.Draft.free.Goals as goal

pub invariant_of-self-2 : goal.invariant_of-self-2
invariant_of-self-2 g c = (
  subst (AreWhole _) (sym (fates_insert _ _ c.args.block Freed (c.in_ok-insert.ensures.updates.0)))
      (whole_insert _ _ c.args.block Freed c.self.invariant.0 (λ lock plain bytes e. absurd (no lock plain bytes e))),
  c.in_ok-insert.ensures.ordered,
)
  where
    no : (lock : LockName) (plain : Bool) (bytes : List ℕ) → Freed ≡ Put lock plain bytes → ⊥
    no lock plain bytes e = cc

pub returns-clause-ok : goal.returns-clause-ok
returns-clause-ok g c = (λ i. record { view = c.self.inside.view.now; fates = fates_insert _ _ c.args.block Freed (c.in_ok-insert.ensures.updates.0) i })
    ∙ (λ i. record { view = (c.self.view_is i).view; fates = map.insert (c.self.view_is i).fates c.args.block Freed })
