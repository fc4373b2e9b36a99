use Rattle.std.proofs.Common.{◌≡◌, ◌≢◌, true, false, [], ◌∷◌, length, sym, ap, ◌∙◌, arith}
use Rattle.std.proofs.lemmas.Bool.{eq-eqb, eqb-true}
use Rattle.std.specs.Prelude.{◌==◌}
use Rattle.glock_names.specs.StateOrder.{leq}
use Rattle.glock_names.specs.declared.State.TheVariants.{Ex}
use Rattle.image_model.specs.Flat.{Path}
use Rattle.move_ends.specs.Ends.{IsRefused}
use Rattle.move_ends.proofs.Locks.{order_lacks}
use Rattle.move_ends.proofs.finding.ends_of.Goals as goal

no_names : (names path : Path) → names ≡ path → (length names == 0) ≡ true → path ≡ []
no_names [] path same e = sym same
no_names (n ∷ ns) path same e = absurd (omega (arith, eqb-true (length (n ∷ ns)) 0 e))

some_names : (names path : Path) → names ≡ path → (length names == 0) ≡ false → path ≢ []
some_names names path same e none = other (sym e ∙ eq-eqb (length names) 0 (ap length (same ∙ none)))
  where
    other : false ≡ true → ⊥
    other e = cc

pub returns-then-is_empty-clause-told : goal.returns-then-is_empty-clause-told
returns-then-is_empty-clause-told g c =
    IsRefused.of_root (no_names c.names.result.now _ (c.names.ensures.names ∙ c.from_of.ensures) (sym c.is_empty.ensures ∙ c.if-is_empty.true))

pub returns-then-is_empty-2-clause-told : goal.returns-then-is_empty-2-clause-told
returns-then-is_empty-2-clause-told g c =
    IsRefused.to_root (some_names c.names.result.now _ (c.names.ensures.names ∙ c.from_of.ensures) (sym c.is_empty.ensures ∙ c.if-is_empty.false))
    (no_names c.names-2.result.now _ (c.names-2.ensures.names ∙ c.to_of.ensures) (sym c.is_empty-2.ensures ∙ c.if-is_empty-2.true))

pub returns-then-not-is_at_most-clause-found : goal.returns-then-not-is_at_most-clause-found
returns-then-not-is_at_most-clause-found g c im o l t of =
    let v = g.V.View.seen c.args.view.now in
    order_lacks v im o l c.args.call.now
    (some_names c.names.result.now _ (c.names.ensures.names ∙ c.from_of.ensures) (sym c.is_empty.ensures ∙ c.if-is_empty.false))
    (some_names c.names-2.result.now _ (c.names-2.ensures.names ∙ c.to_of.ensures) (sym c.is_empty-2.ensures ∙ c.if-is_empty-2.false))
    (ap (leq Ex) (sym c.state.ensures) ∙ sym c.is_at_most.ensures ∙ c.if-not-is_at_most.true)
