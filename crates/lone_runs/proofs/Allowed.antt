-- Whether a node may have a journal, as it was found.
use Rattle.std.proofs.Common.{◌≡◌, ℕ, Bool, true, false, sym, subst, ◌∙◌}
use Rattle.std.specs.Prelude.{◌↔◌, IsTrue}
use Rattle.log_layout.specs.declared.log_header.LogHeader.{LogHeader}
use Rattle.log_values.specs.Log.{Journal}
use Rattle.lone_runs.specs.Beginning.{MayHave}

module _ (found count : ℕ) (journal : Journal) (head : LogHeader) (may : Bool) (same : found ≡ count) (is : IsTrue may ↔ MayHave found journal head) where
  pub allowed : may ≡ true → MayHave count journal head
  allowed yes_it_may = subst (λ n. MayHave n journal head) same (is.0 yes_it_may)

  pub refused : may ≡ false → MayHave count journal head → ⊥
  refused not_so has = unequal (sym not_so ∙ is.1 (subst (λ n. MayHave n journal head) (sym same) has))
    where
      unequal : false ≡ true → ⊥
      unequal e = cc
