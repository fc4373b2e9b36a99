use Rattle.std.proofs.Common.{◌≡◌, ℕ, zero, suc, List, [], ◌∷◌, sym, ◌∙◌, arith}
use Rattle.std.proofs.lemmas.List.Elements.{Contains-append_right}
use Rattle.std.specs.Prelude.{Contains}
use Rattle.gfs2_layout.proofs.StatePuts.{any_has, has_any}
use Rattle.name_inserts.proofs.way.is_one_of.Goals as goal

-- one that isn't the first is of the others
later : (b : ℕ) (xs : List ℕ) (x : ℕ) → (b ≡ x → ⊥) → Contains (b ∷ xs) x → Contains xs x
later b xs x other (zero, low, is) = absurd (other is)
later b xs x other (suc k, low, is) = (k, omega (arith, low), is)

pub returns-else-first-block : goal.returns-else-first-block
returns-else-first-block c =
    let block = c.args.block in
    let first = c.args.first in
    let rest = c.args.rest.now in (
      (λ yes. Contains-append_right (first ∷ []) rest block (has_any rest block (sym c.contains.ensures.value ∙ yes))),
      (λ has. c.contains.ensures.value ∙ any_has rest block (later first rest block c.if-first-block.false has)),
    )
