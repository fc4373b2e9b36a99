use Rattle.std.proofs.Common.{◌≡◌, ◌≤◌, [], vec_capacity, sym, ap, ◌∙◌, subst}
use mathlib.Core.Option.{some-injective}
use lib.ListN.{get_elem?}
use Rattle.turn_table.proofs.shelf.Shelf.take.Goals as goal

pub returns-clause-empty : goal.returns-clause-empty
returns-clause-empty g c =
    let final = c.close-closed.ensures.values.2 in
    let lies = final.1 in
    let same = some-injective _ _ (sym (final.4 0 lies.0 (ap (λ l. get_elem? l 0) lies.1)) ∙ c.take-buffer.ensures.value) in
    subst (λ v. v.items ≡ []) same lies.2

pub returns-clause-room : goal.returns-clause-room
returns-clause-room g c =
    let final = c.close-closed.ensures.values.2 in
    let lies = final.1 in
    let same = some-injective _ _ (sym (final.4 0 lies.0 (ap (λ l. get_elem? l 0) lies.1)) ∙ c.take-buffer.ensures.value) in
    subst (λ n. n ≤ vec_capacity c.take-buffer.result) c.self.view_is (subst (λ v. c.self.inside.table.shared.key ≤ vec_capacity v) same lies.3)
