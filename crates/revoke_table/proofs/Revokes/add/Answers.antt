use Rattle.std.proofs.Common.{◌∙◌, ap, sym, max}
use Rattle.std.specs.Prelude.{unwrap_or}
use Rattle.std.specs.FinMap.{insert, from_entries}
use Rattle.finite_maps.proofs.Seen.{numbers_insert, get-numbers}
use Rattle.revoke_table.proofs.Revokes.add.Goals as goal

pub returns-clause-ok : goal.returns-clause-ok
returns-clause-ok c =
    rw (← c.self.view_is) (numbers_insert _ _ _ _ (c.in_ok-insert.ensures.updates.0)
    ∙ ap (λ v. insert (from_entries c.self.inside.greatest.entries) c.args.block v) (c.max.ensures
    ∙ ap (max c.args.sequence) (c.unwrap_or-last.ensures ∙ ap (λ o. unwrap_or o 0) (c.copied.ensures ∙ c.get.ensures.value ∙ sym (get-numbers _ _)))))
