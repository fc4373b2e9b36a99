use Rattle.std.proofs.Common.{◌∙◌, ap, sym, false}
use Rattle.std.specs.Prelude.{nat_lt}
use Rattle.std.specs.Option.{option_map_or}
use Rattle.finite_maps.proofs.Seen.{get-numbers}
use Rattle.revoke_table.proofs.Revokes.cancels.Goals as goal

pub returns-in-Some : goal.returns-in-Some
returns-in-Some c =
    rw (← c.self.view_is) (ap (λ o. option_map_or (λ g. nat_lt c.args.sequence g) o false) (c.in-Some.ensures.value ∙ sym (get-numbers _ _)))

pub returns-in-None : goal.returns-in-None
returns-in-None c =
    rw (← c.self.view_is) (ap (λ o. option_map_or (λ g. nat_lt c.args.sequence g) o false) (c.in-None.ensures.value ∙ sym (get-numbers _ _)))
