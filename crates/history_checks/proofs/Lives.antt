-- What is alive of a history, from a place on.
use Rattle.std.proofs.Common.{◌≡◌, ◌<◌, Bool, true, false, List, ◌∷◌, length, get_or, drop, refl, ap, ◌∙◌}
use Rattle.std.specs.Prelude.{ℕ, ◌+◌, ◌||◌, not, if◌then◌else◌}
use Rattle.std.proofs.lemmas.List.{drop_more}
use Rattle.cluster_history.specs.declared.Item.{Item}
use Rattle.cluster_history.specs.declared.Item.TheVariants as item
use Rattle.cluster_history.specs.History.{any_drops, drops}
use Rattle.cluster_history.specs.Losses.{living}
use Rattle.history_checks.specs.Checks.{lives}

pub any_drops-drop : (node number : ℕ) (is : List Item) (n : ℕ) (d : Item) → n < length is
    → any_drops node number (drop n is) ≡ (drops node number (get_or is n d) || any_drops node number (drop (n + 1) is))
any_drops-drop node number is n d h = ap (any_drops node number) (drop_more is n d h)

-- an item lives, or what is behind it is all
pub living-cons : (i : Item) (is : List Item) → living (i ∷ is) ≡ (if lives i is then i ∷ living is else living is)
living-cons (item.Lost node kept) is = refl
living-cons (item.Call node client number call reply) is = turn (any_drops node number is)
  where
    turn : (b : Bool) → (if b then living is else item.Call node client number call reply ∷ living is) ≡ (if not b then item.Call node client number call reply ∷ living is else living is)
    turn true = refl
    turn false = refl

pub living-drop : (is : List Item) (n : ℕ) (d : Item) → n < length is
    → living (drop n is) ≡ (if lives (get_or is n d) (drop (n + 1) is) then get_or is n d ∷ living (drop (n + 1) is) else living (drop (n + 1) is))
living-drop is n d h = ap living (drop_more is n d h) ∙ living-cons (get_or is n d) (drop (n + 1) is)
