-- A lock that is held in the state that serves two is held as each wants it.
use Rattle.std.proofs.Common.{◌≡◌, inl, inr, ℕ, true, refl, ap, ◌∙◌}
use Rattle.std.proofs.lemmas.Bool.{cases_Bool, cond-true, cond-false}
use Rattle.glock_names.specs.StateOrder.{leq}
use Rattle.glock_names.specs.Views.{Seen}
use Rattle.glock_names.specs.declared.State.{State}
use Rattle.glock_names.specs.declared.State.TheVariants.{Un, Sh, Df, Ex}
use Rattle.glock_names.proofs.StateOrders.{leq_itself, leq_through}
use Rattle.path_walks.specs.Holds.{hold_of, holds}
use Rattle.pair_walks.specs.Orders.{stronger}

least_below : (a : State) → leq a Ex ≡ true
least_below Un = refl
least_below Sh = refl
least_below Df = refl
least_below Ex = refl

serves_first : (a b : State) → leq a (stronger a b) ≡ true
serves_first a b = elim (cases_Bool (leq a b)) [
  | inl below ↦ ap (leq a) (cond-true _ b _ below) ∙ below
  | inr not ↦ elim (cases_Bool (leq b a)) [
    | inl above ↦ ap (leq a) (cond-false _ b _ not ∙ cond-true _ a Ex above) ∙ leq_itself a
    | inr apart ↦ ap (leq a) (cond-false _ b _ not ∙ cond-false _ a Ex apart) ∙ least_below a
  ]
]

serves_second : (a b : State) → leq b (stronger a b) ≡ true
serves_second a b = elim (cases_Bool (leq a b)) [
  | inl below ↦ ap (leq b) (cond-true _ b _ below) ∙ leq_itself b
  | inr not ↦ elim (cases_Bool (leq b a)) [
    | inl above ↦ ap (leq b) (cond-false _ b _ not ∙ cond-true _ a Ex above) ∙ above
    | inr apart ↦ ap (leq b) (cond-false _ b _ not ∙ cond-false _ a Ex apart) ∙ least_below b
  ]
]

pub held_first : (v : Seen) (x : ℕ) (a b : State) → holds v (hold_of x (stronger a b)) ≡ true → holds v (hold_of x a) ≡ true
held_first v x a b held = leq_through a (stronger a b) _ (serves_first a b) held

pub held_second : (v : Seen) (x : ℕ) (a b : State) → holds v (hold_of x (stronger a b)) ≡ true → holds v (hold_of x b) ≡ true
held_second v x a b held = leq_through b (stronger a b) _ (serves_second a b) held
