-- What holds of all modes.
use Rattle.std.specs.Prelude.{◌≡◌, true, false}
use Rattle.dlm_modes.specs.declared.Mode.{Mode}
use Rattle.dlm_modes.specs.declared.Mode.TheVariants.{Nl, Cw, Pr, Ex}
use Rattle.dlm_modes.specs.Modes.{go_together, is_at_least}

abbrev pub TogetherBothWays : Type 0
TogetherBothWays = (a b : Mode) → go_together a b ≡ go_together b a

-- what goes with a mode goes with each weaker one
abbrev pub WeakerGoesToo : Type 0
WeakerGoesToo = (a b weaker : Mode) → go_together a b ≡ true → is_at_least b weaker ≡ true → go_together a weaker ≡ true

-- a mode covers itself; what is covered by a covered mode is covered; and two modes that cover each other are one
pub record IsOrder : Type 0 where
  pub itself : (a : Mode) → is_at_least a a ≡ true
  pub through : (a b c : Mode) → is_at_least a b ≡ true → is_at_least b c ≡ true → is_at_least a c ≡ true
  pub one : (a b : Mode) → is_at_least a b ≡ true → is_at_least b a ≡ true → a ≡ b

-- Nl is the least mode and Ex the greatest, and of Cw and Pr neither covers the other
pub record HoldsLeast : Type 0 where
  pub least : (a : Mode) → is_at_least a Nl ≡ true
  pub greatest : (a : Mode) → is_at_least Ex a ≡ true
  pub beside : is_at_least Cw Pr ≡ false
  pub beside_too : is_at_least Pr Cw ≡ false

abbrev pub ExclusiveGoesWithNone : Type 0
ExclusiveGoesWithNone = (a : Mode) → go_together Ex a ≡ true → a ≡ Nl
