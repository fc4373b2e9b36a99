-- The strongest state under a mode.
use Rattle.std.proofs.Common.{◌≡◌, true, false, refl}
use Rattle.glock_names.specs.declared.State.{State}
use Rattle.glock_names.specs.declared.State.TheVariants as state
use Rattle.dlm_modes.specs.declared.Mode.{Mode}
use Rattle.dlm_modes.specs.declared.Mode.TheVariants.{Nl, Cr, Cw, Pr, Pw, Ex}
use Rattle.dlm_modes.specs.Modes.{go_together, is_at_least}
use Rattle.dlm_modes.proofs.ModeLaws.{together-turned, together-weaker}
use Rattle.glock_names.specs.States.{mode_for, state_in, IsStrongestState}

no-way : {A : Type 0} → false ≡ true → A
no-way e = absurd (let f : false ≡ true = e in cc)

covered : (mode : Mode) → is_at_least mode (mode_for (state_in mode)) ≡ true
covered Nl = refl
covered Cr = refl
covered Cw = refl
covered Pr = refl
covered Pw = refl
covered Ex = refl

strongest : (mode : Mode) (s : State) → is_at_least mode (mode_for s) ≡ true → is_at_least (mode_for s) (mode_for (state_in mode)) ≡ true
    → s ≡ state_in mode
strongest Nl state.Un p q = refl
strongest Nl state.Sh p q = no-way p
strongest Nl state.Df p q = no-way p
strongest Nl state.Ex p q = no-way p
strongest Cr state.Un p q = refl
strongest Cr state.Sh p q = no-way p
strongest Cr state.Df p q = no-way p
strongest Cr state.Ex p q = no-way p
strongest Cw state.Un p q = no-way q
strongest Cw state.Sh p q = no-way p
strongest Cw state.Df p q = refl
strongest Cw state.Ex p q = no-way p
strongest Pr state.Un p q = no-way q
strongest Pr state.Sh p q = refl
strongest Pr state.Df p q = no-way p
strongest Pr state.Ex p q = no-way p
strongest Pw state.Un p q = no-way q
strongest Pw state.Sh p q = refl
strongest Pw state.Df p q = no-way q
strongest Pw state.Ex p q = no-way p
strongest Ex state.Un p q = no-way q
strongest Ex state.Sh p q = no-way q
strongest Ex state.Df p q = no-way q
strongest Ex state.Ex p q = refl

back : (s : State) → state_in (mode_for s) ≡ s
back state.Un = refl
back state.Sh = refl
back state.Df = refl
back state.Ex = refl

pub is-strongest-state : IsStrongestState
is-strongest-state = record {
  covered = covered;
  strongest = strongest;
  goes = λ mode other p.
      together-turned other (mode_for (state_in mode)) (together-weaker other mode (mode_for (state_in mode)) (together-turned mode other p) (covered mode));
  back = back;
}
