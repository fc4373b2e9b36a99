-- A holder is never stronger than granted.
use Rattle.std.proofs.Common.{◌≡◌, Bool, true, false, List, [], ◌∷◌, Option, Some, None, cond, refl, sym, ap, ◌∙◌, inl, inr, subst}
use Rattle.std.specs.Prelude.{unwrap_or}
use Rattle.glock_names.specs.declared.LockName.{LockName}
use Rattle.glock_names.specs.LockMaps.{same_lock, with_lock}
use Rattle.glock_names.proofs.LockMapLaws.{same_lock_tells, at_lock-with_same, at_lock-with_other}
use Rattle.dlm_modes.specs.declared.Mode.{Mode}
use Rattle.dlm_modes.specs.declared.Mode.TheVariants.{Nl}
use Rattle.dlm_modes.specs.Modes.{is_at_least}
use Rattle.dlm_modes.proofs.ModeLaws.{covers-itself, covers-through}
use Rattle.dlm_holder.specs.declared.Holding.{Holding}
use Rattle.dlm_holder.specs.Holdings.{Holdings, nothing, holding_of, mode_in, asked_for, granted_to, lowered_to, ask_dropped}
use Rattle.dlm_holder.specs.Laws.{Call, Asks, IsGranted, Lowers, DropsAsk, after_all, MayCallAll, last_granted, NeverStronger}

-- the mode of a lock after a write
mode-written : (h : Holdings) (other lock : LockName) (x : Holding) → mode_in (with_lock h other x) lock ≡ cond (same_lock other lock) (x.mode) (mode_in h lock)
mode-written h other lock x = elim (same_lock_tells other lock) [
  | inl same ↦ rw same.0 (ap (λ (l : LockName). mode_in (with_lock h other x) l) (sym same.1) ∙ ap (λ (o : Option Holding). (unwrap_or o nothing).mode) (at_lock-with_same h other x))
  | inr apart ↦ rw apart.0 (ap (λ (o : Option Holding). (unwrap_or o nothing).mode) (at_lock-with_other h other lock x (λ e. apart.1 (sym e))))
]

-- a write that leaves the mode leaves it
mode-kept : (h : Holdings) (other lock : LockName) (x : Holding) → x.mode ≡ mode_in h other → mode_in (with_lock h other x) lock ≡ mode_in h lock
mode-kept h other lock x e = elim (same_lock_tells other lock) [
  | inl same ↦ mode-written h other lock x ∙ (ap (λ b. cond b (x.mode) (mode_in h lock)) same.0 ∙ (e ∙ ap (mode_in h) same.1))
  | inr apart ↦ mode-written h other lock x ∙ ap (λ b. cond b (x.mode) (mode_in h lock)) apart.0
]

covered-after : (calls : List Call) (h : Holdings) (lock : LockName) (before : Mode) → MayCallAll h calls → is_at_least before (mode_in h lock) ≡ true
    → is_at_least (last_granted calls lock before) (mode_in (after_all h calls) lock) ≡ true
covered-after [] h lock before may covers = covers
covered-after (Asks other mode ∷ calls) h lock before may covers =
    covered-after calls (asked_for h other mode) lock before may.1 (rw (mode-kept h other lock (record (holding_of h other) { wanted = Some mode }) refl) covers)
covered-after (IsGranted other mode value ∷ calls) h lock before may covers =
    covered-after calls (granted_to h other mode value) lock (cond (same_lock other lock) mode before) may.1 (rw (mode-written h other lock (record { mode = mode; wanted = None; value = value })) (by (same_lock other lock)))
  where
    by : (b : Bool) → is_at_least (cond b mode before) (cond b mode (mode_in h lock)) ≡ true
    by true = covers-itself mode
    by false = covers
covered-after (Lowers other mode ∷ calls) h lock before may covers =
    covered-after calls (lowered_to h other mode) lock before may.1 (elim (same_lock_tells other lock) [
      | inl same ↦ rw (mode-written h other lock (record (holding_of h other) { mode = mode }), same.0) (covers-through before (mode_in h lock) mode covers (subst (λ (l : LockName). is_at_least (mode_in h l) mode ≡ true) same.1 may.0.0))
      | inr apart ↦ rw (mode-written h other lock (record (holding_of h other) { mode = mode }), apart.0) covers
    ])
covered-after (DropsAsk other ∷ calls) h lock before may covers =
    covered-after calls (ask_dropped h other) lock before may.1 (rw (mode-kept h other lock (record (holding_of h other) { wanted = None }) refl) covers)

pub never-stronger : NeverStronger
never-stronger calls lock may = covered-after calls [] lock Nl may (covers-itself Nl)
