-- A lock's state and its mode, told by told.
use Rattle.std.proofs.Common.{◌≡◌, ◌⊎◌, inl, inr, ◌∙◌, Bool, true, false, cond, List, [], ◌∷◌, Option, refl, sym, ap, subst}
use Rattle.std.specs.Prelude.{unwrap_or}
use Rattle.std.specs.FinMap.{empty, get-empty}
use Rattle.glock_names.specs.declared.LockName.{LockName}
use Rattle.glock_names.specs.States.{mode_for}
use Rattle.glock_names.specs.LockMaps.{same_lock, with_lock}
use Rattle.glock_names.proofs.LockMapLaws.{same_lock_tells, at_lock-with_same, at_lock-with_other}
use Rattle.dlm_holder.specs.declared.Holding.{Holding}
use Rattle.dlm_holder.specs.Holdings.{Holdings, nothing, mode_in}
use Rattle.glock_machine.specs.declared.glock.Glock.{Glock}
use Rattle.glock_machine.specs.Keys.{key_of, key_cmp}
use Rattle.glock_machine.specs.Table.{Table, new_glock, glock_of}
use Rattle.glock_machine.specs.Calls.{Deed, On, Unmount, Granted, Down, done, all_done, after, is_grant, is_down}
use Rattle.glock_machine.proofs.Standing.{stand_apart, state_stays}
use Rattle.kept_laws.specs.Told.{Told, OfGrant, OfLower, OfAsk, OfAsksEnd, OfElse, Agree, AgreeAfter, MayBeTold, MayAllBeTold, locks_after, holder_after}

abbrev Same : LockName → LockName → Type 0
Same other lock = ((same_lock other lock ≡ true) × (other ≡ lock)) ⊎ ((same_lock other lock ≡ false) × (other ≡ lock → ⊥))

-- ---- the state

module _ (lock other : LockName) (deed : Deed) (t : Table) where
  state_by : (b : Bool) → same_lock other lock ≡ b → (glock_of (after (On other deed) t) lock).state ≡ (all_done (cond b (deed ∷ []) []) (glock_of t lock)).state
  state_by b is = ap (λ (g : Glock). g.state) (stand_apart lock (On other deed ∷ []) t) ∙ ap (λ x. (all_done (cond x (deed ∷ []) []) (glock_of t lock)).state) is

  state_told : is_grant deed ≡ false → is_down deed ≡ false → (glock_of (after (On other deed) t) lock).state ≡ (glock_of t lock).state
  state_told p q = by (same_lock_tells other lock)
    where
      by : Same other lock → (glock_of (after (On other deed) t) lock).state ≡ (glock_of t lock).state
      by (inl e) = state_by true e.0 ∙ state_stays deed (glock_of t lock) p q
      by (inr n) = state_by false n.0

-- ---- the mode

mode_there : (h : Holdings) (other lock : LockName) (x : Holding) → other ≡ lock → mode_in (with_lock h other x) lock ≡ x.mode
mode_there h other lock x e = subst (λ l. mode_in (with_lock h other x) l ≡ x.mode) e (ap (λ (o : Option Holding). (unwrap_or o nothing).mode) (at_lock-with_same h other x))

mode_apart : (h : Holdings) (other lock : LockName) (x : Holding) → (other ≡ lock → ⊥) → mode_in (with_lock h other x) lock ≡ mode_in h lock
mode_apart h other lock x n = ap (λ (o : Option Holding). (unwrap_or o nothing).mode) (at_lock-with_other h other lock x (λ e. n (sym e)))

mode_kept : (h : Holdings) (other lock : LockName) (x : Holding) → x.mode ≡ mode_in h other → mode_in (with_lock h other x) lock ≡ mode_in h lock
mode_kept h other lock x is = by (same_lock_tells other lock)
  where
    by : Same other lock → mode_in (with_lock h other x) lock ≡ mode_in h lock
    by (inl e) = mode_there h other lock x e.1 ∙ is ∙ ap (mode_in h) e.1
    by (inr n) = mode_apart h other lock x n.1

-- ---- both

-- a write of the holder in the mode of the state that the lock then has
both_told : (t : Table) (h : Holdings) (other : LockName) (deed : Deed) (x : Holding) → ((g : Glock) → x.mode ≡ mode_for (done deed g).state)
    → Agree t h → Agree (after (On other deed) t) (with_lock h other x)
both_told t h other deed x is agree lock = by (same_lock_tells other lock)
  where
    by : Same other lock → mode_in (with_lock h other x) lock ≡ mode_for (glock_of (after (On other deed) t) lock).state
    by (inl e) = mode_there h other lock x e.1 ∙ is (glock_of t lock) ∙ sym (ap mode_for (state_by lock other deed t true e.0))
    by (inr n) = mode_apart h other lock x n.1 ∙ agree lock ∙ sym (ap mode_for (state_by lock other deed t false n.0))

one_agrees : (told : Told) (t : Table) (h : Holdings) → MayBeTold told → Agree t h → Agree (locks_after told t) (holder_after told h)
one_agrees (OfGrant other state value) t h may agree lock = both_told t h other (Granted state) _ (λ g. refl) agree lock
one_agrees (OfLower other to) t h may agree lock = both_told t h other (Down to) _ (λ g. refl) agree lock
one_agrees (OfAsk other mode) t h may agree lock = mode_kept h other lock _ refl ∙ agree lock
one_agrees (OfAsksEnd other) t h may agree lock = mode_kept h other lock _ refl ∙ agree lock
one_agrees (OfElse Unmount) t h may agree lock = agree lock
one_agrees (OfElse (On other deed)) t h may agree lock = agree lock ∙ sym (ap mode_for (state_told lock other deed t may.0 may.1))

pub all_agree : (all : List Told) (t : Table) (h : Holdings) → MayAllBeTold all → Agree t h → AgreeAfter all t h
all_agree [] t h may agree = agree
all_agree (told ∷ more) t h may agree = all_agree more (locks_after told t) (holder_after told h) may.1 (one_agrees told t h may.0 agree)

pub none_agree : Agree (record { locks = empty; unmounting = false }) []
none_agree lock = sym (ap (λ (o : Option Glock). mode_for (unwrap_or o new_glock).state) (get-empty key_cmp (key_of lock)))
