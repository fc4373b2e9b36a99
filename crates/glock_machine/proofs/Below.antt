-- What a callback lets a node keep is weaker than what it holds, whatever is called; and so is the state to which a lock goes down.
use Rattle.std.proofs.Common.{◌≡◌, ◌∙◌, Bool, true, false, cond, not, Option, None, Some, refl, sym, ap, subst, true≢false}
use Rattle.std.specs.Prelude.{◌&&◌, ◌||◌, nat_lt, unwrap_or, option_and_then}
use Rattle.std.specs.Ordering.{eq_by_cmp}
use Rattle.std.specs.FinMap.{FinMap, get, insert, empty, get-empty, get-insert}
use Rattle.glock_names.specs.declared.State.{State}
use Rattle.glock_names.specs.declared.State.TheVariants.{Un, Sh, Df, Ex}
use Rattle.glock_names.specs.StateOrder.{leq, is_below}
use Rattle.glock_names.proofs.StateOrders.{leq_itself, leq_through, below_leq, below_from}
use Rattle.glock_machine.specs.declared.glock.Glock.{Glock}
use Rattle.glock_machine.specs.Keys.{Key, key_cmp}
use Rattle.glock_machine.specs.Wants.{with_want, any_unserved}
use Rattle.glock_machine.specs.Table.{new_glock, common, wanted, granted, called_back, still_called, lowered, IsCalledBelow, AreCalledBelow, down_of}
use Rattle.glock_machine.proofs.Locks.{key_total}

-- ---- two states and what is common to them

pub common_first : (a b : State) → leq (common a b) a ≡ true
common_first a b = by (leq b a) refl (leq a b) refl
  where
    by : (s : Bool) → leq b a ≡ s → (t : Bool) → leq a b ≡ t → leq (cond s b (cond t a Un)) a ≡ true
    by true is t at = is
    by false is true at = leq_itself a
    by false is false at = refl

-- and what is no stronger than either is no stronger than it
pub common_greatest : (a b c : State) → leq c a ≡ true → leq c b ≡ true → leq c (common a b) ≡ true
common_greatest Un Un c h k = h
common_greatest Un Sh c h k = h
common_greatest Un Df c h k = h
common_greatest Un Ex c h k = h
common_greatest Sh Un c h k = k
common_greatest Sh Sh c h k = h
common_greatest Sh Ex c h k = h
common_greatest Df Un c h k = k
common_greatest Df Df c h k = h
common_greatest Df Ex c h k = h
common_greatest Ex Un c h k = k
common_greatest Ex Sh c h k = k
common_greatest Ex Df c h k = k
common_greatest Ex Ex c h k = h
common_greatest Sh Df c h k = apart c h k
  where
    apart : (c : State) → leq c Sh ≡ true → leq c Df ≡ true → leq c Un ≡ true
    apart Un h k = refl
    apart Sh h k = absurd (true≢false (sym k))
    apart Df h k = absurd (true≢false (sym h))
    apart Ex h k = h
common_greatest Df Sh c h k = apart c h k
  where
    apart : (c : State) → leq c Df ≡ true → leq c Sh ≡ true → leq c Un ≡ true
    apart Un h k = refl
    apart Sh h k = absurd (true≢false (sym h))
    apart Df h k = absurd (true≢false (sym k))
    apart Ex h k = h

pub common_second : (a b : State) → leq (common a b) b ≡ true
common_second a b = by (leq b a) refl (leq a b) refl
  where
    by : (s : Bool) → leq b a ≡ s → (t : Bool) → leq a b ≡ t → leq (cond s b (cond t a Un)) b ≡ true
    by true is t at = leq_itself b
    by false is true at = at
    by false is false at = refl

false_where : (b : Bool) → (b ≡ true → ⊥) → b ≡ false
false_where true h = absurd (h refl)
false_where false h = refl

-- ---- what each call leaves

module _ (g : Glock) where
  pub below_new : IsCalledBelow new_glock
  below_new keep e = cc

  pub wanted_below : (state : State) → IsCalledBelow g → IsCalledBelow (wanted state g)
  wanted_below state h = by (leq state g.state)
    where
      by : (b : Bool) → IsCalledBelow (cond b g (record g { wants = with_want g.wants state true }))
      by true = h
      by false = h

  -- nothing is weaker than unlocked, so no callback stands where nothing is held
  pub none_called : g.state ≡ Un → IsCalledBelow g → g.called ≡ None
  none_called free h = by g.called h
    where
      never : (b : Bool) → (b && not true) ≡ false
      never true = refl
      never false = refl

      by : (o : Option State) → ((keep : State) → o ≡ Some keep → is_below keep g.state ≡ true) → o ≡ None
      by None h' = refl
      by (Some keep) h' = absurd (true≢false (sym (h' keep refl) ∙ ap (is_below keep) free ∙ never (leq keep Un)))

  pub granted_below : (state : State) → g.state ≡ Un → IsCalledBelow g → IsCalledBelow (granted state g)
  granted_below state free h keep e = let no : None ≡ Some keep = sym (none_called free h) ∙ e in cc

  allowed_low : (o : Option State) → ((keep : State) → o ≡ Some keep → is_below keep g.state ≡ true) → leq (unwrap_or o g.state) g.state ≡ true
  allowed_low None h = leq_itself g.state
  allowed_low (Some kept) h = below_leq kept g.state (h kept refl)

  pub called_below : (keep : State) → IsCalledBelow g → IsCalledBelow (called_back keep g)
  called_below keep h = by (leq g.state allowed) refl
    where
      allowed : State
      allowed = common (unwrap_or g.called g.state) keep

      low : leq allowed g.state ≡ true
      low = leq_through allowed (unwrap_or g.called g.state) g.state (common_first (unwrap_or g.called g.state) keep) (allowed_low g.called h)

      by : (b : Bool) → leq g.state allowed ≡ b → IsCalledBelow (cond b g (record g { called = Some allowed; was_called = true }))
      by true is = h
      by false is = λ kept e. subst (λ s. is_below s g.state ≡ true) (ap (λ o. unwrap_or o allowed) e) (below_from allowed g.state low is)

  still_low : (to : State) (o : Option State) (kept : State) → still_called to o ≡ Some kept → is_below kept to ≡ true
  still_low to None kept e = cc
  still_low to (Some keep) kept e = by (leq to keep) refl e
    where
      by : (b : Bool) → leq to keep ≡ b → cond b None (Some (common keep to)) ≡ Some kept → is_below kept to ≡ true
      by true is e' = cc
      by false is e' = subst (λ s. is_below s to ≡ true) (ap (λ o. unwrap_or o kept) e') (below_from (common keep to) to (common_second keep to)
          (false_where (leq to (common keep to)) (λ h. true≢false (sym (leq_through to (common keep to) keep h (common_first keep to)) ∙ is))))

  pub lowered_below : (to : State) → IsCalledBelow (lowered to g)
  lowered_below to kept e = still_low to g.called kept e

  -- the state to which it goes down is weaker
  pub down_below : (u : Bool) (to : State) → IsCalledBelow g → down_of u g ≡ Some to → is_below to g.state ≡ true
  down_below u to h e = by (nat_lt 0 g.pins) (leq g.state Un) refl (u || any_unserved g.state g.wants) e
    where
      by : (p l : Bool) → leq g.state Un ≡ l → (a : Bool) → cond (p || l) None (cond a (Some Un) g.called) ≡ Some to → is_below to g.state ≡ true
      by true l is a e' = cc
      by false true is a e' = cc
      by false false is true e' = subst (λ s. is_below s g.state ≡ true) (ap (λ o. unwrap_or o to) e') (below_from Un g.state refl is)
      by false false is false e' = h to e'

-- ---- every lock of a node

pub all_below_empty : AreCalledBelow empty
all_below_empty key g e = let no : None ≡ Some g = sym (get-empty key_cmp key) ∙ e in cc

pub all_below_insert : (locks : FinMap key_cmp Glock) (key : Key) (g : Glock) → AreCalledBelow locks → IsCalledBelow g → AreCalledBelow (insert locks key g)
all_below_insert locks key g all below q h e = by (eq_by_cmp key_cmp q key) (sym (get-insert key_total locks key g q) ∙ e)
  where
    by : (b : Bool) → cond b (Some g) (get locks q) ≡ Some h → IsCalledBelow h
    by true e' = subst IsCalledBelow (ap (λ o. unwrap_or o g) e') below
    by false e' = all q h e'

pub below_at : (locks : FinMap key_cmp Glock) (key : Key) → AreCalledBelow locks → IsCalledBelow (unwrap_or (get locks key) new_glock)
below_at locks key all = by (get locks key) refl
  where
    by : (o : Option Glock) → get locks key ≡ o → IsCalledBelow (unwrap_or o new_glock)
    by None is = below_new new_glock
    by (Some g) is = all key g is

pub goes_below : (locks : FinMap key_cmp Glock) (u : Bool) (key : Key) (to : State) → AreCalledBelow locks
    → option_and_then (down_of u) (get locks key) ≡ Some to → is_below to (unwrap_or (get locks key) new_glock).state ≡ true
goes_below locks u key to all e = by (get locks key) refl e
  where
    by : (o : Option Glock) → get locks key ≡ o → option_and_then (down_of u) o ≡ Some to → is_below to (unwrap_or o new_glock).state ≡ true
    by None is e' = cc
    by (Some g) is e' = down_below g u to (all key g is) e'
