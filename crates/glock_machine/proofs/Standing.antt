-- What stays of a lock while calls come.
use Rattle.std.proofs.Common.{◌≡◌, ◌⊎◌, inl, inr, ◌∙◌, ℕ, ◌+◌, ◌-◌, ◌≤◌, ◌<◌, Bool, true, false, cond, ltb, not, List, [], ◌∷◌, Option, None, Some, refl, sym, ap, subst, true≢false, arith}
use Rattle.std.proofs.lemmas.Bool.{ltb-true, cases_lt}
use Rattle.std.specs.Prelude.{◌&&◌, ◌||◌, ⊤, min, max, nat_lt, unwrap_or, option_and_then}
use Rattle.std.specs.FinMap.{get, empty, get-empty}
use Rattle.std.specs.List.{list_any}
use Rattle.finite_maps.proofs.Keys.{inserted_at, inserted_apart}
use Rattle.glock_names.specs.declared.LockName.{LockName}
use Rattle.glock_names.specs.declared.State.{State}
use Rattle.glock_names.specs.declared.State.TheVariants.{Un, Sh, Df, Ex}
use Rattle.glock_names.specs.LockMaps.{same_lock}
use Rattle.glock_names.specs.StateOrder.{leq, is_below}
use Rattle.glock_names.proofs.LockMapLaws.{same_lock_tells}
use Rattle.glock_names.proofs.StateOrders.{leq_itself, leq_least, leq_through, below_leq, below_not}
use Rattle.glock_machine.specs.declared.glock.Glock.{Glock}
use Rattle.glock_machine.specs.declared.wants.Wants.{Wants}
use Rattle.glock_machine.specs.Keys.{key_of, key_cmp}
use Rattle.glock_machine.specs.Wants.{is_wanted, with_want, is_unserved, unserved, any_unserved}
use Rattle.glock_machine.specs.Table.{Table, new_glock, glock_of, changed, common, wanted, unwanted, granted, pinned, unpinned, called_back, still_called, lowered, touched, down_of, may_ask}
use Rattle.glock_machine.specs.Calls.{Deed, Want, Unwant, Pin, Unpin, Granted, Callback, Down, Touch, done, MayBeDone, all_done, is_grant, is_callback, is_down, Act, On, Unmount, after, after_all, Come, deeds_on, PinnedThroughout, Stands, CallStands, GoesFarEnough, HasTouch, KeepsWant, WantStands, last_granted}
use Rattle.glock_machine.proofs.Locks.{key_total, key_exact}
use Rattle.glock_machine.proofs.Below.{common_first, common_second, common_greatest}

-- ---- one lock among all

pub at_own : (lock : LockName) (f : Glock → Glock) (t : Table) → glock_of (changed f t lock) lock ≡ f (glock_of t lock)
at_own lock f t = ap (λ o. unwrap_or o new_glock) (inserted_at key_total key_exact t.locks (key_of lock) (f (glock_of t lock)))

at_same : (lock other : LockName) (f : Glock → Glock) (t : Table) → other ≡ lock → glock_of (changed f t other) lock ≡ f (glock_of t lock)
at_same lock other f t e = subst (λ l. glock_of (changed f t l) lock ≡ f (glock_of t lock)) (sym e) (at_own lock f t)

at_other : (lock other : LockName) (f : Glock → Glock) (t : Table) → (other ≡ lock → ⊥) → glock_of (changed f t other) lock ≡ glock_of t lock
at_other lock other f t apart = ap (λ o. unwrap_or o new_glock)
    (inserted_apart key_total key_exact t.locks (key_of other) (f (glock_of t other)) (key_of lock)
    (λ (e : key_of lock ≡ key_of other). apart (λ i. record { kind = (sym e i).0; number = (sym e i).1 })))

pub stand_apart : (lock : LockName) (acts : List Act) (t : Table) → glock_of (after_all acts t) lock ≡ all_done (deeds_on lock acts) (glock_of t lock)
stand_apart lock [] t = refl
stand_apart lock (Unmount ∷ acts) t = stand_apart lock acts (record t { unmounting = true })
stand_apart lock (On other deed ∷ acts) t = stand_apart lock acts (changed (done deed) t other) ∙ by (same_lock_tells other lock)
  where
    by : ((same_lock other lock ≡ true) × (other ≡ lock)) ⊎ ((same_lock other lock ≡ false) × (other ≡ lock → ⊥))
        → all_done (deeds_on lock acts) (glock_of (changed (done deed) t other) lock)
        ≡ all_done (cond (same_lock other lock) (deed ∷ deeds_on lock acts) (deeds_on lock acts)) (glock_of t lock)
    by (inl e) = ap (all_done (deeds_on lock acts)) (at_same lock other (done deed) t e.1)
        ∙ sym (ap (λ b. all_done (cond b (deed ∷ deeds_on lock acts) (deeds_on lock acts)) (glock_of t lock)) e.0)
    by (inr n) = ap (all_done (deeds_on lock acts)) (at_other lock other (done deed) t n.1)
        ∙ sym (ap (λ b. all_done (cond b (deed ∷ deeds_on lock acts) (deeds_on lock acts)) (glock_of t lock)) n.0)

abbrev AllMayBeDone : List Deed → Glock → Type 0
AllMayBeDone [] g = ⊤
AllMayBeDone (deed ∷ deeds) g = MayBeDone deed g × AllMayBeDone deeds (done deed g)

come_on : (lock : LockName) (acts : List Act) (t : Table) → Come acts t → AllMayBeDone (deeds_on lock acts) (glock_of t lock)
come_on lock [] t come = tt
come_on lock (Unmount ∷ acts) t come = come_on lock acts (record t { unmounting = true }) come.1
come_on lock (On other deed ∷ acts) t come = by (same_lock_tells other lock) (come_on lock acts (changed (done deed) t other) come.1)
  where
    by : ((same_lock other lock ≡ true) × (other ≡ lock)) ⊎ ((same_lock other lock ≡ false) × (other ≡ lock → ⊥))
        → AllMayBeDone (deeds_on lock acts) (glock_of (changed (done deed) t other) lock)
        → AllMayBeDone (cond (same_lock other lock) (deed ∷ deeds_on lock acts) (deeds_on lock acts)) (glock_of t lock)
    by (inl e) rest = subst (λ b. AllMayBeDone (cond b (deed ∷ deeds_on lock acts) (deeds_on lock acts)) (glock_of t lock)) (sym e.0)
        (subst (λ l. MayBeDone deed (glock_of t l)) e.1 come.0, subst (AllMayBeDone (deeds_on lock acts)) (at_same lock other (done deed) t e.1) rest)
    by (inr n) rest = subst (λ b. AllMayBeDone (cond b (deed ∷ deeds_on lock acts) (deeds_on lock acts)) (glock_of t lock)) (sym n.0)
        (subst (AllMayBeDone (deeds_on lock acts)) (at_other lock other (done deed) t n.1) rest)

-- ---- calls that leave a part of the record

either : {A : Type 0} (f : Glock → A) (b : Bool) (x y : Glock) (a : A) → f x ≡ a → f y ≡ a → f (cond b x y) ≡ a
either f true x y a p q = p
either f false x y a p q = q

-- what the record of wants isn't part of
want_leaves : {A : Type 0} (f : Glock → A) (state : State) (g : Glock) → f (record g { wants = with_want g.wants state true }) ≡ f g → f (wanted state g) ≡ f g
want_leaves f state g h = either f (leq state g.state) g (record g { wants = with_want g.wants state true }) (f g) refl h

abbrev allowed_of : State → Glock → State
allowed_of keep g = common (unwrap_or g.called g.state) keep

call_leaves : {A : Type 0} (f : Glock → A) (keep : State) (g : Glock) → f (record g { called = Some (allowed_of keep g); was_called = true }) ≡ f g → f (called_back keep g) ≡ f g
call_leaves f keep g h = either f (leq g.state (allowed_of keep g)) g (record g { called = Some (allowed_of keep g); was_called = true }) (f g) refl h

pub state_stays : (deed : Deed) (g : Glock) → is_grant deed ≡ false → is_down deed ≡ false → (done deed g).state ≡ g.state
state_stays (Want state) g p q = want_leaves (λ (x : Glock). x.state) state g refl
state_stays (Unwant state) g p q = refl
state_stays Pin g p q = refl
state_stays Unpin g p q = refl
state_stays (Granted state) g p q = absurd (true≢false p)
state_stays (Callback keep) g p q = call_leaves (λ (x : Glock). x.state) keep g refl
state_stays (Down to) g p q = absurd (true≢false q)
state_stays (Touch number) g p q = refl

-- what is so of the record stays, whatever is called but what either test finds
stays : (P : Glock → Type 0) (p q : Deed → Bool) → ((deed : Deed) (g : Glock) → p deed ≡ false → q deed ≡ false → P g → P (done deed g))
    → (deeds : List Deed) (g : Glock) → list_any p deeds ≡ false → list_any q deeds ≡ false → P g → P (all_done deeds g)
stays P p q step [] g hp hq here = here
stays P p q step (deed ∷ deeds) g hp hq here =
    stays P p q step deeds (done deed g) (rest_none (p deed) _ hp) (rest_none (q deed) _ hq) (step deed g (first_none (p deed) _ hp) (first_none (q deed) _ hq) here)
  where
    first_none : (a b : Bool) → (a || b) ≡ false → a ≡ false
    first_none true b h = h
    first_none false b h = refl

    rest_none : (a b : Bool) → (a || b) ≡ false → b ≡ false
    rest_none true b h = absurd (true≢false h)
    rest_none false b h = h

-- ---- a pinned lock

not_down : (pins : ℕ) → ltb 0 pins ≡ true → pins ≡ 0 → ⊥
not_down pins h e = omega (arith, ltb-true 0 pins h)

one_stays : (low : State) (deed : Deed) (g : Glock) → MayBeDone deed g → ltb 0 g.pins ≡ true → leq low g.state ≡ true → leq low (done deed g).state ≡ true
one_stays low (Want state) g may pin h = subst (λ s. leq low s ≡ true) (sym (want_leaves (λ (x : Glock). x.state) state g refl)) h
one_stays low (Unwant state) g may pin h = h
one_stays low Pin g may pin h = h
one_stays low Unpin g may pin h = h
one_stays low (Granted state) g may pin h = leq_through low g.state state h (subst (λ s. leq s state ≡ true) (sym may.0) (leq_least state))
one_stays low (Callback keep) g may pin h = subst (λ s. leq low s ≡ true) (sym (call_leaves (λ (x : Glock). x.state) keep g refl)) h
one_stays low (Down to) g may pin h = absurd (not_down g.pins pin may.0)
one_stays low (Touch number) g may pin h = h

stays_above : (low : State) (deeds : List Deed) (g : Glock) → AllMayBeDone deeds g → PinnedThroughout deeds g → leq low g.state ≡ true → leq low (all_done deeds g).state ≡ true
stays_above low [] g may pin h = h
stays_above low (deed ∷ deeds) g may pin h = stays_above low deeds (done deed g) may.1 pin.1 (one_stays low deed g may.0 pin.0 h)

pub pinned_stay : (lock : LockName) (acts : List Act) (t : Table) → Come acts t → PinnedThroughout (deeds_on lock acts) (glock_of t lock)
    → leq (glock_of t lock).state (glock_of (after_all acts t) lock).state ≡ true
pinned_stay lock acts t come pin = subst (λ (g : Glock). leq (glock_of t lock).state g.state ≡ true) (sym (stand_apart lock acts t))
    (stays_above (glock_of t lock).state (deeds_on lock acts) (glock_of t lock) (come_on lock acts t come) pin (leq_itself (glock_of t lock).state))

-- ---- what was granted

below_last : (deeds : List Deed) (g : Glock) (top : State) → AllMayBeDone deeds g → leq g.state top ≡ true → leq (all_done deeds g).state (last_granted deeds top) ≡ true
below_last [] g top may h = h
below_last (Want state ∷ deeds) g top may h = below_last deeds (wanted state g) top may.1 (subst (λ s. leq s top ≡ true) (sym (want_leaves (λ (x : Glock). x.state) state g refl)) h)
below_last (Unwant state ∷ deeds) g top may h = below_last deeds (unwanted state g) top may.1 h
below_last (Pin ∷ deeds) g top may h = below_last deeds (pinned g) top may.1 h
below_last (Unpin ∷ deeds) g top may h = below_last deeds (unpinned g) top may.1 h
below_last (Granted state ∷ deeds) g top may h = below_last deeds (granted state g) state may.1 (leq_itself state)
below_last (Callback keep ∷ deeds) g top may h = below_last deeds (called_back keep g) top may.1 (subst (λ s. leq s top ≡ true) (sym (call_leaves (λ (x : Glock). x.state) keep g refl)) h)
below_last (Down to ∷ deeds) g top may h = below_last deeds (lowered to g) top may.1 (leq_through to g.state top (below_leq to g.state may.0.1) h)
below_last (Touch number ∷ deeds) g top may h = below_last deeds (touched number g) top may.1 h

pub were_granted : (lock : LockName) (acts : List Act) (t : Table) → Come acts t
    → leq (glock_of (after_all acts t) lock).state (last_granted (deeds_on lock acts) (glock_of t lock).state) ≡ true
were_granted lock acts t come = subst (λ (g : Glock). leq g.state (last_granted (deeds_on lock acts) (glock_of t lock).state) ≡ true) (sym (stand_apart lock acts t))
    (below_last (deeds_on lock acts) (glock_of t lock) (glock_of t lock).state (come_on lock acts t come) (leq_itself (glock_of t lock).state))

-- ---- a want

wanted_is : (w : Wants) (state : State) → (state ≡ Un → ⊥) → is_wanted (with_want w state true) state ≡ true
wanted_is w Un h = absurd (h refl)
wanted_is w Sh h = refl
wanted_is w Df h = refl
wanted_is w Ex h = refl

want_more : (w : Wants) (other state : State) → is_wanted w state ≡ true → is_wanted (with_want w other true) state ≡ true
want_more w Un state h = h
want_more w Sh Un h = h
want_more w Sh Sh h = refl
want_more w Sh Df h = h
want_more w Sh Ex h = h
want_more w Df Un h = h
want_more w Df Sh h = h
want_more w Df Df h = refl
want_more w Df Ex h = h
want_more w Ex Un h = h
want_more w Ex Sh h = h
want_more w Ex Df h = h
want_more w Ex Ex h = refl

want_less : (w : Wants) (other state : State) → (other ≡ state → ⊥) → is_wanted w state ≡ true → is_wanted (with_want w other false) state ≡ true
want_less w Un state n h = h
want_less w Sh Un n h = h
want_less w Sh Sh n h = absurd (n refl)
want_less w Sh Df n h = h
want_less w Sh Ex n h = h
want_less w Df Un n h = h
want_less w Df Sh n h = h
want_less w Df Df n h = absurd (n refl)
want_less w Df Ex n h = h
want_less w Ex Un n h = h
want_less w Ex Sh n h = h
want_less w Ex Df n h = h
want_less w Ex Ex n h = absurd (n refl)

both : (a b : Bool) → a ≡ true → b ≡ false → (a && not b) ≡ true
both a b h k = λ i. h i && not (k i)

want_left : (w : Wants) (held state : State) → leq state held ≡ false → is_wanted w state ≡ true → is_wanted (unserved held w) state ≡ true
want_left w held Un n h = h
want_left w held Sh n h = both w.shared (leq Sh held) h n
want_left w held Df n h = both w.deferred (leq Df held) h n
want_left w held Ex n h = both w.exclusive (leq Ex held) h n

want_one : (state other : State) (g : Glock) → is_wanted g.wants state ≡ true → is_wanted (wanted other g).wants state ≡ true
want_one state other g h = by (leq other g.state)
  where
    by : (b : Bool) → is_wanted (cond b g (record g { wants = with_want g.wants other true })).wants state ≡ true
    by true = h
    by false = want_more g.wants other state h

want_stays : (state : State) (deeds : List Deed) (g : Glock) → KeepsWant state deeds → is_wanted g.wants state ≡ true → is_wanted (all_done deeds g).wants state ≡ true
want_stays state [] g keeps h = h
want_stays state (Want other ∷ deeds) g keeps h = want_stays state deeds (wanted other g) keeps (want_one state other g h)
want_stays state (Unwant other ∷ deeds) g keeps h = want_stays state deeds (unwanted other g) keeps.1 (want_less g.wants other state keeps.0 h)
want_stays state (Pin ∷ deeds) g keeps h = want_stays state deeds (pinned g) keeps h
want_stays state (Unpin ∷ deeds) g keeps h = want_stays state deeds (unpinned g) keeps h
want_stays state (Granted other ∷ deeds) g keeps h = want_stays state deeds (granted other g) keeps.1 (want_left g.wants other state keeps.0 h)
want_stays state (Callback keep ∷ deeds) g keeps h = want_stays state deeds (called_back keep g) keeps
    (subst (λ w. is_wanted w state ≡ true) (sym (call_leaves (λ (x : Glock). x.wants) keep g refl)) h)
want_stays state (Down to ∷ deeds) g keeps h = want_stays state deeds (lowered to g) keeps h
want_stays state (Touch number ∷ deeds) g keeps h = want_stays state deeds (touched number g) keeps h

want_begins : (state : State) (g : Glock) → leq state g.state ≡ false → is_wanted (wanted state g).wants state ≡ true
want_begins state g n = subst (λ b. is_wanted (cond b g (record g { wants = with_want g.wants state true })).wants state ≡ true) (sym n)
    (wanted_is g.wants state (λ (e : state ≡ Un). true≢false (subst (λ s. leq s g.state ≡ false) e n)))

-- with a want that isn't served the lock goes down
or_second : (a b : Bool) → b ≡ true → (a || b) ≡ true
or_second true b h = refl
or_second false b h = h

or_first : (a b : Bool) → a ≡ true → (a || b) ≡ true
or_first a b h = ap (λ x. x || b) h

is_any : (held : State) (w : Wants) (state : State) → is_wanted w state ≡ true → leq state held ≡ false → any_unserved held w ≡ true
is_any held w Un h n = absurd (true≢false (sym h))
is_any held w Sh h n = or_first (is_unserved held w Sh) _ (both w.shared (leq Sh held) h n)
is_any held w Df h n = or_second (is_unserved held w Sh) _ (or_first (is_unserved held w Df) _ (both w.deferred (leq Df held) h n))
is_any held w Ex h n = or_second (is_unserved held w Sh) _ (or_second (is_unserved held w Df) _ (both w.exclusive (leq Ex held) h n))

down_goes : (u : Bool) (g : Glock) → leq g.state Un ≡ false → any_unserved g.state g.wants ≡ true → g.pins ≡ 0 → down_of u g ≡ Some Un
down_goes u g held any none = (λ i. cond (nat_lt 0 (none i) || held i) None (cond (u || any i) (Some Un) g.called)) ∙ by u
  where
    by : (u : Bool) → cond (u || true) (Some Un) g.called ≡ Some Un
    by true = refl
    by false = refl

goes_by : (u : Bool) (o : Option Glock) → option_and_then (down_of u) o ≡ down_of u (unwrap_or o new_glock)
goes_by u None = refl
goes_by u (Some g) = refl

pub want_stands : (lock : LockName) (state : State) (acts : List Act) (t : Table) → leq state (glock_of t lock).state ≡ false
    → KeepsWant state (deeds_on lock acts) → WantStands state lock (after_all (On lock (Want state) ∷ acts) t)
want_stands lock state acts t n keeps = record {
  wanted = stands;
  goes = λ held unserved unpinned. goes_by now.unmounting (get now.locks (key_of lock))
      ∙ down_goes now.unmounting (glock_of now lock) held (is_any (glock_of now lock).state (glock_of now lock).wants state stands unserved) unpinned;
}
  where
    now : Table
    now = after_all (On lock (Want state) ∷ acts) t

    stands : is_wanted (glock_of now lock).wants state ≡ true
    stands = subst (λ (g : Glock). is_wanted g.wants state ≡ true) (sym (stand_apart lock acts (changed (wanted state) t lock)))
        (want_stays state (deeds_on lock acts) (glock_of (changed (wanted state) t lock) lock) keeps
        (subst (λ (g : Glock). is_wanted g.wants state ≡ true) (sym (at_own lock (wanted state) t)) (want_begins state (glock_of t lock) n)))

-- ---- a callback

module _ (keep : State) where
  abbrev Called : Glock → Type 0
  Called g = Stands keep g ⊎ (leq g.state keep ≡ true)

  called_again : (more : State) (g : Glock) → Stands keep g → Stands keep (called_back more g)
  called_again more g s = by (leq g.state (allowed_of more g))
    where
      low : leq (allowed_of more g) keep ≡ true
      low = leq_through (allowed_of more g) s.0 keep (subst (λ o. leq (common (unwrap_or o g.state) more) s.0 ≡ true) (sym s.1) (common_first s.0 more)) s.2

      by : (b : Bool) → Stands keep (cond b g (record g { called = Some (allowed_of more g); was_called = true }))
      by true = s
      by false = (allowed_of more g, refl, low)

  still : (to : State) (o : Option State) → ((kept : State) × (o ≡ Some kept) × (leq kept keep ≡ true))
      → ((kept : State) × (still_called to o ≡ Some kept) × (leq kept keep ≡ true)) ⊎ (leq to keep ≡ true)
  still to None s = cc
  still to (Some kept) s = by (leq to kept) refl
    where
      low : leq kept keep ≡ true
      low = subst (λ o. leq (unwrap_or o kept) keep ≡ true) (sym s.1) s.2

      by : (b : Bool) → leq to kept ≡ b → ((left : State) × (cond b None (Some (common kept to)) ≡ Some left) × (leq left keep ≡ true)) ⊎ (leq to keep ≡ true)
      by true is = inr (leq_through to kept keep is low)
      by false is = inl (common kept to, refl, leq_through (common kept to) kept keep (common_first kept to) low)

  one_stands : (deed : Deed) (g : Glock) → Stands keep g → Called (done deed g)
  one_stands (Want state) g s = inl (s.0, want_leaves (λ (x : Glock). x.called) state g refl ∙ s.1, s.2)
  one_stands (Unwant state) g s = inl s
  one_stands Pin g s = inl s
  one_stands Unpin g s = inl s
  one_stands (Granted state) g s = inl s
  one_stands (Callback more) g s = inl (called_again more g s)
  one_stands (Down to) g s = still to g.called s
  one_stands (Touch number) g s = inl s

  stands_on : (deeds : List Deed) (g : Glock) → Called g → Stands keep (all_done deeds g) ⊎ GoesFarEnough keep deeds g
  stands_on [] g h = h
  stands_on (deed ∷ deeds) g (inr far) = inr (inl far)
  stands_on (deed ∷ deeds) g (inl s) = by (stands_on deeds (done deed g) (one_stands deed g s))
    where
      by : Stands keep (all_done deeds (done deed g)) ⊎ GoesFarEnough keep deeds (done deed g)
          → Stands keep (all_done deeds (done deed g)) ⊎ ((leq g.state keep ≡ true) ⊎ GoesFarEnough keep deeds (done deed g))
      by (inl s') = inl s'
      by (inr far) = inr (inr far)

  call_begins : (g : Glock) → Called (called_back keep g)
  call_begins g = by (leq g.state (allowed_of keep g)) refl
    where
      by : (b : Bool) → leq g.state (allowed_of keep g) ≡ b → Called (cond b g (record g { called = Some (allowed_of keep g); was_called = true }))
      by true is = inr (leq_through g.state (allowed_of keep g) keep is (common_second (unwrap_or g.called g.state) keep))
      by false is = inl (allowed_of keep g, refl, common_second (unwrap_or g.called g.state) keep)

-- while it stands, the lock goes down as far as it asks
call_goes : (keep : State) (u : Bool) (g : Glock) → Stands keep g → leq g.state Un ≡ false → g.pins ≡ 0 → (to : State) × (down_of u g ≡ Some to) × (leq to keep ≡ true)
call_goes keep u g s held none = by (u || any_unserved g.state g.wants) refl
  where
    step : down_of u g ≡ cond (u || any_unserved g.state g.wants) (Some Un) g.called
    step = λ i. cond (nat_lt 0 (none i) || held i) None (cond (u || any_unserved g.state g.wants) (Some Un) g.called)

    by : (b : Bool) → (u || any_unserved g.state g.wants) ≡ b → (to : State) × (down_of u g ≡ Some to) × (leq to keep ≡ true)
    by true is = (Un, step ∙ ap (λ b. cond b (Some Un) g.called) is, refl)
    by false is = (s.0, step ∙ ap (λ b. cond b (Some Un) g.called) is ∙ s.1, s.2)

call_stands : (lock : LockName) (keep : State) (now : Table) → Stands keep (glock_of now lock) → CallStands keep lock now
call_stands lock keep now s = record {
  called = s;
  goes = λ held unpinned.
      let down : (to : State) × (down_of now.unmounting (glock_of now lock) ≡ Some to) × (leq to keep ≡ true) = call_goes keep now.unmounting (glock_of now lock) s held unpinned in
      (down.0, goes_by now.unmounting (get now.locks (key_of lock)) ∙ down.1, down.2);
}

pub calls_stand : (lock : LockName) (keep : State) (acts : List Act) (t : Table)
    → CallStands keep lock (after_all (On lock (Callback keep) ∷ acts) t) ⊎ GoesFarEnough keep (deeds_on lock acts) (called_back keep (glock_of t lock))
calls_stand lock keep acts t = by (stands_on keep (deeds_on lock acts) (called_back keep (glock_of t lock)) (call_begins keep (glock_of t lock)))
  where
    now : Table
    now = after_all (On lock (Callback keep) ∷ acts) t

    at : glock_of now lock ≡ all_done (deeds_on lock acts) (called_back keep (glock_of t lock))
    at = stand_apart lock acts (changed (called_back keep) t lock) ∙ ap (all_done (deeds_on lock acts)) (at_own lock (called_back keep) t)

    by : Stands keep (all_done (deeds_on lock acts) (called_back keep (glock_of t lock))) ⊎ GoesFarEnough keep (deeds_on lock acts) (called_back keep (glock_of t lock))
        → CallStands keep lock now ⊎ GoesFarEnough keep (deeds_on lock acts) (called_back keep (glock_of t lock))
    by (inl s) = inl (call_stands lock keep now (subst (Stands keep) (sym at) s))
    by (inr far) = inr far

-- ---- numbers of calls

touch_on : (number : ℕ) (deed : Deed) (g : Glock) → is_grant deed ≡ false → is_grant deed ≡ false → number ≤ g.touched → number ≤ (done deed g).touched
touch_on number (Want state) g p q h = subst (λ n. number ≤ n) (sym (want_leaves (λ (x : Glock). x.touched) state g refl)) h
touch_on number (Unwant state) g p q h = h
touch_on number Pin g p q h = h
touch_on number Unpin g p q h = h
touch_on number (Granted state) g p q h = absurd (true≢false p)
touch_on number (Callback keep) g p q h = subst (λ n. number ≤ n) (sym (call_leaves (λ (x : Glock). x.touched) keep g refl)) h
touch_on number (Down to) g p q h = h
touch_on number (Touch more) g p q h = omega arith

pub touches_stay : (lock : LockName) (number : ℕ) (acts : List Act) (t : Table) → list_any is_grant (deeds_on lock acts) ≡ false
    → number ≤ (glock_of (after_all (On lock (Touch number) ∷ acts) t) lock).touched
touches_stay lock number acts t none =
    subst (λ (g : Glock). number ≤ g.touched) (sym (stand_apart lock acts (changed (touched number) t lock)))
    (stays (λ (g : Glock). number ≤ g.touched) is_grant is_grant (touch_on number) (deeds_on lock acts) (glock_of (changed (touched number) t lock) lock) none none
    (subst (λ (g : Glock). number ≤ g.touched) (sym (at_own lock (touched number) t)) (max_first number (glock_of t lock).touched)))
  where
    max_first : (a b : ℕ) → a ≤ max a b
    max_first a b = omega arith

-- the number that is kept is what it was, or 0, or one of theirs
made_by : (deeds : List Deed) (g : Glock) → ((all_done deeds g).touched ≡ g.touched) ⊎ (((all_done deeds g).touched ≡ 0) ⊎ HasTouch (all_done deeds g).touched deeds)
made_by [] g = inl refl
made_by (Want state ∷ deeds) g = subst (λ n. ((all_done deeds (wanted state g)).touched ≡ n) ⊎ (((all_done deeds (wanted state g)).touched ≡ 0) ⊎ HasTouch (all_done deeds (wanted state g)).touched deeds))
    (want_leaves (λ (x : Glock). x.touched) state g refl) (made_by deeds (wanted state g))
made_by (Unwant state ∷ deeds) g = made_by deeds (unwanted state g)
made_by (Pin ∷ deeds) g = made_by deeds (pinned g)
made_by (Unpin ∷ deeds) g = made_by deeds (unpinned g)
made_by (Granted state ∷ deeds) g = by (made_by deeds (granted state g))
  where
    by : {P Q R : Type 0} → P ⊎ (P ⊎ R) → Q ⊎ (P ⊎ R)
    by (inl e) = inr (inl e)
    by (inr h) = inr h
made_by (Callback keep ∷ deeds) g = subst (λ n. ((all_done deeds (called_back keep g)).touched ≡ n) ⊎ (((all_done deeds (called_back keep g)).touched ≡ 0) ⊎ HasTouch (all_done deeds (called_back keep g)).touched deeds))
    (call_leaves (λ (x : Glock). x.touched) keep g refl) (made_by deeds (called_back keep g))
made_by (Down to ∷ deeds) g = made_by deeds (lowered to g)
made_by (Touch number ∷ deeds) g = by (made_by deeds (touched number g)) (either_max number g.touched)
  where
    last : ℕ
    last = (all_done deeds (touched number g)).touched

    either_max : (a b : ℕ) → (max a b ≡ a) ⊎ (max a b ≡ b)
    either_max a b = greater (cases_lt a b)
      where
        greater : (a < b) ⊎ (b ≤ a) → (max a b ≡ a) ⊎ (max a b ≡ b)
        greater (inl h) = inr (omega (arith, h))
        greater (inr h) = inl (omega (arith, h))

    by : (last ≡ max number g.touched) ⊎ ((last ≡ 0) ⊎ HasTouch last deeds) → (max number g.touched ≡ number) ⊎ (max number g.touched ≡ g.touched)
        → (last ≡ g.touched) ⊎ ((last ≡ 0) ⊎ ((number ≡ last) ⊎ HasTouch last deeds))
    by (inl e) (inl own) = inr (inr (inl (sym (e ∙ own))))
    by (inl e) (inr old) = inl (e ∙ old)
    by (inr (inl none)) m = inr (inl none)
    by (inr (inr other)) m = inr (inr (inr other))

pub were_made : (lock : LockName) (first : State) (acts : List Act) (t : Table)
    → (last : ℕ) → last ≡ (glock_of (after_all (On lock (Granted first) ∷ acts) t) lock).touched → (last ≡ 0) ⊎ HasTouch last (deeds_on lock acts)
were_made lock first acts t last is = subst (λ n. (n ≡ 0) ⊎ HasTouch n (deeds_on lock acts)) (sym (is ∙ at)) (by (made_by (deeds_on lock acts) (granted first (glock_of t lock))))
  where
    at : (glock_of (after_all (On lock (Granted first) ∷ acts) t) lock).touched ≡ (all_done (deeds_on lock acts) (granted first (glock_of t lock))).touched
    at = ap (λ (g : Glock). g.touched) (stand_apart lock acts (changed (granted first) t lock) ∙ ap (all_done (deeds_on lock acts)) (at_own lock (granted first) t))

    by : {P R : Type 0} → P ⊎ (P ⊎ R) → P ⊎ R
    by (inl e) = inl e
    by (inr h) = h

-- ---- pins, and a callback by itself

pub pin_back : (g : Glock) → g.pins < 4294967295 → unpinned (pinned g) ≡ g
pin_back g h = λ i. record g { pins = back i }
  where
    back : (min (g.pins + 1) 4294967295 - 1) ≡ g.pins
    back = omega (arith, h)

pub first_call : (keep : State) (g : Glock) → g.called ≡ None → is_below keep g.state ≡ true → called_back keep g ≡ record g { called = Some keep; was_called = true }
first_call keep g none low =
    (λ i. cond (leq g.state (allowed i)) g (record g { called = Some (allowed i); was_called = true }))
    ∙ ap (λ b. cond b g (record g { called = Some keep; was_called = true })) (below_not keep g.state low)
  where
    allowed : common (unwrap_or g.called g.state) keep ≡ keep
    allowed = ap (λ o. common (unwrap_or o g.state) keep) none ∙ ap (λ b. cond b keep (cond (leq g.state keep) g.state Un)) (below_leq keep g.state low)

pub second_call : (keep kept left allowed : State) (g : Glock) → g.called ≡ Some kept → (called_back keep g).called ≡ Some left
    → leq allowed kept ≡ true → leq allowed keep ≡ true → leq allowed left ≡ true
second_call keep kept left allowed g is now h k = by (leq g.state (allowed_of keep g)) now
  where
    low : leq allowed (allowed_of keep g) ≡ true
    low = subst (λ o. leq allowed (common (unwrap_or o g.state) keep) ≡ true) (sym is) (common_greatest kept keep allowed h k)

    by : (b : Bool) → (cond b g (record g { called = Some (allowed_of keep g); was_called = true })).called ≡ Some left → leq allowed left ≡ true
    by true e = subst (λ s. leq allowed s ≡ true) (ap (λ o. unwrap_or o kept) (sym is ∙ e)) h
    by false e = subst (λ s. leq allowed s ≡ true) (ap (λ o. unwrap_or o left) e) low

pub lower_call : (to kept left allowed : State) (g : Glock) → g.called ≡ Some kept → (lowered to g).called ≡ Some left
    → leq allowed kept ≡ true → leq allowed to ≡ true → leq allowed left ≡ true
lower_call to kept left allowed g is now h k = by (leq to kept) (ap (still_called to) (sym is) ∙ now)
  where
    by : (b : Bool) → cond b None (Some (common kept to)) ≡ Some left → leq allowed left ≡ true
    by true e = cc
    by false e = subst (λ s. leq allowed s ≡ true) (ap (λ o. unwrap_or o left) e) (common_greatest kept to allowed h k)

-- ---- what may be asked for

uncalled_on : (is : Option State) (deed : Deed) (g : Glock) → is_grant deed ≡ false → is_down deed ≡ false → g.uncalled ≡ is → (done deed g).uncalled ≡ is
uncalled_on is (Want state) g p q h = want_leaves (λ (x : Glock). x.uncalled) state g refl ∙ h
uncalled_on is (Unwant state) g p q h = h
uncalled_on is Pin g p q h = h
uncalled_on is Unpin g p q h = h
uncalled_on is (Granted state) g p q h = absurd (true≢false p)
uncalled_on is (Callback keep) g p q h = call_leaves (λ (x : Glock). x.uncalled) keep g refl ∙ h
uncalled_on is (Down to) g p q h = absurd (true≢false q)
uncalled_on is (Touch number) g p q h = h

never_called : (deed : Deed) (g : Glock) → is_grant deed ≡ false → is_callback deed ≡ false → g.was_called ≡ false → (done deed g).was_called ≡ false
never_called (Want state) g p q h = want_leaves (λ (x : Glock). x.was_called) state g refl ∙ h
never_called (Unwant state) g p q h = h
never_called Pin g p q h = h
never_called Unpin g p q h = h
never_called (Granted state) g p q h = refl
never_called (Callback keep) g p q h = absurd (true≢false q)
never_called (Down to) g p q h = h
never_called (Touch number) g p q h = h

once_called : (deed : Deed) (g : Glock) → is_grant deed ≡ false → is_grant deed ≡ false → g.was_called ≡ true → (done deed g).was_called ≡ true
once_called (Want state) g p q h = want_leaves (λ (x : Glock). x.was_called) state g refl ∙ h
once_called (Unwant state) g p q h = h
once_called Pin g p q h = h
once_called Unpin g p q h = h
once_called (Granted state) g p q h = absurd (true≢false p)
once_called (Callback keep) g p q h = either (λ (x : Glock). x.was_called) (leq g.state (allowed_of keep g)) g (record g { called = Some (allowed_of keep g); was_called = true }) true h refl
once_called (Down to) g p q h = h
once_called (Touch number) g p q h = h

-- after a down, and calls that are neither grants nor downs
uncalled_then : (lock : LockName) (to : State) (later : List Act) (t : Table) (is : Option State)
    → list_any is_grant (deeds_on lock later) ≡ false → list_any is_down (deeds_on lock later) ≡ false → (lowered to (glock_of t lock)).uncalled ≡ is
    → (glock_of (after_all later (after (On lock (Down to)) t)) lock).uncalled ≡ is
uncalled_then lock to later t is grants downs h =
    subst (λ (g : Glock). g.uncalled ≡ is) (sym (stand_apart lock later (changed (lowered to) t lock)))
    (stays (λ (g : Glock). g.uncalled ≡ is) is_grant is_down (uncalled_on is) (deeds_on lock later) (glock_of (changed (lowered to) t lock) lock) grants downs
    (subst (λ (g : Glock). g.uncalled ≡ is) (sym (at_own lock (lowered to) t)) h))

pub bars_asks : (lock : LockName) (first to state : State) (between later : List Act) (t before : Table)
    → before ≡ after_all (On lock (Granted first) ∷ between) t
    → list_any is_grant (deeds_on lock between) ≡ false → list_any is_callback (deeds_on lock between) ≡ false
    → list_any is_grant (deeds_on lock later) ≡ false → list_any is_down (deeds_on lock later) ≡ false
    → (g : Glock) → g ≡ glock_of (after_all later (after (On lock (Down to)) before)) lock
    → may_ask state g ≡ (leq g.state Un && not (leq state (glock_of before lock).state))
bars_asks lock first to state between later t before at grants calls more downs g is =
    ap (λ o. leq g.state Un && not (leq state (unwrap_or o Un))) (ap (λ (x : Glock). x.uncalled) is
    ∙ uncalled_then lock to later before (Some (glock_of before lock).state) more downs
    (ap (λ b. cond b None (Some (glock_of before lock).state)) quiet))
  where
    quiet : (glock_of before lock).was_called ≡ false
    quiet = subst (λ (x : Table). (glock_of x lock).was_called ≡ false) (sym at)
        (subst (λ (g : Glock). g.was_called ≡ false) (sym (stand_apart lock between (changed (granted first) t lock)))
        (stays (λ (g : Glock). g.was_called ≡ false) is_grant is_callback never_called (deeds_on lock between) (glock_of (changed (granted first) t lock) lock) grants calls
        (subst (λ (g : Glock). g.was_called ≡ false) (sym (at_own lock (granted first) t)) refl)))

never_down : (deed : Deed) (g : Glock) → is_down deed ≡ false → is_down deed ≡ false → g.uncalled ≡ None → (done deed g).uncalled ≡ None
never_down (Granted state) g p q h = refl
never_down (Want state) g p q h = uncalled_on None (Want state) g refl q h
never_down (Unwant state) g p q h = h
never_down Pin g p q h = h
never_down Unpin g p q h = h
never_down (Callback keep) g p q h = uncalled_on None (Callback keep) g refl q h
never_down (Down to) g p q h = absurd (true≢false q)
never_down (Touch number) g p q h = h

pub new_are_free : (lock : LockName) (state : State) (acts : List Act) → list_any is_down (deeds_on lock acts) ≡ false
    → (g : Glock) → g ≡ glock_of (after_all acts (record { locks = empty; unmounting = false })) lock
    → may_ask state g ≡ (leq g.state Un && not (leq state Un))
new_are_free lock state acts none g is =
    ap (λ o. leq g.state Un && not (leq state (unwrap_or o Un))) (ap (λ (x : Glock). x.uncalled) (is ∙ stand_apart lock acts begun)
    ∙ stays (λ (x : Glock). x.uncalled ≡ None) is_down is_down never_down (deeds_on lock acts) (glock_of begun lock) none none
    (ap (λ (o : Option Glock). (unwrap_or o new_glock).uncalled) (get-empty key_cmp (key_of lock))))
  where
    begun : Table
    begun = record { locks = empty; unmounting = false }

not_low : (keep : State) (g : Glock) → leq g.state keep ≡ false → leq g.state (allowed_of keep g) ≡ false
not_low keep g n = by (leq g.state (allowed_of keep g)) refl
  where
    by : (b : Bool) → leq g.state (allowed_of keep g) ≡ b → b ≡ false
    by true is = sym (leq_through g.state (allowed_of keep g) keep is (common_second (unwrap_or g.called g.state) keep)) ∙ n
    by false is = refl

pub bars_nothing : (lock : LockName) (keep to state : State) (between later : List Act) (t : Table) → leq (glock_of t lock).state keep ≡ false
    → list_any is_grant (deeds_on lock between) ≡ false
    → list_any is_grant (deeds_on lock later) ≡ false → list_any is_down (deeds_on lock later) ≡ false
    → (g : Glock) → g ≡ glock_of (after_all later (after (On lock (Down to)) (after_all (On lock (Callback keep) ∷ between) t))) lock
    → may_ask state g ≡ (leq g.state Un && not (leq state Un))
bars_nothing lock keep to state between later t n grants more downs g is =
    ap (λ o. leq g.state Un && not (leq state (unwrap_or o Un))) (ap (λ (x : Glock). x.uncalled) is ∙ uncalled_then lock to later before None more downs
    (ap (λ b. cond b None (Some (glock_of before lock).state)) called))
  where
    before : Table
    before = after_all (On lock (Callback keep) ∷ between) t

    begins : (called_back keep (glock_of t lock)).was_called ≡ true
    begins = ap (λ b. (cond b (glock_of t lock) (record (glock_of t lock) { called = Some (allowed_of keep (glock_of t lock)); was_called = true })).was_called)
        (not_low keep (glock_of t lock) n)

    called : (glock_of before lock).was_called ≡ true
    called = subst (λ (x : Glock). x.was_called ≡ true) (sym (stand_apart lock between (changed (called_back keep) t lock)))
        (stays (λ (x : Glock). x.was_called ≡ true) is_grant is_grant once_called (deeds_on lock between) (glock_of (changed (called_back keep) t lock) lock) grants grants
        (subst (λ (x : Glock). x.was_called ≡ true) (sym (at_own lock (called_back keep) t)) begins))
