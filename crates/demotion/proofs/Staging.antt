-- What the stages say of a lock.
use Rattle.std.proofs.Common.{◌≡◌, ◌<◌, ◌≤◌, Bool, true, false, cond, not, refl, sym, ap, subst, lit<, arith}
use Rattle.std.proofs.lemmas.Bool.{ltb-false, false_from_ne_true, ltb-true}
use Rattle.glock_names.specs.declared.State.{State}
use Rattle.glock_names.specs.declared.State.TheVariants.{Ex}
use Rattle.demotion.specs.declared.stages.Stage.{Stage}
use Rattle.demotion.specs.declared.stages.Stage.TheVariants.{Flush, Home, Barrier, Revoke, Release}
use Rattle.demotion.specs.declared.stages.Under.{Under}
use Rattle.demotion.specs.Stages.{rank, is_exclusive, is_unflushed, has_away, stage_of, IsPast, AreDoneBefore, MayGo}

-- the choice of the stage, by its tests
abbrev pick : Bool → Bool → Bool → Bool → Bool → Stage
pick ex unflushed away flying live = cond (not ex) Release (cond unflushed Flush (cond away Home (cond flying Barrier (cond live Revoke Release))))

-- where the stage is past another, that one's test is false
past_flush : (f a b l : Bool) → 0 < rank (pick true f a b l) → f ≡ false
past_flush true a b l h = absurd (omega arith)
past_flush false a b l h = refl

past_home : (f a b l : Bool) → 1 < rank (pick true f a b l) → a ≡ false
past_home true a b l h = absurd (omega arith)
past_home false true b l h = absurd (omega arith)
past_home false false b l h = refl

past_barrier : (f a b l : Bool) → 2 < rank (pick true f a b l) → b ≡ false
past_barrier true a b l h = absurd (omega arith)
past_barrier false true b l h = absurd (omega arith)
past_barrier false false true l h = absurd (omega arith)
past_barrier false false false l h = refl

past_revoke : (f a b l : Bool) → 3 < rank (pick true f a b l) → l ≡ false
past_revoke true a b l h = absurd (omega arith)
past_revoke false true b l h = absurd (omega arith)
past_revoke false false true l h = absurd (omega arith)
past_revoke false false false true h = absurd (omega arith)
past_revoke false false false false h = refl

past_release : (f a b l : Bool) → 4 < rank (pick true f a b l) → ⊥
past_release true a b l h = omega arith
past_release false true b l h = omega arith
past_release false false true l h = omega arith
past_release false false false true h = omega arith
past_release false false false false h = omega arith

pub past : (past : Stage) (u : Under) → rank past < rank (stage_of Ex u) → IsPast past u
past Flush u h = ltb-false u.flushed u.touched (past_flush (is_unflushed u) (has_away u) u.in_flight u.live h)
past Home u h = past_home (is_unflushed u) (has_away u) u.in_flight u.live h
past Barrier u h = past_barrier (is_unflushed u) (has_away u) u.in_flight u.live h
past Revoke u h = past_revoke (is_unflushed u) (has_away u) u.in_flight u.live h
past Release u h = past_release (is_unflushed u) (has_away u) u.in_flight u.live h

-- and where the tests before one are false, it or a later one has come
from_home : (a b l : Bool) → 1 ≤ rank (pick true false a b l)
from_home true b l = lit< tt
from_home false true l = lit< tt
from_home false false true = lit< tt
from_home false false false = lit< tt

from_barrier : (b l : Bool) → 2 ≤ rank (pick true false false b l)
from_barrier true l = lit< tt
from_barrier false true = lit< tt
from_barrier false false = lit< tt

from_revoke : (l : Bool) → 3 ≤ rank (pick true false false false l)
from_revoke true = lit< tt
from_revoke false = lit< tt

none_unflushed : (u : Under) → u.touched ≤ u.flushed → is_unflushed u ≡ false
none_unflushed u h = false_from_ne_true _ (λ e. omega (arith, h, ltb-true u.flushed u.touched e))

pub taken_up : (stage : Stage) (u : Under) → AreDoneBefore stage u → rank stage ≤ rank (stage_of Ex u)
taken_up Flush u d = omega arith
taken_up Home u d = subst (λ t. 1 ≤ rank (pick true t (has_away u) u.in_flight u.live)) (sym (none_unflushed u d)) (from_home (has_away u) u.in_flight u.live)
taken_up Barrier u d =
    subst (λ t. 2 ≤ rank (pick true t (has_away u) u.in_flight u.live)) (sym (none_unflushed u d.0))
    (subst (λ t. 2 ≤ rank (pick true false t u.in_flight u.live)) (sym d.1) (from_barrier u.in_flight u.live))
taken_up Revoke u d =
    subst (λ t. 3 ≤ rank (pick true t (has_away u) u.in_flight u.live)) (sym (none_unflushed u d.0))
    (subst (λ t. 3 ≤ rank (pick true false t u.in_flight u.live)) (sym d.1)
    (subst (λ t. 3 ≤ rank (pick true false false t u.live)) (sym d.2) (from_revoke u.live)))
taken_up Release u d =
    subst (λ t. 4 ≤ rank (pick true t (has_away u) u.in_flight u.live)) (sym (none_unflushed u d.0))
    (subst (λ t. 4 ≤ rank (pick true false t u.in_flight u.live)) (sym d.1)
    (subst (λ t. 4 ≤ rank (pick true false false t u.live)) (sym d.2)
    (subst (λ t. 4 ≤ rank (pick true false false false t)) (sym d.3) (lit< tt))))

pub in_order : (stage : Stage) (u : Under) → AreDoneBefore stage u → IsPast stage u → rank stage < rank (stage_of Ex u)
in_order Flush u d p = taken_up Home u p
in_order Home u d p = taken_up Barrier u (d, p)
in_order Barrier u d p = taken_up Revoke u (d.0, d.1, p)
in_order Revoke u d p = taken_up Release u (d.0, d.1, d.2, p)
in_order Release u d p = absurd p

pub first : (u : Under) → is_unflushed u ≡ true → stage_of Ex u ≡ Flush
first u h = ap (λ t. cond t Flush (cond (has_away u) Home (cond u.in_flight Barrier (cond u.live Revoke Release)))) h

-- the release of an exclusive lock is past every other stage
freed : (held : State) (u : Under) → stage_of held u ≡ Release → is_exclusive held ≡ true → (s : Stage) → rank s < 4 → IsPast s u
freed held u h e s low = past s u (subst (λ (t : Stage). rank s < rank t)
    (sym h') low)
  where
    h' : stage_of Ex u ≡ Release
    h' = subst (λ ex. pick ex (is_unflushed u) (has_away u) u.in_flight u.live ≡ Release) e h

pub safe : (held : State) (u : Under) → stage_of held u ≡ Release → MayGo held u
safe held u h = record {
  flushed = λ e. freed held u h e Flush (lit< tt);
  not_live = λ e. freed held u h e Revoke (lit< tt);
  settled = λ e. freed held u h e Barrier (lit< tt);
}
