-- What is so of every state is tried at each of the four. The order of the states is one.
use Rattle.std.proofs.Common.{◌≡◌, Bool, true, false, not, refl, sym, true≢false}
use Rattle.std.specs.Prelude.{◌&&◌}
use Rattle.glock_names.specs.declared.State.{State}
use Rattle.glock_names.specs.declared.State.TheVariants.{Un, Sh, Df, Ex}
use Rattle.glock_names.specs.StateOrder.{leq, is_below, may_cache}

abbrev implies : Bool → Bool → Bool
implies false b = true
implies true b = b

implied : (a b : Bool) → implies a b ≡ true → a ≡ true → b ≡ true
implied true b h e = h
implied false b h e = absurd (true≢false (sym e))

abbrev every : (State → Bool) → Bool
every p = p Un && (p Sh && (p Df && p Ex))

and_first : (a b : Bool) → (a && b) ≡ true → a ≡ true
and_first true b h = refl
and_first false b h = h

and_second : (a b : Bool) → (a && b) ≡ true → b ≡ true
and_second true b h = h
and_second false b h = absurd (true≢false (sym h))

-- a test that computes to true at each of the four holds of every state
at_each : (p : State → Bool) → every p ≡ true → (s : State) → p s ≡ true
at_each p h Un = and_first (p Un) _ h
at_each p h Sh = and_first (p Sh) _ (and_second (p Un) _ h)
at_each p h Df = and_first (p Df) _ (and_second (p Sh) _ (and_second (p Un) _ h))
at_each p h Ex = and_second (p Df) _ (and_second (p Sh) _ (and_second (p Un) _ h))

pub leq_itself : (a : State) → leq a a ≡ true
leq_itself = at_each (λ a. leq a a) refl

pub leq_least : (a : State) → leq Un a ≡ true
leq_least a = refl

pub leq_through : (a b c : State) → leq a b ≡ true → leq b c ≡ true → leq a c ≡ true
leq_through a b c h k =
    implied (leq b c) (leq a c) (implied (leq a b) (implies (leq b c) (leq a c))
    (at_each (λ x. implies (leq a b) (implies (leq b x) (leq a x))) (at_each (λ y. every (λ x. implies (leq a y) (implies (leq y x) (leq a x))))
    (at_each (λ z. every (λ y. every (λ x. implies (leq z y) (implies (leq y x) (leq z x))))) refl a) b) c) h) k

-- a weaker state is at most the other, and the other isn't at most it
pub below_leq : (a b : State) → is_below a b ≡ true → leq a b ≡ true
below_leq a b h = and_first (leq a b) _ h

not_true : (a : Bool) → not a ≡ true → a ≡ false
not_true true h = absurd (true≢false (sym h))
not_true false h = refl

pub below_not : (a b : State) → is_below a b ≡ true → leq b a ≡ false
below_not a b h = not_true (leq b a) (and_second (leq a b) _ h)

pub below_from : (a b : State) → leq a b ≡ true → leq b a ≡ false → is_below a b ≡ true
below_from a b h k = (λ i. h i && not (k i))

-- what a lock lets cache in a state, it lets in every stronger one
pub cache_on : (a b : State) (plain : Bool) → leq a b ≡ true → may_cache a plain ≡ true → may_cache b plain ≡ true
cache_on a b plain h k = by plain k
  where
    tried : (plain : Bool) → every (λ x. every (λ y. implies (leq x y) (implies (may_cache x plain) (may_cache y plain)))) ≡ true
    tried true = refl
    tried false = refl

    by : (plain : Bool) → may_cache a plain ≡ true → may_cache b plain ≡ true
    by plain k = implied (may_cache a plain) (may_cache b plain) (implied (leq a b) (implies (may_cache a plain) (may_cache b plain))
        (at_each (λ y. implies (leq a y) (implies (may_cache a plain) (may_cache y plain)))
        (at_each (λ x. every (λ y. implies (leq x y) (implies (may_cache x plain) (may_cache y plain)))) (tried plain) a) b) h) k
