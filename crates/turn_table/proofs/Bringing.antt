-- A seat brings one of its slots to the front: it gives back those above it and the slot itself, and takes them again in another order, all in one step. No slot is other than before.
use Rattle.std.proofs.Common.{◌≡◌, ◌≢◌, ℕ, zero, suc, ◌<◌, eq-eqb, ne_eqb, List, [], ◌∷◌, length, set, Option, Some, None, if◌then◌else◌, ◌==◌, refl, sym, ap, ◌∙◌, subst, arith}
use native.Mathlib.Decide.{ℕ_discrete}
use mathlib.Core.Option.{none, some}
use mathlib.Core.Option as maybe
use lib.ListN.{get_elem?}
use lib.Seq.{set-set, set_comm}
use Rattle.atomic_table.specs.Table.{Act, keeps, takes, gives, chain, carried_after, homes_after, Valid}
use Rattle.atomic_table.proofs.Lists.{set_here, set_else, set_again}
use Rattle.turn_table.specs.Notes.{noted, without, brought}
use Rattle.turn_table.specs.Keeping.{Apart}
use Rattle.turn_table.proofs.Noting.{without_front, without_else, brought_is, brought_none}

pub within : {A : Type 0} (l : List A) (k : ℕ) (a : A) → get_elem? l k ≡ some a → k < length l
within [] k a e = absurd (maybe.some-ne-none a (sym e))
within (x ∷ xs) zero a e = omega arith
within (x ∷ xs) (suc k) a e = let more = within xs k a e in omega arith

module _ {S : Type 0} where
  -- the slots that the seat has are not at home
  abbrev pub Out : List (maybe.Option S) → List (ℕ × S) → Type 0
  Out hs [] = Unit {0}
  Out hs (t ∷ ts) = (get_elem? hs t.0 ≡ some none) × Out hs ts

  -- a slot is taken again, below the one in front
  abbrev over : ℕ × S → ℕ → Option S → Act S
  over t p None = takes t.0 t.1
  over t p (Some y) = chain gives (chain (takes t.0 t.1) (takes p y))

  abbrev pub bringing : ℕ → List (ℕ × S) → Act S
  bringing p [] = keeps
  bringing p (t ∷ ts) = if t.0 == p then keeps else chain gives (chain (bringing p ts) (over t p (noted p ts)))

  out_else : (hs : List (maybe.Option S)) (k : ℕ) (h : maybe.Option S) (ts : List (ℕ × S)) → noted k ts ≡ None → Out hs ts → Out (set hs k h) ts
  out_else hs k h [] n o = tt
  out_else hs k h (t ∷ ts) n o = go (out_else hs k h ts) (ℕ_discrete t.0 k)
    where
      go : (noted k ts ≡ None → Out hs ts → Out (set hs k h) ts) → Dec (t.0 ≡ k) → Out (set hs k h) (t ∷ ts)
      go more (yes e) = let no = rw (eq-eqb t.0 k e) at n in absurd (cc)
      go more (no m) = (set_else hs k t.0 h m ∙ o.0, more (rw (ne_eqb t.0 k m) at n) o.1)

  out_noted : (hs : List (maybe.Option S)) (p : ℕ) (ts : List (ℕ × S)) (y : S) → Out hs ts → noted p ts ≡ Some y → get_elem? hs p ≡ some none
  out_noted hs p [] y o e = absurd (cc)
  out_noted hs p (t ∷ ts) y o e = go (out_noted hs p ts y o.1) (ℕ_discrete t.0 p)
    where
      go : (noted p ts ≡ Some y → get_elem? hs p ≡ some none) → Dec (t.0 ≡ p) → get_elem? hs p ≡ some none
      go more (yes s) = subst (λ (k : ℕ). get_elem? hs k ≡ some none) s o.0
      go more (no m) = more (rw (ne_eqb t.0 p m) at e)

  abbrev Brought : List (maybe.Option S) → List (ℕ × S) → Act S → List (ℕ × S) → Type 0
  Brought hs c a c' = Valid hs c a × (homes_after hs c a ≡ hs) × (carried_after c a ≡ c')

  -- the slot t.0 was given back, and is taken again below the slot p
  over_brings : (hs : List (maybe.Option S)) (t : ℕ × S) (p : ℕ) (ts : List (ℕ × S)) → get_elem? hs t.0 ≡ some none → t.0 ≢ p → Out hs ts → (o : Option S) → noted p ts ≡ o
      → let hs' = set hs t.0 (some t.1) in let c = brought p ts in let a = over t p o in
      Valid hs' c a × (homes_after hs' c a ≡ hs) × (carried_after c a ≡ brought p (t ∷ ts))
  over_brings hs t p ts at m out None e =
      let near : t.0 < length hs = within hs t.0 none at in
      let is : brought p (t ∷ ts) ≡ t ∷ ts = brought_none p (t ∷ ts) (rw (ne_eqb t.0 p m) e) in (
        set_here hs t.0 (some t.1) near,
        set-set hs t.0 (some t.1) none ∙ set_again hs t.0 none at,
        ap (λ (c : List (ℕ × S)). t ∷ c) (brought_none p ts e) ∙ sym is,
      )
  over_brings hs t p ts at m out (Some y) e =
      let near : t.0 < length hs = within hs t.0 none at in
      let hs₁ : List (maybe.Option S) = set hs t.0 (some t.1) in
      let at_p : get_elem? hs p ≡ some none = out_noted hs p ts y out e in
      let near_p : p < length hs = within hs p none at_p in
      let c : brought p ts ≡ (p, y) ∷ without p ts = brought_is p ts y e in
      let is : brought p (t ∷ ts) ≡ (p, y) ∷ t ∷ without p ts = brought_is p (t ∷ ts) y (rw (ne_eqb t.0 p m) e) ∙ ap (λ (w : List (ℕ × S)). (p, y) ∷ w) (without_else p t ts m) in
      let hs₂ : List (maybe.Option S) = set hs₁ p (some y) in
      let hs₃ : List (maybe.Option S) = set hs₂ t.0 none in
      let there : set hs₁ t.0 none ≡ hs = set-set hs t.0 (some t.1) none ∙ set_again hs t.0 none at in
      let third : hs₃ ≡ set hs p (some y) = set_comm hs₁ p t.0 (some y) none (λ s. m (sym s)) ∙ ap (λ (l : List (maybe.Option S)). set l p (some y)) there in
      let fourth : set hs₃ p none ≡ hs = ap (λ (l : List (maybe.Option S)). set l p none) third ∙ (set-set hs p (some y) none ∙ set_again hs p none at_p) in
      let first : get_elem? hs₂ t.0 ≡ some (some t.1) = set_else hs₁ p t.0 (some y) m ∙ set_here hs t.0 (some t.1) near in
      let second : get_elem? hs₃ p ≡ some (some y) = ap (λ (l : List (maybe.Option S)). get_elem? l p) third ∙ set_here hs p (some y) near_p in
      rw (c, is) ((tt, (first, second)), fourth, refl)

  pub brings : (hs : List (maybe.Option S)) (p : ℕ) (c : List (ℕ × S)) → Apart c → Out hs c → Brought hs c (bringing p c) (brought p c)
  brings hs p [] apart out = (tt, refl, refl)
  brings hs p (t ∷ ts) apart out = go (brings (set hs t.0 (some t.1)) p ts) (ℕ_discrete t.0 p)
    where
      go : (Apart ts → Out (set hs t.0 (some t.1)) ts → Brought (set hs t.0 (some t.1)) ts (bringing p ts) (brought p ts)) → Dec (t.0 ≡ p) → Brought hs (t ∷ ts) (bringing p (t ∷ ts)) (brought p (t ∷ ts))
      go more (yes e) = let is : brought p (t ∷ ts) ≡ (p, t.1) ∷ ts = brought_is p (t ∷ ts) t.1 (rw (eq-eqb t.0 p e)) ∙ ap (λ (w : List (ℕ × S)). (p, t.1) ∷ w) (without_front p t ts e) in
          let does : bringing p (t ∷ ts) ≡ keeps = rw (eq-eqb t.0 p e) in
          subst (λ (a : Act S). Brought hs (t ∷ ts) a (brought p (t ∷ ts))) (sym does) (tt, refl, ap (λ (k : ℕ). (k, t.1) ∷ ts) e ∙ sym is)
      go more (no m) =
          let hs₁ : List (maybe.Option S) = set hs t.0 (some t.1) in
          let did = more apart.1 (out_else hs t.0 (some t.1) ts apart.0 out.1) in
          let last = over_brings hs t p ts out.0 m out.1 (noted p ts) refl in
          let P : List (maybe.Option S) × List (ℕ × S) → Type 0 = λ x. let a = over t p (noted p ts) in Valid x.0 x.1 a × (homes_after x.0 x.1 a ≡ hs) × (carried_after x.1 a ≡ brought p (t ∷ ts)) in
          let ended = subst P (λ i. (sym did.1 i, sym did.2 i)) last in
          let does : bringing p (t ∷ ts) ≡ chain gives (chain (bringing p ts) (over t p (noted p ts))) = rw (ne_eqb t.0 p m) in
          subst (λ (a : Act S). Brought hs (t ∷ ts) a (brought p (t ∷ ts))) (sym does) ((tt, (did.0, ended.0)), ended.1, ended.2)
