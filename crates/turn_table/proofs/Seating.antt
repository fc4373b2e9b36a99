-- A seat is split, and a seat joins another.
use Rattle.std.proofs.Common.{◌≡◌, ◌≢◌, ℕ, ◌<◌, ◌+◌, List, [], ◌∷◌, ◌++◌, set, Some, None, Contains, sum_by, refl, sym, ap, ◌∙◌, subst, arith, ⊎_elim}
use Rattle.std.proofs.lemmas.List.Sums.{sum_by-set, sum_by-append}
use Rattle.std.proofs.lemmas.List.Elements.{Contains-append_cases}
use native.Mathlib.Decide.{ℕ_discrete}
use mathlib.Core.Option.{some, some-injective}
use lib.ListN.{get_elem?}
use Rattle.atomic_table.specs.Table.{Splits, Joins}
use Rattle.atomic_table.proofs.Lists.{at_set, at_snoc, at_longer, set_here, set_else}
use Rattle.turn_table.specs.declared.standing.Standing.{Standing}
use Rattle.turn_table.specs.Notes.{noted}
use Rattle.turn_table.specs.Keeping.{share_of, Knows, Kept}
use Rattle.turn_table.specs.Playing.{parting, newcomer, joined, spent}
use Rattle.turn_table.proofs.Bringing.{within}
use Rattle.turn_table.proofs.Moving.{lies_stay, get_from_at}

module _ {V : Type 0} (holds : List V → Type 0) (grows : V → V → Type 0) where
  -- the shares after one seat's changes
  shares_set : (views : List (Standing V)) (id : ℕ) (v w : Standing V) → get_elem? views id ≡ some v → sum_by share_of (set views id w) + v.share ≡ sum_by share_of views + w.share
  shares_set views id v w at = subst (λ (u : Standing V). sum_by share_of (set views id w) + share_of u ≡ sum_by share_of views + share_of w) (get_from_at views id v v at) (sum_by-set share_of views id w v (within views id v at))

  pub splits : (id : ℕ) (v : Standing V) → 1 < v.share → Splits (Kept holds grows) id v (parting v) (newcomer v)
  splits id v more s k at =
      let left : Standing V = parting v in let right : Standing V = newcomer v in
      let views' : List (Standing V) = set s.views id left ++ right ∷ [] in
      let f = k.fits in
      let mine = f.each_seat id v at in
      let knows_left : Knows grows k.parts k.holder id left = record { held = λ p x e. let h = mine.held p x e in (h.0, h.1, omega arith); apart = mine.apart; grown = mine.grown } in
      let knows_right : (j : ℕ) → Knows grows k.parts k.holder j right = λ j. record { held = λ p x e. absurd (cc); apart = tt; grown = mine.grown } in
      let one = shares_set s.views id v left at in
      let two = sum_by-append share_of (set s.views id left) (right ∷ []) in
      let total : sum_by share_of views' ≡ sum_by share_of s.views = omega arith in
      record {
        parts = k.parts;
        holder = k.holder;
        legal = k.legal;
        fits = record {
          wide = f.wide;
          deep = f.deep;
          each_part = λ p x e. lies_stay s record { words = s.words; homes = s.homes; views = views' } p x (k.holder p) refl refl (λ j u e n. seats p x j u e n (ℕ_discrete j id)) (f.each_part p x e);
          each_seat = λ j u e. ⊎_elim
              (λ (x : get_elem? (set s.views id left) j ≡ some u). ⊎_elim (λ (t : (j ≡ id) × (left ≡ u)). subst (λ (y : ℕ × Standing V). Knows grows k.parts k.holder y.0 y.1) (λ i. (sym t.0 i, t.1 i)) knows_left)
              (λ (t : (j ≢ id) × (get_elem? s.views j ≡ some u)). f.each_seat j u t.1) (at_set s.views id j left u x))
              (λ (x : right ≡ u). subst (Knows grows k.parts k.holder j) x (knows_right j)) (at_snoc (set s.views id left) right u j e);
          whole = total ∙ f.whole;
        };
      }
    where
      seats : (p : ℕ) (x : V) (j : ℕ) (u : Standing V) → get_elem? s.views j ≡ some u → noted p u.turns ≡ Some x → Dec (j ≡ id)
          → (u' : Standing V) × (get_elem? (set s.views id (parting v) ++ newcomer v ∷ []) j ≡ some u') × (noted p u'.turns ≡ Some x)
      seats p x j u e n (yes is) = let same : u ≡ v = some-injective u v (sym e ∙ (ap (get_elem? s.views) is ∙ at)) in (
        parting v,
        at_longer (set s.views id (parting v)) (newcomer v ∷ []) j (parting v) (ap (get_elem? (set s.views id (parting v))) is ∙ set_here s.views id (parting v) (within s.views id v at)),
        subst (λ (y : Standing V). noted p y.turns ≡ Some x) same n,
      )
      seats p x j u e n (no m) = (u, at_longer (set s.views id (parting v)) (newcomer v ∷ []) j u (set_else s.views id j (parting v) m ∙ e), n)

  pub joins : (id : ℕ) (v : Standing V) (other : ℕ) (w : Standing V) → w.turns ≡ [] → Joins (Kept holds grows) id v other w (joined v w) spent
  joins id v other w idle s k at apart at_other =
      let both : Standing V = joined v w in
      let views₁ : List (Standing V) = set s.views id both in
      let views₂ : List (Standing V) = set views₁ other spent in
      let f = k.fits in
      let mine = f.each_seat id v at in
      let was : get_elem? s.views other ≡ some w = sym (set_else s.views id other both apart) ∙ at_other in
      let theirs = f.each_seat other w was in
      let knows : Knows grows k.parts k.holder id both = record {
        held = λ p x e. let h = mine.held p x e in (h.0, h.1, omega arith);
        apart = mine.apart;
        grown = λ p x z c e. ⊎_elim (λ (l : Contains v.seen (p, x)). mine.grown p x z l e) (λ (r : Contains w.seen (p, x)). theirs.grown p x z r e) (Contains-append_cases v.seen w.seen (p, x) c);
      } in
      let knows_none : Knows grows k.parts k.holder other spent = record { held = λ p x e. absurd (cc); apart = tt; grown = λ p x z c e. let h = c.1 in absurd (omega arith) } in
      let one = shares_set s.views id v both at in
      let two = shares_set views₁ other w spent at_other in
      let total : sum_by share_of views₂ ≡ sum_by share_of s.views = omega arith in
      record {
        parts = k.parts;
        holder = k.holder;
        legal = k.legal;
        fits = record {
          wide = f.wide;
          deep = f.deep;
          each_part = λ p x e. lies_stay s record { words = s.words; homes = s.homes; views = views₂ } p x (k.holder p) refl refl (λ j u e n. seats was p x j u e n (ℕ_discrete j other) (ℕ_discrete j id)) (f.each_part p x e);
          each_seat = λ j u e. ⊎_elim
              (λ (t : (j ≡ other) × (spent ≡ u)). subst (λ (y : ℕ × Standing V). Knows grows k.parts k.holder y.0 y.1) (λ i. (sym t.0 i, t.1 i)) knows_none)
              (λ (t : (j ≢ other) × (get_elem? views₁ j ≡ some u)). ⊎_elim (λ (r : (j ≡ id) × (both ≡ u)). subst (λ (y : ℕ × Standing V). Knows grows k.parts k.holder y.0 y.1) (λ i. (sym r.0 i, r.1 i)) knows)
              (λ (r : (j ≢ id) × (get_elem? s.views j ≡ some u)). f.each_seat j u r.1) (at_set s.views id j both u t.1))
              (at_set views₁ other j spent u e);
          whole = total ∙ f.whole;
        };
      }
    where
      seats : get_elem? s.views other ≡ some w → (p : ℕ) (x : V) (j : ℕ) (u : Standing V) → get_elem? s.views j ≡ some u → noted p u.turns ≡ Some x → Dec (j ≡ other) → Dec (j ≡ id)
          → (u' : Standing V) × (get_elem? (set (set s.views id (joined v w)) other spent) j ≡ some u') × (noted p u'.turns ≡ Some x)
      seats was p x j u e n (yes is) d = let same : u ≡ w = some-injective u w (sym e ∙ (ap (get_elem? s.views) is ∙ was)) in
          let none_there : noted p u.turns ≡ None = ap (λ (y : Standing V). noted p y.turns) same ∙ ap (noted p) idle in absurd (cc)
      seats was p x j u e n (no m) (yes is) = let same : u ≡ v = some-injective u v (sym e ∙ (ap (get_elem? s.views) is ∙ at)) in (
        joined v w,
        set_else (set s.views id (joined v w)) other j spent m ∙ (ap (get_elem? (set s.views id (joined v w))) is ∙ set_here s.views id (joined v w) (within s.views id v at)),
        subst (λ (y : Standing V). noted p y.turns ≡ Some x) same n,
      )
      seats was p x j u e n (no m) (no l) = (u, set_else (set s.views id (joined v w)) other j spent m ∙ (set_else s.views id j (joined v w) l ∙ e), n)
