-- What stays of the rule when one part and one seat change.
use Rattle.std.proofs.Common.{◌≡◌, ◌≢◌, ℕ, zero, suc, ◌+◌, List, [], ◌∷◌, length, set, get_or, length-set, Option, Some, Contains, sum_by, slice_index, refl, sym, ap, ◌∙◌, subst, arith, ⊎_elim}
use Rattle.std.proofs.lemmas.List.Sums.{sum_by-set}
use native.Mathlib.Decide.{ℕ_discrete}
use mathlib.Core.Option.{none, some, some-injective}
use mathlib.Core.Option as maybe
use lib.ListN.{get_elem?}
use Rattle.atomic_table.proofs.Lists.{at_set, set_here, set_else}
use Rattle.turn_table.specs.declared.standing.Standing.{Standing}
use Rattle.turn_table.specs.Notes.{noted}
use Rattle.turn_table.specs.Keeping.{Board, share_of, Lies, HasGrown, Knows, Fits}
use Rattle.turn_table.proofs.Noting.{contains_cases}
use Rattle.turn_table.proofs.Bringing.{within}

abbrev pub Holder : Type 0
Holder = ℕ → maybe.Option ℕ

abbrev pick : {P : Type 0} → Dec P → maybe.Option ℕ → maybe.Option ℕ → maybe.Option ℕ
pick (yes _) a b = a
pick (no _) a b = b

-- the holder of p is h, and all others stay
pub put : Holder → ℕ → maybe.Option ℕ → Holder
put holder p h q = pick (ℕ_discrete q p) h (holder q)

pub put_here : (holder : Holder) (p : ℕ) (h : maybe.Option ℕ) → put holder p h p ≡ h
unfolding put
put_here holder p h = go (ℕ_discrete p p)
  where
    go : (d : Dec (p ≡ p)) → pick d h (holder p) ≡ h
    go (yes e) = refl
    go (no n) = absurd (n refl)

pub put_else : (holder : Holder) (p : ℕ) (h : maybe.Option ℕ) (q : ℕ) → q ≢ p → put holder p h q ≡ holder q
unfolding put
put_else holder p h q m = go (ℕ_discrete q p)
  where
    go : (d : Dec (q ≡ p)) → pick d h (holder q) ≡ holder q
    go (yes e) = absurd (m e)
    go (no n) = refl

pub get_from_at : {A : Type 0} (l : List A) (i : ℕ) (a d : A) → get_elem? l i ≡ some a → get_or l i d ≡ a
get_from_at [] i a d e = absurd (maybe.some-ne-none a (sym e))
get_from_at (x ∷ xs) zero a d e = some-injective x a e
get_from_at (x ∷ xs) (suc i) a d e = get_from_at xs i a d e

module _ {V : Type 0} where
  -- the shares of all seats stay where one seat keeps its share
  pub shares_stay : (views : List (Standing V)) (id : ℕ) (v w : Standing V) → get_elem? views id ≡ some v → w.share ≡ v.share → sum_by share_of (set views id w) ≡ sum_by share_of views
  shares_stay views id v w at same =
      let total = sum_by-set share_of views id w v (within views id v at) in
      let found : get_or views id v ≡ v = get_from_at views id v v at in
      let total' : sum_by share_of (set views id w) + v.share ≡ sum_by share_of views + w.share = subst (λ (u : Standing V). sum_by share_of (set views id w) + share_of u ≡ sum_by share_of views + share_of w) found total in
      omega arith

  -- a turn stays with its holder where each seat keeps its number and the turn
  pub lies_stay : (s s' : Board V) (p : ℕ) (v : V) (h : maybe.Option ℕ) → slice_index s'.words p ≡ slice_index s.words p → get_elem? s'.homes p ≡ get_elem? s.homes p
      → ((j : ℕ) (u : Standing V) → get_elem? s.views j ≡ some u → noted p u.turns ≡ Some v → (u' : Standing V) × (get_elem? s'.views j ≡ some u') × (noted p u'.turns ≡ Some v)) → Lies s p v h → Lies s' p v h
  lies_stay s s' p v none word home seats l = (word ∙ l.0, home ∙ l.1)
  lies_stay s s' p v (some id) word home seats l = (word ∙ l.0, home ∙ l.1, seats id l.2.0 l.2.1 l.2.2)

  module _ (grows : V → V → Type 0) where
    -- only the views change, and one seat keeps its turns and its share
    pub reviewed : (parts : List V) (holder : Holder) (s : Board V) (id : ℕ) (v w : Standing V) → Fits grows parts holder s → get_elem? s.views id ≡ some v
        → ((p : ℕ) (x : V) → noted p v.turns ≡ Some x → noted p w.turns ≡ Some x) → Knows grows parts holder id w → w.share ≡ v.share
        → Fits grows parts holder record { words = s.words; homes = s.homes; views = set s.views id w }
    reviewed parts holder s id v w f at keeps mine same = let s' : Board V = record { words = s.words; homes = s.homes; views = set s.views id w } in record {
      wide = f.wide;
      deep = f.deep;
      each_part = λ p x e. lies_stay s s' p x (holder p) refl refl (seats p x) (f.each_part p x e);
      each_seat = λ j u e. ⊎_elim (λ (x : (j ≡ id) × (w ≡ u)). subst (λ (y : ℕ × Standing V). Knows grows parts holder y.0 y.1) (λ i. (sym x.0 i, x.1 i)) mine)
          (λ (x : (j ≢ id) × (get_elem? s.views j ≡ some u)). f.each_seat j u x.1) (at_set s.views id j w u e);
      whole = shares_stay s.views id v w at same ∙ f.whole;
    }
      where
        seats : (p : ℕ) (x : V) (j : ℕ) (u : Standing V) → get_elem? s.views j ≡ some u → noted p u.turns ≡ Some x
            → (u' : Standing V) × (get_elem? (set s.views id w) j ≡ some u') × (noted p u'.turns ≡ Some x)
        seats p x j u e n = go (ℕ_discrete j id)
          where
            go : Dec (j ≡ id) → (u' : Standing V) × (get_elem? (set s.views id w) j ≡ some u') × (noted p u'.turns ≡ Some x)
            go (yes is) = let same_seat : u ≡ v = some-injective u v (sym e ∙ (ap (get_elem? s.views) is ∙ at)) in
                (w, ap (get_elem? (set s.views id w)) is ∙ set_here s.views id w (within s.views id v at), keeps p x (subst (λ (y : Standing V). noted p y.turns ≡ Some x) same_seat n))
            go (no m) = (u, set_else s.views id j w m ∙ e, n)

    -- what was seen stays true where the part p grows
    pub seen_stays : (parts : List V) (p : ℕ) (v y : V) (seen : List (ℕ × V)) → ((a b c : V) → grows a b → grows b c → grows a c) → get_elem? parts p ≡ some v → grows v y → HasGrown grows parts seen → HasGrown grows (set parts p y) seen
    seen_stays parts p v y seen trans at grew old q x z c e = ⊎_elim {A = (q ≡ p) × (y ≡ z)} {B = (q ≢ p) × (get_elem? parts q ≡ some z)}
        (λ t. subst (grows x) t.1 (trans x v y (old q x v c (ap (get_elem? parts) t.0 ∙ at)) grew)) (λ t. old q x z c t.1) (at_set parts p q y z e)

    -- and what was put there is seen too
    pub seen_here : (parts : List V) (p : ℕ) (y : V) (seen : List (ℕ × V)) → ((v : V) → grows v v) → get_elem? parts p ≡ some y → HasGrown grows parts seen → HasGrown grows parts ((p, y) ∷ seen)
    seen_here parts p y seen reflexive at old q x z c e = ⊎_elim {A = (p, y) ≡ (q, x)} {B = Contains seen (q, x)}
        (λ t. let same : y ≡ z = some-injective y z (sym at ∙ (ap (λ (r : ℕ × V). get_elem? parts r.0) t ∙ e)) in
        subst (λ (u : V). grows u z) (ap (λ (r : ℕ × V). r.1) t) (subst (grows y) same (reflexive y)))
        (λ t. old q x z t e) (contains_cases (p, y) (q, x) seen c)

    -- another seat knows as much where a part that it does not hold grows
    others_know : (parts : List V) (holder : Holder) (p : ℕ) (v y : V) (h : maybe.Option ℕ) (j : ℕ) (u : Standing V) → ((a b c : V) → grows a b → grows b c → grows a c)
        → get_elem? parts p ≡ some v → grows v y → ¬ (holder p ≡ some j) → Knows grows parts holder j u → Knows grows (set parts p y) (put holder p h) j u
    others_know parts holder p v y h j u trans at grew other k = record {
      held = λ q x e. let was = k.held q x e in let apart : q ≢ p = λ is. other (ap holder (sym is) ∙ was.0) in
          (put_else holder p h q apart ∙ was.0, set_else parts p q y apart ∙ was.1, was.2);
      apart = k.apart;
      grown = seen_stays parts p v y u.seen trans at grew k.grown;
    }

    -- the part p becomes y, and the seat id, which may have taken or dropped its turn, becomes w
    pub moved : (parts : List V) (holder : Holder) (s : Board V) (id p : ℕ) (v w : Standing V) (x y : V) (h : maybe.Option ℕ) (words' : List ℕ) (homes' : List (maybe.Option (Option V)))
        → ((a b c : V) → grows a b → grows b c → grows a c) → Fits grows parts holder s → get_elem? s.views id ≡ some v → get_elem? parts p ≡ some x → grows x y
        → ((j : ℕ) → j ≢ id → ¬ (holder p ≡ some j)) → length words' ≡ length s.words → length homes' ≡ length s.homes
        → ((q : ℕ) → q ≢ p → slice_index words' q ≡ slice_index s.words q) → ((q : ℕ) → q ≢ p → get_elem? homes' q ≡ get_elem? s.homes q)
        → Lies record { words = words'; homes = homes'; views = set s.views id w } p y h
        → ((q : ℕ) (z : V) → q ≢ p → noted q v.turns ≡ Some z → noted q w.turns ≡ Some z) → Knows grows (set parts p y) (put holder p h) id w → w.share ≡ v.share
        → Fits grows (set parts p y) (put holder p h) record { words = words'; homes = homes'; views = set s.views id w }
    moved parts holder s id p v w x y h words' homes' trans f at at_p grew loose same_wide same_deep word home lies keeps mine same =
        let s' : Board V = record { words = words'; homes = homes'; views = set s.views id w } in record {
          wide = same_wide ∙ (f.wide ∙ sym (length-set parts p y));
          deep = same_deep ∙ (f.deep ∙ sym (length-set parts p y));
          each_part = λ q z e. ⊎_elim (λ (t : (q ≡ p) × (y ≡ z)). subst (λ (r : ℕ × V). Lies s' r.0 r.1 (put holder p h r.0)) (λ i. (sym t.0 i, t.1 i)) (subst (Lies s' p y) (sym (put_here holder p h)) lies))
              (λ (t : (q ≢ p) × (get_elem? parts q ≡ some z)). subst (Lies s' q z) (sym (put_else holder p h q t.0)) (lies_stay s s' q z (holder q) (word q t.0) (home q t.0) (seats q z t.0) (f.each_part q z t.1)))
              (at_set parts p q y z e);
          each_seat = λ j u e. ⊎_elim (λ (t : (j ≡ id) × (w ≡ u)). subst (λ (r : ℕ × Standing V). Knows grows (set parts p y) (put holder p h) r.0 r.1) (λ i. (sym t.0 i, t.1 i)) mine)
              (λ (t : (j ≢ id) × (get_elem? s.views j ≡ some u)). others_know parts holder p x y h j u trans at_p grew (loose j t.0) (f.each_seat j u t.1)) (at_set s.views id j w u e);
          whole = shares_stay s.views id v w at same ∙ f.whole;
        }
      where
        seats : (q : ℕ) (z : V) → q ≢ p → (j : ℕ) (u : Standing V) → get_elem? s.views j ≡ some u → noted q u.turns ≡ Some z
            → (u' : Standing V) × (get_elem? (set s.views id w) j ≡ some u') × (noted q u'.turns ≡ Some z)
        seats q z apart j u e n = go (ℕ_discrete j id)
          where
            go : Dec (j ≡ id) → (u' : Standing V) × (get_elem? (set s.views id w) j ≡ some u') × (noted q u'.turns ≡ Some z)
            go (yes is) = let same_seat : u ≡ v = some-injective u v (sym e ∙ (ap (get_elem? s.views) is ∙ at)) in
                (w, ap (get_elem? (set s.views id w)) is ∙ set_here s.views id w (within s.views id v at), keeps q z apart (subst (λ (t : Standing V). noted q t.turns ≡ Some z) same_seat n))
            go (no m) = (u, set_else s.views id j w m ∙ e, n)
