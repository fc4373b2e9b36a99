-- The steps that give a turn back keep the rule, and tell what they should.
use Rattle.std.proofs.Common.{◌≡◌, ◌≢◌, ℕ, ◌<◌, List, ◌∷◌, length, set, length-set, get_or-set_same, get_or-set_other, Option, Some, None, slice_get, slice_set, refl, sym, ap, ◌∙◌, subst, arith, ⊎_elim}
use mathlib.Core.Path.{Path}
use mathlib.Core.Option.{none, some, some-injective}
use lib.ListN.{get_elem?}
use lib.Seq.{set-set}
use Rattle.atomic_table.specs.Table.{gives, step, Allows}
use Rattle.atomic_table.proofs.Lists.{set_here, set_else}
use Rattle.turn_table.specs.declared.standing.Standing.{Standing}
use Rattle.turn_table.specs.Notes.{noted}
use Rattle.turn_table.specs.Keeping.{Board, Lies, Knows, Fits, Kept}
use Rattle.turn_table.specs.Playing.{Sat, standing, Gives, GivesSecond}
use Rattle.turn_table.proofs.Noting.{noted_here, noted_else, noted_cases}
use Rattle.turn_table.proofs.Bringing.{within}
use Rattle.turn_table.proofs.Moving.{Holder, put, put_here, put_else, seen_stays, seen_here, moved}
use Rattle.turn_table.proofs.Stepping.{shown_at}

front_is_one : {A : Type 0} (x y : A) (xs ys : List A) → x ∷ xs ≡ y ∷ ys → (x ≡ y) × (xs ≡ ys)
front_is_one x y xs ys e = ((cc), (cc))

module _ {V : Type 0} where
  some_is_one : (x y : V) → Some x ≡ Some y → x ≡ y
  some_is_one x y e = cc

  -- what a step tells is one, by its front turn and its front slot
  one_left : (share p q : ℕ) (v w y z : V) (seen turns turns' : List (ℕ × V)) (more more' : List (ℕ × Option V)) → (p, v) ∷ turns ≡ (q, w) ∷ turns' → (p, Some y) ∷ more ≡ (q, Some z) ∷ more'
      → Path (Sat V) (standing share ((p, y) ∷ seen) turns, more) (standing share ((q, z) ∷ seen) turns', more')
  one_left share p q v w y z seen turns turns' more more' e e' =
      let t = front_is_one (p, v) (q, w) turns turns' e in let m = front_is_one (p, Some y) (q, Some z) more more' e' in
      let p_is = ap (λ (r : ℕ × V). r.0) t.0 in let y_is = some_is_one y z (ap (λ (r : ℕ × Option V). r.1) m.0) in
      λ i. (standing share ((p_is i, y_is i) ∷ seen) (t.1 i), m.1 i)

  -- the same of the two in front
  one_left_second : (share a b p q : ℕ) (va vb v w x y y' x' : V) (seen turns turns' : List (ℕ × V)) (more more' : List (ℕ × Option V))
      → (b, vb) ∷ (a, va) ∷ turns ≡ (p, v) ∷ (q, w) ∷ turns' → (b, Some y) ∷ (a, Some x) ∷ more ≡ (p, Some y') ∷ (q, Some x') ∷ more'
      → Path (Sat V) (standing share ((b, y) ∷ seen) ((a, x) ∷ turns), (a, Some x) ∷ more) (standing share ((p, y') ∷ seen) ((q, x') ∷ turns'), (q, Some x') ∷ more')
  one_left_second share a b p q va vb v w x y y' x' seen turns turns' more more' e e' =
      let t = front_is_one (b, vb) (p, v) ((a, va) ∷ turns) ((q, w) ∷ turns') e in let m = front_is_one (b, Some y) (p, Some y') ((a, Some x) ∷ more) ((q, Some x') ∷ more') e' in
      let t' = front_is_one (a, va) (q, w) turns turns' t.1 in let m' = front_is_one (a, Some x) (q, Some x') more more' m.1 in
      let b_is = ap (λ (r : ℕ × V). r.0) t.0 in let y_is = some_is_one y y' (ap (λ (r : ℕ × Option V). r.1) m.0) in
      let a_is = ap (λ (r : ℕ × V). r.0) t'.0 in let x_is = some_is_one x x' (ap (λ (r : ℕ × Option V). r.1) m'.0) in
      λ i. (standing share ((b_is i, y_is i) ∷ seen) ((a_is i, x_is i) ∷ t'.1 i), (a_is i, Some (x_is i)) ∷ m'.1 i)

module _ {V : Type 0} (grows : V → V → Type 0) (reflexive : (v : V) → grows v v) (trans : (a b c : V) → grows a b → grows b c → grows a c) where
  -- the turn at the front is given back, with y in its slot
  pub given : (parts : List V) (holder : Holder) (s : Board V) (id p share : ℕ) (v y : V) (seen turns : List (ℕ × V)) → grows v y → Fits grows parts holder s
      → get_elem? s.views id ≡ some (standing share seen ((p, v) ∷ turns))
      → Fits grows (set parts p y) (put holder p none) record { words = set s.words p 0; homes = set s.homes p (some (Some y)); views = set s.views id (standing share ((p, y) ∷ seen) turns) }
  given parts holder s id p share v y seen turns grew f at =
      let was : Standing V = standing share seen ((p, v) ∷ turns) in
      let w : Standing V = standing share ((p, y) ∷ seen) turns in
      let mine = f.each_seat id was at in
      let here = mine.held p v (noted_here p v turns) in
      let in_parts : p < length parts = within parts p v here.1 in
      let wide : length s.words ≡ length parts = f.wide in
      let deep : length s.homes ≡ length parts = f.deep in
      let apart : (q : ℕ) (z : V) → noted q turns ≡ Some z → q ≢ p = λ q z e is. let no : noted q turns ≡ None = subst (λ (k : ℕ). noted k turns ≡ None) (sym is) mine.apart.0 in absurd (cc) in
      let knows : Knows grows (set parts p y) (put holder p none) id w = record {
        held = λ q z e. let old = mine.held q z (noted_else q (p, v) turns (apart q z e) ∙ e) in (put_else holder p none q (apart q z e) ∙ old.0, set_else parts p q y (apart q z e) ∙ old.1, old.2);
        apart = mine.apart.1;
        grown = seen_here grows (set parts p y) p y seen reflexive (set_here parts p y in_parts) (seen_stays grows parts p v y seen trans here.1 grew mine.grown);
      } in
      moved grows parts holder s id p was w v y none (set s.words p 0) (set s.homes p (some (Some y))) trans f at here.1 grew
      (λ j other e. other (some-injective j id (sym e ∙ here.0))) (length-set s.words p 0) (length-set s.homes p (some (Some y))) (λ q m. get_or-set_other s.words p q 0 0 m) (λ q m. set_else s.homes p q (some (Some y)) m)
      (get_or-set_same s.words p 0 0 (omega arith), set_here s.homes p (some (Some y)) (omega arith)) (λ q z m e. sym (noted_else q (p, v) turns m) ∙ e) knows refl

  -- x is declared for the turn behind the front
  pub declared : (parts : List V) (holder : Holder) (s : Board V) (id a b share : ℕ) (va vb x : V) (seen turns : List (ℕ × V)) → grows va x → Fits grows parts holder s
      → get_elem? s.views id ≡ some (standing share seen ((b, vb) ∷ (a, va) ∷ turns))
      → Fits grows (set parts a x) (put holder a (some id)) record { words = s.words; homes = s.homes; views = set s.views id (standing share seen ((b, vb) ∷ (a, x) ∷ turns)) }
  declared parts holder s id a b share va vb x seen turns grew f at =
      let was : Standing V = standing share seen ((b, vb) ∷ (a, va) ∷ turns) in
      let w : Standing V = standing share seen ((b, vb) ∷ (a, x) ∷ turns) in
      let mine = f.each_seat id was at in
      let two : a ≢ b = λ is. let no : noted b ((a, va) ∷ turns) ≡ None = mine.apart.0 in let yes : noted b ((a, va) ∷ turns) ≡ Some va = subst (λ (k : ℕ). noted k ((a, va) ∷ turns) ≡ Some va) is (noted_here a va turns) in absurd (cc) in
      let two' : b ≢ a = λ is. two (sym is) in
      let here = mine.held a va (noted_else a (b, vb) ((a, va) ∷ turns) two ∙ noted_here a va turns) in
      let in_parts : a < length parts = within parts a va here.1 in
      let lies : Lies s a va (some id) = subst (Lies s a va) here.0 (f.each_part a va here.1) in
      let other : (q : ℕ) → q ≢ a → noted q was.turns ≡ noted q w.turns = λ q m. ends q m in
      let knows : Knows grows (set parts a x) (put holder a (some id)) id w = record {
        held = λ q z e. ⊎_elim
            (λ (t : (b ≡ q) × (vb ≡ z)). let m : q ≢ a = λ is. two' (t.0 ∙ is) in let old = mine.held q z (other q m ∙ e) in (put_else holder a (some id) q m ∙ old.0, set_else parts a q x m ∙ old.1, old.2))
            (λ (t : (b ≢ q) × (noted q ((a, x) ∷ turns) ≡ Some z)). ⊎_elim
            (λ (u : (a ≡ q) × (x ≡ z)). (ap (put holder a (some id)) (sym u.0) ∙ put_here holder a (some id), ap (get_elem? (set parts a x)) (sym u.0) ∙ (set_here parts a x in_parts ∙ ap some u.1), here.2))
            (λ (u : (a ≢ q) × (noted q turns ≡ Some z)). let m : q ≢ a = λ is. u.0 (sym is) in let old = mine.held q z (other q m ∙ e) in (put_else holder a (some id) q m ∙ old.0, set_else parts a q x m ∙ old.1, old.2))
            (noted_cases q (a, x) turns z t.1))
            (noted_cases q (b, vb) ((a, x) ∷ turns) z e);
        apart = (noted_else b (a, x) turns two' ∙ (sym (noted_else b (a, va) turns two') ∙ mine.apart.0), mine.apart.1);
        grown = seen_stays grows parts a va x seen trans here.1 grew mine.grown;
      } in
      moved grows parts holder s id a was w va x (some id) s.words s.homes trans f at here.1 grew (λ j m e. m (some-injective j id (sym e ∙ here.0))) refl refl (λ _ _. refl) (λ _ _. refl)
      (lies.0, lies.1, (w, set_here s.views id w (within s.views id was at), noted_else a (b, vb) ((a, x) ∷ turns) two ∙ noted_here a x turns)) (λ q z m e. sym (other q m) ∙ e) knows refl
    where
      ends : (q : ℕ) → q ≢ a → noted q ((b, vb) ∷ (a, va) ∷ turns) ≡ noted q ((b, vb) ∷ (a, x) ∷ turns)
      ends q m = rw (noted_else q (a, va) turns m, noted_else q (a, x) turns m)

  module _ (holds : List V → Type 0) (alone : V → V → Type 0) (paired : V → V → V → V → Type 0)
      (alone_keeps : (parts : List V) (p : ℕ) (old new : V) → holds parts → slice_get parts p ≡ Some old → alone old new → holds (slice_set parts p new))
      (paired_keeps : (parts : List V) (a b : ℕ) (old_a old_b new_a new_b : V) → a ≢ b → holds parts → slice_get parts a ≡ Some old_a → slice_get parts b ≡ Some old_b → paired old_a old_b new_a new_b → holds (slice_set (slice_set parts a new_a) b new_b))
      (alone_grows : (old new : V) → alone old new → grows old new)
      (paired_grows : (old_a old_b new_a new_b : V) → paired old_a old_b new_a new_b → grows old_a new_a × grows old_b new_b) where
    abbrev front : Sat V → List (ℕ × V) → List (ℕ × Option V) → Sat V
    front me turns carried = (standing me.0.share me.0.seen turns, carried)

    abbrev front_is : (me : Sat V) (turns : List (ℕ × V)) (carried : List (ℕ × Option V)) → me.0.turns ≡ turns → me.1 ≡ carried → front me turns carried ≡ me
    front_is me turns carried e e' = λ i. (standing me.0.share me.0.seen (sym e i), sym e' i)

    -- the front turn is given back alone
    pub gives_alone : (slots id p : ℕ) (me : Sat V) (v y : V) (turns : List (ℕ × V)) (more : List (ℕ × Option V)) → me.0.turns ≡ (p, v) ∷ turns → me.1 ≡ (p, Some y) ∷ more → alone v y
        → Allows (Kept holds grows) slots id me p (λ _. 0) (λ _. Gives (step slots p 0 0 none) me 0)
    gives_alone slots id p me v y turns more has lies may =
        subst (λ (m : Sat V). Allows (Kept holds grows) slots id m p (λ _. 0) (λ _. Gives (step slots p 0 0 none) m 0)) (front_is me ((p, v) ∷ turns) ((p, Some y) ∷ more) has lies) does
      where
        does : Allows (Kept holds grows) slots id (front me ((p, v) ∷ turns) ((p, Some y) ∷ more)) p (λ _. 0) (λ _. Gives (step slots p 0 0 none) (front me ((p, v) ∷ turns) ((p, Some y) ∷ more)) 0)
        does s k deep at small =
            let here = (k.fits.each_seat id (standing me.0.share me.0.seen ((p, v) ∷ turns)) at).held p v (noted_here p v turns) in (
              standing me.0.share ((p, y) ∷ me.0.seen) turns,
              gives,
              tt,
              record {
                parts = set k.parts p y;
                holder = put k.holder p none;
                legal = alone_keeps k.parts p v y k.legal (shown_at k.parts p v here.1) may;
                fits = given k.parts k.holder s id p me.0.share v y me.0.seen turns (alone_grows v y may) k.fits at;
              },
              λ q v' y' turns' more' e e'. one_left me.0.share p q v v' y y' me.0.seen turns turns' more more' e e',
            )

    -- the front turn is given back while another value is declared for the turn behind it
    pub gives_second : (slots id a b : ℕ) (me : Sat V) (va vb x y : V) (turns : List (ℕ × V)) (more : List (ℕ × Option V)) → a ≢ b
        → me.0.turns ≡ (b, vb) ∷ (a, va) ∷ turns → me.1 ≡ (b, Some y) ∷ (a, Some x) ∷ more → paired va vb x y
        → Allows (Kept holds grows) slots id me b (λ _. 0) (λ _. GivesSecond (step slots b 0 0 none) me 0)
    gives_second slots id a b me va vb x y turns more two has lies may =
        subst (λ (m : Sat V). Allows (Kept holds grows) slots id m b (λ _. 0) (λ _. GivesSecond (step slots b 0 0 none) m 0)) (front_is me ((b, vb) ∷ (a, va) ∷ turns) ((b, Some y) ∷ (a, Some x) ∷ more) has lies) does
      where
        does : Allows (Kept holds grows) slots id (front me ((b, vb) ∷ (a, va) ∷ turns) ((b, Some y) ∷ (a, Some x) ∷ more)) b (λ _. 0)
            (λ _. GivesSecond (step slots b 0 0 none) (front me ((b, vb) ∷ (a, va) ∷ turns) ((b, Some y) ∷ (a, Some x) ∷ more)) 0)
        does s k deep at small =
            let was : Standing V = standing me.0.share me.0.seen ((b, vb) ∷ (a, va) ∷ turns) in
            let w₁ : Standing V = standing me.0.share me.0.seen ((b, vb) ∷ (a, x) ∷ turns) in
            let w₂ : Standing V = standing me.0.share ((b, y) ∷ me.0.seen) ((a, x) ∷ turns) in
            let mine = k.fits.each_seat id was at in
            let here_b = mine.held b vb (noted_here b vb ((a, va) ∷ turns)) in
            let here_a = mine.held a va (noted_else a (b, vb) ((a, va) ∷ turns) two ∙ noted_here a va turns) in
            let grew = paired_grows va vb x y may in
            let s₁ : Board V = record { words = s.words; homes = s.homes; views = set s.views id w₁ } in
            let f₁ = declared k.parts k.holder s id a b me.0.share va vb x me.0.seen turns grew.0 k.fits at in
            let at₁ : get_elem? s₁.views id ≡ some w₁ = set_here s.views id w₁ (within s.views id was at) in
            let f₂ = given (set k.parts a x) (put k.holder a (some id)) s₁ id b me.0.share vb y me.0.seen ((a, x) ∷ turns) grew.1 f₁ at₁ in
            let kept : Kept holds grows record { words = set s.words b 0; homes = set s.homes b (some (Some y)); views = set s₁.views id w₂ } = record {
              parts = set (set k.parts a x) b y;
              holder = put (put k.holder a (some id)) b none;
              legal = paired_keeps k.parts a b va vb x y two k.legal (shown_at k.parts a va here_a.1) (shown_at k.parts b vb here_b.1) may;
              fits = f₂;
            } in (
              w₂,
              gives,
              tt,
              subst (λ (views : List (Standing V)). Kept holds grows record { words = set s.words b 0; homes = set s.homes b (some (Some y)); views = views }) (set-set s.views id w₁ w₂) kept,
              λ p q v w y' x' turns' more' e e'. one_left_second me.0.share a b p q va vb v w x y y' x' me.0.seen turns turns' more more' e e',
            )
