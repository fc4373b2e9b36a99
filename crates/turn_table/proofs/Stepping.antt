-- Each step on the table keeps the rule, and tells what it should.
use Rattle.std.proofs.Common.{◌≡◌, ◌≢◌, ℕ, zero, suc, ◌<◌, ◌==◌, List, [], ◌∷◌, length, set, length-set, get_or-set_same, get_or-set_other, Option, Some, None, slice_index, slice_get, refl, sym, ap, ◌∙◌, subst, arith, ⊎_elim}
use native.Mathlib.Decide.{ℕ_discrete}
use prog.Atomic.{either}
use mathlib.Core.Option.{none, some, some-injective}
use mathlib.Core.Option as maybe
use lib.ListN.{get_elem?}
use lib.Seq.{set-get_or}
use Rattle.atomic_table.specs.Table.{Act, keeps, takes, step, Valid, stepped, carried_after, Allows}
use Rattle.atomic_table.proofs.Lists.{set_here, set_else, set_again}
use Rattle.turn_table.specs.declared.standing.Standing.{Standing}
use Rattle.turn_table.specs.Notes.{noted, brought, keys}
use Rattle.turn_table.specs.Keeping.{Board, Apart, Lies, Knows, Kept}
use Rattle.turn_table.specs.Playing.{Sat, standing, entered, Takes, Brings}
use Rattle.turn_table.proofs.Noting.{noted_here, noted_else, noted_cases, noted-brought, Apart-brought, apart_tied}
use Rattle.turn_table.proofs.Bringing.{within, Out, bringing, brings}
use Rattle.turn_table.proofs.Moving.{put, put_here, put_else, seen_stays, seen_here, reviewed, moved}

pub shown_at : {V : Type 0} (parts : List V) (p : ℕ) (v : V) → get_elem? parts p ≡ some v → slice_get parts p ≡ Some v
shown_at [] p v e = absurd (maybe.some-ne-none v (sym e))
shown_at (x ∷ xs) zero v e = ap Some (some-injective x v e)
shown_at (x ∷ xs) (suc p) v e = shown_at xs p v e

pub at_shown : {V : Type 0} (parts : List V) (p : ℕ) (v : V) → slice_get parts p ≡ Some v → get_elem? parts p ≡ some v
at_shown [] p v e = absurd (cc)
at_shown (x ∷ xs) zero v e = let same : x ≡ v = cc in ap some same
at_shown (x ∷ xs) (suc p) v e = at_shown xs p v e

there_is : {A : Type 0} (l : List A) (k : ℕ) → k < length l → (a : A) × (get_elem? l k ≡ some a)
there_is [] k h = absurd (omega arith)
there_is (x ∷ xs) zero h = (x, refl)
there_is (x ∷ xs) (suc k) h = there_is xs k (omega arith)

module _ {V : Type 0} where
  -- a step that stores what it found, with no act and the same view, changes nothing
  pub unchanged : (s : Board V) (p id : ℕ) (c : List (ℕ × Option V)) (v : Standing V) → get_elem? s.views id ≡ some v → stepped s p (slice_index s.words p) id c v keeps ≡ s
  unchanged s p id c v at = λ i. record { words = set-get_or s.words p 0 i; homes = s.homes; views = set_again s.views id v at i }

  -- slots that a seat has are not at home where those of its turns are not
  pub out_of : (hs : List (maybe.Option (Option V))) (c : List (ℕ × Option V)) (ts : List (ℕ × V)) → keys c ≡ keys ts → Apart ts → ((q : ℕ) (x : V) → noted q ts ≡ Some x → get_elem? hs q ≡ some none) → Out hs c
  out_of hs [] ts e a h = tt
  out_of hs (y ∷ c) [] e a h = absurd (cc)
  out_of hs (y ∷ c) (t ∷ ts) e a h =
      let same : t.0 ≡ y.0 = cc in let more : keys c ≡ keys ts = cc in (
        subst (λ (k : ℕ). get_elem? hs k ≡ some none) same (h t.0 t.1 (noted_here t.0 t.1 ts)),
        out_of hs c ts more a.1 (λ q x n. behind q x n (ℕ_discrete q t.0)),
      )
    where
      behind : (q : ℕ) (x : V) → noted q ts ≡ Some x → Dec (q ≡ t.0) → get_elem? hs q ≡ some none
      behind q x n (yes e) = let no : noted q ts ≡ None = subst (λ (k : ℕ). noted k ts ≡ None) (sym e) a.0 in absurd (cc)
      behind q x n (no m) = h q x (noted_else q t ts m ∙ n)

  module _ (holds : List V → Type 0) (grows : V → V → Type 0) where
    abbrev Goes : Board V → ℕ → Sat V → ℕ → (ℕ → ℕ) → (ℕ → Sat V → Type 0) → ℕ → Type 0
    Goes s id me i f then n = (w : Standing V) × (a : Act (Option V)) × Valid s.homes me.1 a × Kept holds grows (stepped s i (f n) id me.1 w a) × then n (w, carried_after me.1 a)

    -- the word after a try
    abbrev tried : ℕ → ℕ
    tried n = either (n == 0) 1 n

    -- a turn is taken where it is free, and nothing changes where it is taken
    pub takes_turn : ((v : V) → grows v v) → ((a b c : V) → grows a b → grows b c → grows a c) → (slots id p : ℕ) (me : Sat V) → p < slots → 0 < me.0.share
        → Allows (Kept holds grows) slots id me p (λ n. either (n == 0) 1 n) (Takes holds grows (step slots p 0 1 none) me)
    takes_turn reflexive trans slots id p me near share s k deep at small =
        let size : length s.homes ≡ length k.parts = k.fits.deep in
        let part = there_is k.parts p (omega arith) in
        go (k.holder p) refl part.0 part.1
      where
        go : (h : maybe.Option ℕ) → k.holder p ≡ h → (v : V) → get_elem? k.parts p ≡ some v → Goes s id me p tried (Takes holds grows (step slots p 0 1 none) me) (slice_index s.words p)
        go none free v at_p =
            let lies : Lies s p v none = subst (Lies s p v) free (k.fits.each_part p v at_p) in
            let wide : length s.words ≡ length k.parts = k.fits.wide in
            let size : length s.homes ≡ length k.parts = k.fits.deep in
            let in_parts : p < length k.parts = within k.parts p v at_p in
            let mine = k.fits.each_seat id me.0 at in
            let w : Standing V = entered p v me.0 in
            let same : set k.parts p v ≡ k.parts = set_again k.parts p v at_p in
            let alone : noted p me.0.turns ≡ None = nobody (noted p me.0.turns) refl in
            let knows : Knows grows (set k.parts p v) (put k.holder p (some id)) id w = record {
              held = λ q z e. ⊎_elim (λ (t : (p ≡ q) × (v ≡ z)). (ap (put k.holder p (some id)) (sym t.0) ∙ put_here k.holder p (some id), ap (get_elem? (set k.parts p v)) (sym t.0) ∙ (set_here k.parts p v in_parts ∙ ap some t.1), share))
                  (λ (t : (p ≢ q) × (noted q me.0.turns ≡ Some z)). let was = mine.held q z t.1 in
                  (put_else k.holder p (some id) q (λ e. t.0 (sym e)) ∙ was.0, set_else k.parts p q v (λ e. t.0 (sym e)) ∙ was.1, share)) (noted_cases q (p, v) me.0.turns z e);
              apart = (alone, mine.apart);
              grown = seen_here grows (set k.parts p v) p v me.0.seen reflexive (set_here k.parts p v in_parts) (seen_stays grows k.parts p v v me.0.seen trans at_p (reflexive v) mine.grown);
            } in
            let there : Lies record { words = set s.words p 1; homes = set s.homes p none; views = set s.views id w } p v (some id) =
            (get_or-set_same s.words p 1 0 (omega arith), set_here s.homes p none (omega arith), (w, set_here s.views id w (within s.views id me.0 at), noted_here p v me.0.turns)) in
            subst (Goes s id me p tried (Takes holds grows (step slots p 0 1 none) me)) (sym lies.0) (
              w,
              takes p (Some v),
              lies.1,
              record {
                parts = set k.parts p v;
                holder = put k.holder p (some id);
                legal = subst holds (sym same) k.legal;
                fits = moved grows k.parts k.holder s id p me.0 w v v (some id) (set s.words p 1) (set s.homes p none) trans k.fits at at_p (reflexive v)
                    (λ j _ e. maybe.some-ne-none j (sym e ∙ free)) (length-set s.words p 1) (length-set s.homes p none) (λ q m. get_or-set_other s.words p q 1 0 m) (λ q m. set_else s.homes p q none m)
                    there (λ q z m e. noted_else q (p, v) me.0.turns m ∙ e) knows refl;
              },
              (v, (refl, (λ x c. mine.grown p x v c at_p), (k.parts, sym k.fits.deep ∙ deep, k.legal, legal_part))),
            )
          where
            legal_part : (q : ℕ) (z : V) → noted q ((p, v) ∷ me.0.turns) ≡ Some z → slice_get k.parts q ≡ Some z
            legal_part q z e = ⊎_elim (λ (t : (p ≡ q) × (v ≡ z)). ap (slice_get k.parts) (sym t.0) ∙ (shown_at k.parts p v at_p ∙ ap Some t.1))
                (λ (t : (p ≢ q) × (noted q me.0.turns ≡ Some z)). shown_at k.parts q z ((k.fits.each_seat id me.0 at).held q z t.1).1) (noted_cases q (p, v) me.0.turns z e)

            nobody : (o : Option V) → noted p me.0.turns ≡ o → noted p me.0.turns ≡ None
            nobody None e = e
            nobody (Some z) e = absurd (maybe.some-ne-none id (sym ((k.fits.each_seat id me.0 at).held p z e).0 ∙ free))
        go (some j) taken v at_p =
            let lies : Lies s p v (some j) = subst (Lies s p v) taken (k.fits.each_part p v at_p) in
            subst (Goes s id me p tried (Takes holds grows (step slots p 0 1 none) me)) (sym lies.0) (
              me.0,
              keeps,
              tt,
              subst (λ (n : ℕ). Kept holds grows (stepped s p n id me.1 me.0 keeps)) lies.0 (subst (Kept holds grows) (sym (unchanged s p id me.1 me.0 at)) k),
              refl,
            )

    -- the slot p comes to the front
    pub brings_slot : (slots id p : ℕ) (me : Sat V) → keys me.1 ≡ keys me.0.turns → Allows (Kept holds grows) slots id me p (λ n. n) (Brings (step slots p 0 0 none) me)
    brings_slot slots id p me same s k deep at small =
        let mine = k.fits.each_seat id me.0 at in
        let w : Standing V = standing me.0.share me.0.seen (brought p me.0.turns) in
        let did = brings s.homes p me.1 (apart_tied me.1 me.0.turns same mine.apart) (out_of s.homes me.1 me.0.turns same mine.apart out) in
        let knows : Knows grows k.parts k.holder id w = record {
          held = λ q x e. mine.held q x (sym (noted-brought q p me.0.turns) ∙ e);
          apart = Apart-brought p me.0.turns mine.apart;
          grown = mine.grown;
        } in
        let kept : Kept holds grows record { words = s.words; homes = s.homes; views = set s.views id w } = record {
          parts = k.parts;
          holder = k.holder;
          legal = k.legal;
          fits = reviewed grows k.parts k.holder s id me.0 w k.fits at (λ q x e. noted-brought q p me.0.turns ∙ e) knows refl;
        } in (
          w,
          bringing p me.1,
          did.0,
          subst (Kept holds grows) (λ i. record { words = sym (set-get_or s.words p 0) i; homes = sym did.1 i; views = set s.views id w }) kept,
          ap (λ (c : List (ℕ × Option V)). (w, c)) did.2,
        )
      where
        out : (q : ℕ) (x : V) → noted q me.0.turns ≡ Some x → get_elem? s.homes q ≡ some none
        out q x e = let h = (k.fits.each_seat id me.0 at).held q x e in (subst (Lies s q x) h.0 (k.fits.each_part q x h.1)).1
