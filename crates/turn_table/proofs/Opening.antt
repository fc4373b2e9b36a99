-- How the table starts, and what is known when it is closed.
use Rattle.std.proofs.Common.{◌≡◌, ◌≢◌, ℕ, zero, suc, ◌+◌, ◌<◌, ◌≤◌, List, [], ◌∷◌, map, length, set, get_or, replicate, Option, Some, None, Contains, sum_by, refl, sym, ap, ◌∙◌, subst, arith, ⊎_elim}
use Rattle.std.specs.List.{enumerate_from}
use Rattle.std.proofs.lemmas.List.Sums.{sum_by-set}
use native.Mathlib.Decide.{ℕ_discrete}
use mathlib.Core.Option.{none, some, some-injective}
use mathlib.Core.Option as maybe
use lib.ListN.{get_elem?, length-map, length-replicate}
use Rattle.atomic_table.specs.Table.{opening, Final, Seen}
use Rattle.atomic_table.proofs.Lists.{at_map, at_snoc, set_else}
use Rattle.turn_table.specs.declared.standing.Standing.{Standing}
use Rattle.turn_table.specs.Notes.{noted}
use Rattle.turn_table.specs.Keeping.{Board, share_of, whole_share, Lies, Knows, Kept}
use Rattle.turn_table.specs.Playing.{founder, spent}
use Rattle.turn_table.proofs.Noting.{contains_cases}
use Rattle.turn_table.proofs.Bringing.{within}
use Rattle.turn_table.proofs.Moving.{get_from_at}

zero_at : (n p : ℕ) → get_or {A = ℕ} (replicate n 0) p 0 ≡ 0
zero_at zero p = refl
zero_at (suc n) zero = refl
zero_at (suc n) (suc p) = zero_at n p

module _ {V : Type 0} where
  -- a note of the numbered parts is on the part itself
  numbered : (parts : List V) (n p : ℕ) (x : V) → Contains (enumerate_from n parts) (p, x) → (k : ℕ) × (p ≡ n + k) × (get_elem? parts k ≡ some x)
  numbered [] n p x c = let h = c.1 in absurd (omega arith)
  numbered (y ∷ ys) n p x c = ⊎_elim
      (λ (e : (n, y) ≡ (p, x)). let at : n ≡ p = ap (λ (r : ℕ × V). r.0) e in (0, (omega arith), ap (λ (r : ℕ × V). some r.1) e))
      (λ (d : Contains (enumerate_from (n + 1) ys) (p, x)). let more = numbered ys (n + 1) p x d in let at = more.1 in (suc more.0, (omega arith), more.2))
      (contains_cases (n, y) (p, x) (enumerate_from (n + 1) ys) c)

  same_filling : (xs : List (Option V)) (parts : List V) → length xs ≡ length parts → ((p : ℕ) (v : V) → get_elem? parts p ≡ some v → get_elem? xs p ≡ some (Some v)) → xs ≡ map Some parts
  same_filling [] [] e h = refl
  same_filling [] (y ∷ ys) e h = absurd (omega arith)
  same_filling (x ∷ xs) [] e h = absurd (omega arith)
  same_filling (x ∷ xs) (y ∷ ys) e h =
      let head : x ≡ Some y = some-injective x (Some y) (h 0 y refl) in
      let tail = same_filling xs ys (omega arith) (λ p v at. h (suc p) v at) in
      (λ i. head i ∷ tail i)

  -- two seats have no more than all seats together
  two_shares : (views : List (Standing V)) (i j : ℕ) (v w : Standing V) → j ≢ i → get_elem? views i ≡ some v → get_elem? views j ≡ some w → v.share + w.share ≤ sum_by share_of views
  two_shares views i j v w m at_i at_j =
      let views' : List (Standing V) = set views i spent in
      let at_j' : get_elem? views' j ≡ some w = set_else views i j spent m ∙ at_j in
      let one : sum_by share_of views' + v.share ≡ sum_by share_of views + 0 = subst (λ (u : Standing V). sum_by share_of views' + share_of u ≡ sum_by share_of views + 0) (get_from_at views i v v at_i) (sum_by-set share_of views i spent v (within views i v at_i)) in
      let two : sum_by share_of (set views' j spent) + w.share ≡ sum_by share_of views' + 0 = subst (λ (u : Standing V). sum_by share_of (set views' j spent) + share_of u ≡ sum_by share_of views' + 0) (get_from_at views' j w w at_j') (sum_by-set share_of views' j spent w (within views' j w at_j')) in
      omega arith

  module _ (holds : List V → Type 0) (grows : V → V → Type 0) where
    pub opens : (parts : List V) (ws : List ℕ) (xs : List (Option V)) → ((v : V) → grows v v) → holds parts → ws ≡ replicate (length parts) 0 → xs ≡ map Some parts → Kept holds grows (opening ws xs (founder parts))
    opens parts ws xs reflexive legal ws_are xs_are = record {
      parts = parts;
      holder = λ _. none;
      legal = legal;
      fits = record {
        wide = ap length ws_are ∙ length-replicate (length parts) 0;
        deep = length-map xs some ∙ (ap length xs_are ∙ length-map parts Some);
        each_part = λ p v e. (ap (λ (l : List ℕ). get_or l p 0) ws_are ∙ zero_at (length parts) p, ap (λ (l : List (Option V)). get_elem? (map some l) p) xs_are ∙ at_map some (map Some parts) p (Some v) (at_map Some parts p v e));
        each_seat = λ id w e. ⊎_elim (λ (x : get_elem? [] id ≡ some w). absurd (maybe.some-ne-none w (sym x)))
            (λ (x : founder parts ≡ w). subst (Knows grows parts (λ _. none) id) x record {
              held = λ p v n. absurd (cc);
              apart = tt;
              grown = λ p x v c at. let n = numbered parts 0 p x c in
                  let same : get_elem? parts p ≡ some x = subst (λ (q : ℕ). get_elem? parts q ≡ some x) (let k = n.1 in let k' : n.0 ≡ p = omega arith in k') n.2 in
                  subst (grows x) (some-injective x v (sym same ∙ at)) (reflexive x);
            }) (at_snoc [] (founder parts) w id e);
        whole = refl;
      };
    }

    -- Who has the whole share and holds no turn knows that every turn is free
    pub closes : (id : ℕ) (w : Standing V) (ws : List ℕ) (xs : List (Option V)) → Final (Seen (Kept holds grows) id w) ws xs → w.share ≡ whole_share → w.turns ≡ []
        → (parts : List V) × holds parts × (xs ≡ map Some parts) × ((p : ℕ) (x v : V) → Contains w.seen (p, x) → get_elem? parts p ≡ some v → grows x v)
    closes id w ws xs final all idle =
        let s : Board V = final.0 in
        let k = final.1.0 in
        let deep = k.fits.deep in
        let there = final.3 in
        (k.parts, k.legal, same_filling xs k.parts (omega arith) (λ p v e. found p v e (k.holder p) refl), (k.fits.each_seat id w final.1.1).grown)
      where
        found : (p : ℕ) (v : V) → get_elem? final.1.0.parts p ≡ some v → (h : maybe.Option ℕ) → final.1.0.holder p ≡ h → get_elem? xs p ≡ some (Some v)
        found p v e none free = let lies : Lies final.0 p v none = subst (Lies final.0 p v) free (final.1.0.fits.each_part p v e) in final.4 p (Some v) lies.1
        found p v e (some j) taken =
            let lies : Lies final.0 p v (some j) = subst (Lies final.0 p v) taken (final.1.0.fits.each_part p v e) in
            let u : Standing V = lies.2.0 in
            let has = (final.1.0.fits.each_seat j u lies.2.1).held p v lies.2.2 in
            absurd (elsewhere u has.2 lies.2.1 lies.2.2 (ℕ_discrete j id))
          where
            elsewhere : (u : Standing V) → 0 < u.share → get_elem? final.0.views j ≡ some u → noted p u.turns ≡ Some v → Dec (j ≡ id) → ⊥
            elsewhere u some_share at n (yes is) =
                let same : u ≡ w = some-injective u w (sym at ∙ (ap (get_elem? final.0.views) is ∙ final.1.1)) in
                let none_there : noted p u.turns ≡ None = ap (λ (y : Standing V). noted p y.turns) same ∙ ap (noted p) idle in cc
            elsewhere u some_share at n (no m) =
                let both = two_shares final.0.views id j w u m final.1.1 at in let whole = final.1.0.fits.whole in omega arith
