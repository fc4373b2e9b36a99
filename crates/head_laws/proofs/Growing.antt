-- What one more item changes of a node's lives: nothing, where it is of something else.
use Rattle.std.proofs.Common.{ℕ, ◌≡◌, ◌<◌, ◌≤◌, ◌+◌, ◌⊎◌, inl, inr, Bool, true, false, cond, Option, None, List, [], ◌∷◌, ◌++◌, length, refl, sym, ap, ◌∙◌, subst, arith, length-append}
use Rattle.std.specs.Prelude.{◌==◌, ◌||◌}
use Rattle.std.proofs.lemmas.List.{take-append-le}
use Rattle.trace_text.specs.declared.item.TraceItem.{TraceItem}
use Rattle.run_rules.specs.Lives.{Life, AcceptedHead, last_number, fenced_behind, recovered_behind, or_else, named, unnamed, Unnamed, lives_from, lives_of, losses_of, life_at}
use Rattle.head_laws.specs.Journals.{DoesNothing, Journal}
use Rattle.head_laws.specs.Laws.{lives_count}
use Rattle.head_laws.proofs.Items.{true-false, first_of_two, first-none, named-on, recovered-more, ended, ended-on, lives-more, losses-on, count-on, rest-on, unnamed-on, noted, Plain}
use Rattle.head_laws.proofs.Values.{rest, mine, base, own_place, first, fence, value_of, kept_head, value, fence-more, mine-open, closed-value, Stable, stable-value, stable-on, same-value, HeadsWithin, within-on, none-on}
use Rattle.head_laws.proofs.Goods.{Closed, Waiting, Acting}

-- the item begins no life of the node
pub record Keeps (i : ℕ) (x : TraceItem) : Type 0 where
  pub life : (p n : ℕ) (ls : List Life) → life_at i n (ls ++ lives_from p (x ∷ [])) ≡ life_at i n ls
  pub count : (p : ℕ) → lives_count i (lives_from p (x ∷ [])) ≡ 0

-- nor ends, fences, recovers or loses one
pub record Still (i : ℕ) (x : TraceItem) : Type 0 where
  pub first : (p : ℕ) → recovered_behind i p (x ∷ []) ≡ None
  pub ended : ended i (x ∷ []) ≡ false
  pub fence : (p : ℕ) → fenced_behind i p (x ∷ []) ≡ None
  pub losses : losses_of i (x ∷ []) ≡ 0
  pub keeps : Keeps i x

pub plain-still : (i : ℕ) (x : TraceItem) → Plain i x → Still i x
plain-still i x p = record { first = p.first; ended = p.ended; fence = p.fence; losses = p.losses; keeps = record { life = p.life; count = p.count } }

module _ (i : ℕ) (items : List TraceItem) (x : TraceItem) where
  pub losses-same : losses_of i (x ∷ []) ≡ 0 → losses_of i (items ++ x ∷ []) ≡ losses_of i items
  losses-same none = let a = losses-on i items (x ∷ []) in omega (arith, a, none)

  pub life-same : Keeps i x → (n : ℕ) → life_at i n (lives_of (items ++ x ∷ [])) ≡ life_at i n (lives_of items)
  life-same keeps n = ap (life_at i n) (lives-more items (x ∷ [])) ∙ keeps.life (length items) n (lives_of items)

  pub count-same : Keeps i x → lives_count i (lives_of (items ++ x ∷ [])) ≡ lives_count i (lives_of items)
  count-same keeps =
      let a = ap (lives_count i) (lives-more items (x ∷ [])) in
      let b = count-on i (lives_of items) (lives_from (length items) (x ∷ [])) in
      let c : lives_count i (lives_from (length items) (x ∷ [])) ≡ 0 = keeps.count (length items) in
      a ∙ (b ∙ omega (arith, c))

pub longer : (items : List TraceItem) (x : TraceItem) (n : ℕ) → n < length items → n < length (items ++ x ∷ [])
longer items x n h = let e = length-append items (x ∷ []) in omega (arith, e)

-- ---- one life

module _ (i : ℕ) (behind : ℕ → AcceptedHead) (l : Life) (items : List TraceItem) (x : TraceItem) (within : l.join < length items) where
  pub over-on : ended i (rest l items) ≡ true → ended i (rest l (items ++ x ∷ [])) ≡ true
  over-on e = ap (ended i) (rest-on l items (x ∷ []) within) ∙ (ended-on i (rest l items) (x ∷ []) ∙ ap (λ b. b || ended i (x ∷ [])) e)

  pub going-on : ended i (rest l items) ≡ false → ended i (x ∷ []) ≡ false → ended i (rest l (items ++ x ∷ [])) ≡ false
  going-on e f = ap (ended i) (rest-on l items (x ∷ []) within) ∙ (ended-on i (rest l items) (x ∷ []) ∙ (ap (λ b. b || ended i (x ∷ [])) e ∙ f))

  pub fence-same : ((p : ℕ) → fenced_behind i p (x ∷ []) ≡ None) → fence i l (items ++ x ∷ []) ≡ fence i l items
  fence-same none = fence-more i l items (x ∷ []) within ∙ (ap (first_of_two (fence i l items)) (none (length items)) ∙ first-none (fence i l items))

  pub base-more : base i l (items ++ x ∷ []) ≡ base i l items
  base-more = ap (last_number i 0) (take-append-le l.join items (x ∷ []) (omega arith))

  -- from where on headers are the present life's own
  pub place-same : ended i (rest l items) ≡ false → ended i (x ∷ []) ≡ false → ((p : ℕ) → recovered_behind i p (x ∷ []) ≡ None) → own_place i l (items ++ x ∷ []) ≡ own_place i l items
  place-same going f none =
      ap (λ (es : List TraceItem). or_else (recovered_behind i (l.join + 1) es) l.join) (mine-open i l (items ++ x ∷ []) (going-on going f) ∙ rest-on l items (x ∷ []) within)
      ∙ (ap (λ (o : Option ℕ). or_else o l.join) (recovered-more i (l.join + 1) (rest l items) (x ∷ []) none)
      ∙ sym (ap (λ (es : List TraceItem). or_else (recovered_behind i (l.join + 1) es) l.join) (mine-open i l items going)))

  pub first-same : ended i (rest l items) ≡ false → ended i (x ∷ []) ≡ false → ((p : ℕ) → recovered_behind i p (x ∷ []) ≡ None) → first i behind l (items ++ x ∷ []) ≡ first i behind l items
  first-same going f none = ap (λ (n : ℕ). (behind n).sequence) (place-same going f none)

  -- a life that ended
  pub closed-same : (h : AcceptedHead) → ended i (rest l items) ≡ true → last_number i 0 (items ++ x ∷ []) ≡ last_number i 0 items → ((p : ℕ) → fenced_behind i p (x ∷ []) ≡ None)
      → value i behind l (items ++ x ∷ []) h ≡ value i behind l items h
  closed-same h over last none =
      closed-value i behind l items (x ∷ []) h within over last
      ∙ ap (λ (o : Option ℕ). value_of (first i behind l items) i (mine i l items) (base i l items) (last_number i 0 items) (kept_head behind o h)) (fence-same none)

  pub closed-on : (j : Journal) (n : ℕ) → ((p : ℕ) → fenced_behind i p (x ∷ []) ≡ None) → losses_of i (items ++ x ∷ []) ≡ losses_of i items
      → last_number i 0 (items ++ x ∷ []) ≡ last_number i 0 items → Closed i behind j items n l → Closed i behind j (items ++ x ∷ []) n l
  closed-on j n none losses last c = record {
    over = over-on c.over;
    told = λ d. closed-same (j.name d) c.over last none ∙ (c.told d ∙ ap (λ (m : ℕ). cond (n == m) (j.cut d) j.last) (sym losses));
    fenced = λ needs. let f = c.fenced (elim needs [ inl low ↦ inl (omega (arith, low, losses)) | inr other ↦ inr other ]) in (f.0, fence-same none ∙ f.1);
  }

  -- the present life
  pub open-value : (h : AcceptedHead) → ended i (rest l items) ≡ false → fence i l items ≡ None
      → value i behind l items h ≡ value_of (first i behind l items) i (rest l items) (base i l items) (last_number i 0 items) h
  open-value h going none =
      ap (λ (es : List TraceItem). value_of (first i behind l items) i es (base i l items) (last_number i 0 items) (kept_head behind (fence i l items) h)) (mine-open i l items going)
      ∙ ap (λ (o : Option ℕ). value_of (first i behind l items) i (rest l items) (base i l items) (last_number i 0 items) (kept_head behind o h)) none

  pub open-value-on : (h : AcceptedHead) → ended i (rest l items) ≡ false → fence i l items ≡ None → Still i x
      → value i behind l (items ++ x ∷ []) h ≡ value_of (first i behind l items) i (rest l items ++ x ∷ []) (base i l items) (last_number i 0 (items ++ x ∷ [])) h
  open-value-on h going none still =
      ap (λ (es : List TraceItem). value_of (first i behind l (items ++ x ∷ [])) i es (base i l (items ++ x ∷ [])) (last_number i 0 (items ++ x ∷ [])) (kept_head behind (fence i l (items ++ x ∷ [])) h))
      (mine-open i l (items ++ x ∷ []) (going-on going still.ended) ∙ rest-on l items (x ∷ []) within)
      ∙ (ap (λ (sq : ℕ). value_of sq i (rest l items ++ x ∷ []) (base i l (items ++ x ∷ [])) (last_number i 0 (items ++ x ∷ [])) (kept_head behind (fence i l (items ++ x ∷ [])) h))
      (first-same going still.ended still.first)
      ∙ (ap (λ (b : ℕ). value_of (first i behind l items) i (rest l items ++ x ∷ []) b (last_number i 0 (items ++ x ∷ [])) (kept_head behind (fence i l (items ++ x ∷ [])) h)) base-more
      ∙ ap (λ (o : Option ℕ). value_of (first i behind l items) i (rest l items ++ x ∷ []) (base i l items) (last_number i 0 (items ++ x ∷ [])) (kept_head behind o h)) (fence-same still.fence ∙ none)))

  pub named-same : (h : AcceptedHead) → named i h (x ∷ []) ≡ None → named i h (rest l items ++ x ∷ []) ≡ named i h (rest l items)
  named-same h none = named-on i h (rest l items) (x ∷ []) ∙ (ap (first_of_two (named i h (rest l items))) none ∙ first-none (named i h (rest l items)))

  pub waiting-on : (j : Journal) → DoesNothing i (x ∷ []) → Waiting i behind j items l → Waiting i behind j (items ++ x ∷ []) l
  waiting-on j none w = record {
    idle = subst (DoesNothing i) (sym (rest-on l items (x ∷ []) within)) (none-on i (rest l items) (x ∷ []) w.idle none);
    base = base-more ∙ w.base;
  }

  -- a head that is told by an item, or isn't of this life
  pub stable-more : (h : AcceptedHead) → ended i (rest l items) ≡ false → Still i x → named i h (x ∷ []) ≡ None → Stable (first i behind l items) i (rest l items) h
      → Stable (first i behind l (items ++ x ∷ [])) i (rest l (items ++ x ∷ [])) h
  stable-more h going still unnamed-by s = subst (λ (sq : ℕ). Stable sq i (rest l (items ++ x ∷ [])) h) (sym (first-same going still.ended still.first))
      (subst (λ (es : List TraceItem). Stable (first i behind l items) i es h) (sym (rest-on l items (x ∷ []) within))
      (stable-on (first i behind l items) i (rest l items) (rest l items ++ x ∷ []) h s (named-same h unnamed-by)))

  pub stable-told : (h : AcceptedHead) → ended i (rest l items) ≡ false → fence i l items ≡ None → Still i x → named i h (x ∷ []) ≡ None → Stable (first i behind l items) i (rest l items) h
      → value i behind l (items ++ x ∷ []) h ≡ value i behind l items h
  stable-told h going none still unnamed-by s =
      open-value-on h going none still
      ∙ (stable-value (first i behind l items) i (rest l items) (rest l items ++ x ∷ []) (base i l items) (last_number i 0 items) (last_number i 0 (items ++ x ∷ [])) h s
      (named-same h unnamed-by) ∙ sym (open-value h going none))

  pub acting-on : (j : Journal) → ended i (rest l items) ≡ false → fence i l items ≡ None → Still i x
      → ((d : Bool) → named i (j.name d) (x ∷ []) ≡ None) → HeadsWithin i (j.name true).sequence (x ∷ [])
      → (j.silent ≡ true → value i behind l (items ++ x ∷ []) (j.name true) ≡ value i behind l items (j.name true))
      → Acting i behind j items l → Acting i behind j (items ++ x ∷ []) l
  acting-on j going none still unnamed-by heads quiet a = record {
    told = told;
    heads = subst (HeadsWithin i (j.name true).sequence) (sym (rest-on l items (x ∷ []) within)) (within-on i (j.name true).sequence (rest l items) (x ∷ []) a.heads heads);
    above = λ d. (let h : first i behind l items ≤ (j.name d).sequence = a.above d in let e = first-same going still.ended still.first in omega (arith, h, e));
    accepted = stable-more (j.name false) going still (unnamed-by false) a.accepted;
    flying = elim a.flying [ inl s ↦ inl (stable-more (j.name true) going still (unnamed-by true) s) | inr s ↦ inr s ];
    item = λ e. elim (a.item e) [
      | inl u ↦ inl (u.0, ap (named i (j.name true)) (rest-on l items (x ∷ []) within) ∙ (named-same (j.name true) (unnamed-by true) ∙ u.1))
      | inr s ↦ inr s
    ];
  }
    where
      told : (d : Bool) → value i behind l (items ++ x ∷ []) (j.name d) ≡ j.cut d
      told false = stable-told (j.name false) going none still (unnamed-by false) a.accepted ∙ a.told false
      told true = elim a.flying [ inl s ↦ stable-told (j.name true) going none still (unnamed-by true) s | inr s ↦ quiet s ] ∙ a.told true

-- a head of which the item says nothing
pub quiet-on : (i : ℕ) (behind : ℕ → AcceptedHead) (l : Life) (items : List TraceItem) (x : TraceItem) → l.join < length items → (h : AcceptedHead)
    → ended i (rest l items) ≡ false → fence i l items ≡ None → Still i x → named i h (x ∷ []) ≡ None
    → ((s : Unnamed) → (noted i s (x ∷ [])).upto ≡ s.upto) → (last_number i 0 (items ++ x ∷ []) ≡ last_number i 0 items) ⊎ (h.is_clean ≡ false)
    → value i behind l (items ++ x ∷ []) h ≡ value i behind l items h
quiet-on i behind l items x within h going none still unnamed-by notes last =
    open-value-on i behind l items x within h going none still
    ∙ (same-value (first i behind l items) i (rest l items) (rest l items ++ x ∷ []) (base i l items) (last_number i 0 items) (last_number i 0 (items ++ x ∷ [])) h
    (named-same i behind l items x within h unnamed-by)
    (by h.is_clean last)
    ∙ sym (open-value i behind l items x within h going none))
  where
    by : (clean : Bool) → (last_number i 0 (items ++ x ∷ []) ≡ last_number i 0 items) ⊎ (clean ≡ false)
        → cond clean (last_number i 0 (items ++ x ∷ [])) (unnamed i (record { upto = base i l items; is_logged = false; last = base i l items }) (rest l items ++ x ∷ []))
        ≡ cond clean (last_number i 0 items) (unnamed i (record { upto = base i l items; is_logged = false; last = base i l items }) (rest l items))
    by true (inl same) = same
    by true (inr f) = true-false refl f
    by false either = unnamed-on i (record { upto = base i l items; is_logged = false; last = base i l items }) (rest l items) (x ∷ []) notes
