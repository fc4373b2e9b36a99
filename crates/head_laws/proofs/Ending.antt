-- Heads of replays, heads that come to the disk, and lives that begin and end.
use Rattle.std.proofs.Common.{ℕ, zero, suc, ◌≡◌, ◌<◌, ◌≤◌, ◌+◌, ◌⊎◌, inl, inr, Bool, true, false, cond, Option, None, Some, List, [], ◌∷◌, ◌++◌, length, take, drop, refl, sym, ap, ◌∙◌, subst, arith, append-nil, length-append}
use Rattle.std.specs.Prelude.{◌==◌, ◌||◌, ◌-◌, nat_lt}
use Rattle.std.proofs.lemmas.Bool.{le-ltb, ltb-true, ltb-false, cases_Bool}
use Rattle.std.proofs.lemmas.Bool.Decides.{eqb_tells}
use Rattle.std.proofs.Math.Seq.{drop-append-add, take-append_seam}
use Rattle.trace_text.specs.declared.item.TraceItem.{TraceItem}
use Rattle.trace_text.specs.declared.item.TraceItem.TheVariants as trace
use Rattle.run_rules.specs.Lives.{Life, AcceptedHead, last_number, to_its_end, fenced_behind, recovered_behind, or_else, own_from, lives_from, lives_of, losses_of, life_at}
use Rattle.cluster_laws.specs.Mirror.{either}
use Rattle.head_laws.specs.Journals.{DoesNothing, Journal, present, IsEnd, IsFirst, EachIsFenced, NoHeadMatters}
use Rattle.head_laws.specs.Laws.{lives_count}
use Rattle.head_laws.proofs.Items.{true-false, eqb-other, eqb-self, first_of_two, last-on, ended, ended-on, end-open, lives-more, losses-on, count-on, life-newest, rest-on}
use Rattle.head_laws.proofs.Values.{rest, mine, base, first, fence, own, value_of, kept_head, value, fence-more, closed-value, NotOwn, HeadsWithin, within-none, waiting-value, mine-open}
use Rattle.head_laws.proofs.Goods.{Closed, Waiting, Acting, Open, Good, Inv, open-runs, none-open}
use Rattle.head_laws.proofs.Growing.{Keeps, losses-same, life-same, count-same, longer, over-on, going-on, fence-same, base-more, closed-same, closed-on, open-value, waiting-on}

inside : {A : Type 0} {a b : A} → Some a ≡ Some b → a ≡ b
inside e = cc

no-some : {A : Type 0} {B : Type 0} {a : A} → None ≡ Some a → B
no-some {A} {B} {a} e = absurd (let f : None ≡ Some a = e in cc)

-- the number of a life that was fenced is fixed
pub fenced-value : (i : ℕ) (behind : ℕ → AcceptedHead) (l : Life) (items : List TraceItem) (h k : AcceptedHead) (p : ℕ) → fence i l items ≡ Some p → value i behind l items h ≡ value i behind l items k
fenced-value i behind l items h k p e =
    ap (λ (o : Option ℕ). value_of (first i behind l items) i (mine i l items) (base i l items) (last_number i 0 items) (kept_head behind o h)) e
    ∙ sym (ap (λ (o : Option ℕ). value_of (first i behind l items) i (mine i l items) (base i l items) (last_number i 0 items) (kept_head behind o k)) e)

-- while the slot waits, the present life's number is that of the node's last call, whichever head is accepted
pub waits-value : (i : ℕ) (behind : ℕ → AcceptedHead) (j : Journal) (items : List TraceItem) (l : Life) (h : AcceptedHead) → l.join < length items → last_number i 0 items ≡ j.last → Open i behind j items l
    → Waiting i behind j items l → value i behind l items h ≡ j.last
waits-value i behind j items l h within number o w =
    open-value i behind l items (trace.View 0) within h o.going o.unfenced
    ∙ (waiting-value (first i behind l items) i (rest l items) (base i l items) (last_number i 0 items) h w.idle (w.base ∙ sym number) ∙ number)

-- a life that ended and has no loss was fenced
pub was-fenced : (i : ℕ) (behind : ℕ → AcceptedHead) (j : Journal) (items : List TraceItem) (n : ℕ) (l : Life) → EachIsFenced j → losses_of i items ≤ n → n < losses_of i items + j.unlost
    → Closed i behind j items n l → (p : ℕ) × (fence i l items ≡ Some p)
was-fenced i behind j items n l who low high c = elim who [
  | inl e ↦ c.fenced (inr (inr e))
  | inr e ↦ elim e [ inl runs ↦ c.fenced (inr (inl runs)) | inr none ↦ absurd (omega (arith, low, high, none)) ]
]

-- ---- a life in which the node did nothing

nothing-ends : (i : ℕ) (xs : List TraceItem) → DoesNothing i xs → DoesNothing i (to_its_end i xs)
nothing-ends i [] none = none
nothing-ends i (trace.Crash k ∷ xs) none = by (k == i) (nothing-ends i xs none)
  where
    by : (b : Bool) → DoesNothing i (to_its_end i xs) → DoesNothing i (cond b [] (trace.Crash k ∷ to_its_end i xs))
    by true e = tt
    by false e = e
nothing-ends i (trace.Withdraw k before now ∷ xs) none = by (k == i) (nothing-ends i xs none)
  where
    by : (b : Bool) → DoesNothing i (to_its_end i xs) → DoesNothing i (cond b [] (trace.Withdraw k before now ∷ to_its_end i xs))
    by true e = tt
    by false e = e
nothing-ends i (trace.Call k name number call reply ∷ xs) none = (none.0, nothing-ends i xs none.1)
nothing-ends i (trace.WriteHead k block sequence upto ∷ xs) none = (none.0, nothing-ends i xs none.1)
nothing-ends i (trace.WriteClean k block sequence upto ∷ xs) none = (none.0, nothing-ends i xs none.1)
nothing-ends i (x ∷ xs) none = nothing-ends i xs none

nothing-behind : (i : ℕ) (xs : List TraceItem) (n : ℕ) → DoesNothing i (drop n xs) → DoesNothing i (drop (suc n) xs)
nothing-behind i [] n none = tt
nothing-behind i (x ∷ xs) (suc n) none = nothing-behind i xs n none
nothing-behind i (x ∷ xs) zero none = by x none
  where
    by : (x : TraceItem) → DoesNothing i (x ∷ xs) → DoesNothing i xs
    by (trace.Call k name number call reply) none = none.1
    by (trace.WriteHead k block sequence upto) none = none.1
    by (trace.WriteClean k block sequence upto) none = none.1
    by x none = none

nothing-last : (i m : ℕ) (xs : List TraceItem) → DoesNothing i xs → last_number i m xs ≡ m
nothing-last i m [] none = refl
nothing-last i m (trace.Call k name number call reply ∷ xs) none = ap (λ (b : Bool). last_number i (cond b number m) xs) (eqb-other k i none.0) ∙ nothing-last i m xs none.1
nothing-last i m (trace.WriteHead k block sequence upto ∷ xs) none = nothing-last i m xs none.1
nothing-last i m (trace.WriteClean k block sequence upto ∷ xs) none = nothing-last i m xs none.1
nothing-last i m (x ∷ xs) none = nothing-last i m xs none

base-last : (i m n : ℕ) (xs : List TraceItem) → DoesNothing i (drop n xs) → last_number i m (take n xs) ≡ last_number i m xs
base-last i m zero [] none = refl
base-last i m (suc n) [] none = refl
base-last i m zero (x ∷ xs) none = sym (nothing-last i m (x ∷ xs) none)
base-last i m (suc n) (trace.Call k name number call reply ∷ xs) none = base-last i (cond (k == i) number m) n xs none
base-last i m (suc n) (x ∷ xs) none = base-last i m n xs none

-- its number is that of the node's last call, with any head
nothing-value : (i : ℕ) (behind : ℕ → AcceptedHead) (l : Life) (items : List TraceItem) (h : AcceptedHead) → DoesNothing i (drop l.join items) → value i behind l items h ≡ last_number i 0 items
nothing-value i behind l items h none =
    waiting-value (first i behind l items) i (mine i l items) (base i l items) (last_number i 0 items) (kept_head behind (fence i l items) h)
    (nothing-ends i (rest l items) (let e : suc l.join ≡ l.join + 1 = omega arith in subst (λ (n : ℕ). DoesNothing i (drop n items)) e (nothing-behind i items l.join none))) (base-last i 0 l.join items none)

-- a life that ended has the same number with any head, where none matters
pub any-value : (i : ℕ) (behind : ℕ → AcceptedHead) (j : Journal) (items : List TraceItem) (n : ℕ) (l : Life) (h k : AcceptedHead) → NoHeadMatters i j items
    → life_at i n (lives_of items) ≡ Some l → losses_of i items ≤ n → n < losses_of i items + j.unlost → Closed i behind j items n l → value i behind l items h ≡ value i behind l items k
any-value i behind j items n l h k (inl who) is low high c = let f = was-fenced i behind j items n l who low high c in fenced-value i behind l items h k f.0 f.1
any-value i behind j items n l h k (inr nothing) is low high c = elim (cases_Bool (nat_lt (suc n) (losses_of i items + j.unlost))) [
  | inl earlier ↦ let f = c.fenced (inl (ltb-true (suc n) (losses_of i items + j.unlost) earlier)) in fenced-value i behind l items h k f.0 f.1
  | inr newest ↦
      let e : losses_of i items + j.unlost - 1 ≡ n = (let m = ltb-false (suc n) (losses_of i items + j.unlost) newest in omega (arith, m, high)) in
      let none = nothing l (ap (λ (m : ℕ). life_at i m (lives_of items)) e ∙ is) in
      nothing-value i behind l items h none ∙ sym (nothing-value i behind l items k none)
]

-- ---- a replay's header

abbrev pub replayed : Journal → ℕ → AcceptedHead → Journal
replayed j r h = record j { cut = either (j.cut false) (j.cut false); name = either (j.name false) h; flies = Some r }

pub replays : (i : ℕ) (behind : ℕ → AcceptedHead) (j : Journal) (items : List TraceItem) (r : ℕ) (h : AcceptedHead) → j.waits ≡ true → EachIsFenced j → j.flies ≡ None
    → Inv i behind j items → Inv i behind (replayed j r h) items
replays i behind j items r h waits who alone inv = record {
  number = inv.number;
  count = inv.count;
  settled = inv.settled;
  single = λ e. no-some (sym e);
  others = λ s e ne. refl;
  even = λ u why d. evens u why d;
  silent = λ e. no-some (sym alone ∙ (inv.silent e).0);
  lives = λ n l is low.
      let g = inv.lives n l is low in
      record {
        node = g.node;
        within = g.within;
        closed = λ c. closes n l low c (g.closed c);
        present = λ p. (let o = g.present p in record { going = o.going; unfenced = o.unfenced; waiting = λ w. still (o.waiting w); acting = λ a. true-false waits a });
      };
}
  where
    evens : j.unlost ≡ 0 → (j.runs ≡ false) ⊎ (j.waits ≡ true) → (d : Bool) → either (j.cut false) (j.cut false) d ≡ j.last
    evens u why false = inv.even u why false
    evens u why true = inv.even u why false

    closes : (n : ℕ) (l : Life) → losses_of i items ≤ n → n < losses_of i items + j.unlost → Closed i behind j items n l → Closed i behind (replayed j r h) items n l
    closes n l low high c = record { over = c.over; told = told; fenced = c.fenced }
      where
        told : (d : Bool) → value i behind l items (either (j.name false) h d) ≡ cond (n == losses_of i items) (either (j.cut false) (j.cut false) d) j.last
        told false = c.told false
        told true =
            let f = was-fenced i behind j items n l who low high c in
            fenced-value i behind l items h (j.name false) f.0 f.1 ∙ c.told false

    still : {l : Life} → Waiting i behind j items l → Waiting i behind (replayed j r h) items l
    still w = record { idle = w.idle; base = w.base }

abbrev pub past_replayed : Journal → AcceptedHead → Journal
past_replayed j h = record j { name = λ d. h }

pub replays-past : (i : ℕ) (behind : ℕ → AcceptedHead) (j : Journal) (items : List TraceItem) (h : AcceptedHead) → j.waits ≡ true → NoHeadMatters i j items → j.flies ≡ None
    → Inv i behind j items → Inv i behind (past_replayed j h) items
replays-past i behind j items h waits who alone inv = record {
  number = inv.number;
  count = inv.count;
  settled = inv.settled;
  single = λ e. ((inv.single e).0, refl);
  others = inv.others;
  even = inv.even;
  silent = inv.silent;
  lives = λ n l is low.
      let g = inv.lives n l is low in
      record {
        node = g.node;
        within = g.within;
        closed = λ c. closes n l is low c (g.closed c);
        present = λ p. (let o = g.present p in record { going = o.going; unfenced = o.unfenced; waiting = λ w. still (o.waiting w); acting = λ a. true-false waits a });
      };
}
  where
    closes : (n : ℕ) (l : Life) → life_at i n (lives_of items) ≡ Some l → losses_of i items ≤ n → n < losses_of i items + j.unlost → Closed i behind j items n l → Closed i behind (past_replayed j h) items n l
    closes n l is low high c = record {
      over = c.over;
      told = λ d. any-value i behind j items n l h (j.name d) who is low high c ∙ c.told d;
      fenced = c.fenced;
    }

    still : {l : Life} → Waiting i behind j items l → Waiting i behind (past_replayed j h) items l
    still w = record { idle = w.idle; base = w.base }

-- ---- a header is on the disk, or never will be

abbrev pub chosen : Journal → Bool → Journal
chosen j d = record j { cut = λ e. j.cut d; name = λ e. j.name d; flies = None }

pub ends : (i : ℕ) (behind : ℕ → AcceptedHead) (j : Journal) (items : List TraceItem) (d : Bool) → (j.runs ≡ true → (j.silent ≡ false) × (j.waits ≡ false → d ≡ true)) → Inv i behind j items
    → Inv i behind (chosen j d) items
ends i behind j items d may inv = record {
  number = inv.number;
  count = inv.count;
  settled = inv.settled;
  single = λ e. (refl, refl);
  others = λ r e ne. refl;
  even = λ u why e. inv.even u why d;
  silent = λ s. true-false s (may (inv.silent s).1).0;
  lives = λ n l is low.
      let g = inv.lives n l is low in
      record {
        node = g.node;
        within = g.within;
        closed = λ c. record { over = (g.closed c).over; told = λ e. (g.closed c).told d; fenced = (g.closed c).fenced };
        present = λ p. opens l (open-runs i behind j items inv n l is p).0 (g.present p);
      };
}
  where
    acts : (l : Life) → (d : Bool) → d ≡ true → j.silent ≡ false → Acting i behind j items l → Acting i behind (chosen j d) items l
    acts l false e loud a = true-false e refl
    acts l true e loud a = record {
      told = λ f. a.told true;
      heads = a.heads;
      above = λ f. a.above true;
      accepted = elim a.flying [ inl s ↦ s | inr s ↦ true-false s loud ];
      flying = a.flying;
      item = λ f. no-some f;
    }

    opens : (l : Life) → j.runs ≡ true → Open i behind j items l → Open i behind (chosen j d) items l
    opens l runs o = record {
      going = o.going;
      unfenced = o.unfenced;
      waiting = λ w. record { idle = (o.waiting w).idle; base = (o.waiting w).base };
      acting = λ a. acts l d ((may runs).1 a) (may runs).0 (o.acting a);
    }

-- ---- the node stops

record EndItem (i : ℕ) (x : TraceItem) : Type 0 where
  over : ended i (x ∷ []) ≡ true
  nothing : to_its_end i (x ∷ []) ≡ []
  fence : (p : ℕ) → fenced_behind i p (x ∷ []) ≡ None
  losses : losses_of i (x ∷ []) ≡ 0
  last : (m : ℕ) → last_number i m (x ∷ []) ≡ m
  keeps : Keeps i x

end-item : (i : ℕ) (x : TraceItem) → IsEnd i x → EndItem i x
end-item i (trace.Crash k) e = record {
  over = rw (ap (λ (n : ℕ). n == i) e ∙ eqb-self i) refl;
  nothing = rw (ap (λ (n : ℕ). n == i) e ∙ eqb-self i) refl;
  fence = λ p. refl;
  losses = refl;
  last = λ m. refl;
  keeps = record { life = λ p n ls. ap (life_at i n) (append-nil ls); count = λ p. refl };
}
end-item i (trace.Withdraw k before after) e = record {
  over = rw (ap (λ (n : ℕ). n == i) e ∙ eqb-self i) refl;
  nothing = rw (ap (λ (n : ℕ). n == i) e ∙ eqb-self i) refl;
  fence = λ p. refl;
  losses = refl;
  last = λ m. refl;
  keeps = record { life = λ p n ls. ap (life_at i n) (append-nil ls); count = λ p. refl };
}
end-item i x e = absurd e

abbrev pub halted : Journal → Journal
halted j = record j { runs = false; waits = true; fenced = false; unlost = suc j.unlost; silent = false }

pub stops : (i : ℕ) (behind : ℕ → AcceptedHead) (j : Journal) (items : List TraceItem) (x : TraceItem) → IsEnd i x → j.runs ≡ true → Inv i behind j items → Inv i behind (halted j) (items ++ x ∷ [])
stops i behind j items x is-end runs inv = record {
  number = last-same ∙ inv.number;
  count = count-same i items x e.keeps ∙ (inv.count ∙ (let b : cond {A = ℕ} j.runs 1 0 ≡ 1 = ap (λ (t : Bool). cond t 1 0) runs in omega (arith, b, same)));
  settled = λ f. true-false refl f;
  single = inv.single;
  others = inv.others;
  even = λ u why d. absurd (omega (arith, u));
  silent = λ s. true-false s refl;
  lives = λ n l is low.
      let old : life_at i n (lives_of items) ≡ Some l = sym (life-same i items x e.keeps n) ∙ is in
      let g = inv.lives n l old (omega (arith, low, same)) in
      record {
        node = g.node;
        within = longer items x l.join g.within;
        closed = λ h. elim (cases_Bool (nat_lt n (losses_of i items + j.unlost))) [
          | inl below ↦ closes n l g.within (g.closed (ltb-true n (losses_of i items + j.unlost) below))
          | inr above ↦ let at = ltb-false n (losses_of i items + j.unlost) above in ends-now n l g.within (open-runs i behind j items inv n l old at).1 (g.present at)
        ];
        present = λ h. (let at = open-runs i behind j items inv n l old (omega (arith, h, same)) in let m : n ≡ losses_of i items + j.unlost = at.1 in absurd (omega (arith, h, same, m)));
      };
}
  where
    e : EndItem i x
    e = end-item i x is-end

    same : losses_of i (items ++ x ∷ []) ≡ losses_of i items
    same = losses-same i items x (end-item i x is-end).losses

    last-same : last_number i 0 (items ++ x ∷ []) ≡ last_number i 0 items
    last-same = last-on i 0 items (x ∷ []) ∙ (end-item i x is-end).last (last_number i 0 items)

    closes : (n : ℕ) (l : Life) → l.join < length items → Closed i behind j items n l → Closed i behind (halted j) (items ++ x ∷ []) n l
    closes n l within c =
        let d = closed-on i behind l items x within j n (end-item i x is-end).fence (losses-same i items x (end-item i x is-end).losses)
        (last-on i 0 items (x ∷ []) ∙ (end-item i x is-end).last (last_number i 0 items)) c in
        record { over = d.over; told = d.told; fenced = λ needs. d.fenced (inr (inl runs)) }

    ends-now : (n : ℕ) (l : Life) → l.join < length items → n ≡ losses_of i items + j.unlost → Open i behind j items l → Closed i behind (halted j) (items ++ x ∷ []) n l
    ends-now n l within at o = record {
      over = ap (ended i) (rest-on l items (x ∷ []) within) ∙ (ended-on i (rest l items) (x ∷ []) ∙ (ap (λ (b : Bool). b || ended i (x ∷ [])) o.going ∙ (end-item i x is-end).over));
      told = λ d. moved d ∙ (was d ∙ ap (λ (m : ℕ). cond (n == m) (j.cut d) j.last) (sym (losses-same i items x (end-item i x is-end).losses)));
      fenced = λ needs. elim needs [
        | inl low ↦ absurd (let s = losses-same i items x (end-item i x is-end).losses in omega (arith, low, at, s))
        | inr other ↦ elim other [ inl r ↦ true-false r refl | inr f ↦ true-false f refl ]
      ];
    }
      where
        whole : mine i l (items ++ x ∷ []) ≡ mine i l items
        whole = ap (to_its_end i) (rest-on l items (x ∷ []) within)
            ∙ (end-open i (rest l items) (x ∷ []) o.going ∙ (ap (λ (es : List TraceItem). rest l items ++ es) (end-item i x is-end).nothing
            ∙ (append-nil (rest l items) ∙ sym (mine-open i l items o.going))))

        moved : (d : Bool) → value i behind l (items ++ x ∷ []) (j.name d) ≡ value i behind l items (j.name d)
        moved d = λ t. value_of (behind (or_else (recovered_behind i (l.join + 1) (whole t)) l.join)).sequence i (whole t) (base-more i behind l items x within t)
            ((last-on i 0 items (x ∷ []) ∙ (end-item i x is-end).last (last_number i 0 items)) t)
            (kept_head behind (fence-same i behind l items x within (end-item i x is-end).fence t) (j.name d))

        was : (d : Bool) → value i behind l items (j.name d) ≡ cond (n == losses_of i items) (j.cut d) j.last
        was d = elim (cases_Bool (j.waits)) [
          | inl w ↦ waits-value i behind j items l (j.name d) within inv.number o (o.waiting w) ∙ sym (elim (eqb_tells n (losses_of i items)) [
            | inl q ↦ let none : j.unlost ≡ 0 = (let a = q.1 in omega (arith, at, a)) in ap (λ (b : Bool). cond b (j.cut d) j.last) q.0 ∙ inv.even none (inr w) d
            | inr q ↦ ap (λ (b : Bool). cond b (j.cut d) j.last) q.0
          ])
          | inr a ↦ (o.acting a).told d ∙ sym (let none : j.unlost ≡ 0 = inv.settled a in let q : n ≡ losses_of i items = omega (arith, at, none) in
              ap (λ (b : Bool). cond b (j.cut d) j.last) (ap (λ (m : ℕ). m == losses_of i items) q ∙ eqb-self (losses_of i items)))
        ]

-- ---- it is fenced

fence-keeps : (i : ℕ) → Keeps i (trace.Fence i)
fence-keeps i = record { life = λ p n ls. ap (life_at i n) (append-nil ls); count = λ p. refl }

pub is-fenced : (i : ℕ) (behind : ℕ → AcceptedHead) (j : Journal) (items : List TraceItem) → j.runs ≡ false → (j.flies ≡ Some i → ⊥) → behind (suc (length items)) ≡ j.name false → Inv i behind j items
    → Inv i behind (record j { fenced = true }) (items ++ trace.Fence i ∷ [])
is-fenced i behind j items stopped resting at inv = record {
  number = last-on i 0 items (trace.Fence i ∷ []) ∙ inv.number;
  count = count-same i items (trace.Fence i) (fence-keeps i) ∙ (inv.count ∙ ap (λ (m : ℕ). m + (j.unlost + cond j.runs 1 0)) (sym same));
  settled = inv.settled;
  single = inv.single;
  others = inv.others;
  even = inv.even;
  silent = inv.silent;
  lives = λ n l is low.
      let old : life_at i n (lives_of items) ≡ Some l = sym (life-same i items (trace.Fence i) (fence-keeps i) n) ∙ is in
      let g = inv.lives n l old (omega (arith, low, same)) in
      record {
        node = g.node;
        within = longer items (trace.Fence i) l.join g.within;
        closed = λ h. closes n l g.within (g.closed (omega (arith, h, same)));
        present = λ h. none-open i behind j items inv n l old stopped (omega (arith, h, same));
      };
}
  where
    same : losses_of i (items ++ trace.Fence i ∷ []) ≡ losses_of i items
    same = losses-same i items (trace.Fence i) refl

    cuts : (d : Bool) → j.cut false ≡ j.cut d
    cuts false = refl
    cuts true = by j.flies refl
      where
        by : (o : Option ℕ) → j.flies ≡ o → j.cut false ≡ j.cut true
        by None e = sym (inv.single e).0
        by (Some r) e = sym (inv.others r e (λ q. resting (e ∙ ap (λ (n : ℕ). Some n) q)))

    this-fence : (p : ℕ) → fenced_behind i p (trace.Fence i ∷ []) ≡ Some (suc p)
    this-fence p = rw (eqb-self i) refl

    closes : (n : ℕ) (l : Life) → l.join < length items → Closed i behind j items n l → Closed i behind (record j { fenced = true }) (items ++ trace.Fence i ∷ []) n l
    closes n l within c = record {
      over = over-on i behind l items (trace.Fence i) within c.over;
      told = λ d. closed-value i behind l items (trace.Fence i ∷ []) (j.name d) within c.over (last-on i 0 items (trace.Fence i ∷ []))
          ∙ (by d (fence i l items) refl ∙ ap (λ (m : ℕ). cond (n == m) (j.cut d) j.last) (sym (losses-same i items (trace.Fence i) refl)));
      fenced = λ needs. there (fence i l items) refl;
    }
      where
        more : fence i l (items ++ trace.Fence i ∷ []) ≡ first_of_two (fence i l items) (Some (suc (length items)))
        more = fence-more i l items (trace.Fence i ∷ []) within ∙ ap (first_of_two (fence i l items)) (this-fence (length items))

        there : (o : Option ℕ) → fence i l items ≡ o → (p : ℕ) × (fence i l (items ++ trace.Fence i ∷ []) ≡ Some p)
        there (Some p) e = (p, more ∙ ap (λ (o : Option ℕ). first_of_two o (Some (suc (length items)))) e)
        there None e = (suc (length items), more ∙ ap (λ (o : Option ℕ). first_of_two o (Some (suc (length items)))) e)

        by : (d : Bool) (o : Option ℕ) → fence i l items ≡ o
            → value_of (first i behind l items) i (mine i l items) (base i l items) (last_number i 0 items) (kept_head behind (fence i l (items ++ trace.Fence i ∷ [])) (j.name d)) ≡ cond (n == losses_of i items) (j.cut d) j.last
        by d (Some p) e =
            ap (λ (o : Option ℕ). value_of (first i behind l items) i (mine i l items) (base i l items) (last_number i 0 items) (kept_head behind o (j.name d)))
            (more ∙ (ap (λ (o : Option ℕ). first_of_two o (Some (suc (length items)))) e ∙ sym e)) ∙ c.told d
        by d None e =
            ap (λ (o : Option ℕ). value_of (first i behind l items) i (mine i l items) (base i l items) (last_number i 0 items) (kept_head behind o (j.name d)))
            (more ∙ ap (λ (o : Option ℕ). first_of_two o (Some (suc (length items)))) e)
            ∙ (ap (value_of (first i behind l items) i (mine i l items) (base i l items) (last_number i 0 items)) at
            ∙ (sym (ap (λ (o : Option ℕ). value_of (first i behind l items) i (mine i l items) (base i l items) (last_number i 0 items) (kept_head behind o (j.name false))) e)
            ∙ (c.told false ∙ ap (λ (m : ℕ). cond (n == losses_of i items) m j.last) (cuts d))))

-- ---- it joins

abbrev pub admitted : Journal → Journal
admitted j = record j { runs = true; fenced = false }

pub joins : (i : ℕ) (behind : ℕ → AcceptedHead) (j : Journal) (items : List TraceItem) → j.runs ≡ false → (j.fenced ≡ true) ⊎ (j.unlost ≡ 0) → (j.flies ≡ None) ⊎ (j.waits ≡ true)
    → behind (length items) ≡ j.name false → Inv i behind j items → Inv i behind (admitted j) (items ++ trace.Join i ∷ [])
joins i behind j items stopped free alone at inv = record {
  number = last-on i 0 items (trace.Join i ∷ []) ∙ inv.number;
  count = counted;
  settled = inv.settled;
  single = inv.single;
  others = inv.others;
  even = λ u why d. elim why [ inl f ↦ true-false refl f | inr w ↦ inv.even u (inr w) d ];
  silent = λ s. true-false (inv.silent s).1 stopped;
  lives = λ n l is low. elim (life-newest i n (lives_of items) new l (eqb-self i) (sym (ap (life_at i n) (lives-more items (trace.Join i ∷ []))) ∙ is)) [
    | inl old ↦
        let g = inv.lives n l old (omega (arith, low, same)) in
        record {
          node = g.node;
          within = longer items (trace.Join i) l.join g.within;
          closed = λ h. closes n l g.within (omega (arith, low, same)) (omega (arith, h, same)) (g.closed (omega (arith, h, same)));
          present = λ h. none-open i behind j items inv n l old stopped (omega (arith, h, same));
        }
    | inr fresh ↦ subst (Good i behind (admitted j) (items ++ trace.Join i ∷ []) n) (sym fresh.1) (begins n fresh.0)
  ];
}
  where
    new : Life
    new = record { node = i; join = length items }

    same : losses_of i (items ++ trace.Join i ∷ []) ≡ losses_of i items
    same = losses-same i items (trace.Join i) refl

    counted : lives_count i (lives_of (items ++ trace.Join i ∷ [])) ≡ losses_of i (items ++ trace.Join i ∷ []) + (j.unlost + 1)
    counted =
        let a = ap (lives_count i) (lives-more items (trace.Join i ∷ [])) in
        let b = count-on i (lives_of items) (lives_from (length items) (trace.Join i ∷ [])) in
        let c : lives_count i (lives_from (length items) (trace.Join i ∷ [])) ≡ 1 = ap (λ (t : Bool). cond t 1 0 + 0) (eqb-self i) in
        let d : lives_count i (lives_of items) ≡ losses_of i items + (j.unlost + 0) = inv.count ∙ ap (λ (t : Bool). losses_of i items + (j.unlost + cond t 1 0)) stopped in
        let s = losses-same i items (trace.Join i) refl in
        a ∙ (b ∙ omega (arith, c, d, s))

    closes : (n : ℕ) (l : Life) → l.join < length items → losses_of i items ≤ n → n < losses_of i items + j.unlost → Closed i behind j items n l
        → Closed i behind (admitted j) (items ++ trace.Join i ∷ []) n l
    closes n l within low high c =
        let d = closed-on i behind l items (trace.Join i) within j n (λ p. refl) (losses-same i items (trace.Join i) refl) (last-on i 0 items (trace.Join i ∷ [])) c in
        record {
          over = d.over;
          told = d.told;
          fenced = λ needs. elim free [ inl f ↦ d.fenced (inr (inr f)) | inr none ↦ absurd (omega (arith, low, high, none)) ];
        }

    begins : (n : ℕ) → n ≡ lives_count i (lives_of items) → Good i behind (admitted j) (items ++ trace.Join i ∷ []) n (record { node = i; join = length items })
    begins n at-end = record {
      node = refl;
      within = let e = length-append items (trace.Join i ∷ []) in omega (arith, e);
      closed = λ h. absurd (let c : lives_count i (lives_of items) ≡ losses_of i items + (j.unlost + cond j.runs 1 0) = inv.count in let s = losses-same i items (trace.Join i) refl in omega (arith, h, s, c, at-end));
      present = λ h. record {
        going = ap (ended i) nothing;
        unfenced = ap (fenced_behind i (length items + 1)) nothing;
        waiting = λ w. record { idle = subst (DoesNothing i) (sym nothing) tt; base = ap (last_number i 0) (take-append_seam items (trace.Join i ∷ [])) ∙ inv.number };
        acting = λ a. record {
          told = λ d. value-here d ∙ sym (inv.even (inv.settled a) (inl stopped) d);
          heads = subst (λ (es : List TraceItem). HeadsWithin i (j.name true).sequence es) (sym nothing) tt;
          above = above a;
          accepted = NotOwn (old a false);
          flying = inl (NotOwn (old a true));
          item = λ f. no-some (sym (unflown a) ∙ f);
        };
      };
    }
      where
        l : Life
        l = record { node = i; join = length items }

        nothing : drop (length items + 1) (items ++ trace.Join i ∷ []) ≡ []
        nothing = drop-append-add items (trace.Join i ∷ []) 1

        at-join : first i behind (record { node = i; join = length items }) (items ++ trace.Join i ∷ []) ≡ (behind (length items)).sequence
        at-join = ap (λ (es : List TraceItem). (behind (or_else (recovered_behind i (length items + 1) (to_its_end i es)) (length items))).sequence) nothing

        unflown : j.waits ≡ false → j.flies ≡ None
        unflown a = elim alone [ inl none ↦ none | inr w ↦ true-false w a ]

        seen : j.waits ≡ false → (d : Bool) → (j.name d).sequence ≡ (behind (length items)).sequence
        seen a false = ap (λ (h : AcceptedHead). h.sequence) (sym at)
        seen a true = ap (λ (h : AcceptedHead). h.sequence) ((inv.single (unflown a)).1 ∙ sym at)

        above : j.waits ≡ false → (d : Bool) → first i behind (record { node = i; join = length items }) (items ++ trace.Join i ∷ []) ≤ (j.name d).sequence
        above a d = let e = seen a d in let f = at-join in omega (arith, e, f)

        old : j.waits ≡ false → (d : Bool) → own (first i behind (record { node = i; join = length items }) (items ++ trace.Join i ∷ [])) (j.name d) ≡ false
        old a d = le-ltb (first i behind (record { node = i; join = length items }) (items ++ trace.Join i ∷ [])) (j.name d).sequence (let e = seen a d in let f = at-join in omega (arith, e, f))

        value-here : (d : Bool) → value i behind (record { node = i; join = length items }) (items ++ trace.Join i ∷ []) (j.name d) ≡ j.last
        value-here d =
            (λ t. value_of (first i behind (record { node = i; join = length items }) (items ++ trace.Join i ∷ [])) i (to_its_end i (nothing t)) (last_number i 0 (take-append_seam items (trace.Join i ∷ []) t))
            (last-on i 0 items (trace.Join i ∷ []) t) (kept_head behind (fenced_behind i (length items + 1) (nothing t)) (j.name d)))
            ∙ (waiting-value (first i behind (record { node = i; join = length items }) (items ++ trace.Join i ∷ [])) i [] (last_number i 0 items) (last_number i 0 items) (j.name d) tt refl ∙ inv.number)

-- ---- a life is lost, and the slot recovered

lost-keeps : (i kept : ℕ) → Keeps i (trace.Lost i kept)
lost-keeps i kept = record { life = λ p n ls. ap (life_at i n) (append-nil ls); count = λ p. refl }

abbrev pub bereft : Journal → ℕ → Journal
bereft j m = record j { unlost = m; cut = λ d. j.last }

pub loses : (i : ℕ) (behind : ℕ → AcceptedHead) (j : Journal) (items : List TraceItem) (m kept : ℕ) → j.waits ≡ true → j.unlost ≡ suc m → Inv i behind j items → Inv i behind (bereft j m) (items ++ trace.Lost i kept ∷ [])
loses i behind j items m kept waits some inv = record {
  number = last-on i 0 items (trace.Lost i kept ∷ []) ∙ inv.number;
  count = count-same i items (trace.Lost i kept) (lost-keeps i kept) ∙ (inv.count ∙ omega (arith, one-more, some));
  settled = λ f. true-false waits f;
  single = λ e. (refl, (inv.single e).1);
  others = λ r e ne. refl;
  even = λ u why d. refl;
  silent = inv.silent;
  lives = λ n l is low.
      let old : life_at i n (lives_of items) ≡ Some l = sym (life-same i items (trace.Lost i kept) (lost-keeps i kept) n) ∙ is in
      let g = inv.lives n l old (omega (arith, low, one-more)) in
      record {
        node = g.node;
        within = longer items (trace.Lost i kept) l.join g.within;
        closed = λ h. closes n l g.within (omega (arith, low, one-more)) (g.closed (omega (arith, h, one-more, some)));
        present = λ h. opens l g.within (g.present (omega (arith, h, one-more, some)));
      };
}
  where
    one-more : losses_of i (items ++ trace.Lost i kept ∷ []) ≡ losses_of i items + 1
    one-more = losses-on i items (trace.Lost i kept ∷ []) ∙ ap (λ (b : Bool). losses_of i items + (cond b 1 0 + 0)) (eqb-self i)

    last-same : last_number i 0 (items ++ trace.Lost i kept ∷ []) ≡ last_number i 0 items
    last-same = last-on i 0 items (trace.Lost i kept ∷ [])

    closes : (n : ℕ) (l : Life) → l.join < length items → losses_of i items + 1 ≤ n → Closed i behind j items n l → Closed i behind (bereft j m) (items ++ trace.Lost i kept ∷ []) n l
    closes n l within low c = record {
      over = over-on i behind l items (trace.Lost i kept) within c.over;
      told = λ d. closed-same i behind l items (trace.Lost i kept) within (j.name d) c.over (last-on i 0 items (trace.Lost i kept ∷ [])) (λ p. refl)
          ∙ (c.told d ∙ (ap (λ (b : Bool). cond b (j.cut d) j.last) (eqb-other n (losses_of i items) (λ q. absurd (omega (arith, low, q)))) ∙ always (n == losses_of i (items ++ trace.Lost i kept ∷ []))));
      fenced = λ needs.
          let f = c.fenced (elim needs [
            | inl h ↦ inl (let o = losses-on i items (trace.Lost i kept ∷ []) ∙ ap (λ (b : Bool). losses_of i items + (cond b 1 0 + 0)) (eqb-self i) in omega (arith, h, o, some))
            | inr other ↦ inr other
          ]) in
          (f.0, fence-same i behind l items (trace.Lost i kept) within (λ p. refl) ∙ f.1);
    }
      where
        always : (b : Bool) → j.last ≡ cond b j.last j.last
        always true = refl
        always false = refl

    opens : (l : Life) → l.join < length items → Open i behind j items l → Open i behind (bereft j m) (items ++ trace.Lost i kept ∷ []) l
    opens l within o = record {
      going = going-on i behind l items (trace.Lost i kept) within o.going refl;
      unfenced = fence-same i behind l items (trace.Lost i kept) within (λ p. refl) ∙ o.unfenced;
      waiting = λ w. (let u = waiting-on i behind l items (trace.Lost i kept) within j tt (o.waiting w) in record { idle = u.idle; base = u.base });
      acting = λ a. true-false waits a;
    }

pub is-recovered : (i : ℕ) (behind : ℕ → AcceptedHead) (j : Journal) (items : List TraceItem) → j.waits ≡ true → j.unlost ≡ 0 → j.flies ≡ None → IsFirst i behind j items → Inv i behind j items
    → Inv i behind (record j { waits = false }) items
is-recovered i behind j items waits none alone its-first inv = record {
  number = inv.number;
  count = inv.count;
  settled = λ e. none;
  single = inv.single;
  others = inv.others;
  even = λ u why d. inv.even u (inr waits) d;
  silent = inv.silent;
  lives = λ n l is low.
      let g = inv.lives n l is low in
      record {
        node = g.node;
        within = g.within;
        closed = λ h. absurd (omega (arith, low, h, none));
        present = λ h.
            let o = g.present h in
            let w = o.waiting waits in
            let who = open-runs i behind j items inv n l is h in
            let now : present i j items ≡ Some l = ap (λ (m : ℕ). life_at i m (lives_of items)) (sym who.1) ∙ is in
            let seen = same-first l g.node (its-first who.0 l now) in
            record {
              going = o.going;
              unfenced = o.unfenced;
              waiting = λ f. true-false f refl;
              acting = λ f. record {
                told = λ d. waits-value i behind j items l (j.name d) g.within inv.number o w ∙ sym (inv.even none (inr waits) d);
                heads = within-none i (j.name true).sequence (rest l items) w.idle;
                above = λ d. (let e = seen d in omega (arith, e));
                accepted = NotOwn (old l false (seen false));
                flying = inl (NotOwn (old l true (seen true)));
                item = λ e. no-some (sym alone ∙ e);
              };
            };
      };
}
  where
    same-first : (l : Life) → l.node ≡ i → behind (own_from l items) ≡ j.name false → (d : Bool) → first i behind l items ≡ (j.name d).sequence
    same-first l node e d = ap (λ (k : ℕ). first k behind l items) (sym node) ∙ (ap (λ (h : AcceptedHead). h.sequence) e ∙ by d)
      where
        by : (d : Bool) → (j.name false).sequence ≡ (j.name d).sequence
        by false = refl
        by true = ap (λ (h : AcceptedHead). h.sequence) (sym (inv.single alone).1)

    old : (l : Life) (d : Bool) → first i behind l items ≡ (j.name d).sequence → own (first i behind l items) (j.name d) ≡ false
    old l d e = le-ltb (first i behind l items) (j.name d).sequence (omega (arith, e))
