-- A call is answered by one node, from its view alone: the book keeps Whole.
use Rattle.std.proofs.Common.{ℕ, ◌≡◌, ◌≤◌, ◌<◌, ◌⊎◌, inl, inr, suc, Bool, None, Some, refl, sym, ap, ◌∙◌, subst, arith}
use Rattle.std.specs.Prelude.{nat_lt, if◌then◌else◌}
use Rattle.std.proofs.lemmas.Bool.{cases_eq, cases_lt, cond-true, cond-false}
use Rattle.cluster_laws.specs.Files.{Files, CellOf, Part, LockOf, laid, over, Agrees, Does, Tells, Touches, Tracks, Guards, RightTo, Ex}
use Rattle.cluster_laws.specs.Book.{at, Book, W, mine, InBox, kept_by, Seen, Past, Logged, Whole, taken, tried}
use Rattle.cluster_laws.specs.Mirror.{Near, Disk, Mirror}
use Rattle.cluster_laws.proofs.Cells.{split, inside, none-some, ex-held, ltb-true, ltb-false, at-same, at-other, whose-none, whose-some, laid-none, laid-some, seen_in, mine-W, full, past_by, logged_by}

module _ (F : Files) (B : Book F) (whole : Whole F B) (j : ℕ) (said : F.Said) (v c cache : Part F)
    (sees : (b : ℕ) (x : CellOf F) → v b ≡ Some x → Seen F B j (B.answered j) b x)
    (does : Does F v said c) (guards : Guards F (B.state j) v c)
    (caches : (b : ℕ) (x : CellOf F) → cache b ≡ Some x → (c b ≡ Some x) ⊎ ((c b ≡ None) × Seen F B j (B.answered j) b x))
    (tells : Tells F said c) (tracks : Tracks F v c) where
  n : ℕ
  n = B.answered j

  abbrev After : Book F
  After = tried F B j said v c cache

  agrees : (cut : ℕ → ℕ) → cut j ≡ B.answered j → Agrees F v (W F B cut)
  agrees cut e b x h = seen_in F B j (B.answered j) b x cut (sees b x h) e

  -- a block of the change is under a lock that j holds exclusive
  pub ours : (b : ℕ) (y : CellOf F) (cut : ℕ → ℕ) → InBox F B cut → cut j ≡ B.answered j → c b ≡ Some y → B.state j (LockOf F (W F B cut b)) ≡ Ex
  ours b y cut box e h = let s = whole.stands cut box in (guards (W F B cut) s.0 b y (agrees cut e) s.1 h).0

  -- so it is j's or nobody's
  pub free_or_ours : (b : ℕ) (y : CellOf F) → c b ≡ Some y → (B.owner b ≡ None) ⊎ (B.owner b ≡ Some j)
  free_or_ours b y h = elim (split (B.owner b)) [
    | inl none ↦ inl none
    | inr some ↦ inr (some.1 ∙ ap (λ i. Some i) (same some.0 some.1))
  ]
    where
      same : (i : ℕ) → B.owner b ≡ Some i → i ≡ j
      same i e =
          let here : B.state i (LockOf F (B.says i (B.answered i) b)) ≡ Ex =
          (let p = whole.low_published i in let q = whole.published_answered i in whole.owned i (B.answered i) b e (omega arith) (omega arith)) in
          let there : B.state j (LockOf F (B.says i (B.answered i) b)) ≡ Ex =
          subst (λ x. B.state j (LockOf F x) ≡ Ex) (whose-some (B.unowned b) (λ i. B.says i (B.answered i) b) e) (ours b y (B.answered) (full F B whole) refl h) in
          whole.apart i j _ here (ex-held there)

  -- ---- what the new book has

  pub says-old : (k b : ℕ) → k ≤ B.answered j → After.says j k b ≡ mine F B j k b
  says-old k b h = ap (λ f. f k b) (at-same (B.says) j (λ k. λ b. if nat_lt (B.answered j) k then laid (c b) (mine F B j (B.answered j) b) else mine F B j k b))
      ∙ cond-false _ _ _ (ltb-false (B.answered j) k h)

  pub says-new : (b : ℕ) → After.says j (suc (B.answered j)) b ≡ laid (c b) (mine F B j (B.answered j) b)
  says-new b = ap (λ f. f (suc (B.answered j)) b) (at-same (B.says) j (λ k. λ b. if nat_lt (B.answered j) k then laid (c b) (mine F B j (B.answered j) b) else mine F B j k b))
      ∙ cond-true _ _ _ (ltb-true (B.answered j) (suc (B.answered j)) (omega arith))

  pub says-other : (i k b : ℕ) → (i ≡ j → ⊥) → After.says i k b ≡ B.says i k b
  says-other i k b ne = ap (λ f. f k b) (at-other (B.says) j _ i ne)

  owner-kept : (b : ℕ) → c b ≡ None → After.owner b ≡ B.owner b
  owner-kept b e = ap (λ o. taken j o (B.owner b)) e

  owner-new : (b : ℕ) (y : CellOf F) → c b ≡ Some y → After.owner b ≡ Some j
  owner-new b y e = ap (λ o. taken j o (B.owner b)) e

  answered-new : After.answered j ≡ suc (B.answered j)
  answered-new = at-same (B.answered) j (suc (B.answered j))

  answered-other : (i : ℕ) → (i ≡ j → ⊥) → After.answered i ≡ B.answered i
  answered-other i ne = at-other (B.answered) j _ i ne

  -- ---- its images

  W-old : (cut : ℕ → ℕ) → cut j ≤ B.answered j → (b : ℕ) → W F After cut b ≡ W F B cut b
  W-old cut h b = elim (split (c b)) [
    | inl none ↦ elim (split (B.owner b)) [
      | inl nobody ↦ whose-none _ _ (owner-kept b none ∙ nobody) ∙ sym (whose-none _ _ nobody)
      | inr some ↦ whose-some _ _ (owner-kept b none ∙ some.1) ∙ (elim (cases_eq (some.0) j) [
        | inl e ↦ subst (λ i. After.says i (cut i) b ≡ B.says i (cut i) b) (sym e) (says-old (cut j) b h ∙ whose-some _ _ (some.1 ∙ ap (λ i. Some i) e))
        | inr ne ↦ says-other (some.0) (cut (some.0)) b ne
      ]) ∙ sym (whose-some _ _ (some.1))
    ]
    | inr some ↦ whose-some _ _ (owner-new b (some.0) (some.1)) ∙ says-old (cut j) b h ∙ mine-W F B j b cut (free_or_ours b (some.0) (some.1))
  ]

  W-new : (cut : ℕ → ℕ) → cut j ≡ suc (B.answered j) → (b : ℕ) → W F After cut b ≡ over F c (W F B (at cut j (B.answered j))) b
  W-new cut h b = elim (split (c b)) [
    | inl none ↦ (elim (split (B.owner b)) [
      | inl nobody ↦ whose-none _ _ (owner-kept b none ∙ nobody) ∙ sym (whose-none _ _ nobody)
      | inr some ↦ whose-some _ _ (owner-kept b none ∙ some.1) ∙ (elim (cases_eq (some.0) j) [
        | inl e ↦ subst (λ i. After.says i (cut i) b ≡ B.says i (at cut j (B.answered j) i) b) (sym e)
            (ap (λ k. After.says j k b) h ∙ says-new b ∙ laid-none _ none ∙ whose-some _ _ (some.1 ∙ ap (λ i. Some i) e) ∙ sym (ap (λ k. B.says j k b) (at-same cut j (B.answered j))))
        | inr ne ↦ says-other (some.0) (cut (some.0)) b ne ∙ sym (ap (λ k. B.says (some.0) k b) (at-other cut j (B.answered j) (some.0) ne))
      ]) ∙ sym (whose-some _ _ (some.1))
    ]) ∙ sym (laid-none _ none)
    | inr some ↦ whose-some _ _ (owner-new b (some.0) (some.1)) ∙ ap (λ k. After.says j k b) h ∙ says-new b ∙ laid-some _ (some.1) ∙ sym (laid-some _ (some.1))
  ]

  back : (i : ℕ) → at (After.answered) j (B.answered j) i ≡ B.answered i
  back i = elim (cases_eq i j) [
    | inl e ↦ subst (λ i. at (After.answered) j (B.answered j) i ≡ B.answered i) (sym e) (at-same (After.answered) j (B.answered j))
    | inr ne ↦ at-other (After.answered) j (B.answered j) i ne ∙ answered-other i ne
  ]

  pub all_calls : (b : ℕ) → W F After (After.answered) b ≡ over F c (W F B (B.answered)) b
  all_calls b = let same : at (After.answered) j (B.answered j) ≡ B.answered = (λ k i. back i k) in
      W-new (After.answered) answered-new b ∙ ap (λ cut. over F c (W F B cut) b) same

  -- ---- the box

  top : (cut : ℕ → ℕ) → InBox F After cut → (cut j ≤ B.answered j) ⊎ (cut j ≡ suc (B.answered j))
  top cut box = elim (cases_lt (B.answered j) (cut j)) [
    | inl lt ↦ (let h : cut j ≤ suc (B.answered j) = subst (λ a. cut j ≤ a) answered-new (box j).1 in inr (omega arith))
    | inr le ↦ inl le
  ]

  box-old : (cut : ℕ → ℕ) → InBox F After cut → cut j ≤ B.answered j → InBox F B cut
  box-old cut box h i = elim (cases_eq i j) [
    | inl e ↦ ((box i).0, subst (λ k. cut k ≤ B.answered k) (sym e) h)
    | inr ne ↦ ((box i).0, subst (λ a. cut i ≤ a) (answered-other i ne) (box i).1)
  ]

  box-new : (cut : ℕ → ℕ) → InBox F After cut → InBox F B (at cut j (B.answered j))
  box-new cut box i = elim (cases_eq i j) [
    | inl e ↦ subst (λ k. (B.low k ≤ at cut j (B.answered j) k) × (at cut j (B.answered j) k ≤ B.answered k)) (sym e)
        (subst (λ a. (B.low j ≤ a) × (a ≤ B.answered j)) (sym (at-same cut j (B.answered j))) (full F B whole j))
    | inr ne ↦ subst (λ a. (B.low i ≤ a) × (a ≤ B.answered i)) (sym (at-other cut j (B.answered j) i ne))
        ((box i).0, subst (λ a. cut i ≤ a) (answered-other i ne) (box i).1)
  ]

  same-old : (cut : ℕ → ℕ) → cut j ≤ B.answered j → W F After cut ≡ W F B cut
  same-old cut h = λ i b. W-old cut h b i

  same-new : (cut : ℕ → ℕ) → cut j ≡ suc (B.answered j) → W F After cut ≡ over F c (W F B (at cut j (B.answered j)))
  same-new cut h = λ i b. W-new cut h b i

  stands' : (cut : ℕ → ℕ) → InBox F After cut → (t : F.Tree) × F.Stands (W F After cut) t
  stands' cut box = elim (top cut box) [
    | inl old ↦ (let s = whole.stands cut (box-old cut box old) in (s.0, subst (λ m. F.Stands m (s.0)) (sym (same-old cut old)) (s.1)))
    | inr new ↦ (let s = whole.stands (at cut j (B.answered j)) (box-new cut box) in (
      F.after said (s.0),
      subst (λ m. F.Stands m (F.after said (s.0))) (sym (same-new cut new))
          (does _ (s.0) (agrees (at cut j (B.answered j)) (at-same cut j (B.answered j))) (s.1)).0,
    ))
  ]

  right' : (cut : ℕ → ℕ) → InBox F After cut → ((i : ℕ) → cut i ≤ B.published i)
      → (t : F.Tree) × F.Stands (W F After cut) t × RightTo F (kept_by F cut (B.kept)) (B.start) t
  right' cut box low =
      let h : cut j ≤ B.answered j = (let p = low j in let q = whole.published_answered j in omega arith) in
      let r = whole.right cut (box-old cut box h) low in
      (r.0, subst (λ m. F.Stands m (r.0)) (sym (same-old cut h)) (r.1), r.2)

  -- ---- locks

  pub owner-of-other : (i b : ℕ) → (i ≡ j → ⊥) → After.owner b ≡ Some i → (c b ≡ None) × (B.owner b ≡ Some i)
  owner-of-other i b ne h = elim (split (c b)) [
    | inl none ↦ (none, sym (owner-kept b none) ∙ h)
    | inr some ↦ absurd (ne (inside (sym h ∙ owner-new b (some.0) (some.1))))
  ]

  owned-mine : (k b : ℕ) → After.owner b ≡ Some j → B.low j ≤ k → k ≤ B.answered j → B.state j (LockOf F (mine F B j k b)) ≡ Ex
  owned-mine k b h low high = elim (split (c b)) [
    | inl none ↦ is-mine (sym (owner-kept b none) ∙ h)
    | inr some ↦ elim (free_or_ours b (some.0) (some.1)) [
      | inl nobody ↦ subst (λ x. B.state j (LockOf F x) ≡ Ex) (whose-none _ _ nobody ∙ sym (whose-none _ _ nobody)) (ours b (some.0) (B.answered) (full F B whole) refl (some.1))
      | inr is ↦ is-mine is
    ]
  ]
    where
      is-mine : B.owner b ≡ Some j → B.state j (LockOf F (mine F B j k b)) ≡ Ex
      is-mine e = subst (λ x. B.state j (LockOf F x) ≡ Ex) (sym (whose-some _ _ e)) (whole.owned j k b e low high)

  owned-j : (k b : ℕ) → After.owner b ≡ Some j → B.low j ≤ k → k ≤ suc (B.answered j) → B.state j (LockOf F (After.says j k b)) ≡ Ex
  owned-j k b h low high = elim (cases_lt (B.answered j) k) [
    | inl lt ↦ (let e : suc (B.answered j) ≡ k = omega arith in subst (λ z. B.state j (LockOf F (After.says j z b)) ≡ Ex) e
        (subst (λ x. B.state j (LockOf F x) ≡ Ex) (sym (says-new b)) (elim (split (c b)) [
          | inl none ↦ subst (λ x. B.state j (LockOf F x) ≡ Ex) (sym (laid-none _ none)) (owned-mine (B.answered j) b h (full F B whole j).0 (full F B whole j).1)
          | inr some ↦ subst (λ x. B.state j (LockOf F x) ≡ Ex) (sym (laid-some _ (some.1))) (new-lock b (some.0) (some.1))
        ])))
    | inr le ↦ subst (λ x. B.state j (LockOf F x) ≡ Ex) (sym (says-old k b le)) (owned-mine k b h low le)
  ]
    where
      new-lock : (b : ℕ) (y : CellOf F) → c b ≡ Some y → B.state j (LockOf F y) ≡ Ex
      new-lock b y e = let s = whole.stands (B.answered) (full F B whole) in (guards _ (s.0) b y (agrees (B.answered) refl) (s.1) e).1

  owned' : (i k b : ℕ) → After.owner b ≡ Some i → B.low i ≤ k → k ≤ After.answered i → B.state i (LockOf F (After.says i k b)) ≡ Ex
  owned' i k b h low high = elim (cases_eq i j) [
    | inl e ↦ subst (λ i. After.owner b ≡ Some i → B.low i ≤ k → k ≤ After.answered i → B.state i (LockOf F (After.says i k b)) ≡ Ex) (sym e)
        (λ h low high. owned-j k b h low (subst (λ a. k ≤ a) answered-new high)) h low high
    | inr ne ↦ (let o = owner-of-other i b ne h in
        subst (λ x. B.state i (LockOf F x) ≡ Ex) (sym (says-other i k b ne)) (whole.owned i k b (o.1) low (subst (λ a. k ≤ a) (answered-other i ne) high)))
  ]

  -- ---- what is seen stays seen

  mine-kept : (i m b : ℕ) → (i ≡ j → ⊥) → c b ≡ None → mine F After i m b ≡ mine F B i m b
  mine-kept i m b ne e = elim (split (B.owner b)) [
    | inl nobody ↦ whose-none _ _ (owner-kept b e ∙ nobody) ∙ sym (whose-none _ _ nobody)
    | inr some ↦ whose-some _ _ (owner-kept b e ∙ some.1) ∙ says-other i m b ne ∙ sym (whose-some _ _ (some.1))
  ]

  seen-other : (i m b : ℕ) (x : CellOf F) → (i ≡ j → ⊥) → B.low i ≤ m → m ≤ B.answered i → Seen F B i m b x → Seen F After i m b x
  seen-other i m b x ne low high seen = elim (split (c b)) [
    | inl none ↦ record {
      owner = elim (seen.owner) [ inl nobody ↦ inl (owner-kept b none ∙ nobody) | inr is ↦ inr (owner-kept b none ∙ is) ];
      cell = mine-kept i m b ne none ∙ seen.cell;
      held = seen.held;
    }
    | inr some ↦ absurd (ne (sym (whole.apart j i _ (mine-too (some.0) (some.1)) (seen.held))))
  ]
    where
      cut : ℕ → ℕ
      cut = at (B.answered) i m

      box : InBox F B (at (B.answered) i m)
      box k = elim (cases_eq k i) [
        | inl e ↦ subst (λ k. (B.low k ≤ at (B.answered) i m k) × (at (B.answered) i m k ≤ B.answered k)) (sym e)
            (subst (λ a. (B.low i ≤ a) × (a ≤ B.answered i)) (sym (at-same (B.answered) i m)) (low, high))
        | inr other ↦ subst (λ a. (B.low k ≤ a) × (a ≤ B.answered k)) (sym (at-other (B.answered) i m k other)) (full F B whole k)
      ]

      mine-too : (y : CellOf F) → c b ≡ Some y → B.state j (LockOf F x) ≡ Ex
      mine-too y e = subst (λ z. B.state j (LockOf F z) ≡ Ex) (seen_in F B i m b x (at (B.answered) i m) seen (at-same (B.answered) i m))
          (ours b y (at (B.answered) i m) box (at-other (B.answered) i m j (λ e. ne (sym e))) e)

  seen-own : (m b : ℕ) (x : CellOf F) → m ≤ B.answered j → Seen F B j m b x → Seen F After j m b x
  seen-own m b x high seen = record {
    owner = elim (split (c b)) [
      | inl none ↦ elim (seen.owner) [ inl nobody ↦ inl (owner-kept b none ∙ nobody) | inr is ↦ inr (owner-kept b none ∙ is) ]
      | inr some ↦ inr (owner-new b (some.0) (some.1))
    ];
    cell = (elim (split (c b)) [
      | inl none ↦ (elim (split (B.owner b)) [
        | inl nobody ↦ whose-none _ _ (owner-kept b none ∙ nobody) ∙ sym (whose-none _ _ nobody)
        | inr some ↦ whose-some _ _ (owner-kept b none ∙ some.1) ∙ says-old m b high
      ])
      | inr some ↦ whose-some _ _ (owner-new b (some.0) (some.1)) ∙ says-old m b high
    ]) ∙ seen.cell;
    held = seen.held;
  }

  -- what j has after its call
  seen-now : (b : ℕ) (x : CellOf F) → cache b ≡ Some x → Seen F After j (suc (B.answered j)) b x
  seen-now b x h = elim (caches b x h) [
    | inl e ↦ record {
      owner = inr (owner-new b x e);
      cell = whose-some _ _ (owner-new b x e) ∙ says-new b ∙ laid-some _ e;
      held = ex-held (let s = whole.stands (B.answered) (full F B whole) in (guards _ (s.0) b x (agrees (B.answered) refl) (s.1) e).1);
    }
    | inr e ↦ (let seen = e.1 in record {
      owner = elim (seen.owner) [ inl nobody ↦ inl (owner-kept b (e.0) ∙ nobody) | inr is ↦ inr (owner-kept b (e.0) ∙ is) ];
      cell = (elim (split (B.owner b)) [
        | inl nobody ↦ whose-none _ _ (owner-kept b (e.0) ∙ nobody) ∙ sym (whose-none _ _ nobody)
        | inr some ↦ whose-some _ _ (owner-kept b (e.0) ∙ some.1) ∙ says-new b ∙ laid-none _ (e.0)
      ]) ∙ seen.cell;
      held = seen.held;
    })
  ]

  cached' : (i b : ℕ) (x : CellOf F) → After.cache i b ≡ Some x → Seen F After i (After.answered i) b x
  cached' i b x h = elim (cases_eq i j) [
    | inl e ↦ subst (λ i. After.cache i b ≡ Some x → Seen F After i (After.answered i) b x) (sym e)
        (λ h. subst (λ a. Seen F After j a b x) (sym answered-new) (seen-now b x (sym (ap (λ f. f b) (at-same (B.cache) j cache)) ∙ h))) h
    | inr ne ↦ subst (λ a. Seen F After i a b x) (sym (answered-other i ne))
        (seen-other i (B.answered i) b x ne (full F B whole i).0 (full F B whole i).1 (whole.cached i b x (sym (ap (λ f. f b) (at-other (B.cache) j cache i ne)) ∙ h)))
  ]

  -- ---- calls that aren't published

  past-now : Past F After j (B.answered j)
  past-now = past_by F After j (B.answered j) v said c
      (ap (λ f. f (suc (B.answered j))) (at-same (B.view) j _) ∙ at-same (B.view j) (suc (B.answered j)) v)
      (ap (λ f. f (suc (B.answered j))) (at-same (B.told) j _) ∙ at-same (B.told j) (suc (B.answered j)) said)
      (ap (λ f. f (suc (B.answered j))) (at-same (B.change) j _) ∙ at-same (B.change j) (suc (B.answered j)) c)
      does
      (λ b x h. seen-own (B.answered j) b x (full F B whole j).1 (sees b x h))

  past-own : (m : ℕ) → B.published j ≤ m → m < B.answered j → Past F After j m
  past-own m low high =
      let p = whole.past j m low high in
      past_by F After j m _ _ _
      (ap (λ f. f (suc m)) (at-same (B.view) j _) ∙ at-other (B.view j) (suc (B.answered j)) v (suc m) differ)
      (ap (λ f. f (suc m)) (at-same (B.told) j _) ∙ at-other (B.told j) (suc (B.answered j)) said (suc m) differ)
      (ap (λ f. f (suc m)) (at-same (B.change) j _) ∙ at-other (B.change j) (suc (B.answered j)) c (suc m) differ)
      (p.does)
      (λ b x h. seen-own m b x (omega arith) (p.seen b x h))
    where
      differ : suc m ≡ suc (B.answered j) → ⊥
      differ e = absurd (omega arith)

  past-other : (i m : ℕ) → (i ≡ j → ⊥) → B.published i ≤ m → m < B.answered i → Past F After i m
  past-other i m ne low high =
      let p = whole.past i m low high in
      past_by F After i m _ _ _
      (ap (λ f. f (suc m)) (at-other (B.view) j _ i ne))
      (ap (λ f. f (suc m)) (at-other (B.told) j _ i ne))
      (ap (λ f. f (suc m)) (at-other (B.change) j _ i ne))
      (p.does)
      (λ b x h. seen-other i m b x ne (let q = whole.low_published i in omega arith) (omega arith) (p.seen b x h))

  past' : (i m : ℕ) → B.published i ≤ m → m < After.answered i → Past F After i m
  past' i m low high = elim (cases_eq i j) [
    | inl e ↦ subst (λ i. B.published i ≤ m → m < After.answered i → Past F After i m) (sym e) own low high
    | inr ne ↦ past-other i m ne low (subst (λ a. m < a) (answered-other i ne) high)
  ]
    where
      own : B.published j ≤ m → m < After.answered j → Past F After j m
      own low high = (let less : m < suc (B.answered j) = subst (λ a. m < a) answered-new high in elim (cases_lt m (B.answered j)) [
        | inl lt ↦ past-own m low lt
        | inr ge ↦ (let e : B.answered j ≡ m = omega arith in subst (λ z. Past F After j z) e past-now)
      ])

  -- ---- calls that aren't in a journal

  logged-now : Logged F After j (B.answered j)
  logged-now = logged_by F After j (B.answered j) said c
      (ap (λ f. f (suc (B.answered j))) (at-same (B.told) j _) ∙ at-same (B.told j) (suc (B.answered j)) said)
      (ap (λ f. f (suc (B.answered j))) (at-same (B.change) j _) ∙ at-same (B.change j) (suc (B.answered j)) c)
      (λ b x h. owner-new b x h)
      (λ b h. says-new b ∙ ap (λ z. laid (c b) z) (sym (says-old (B.answered j) b (full F B whole j).1)))
      tells
      (λ b x h. subst (λ z. Touches F c (LockOf F z) × Touches F c (LockOf F x))
      (sym (says-old (B.answered j) b (full F B whole j).1 ∙ mine-W F B j b (B.answered) (free_or_ours b x h)))
      (let s = whole.stands (B.answered) (full F B whole) in tracks (W F B (B.answered)) (s.0) b x (agrees (B.answered) refl) (s.1) h))

  logged-own : (m : ℕ) → B.low j ≤ m → m < B.answered j → Logged F After j m
  logged-own m low high =
      let p = whole.logged j m low high in
      logged_by F After j m _ _
      (ap (λ f. f (suc m)) (at-same (B.told) j _) ∙ at-other (B.told j) (suc (B.answered j)) said (suc m) differ)
      (ap (λ f. f (suc m)) (at-same (B.change) j _) ∙ at-other (B.change j) (suc (B.answered j)) c (suc m) differ)
      (λ b x h. owner-stays b (p.touched b x h))
      (λ b h. says-old (suc m) b (omega arith) ∙ mine-says b h ∙ ap (λ z. laid (B.change j (suc m) b) z) (sym (says-old m b (omega arith))))
      (p.tells)
      (λ b x h. subst (λ z. Touches F (B.change j (suc m)) (LockOf F z) × Touches F (B.change j (suc m)) (LockOf F x))
      (sym (says-old m b (omega arith) ∙ whose-some _ _ (p.touched b x h))) (p.tracks b x h))
    where
      differ : suc m ≡ suc (B.answered j) → ⊥
      differ e = absurd (omega arith)

      owner-stays : (b : ℕ) → B.owner b ≡ Some j → After.owner b ≡ Some j
      owner-stays b e = elim (split (c b)) [ inl none ↦ owner-kept b none ∙ e | inr some ↦ owner-new b (some.0) (some.1) ]

      mine-says : (b : ℕ) → After.owner b ≡ Some j → mine F B j (suc m) b ≡ laid (B.change j (suc m) b) (mine F B j m b)
      mine-says b h = elim (split (B.owner b)) [
        | inl nobody ↦ whose-none _ _ nobody ∙ sym (laid-none _ (untouched nobody) ∙ whose-none _ _ nobody)
        | inr some ↦ was-own (some.1 ∙ ap (λ i. Some i) (owner-is (some.0) (some.1)))
      ]
        where
          untouched : B.owner b ≡ None → B.change j (suc m) b ≡ None
          untouched nobody = elim (split (B.change j (suc m) b)) [
            | inl none ↦ none
            | inr some ↦ absurd (none-some nobody ((whole.logged j m low high).touched b (some.0) (some.1)))
          ]

          owner-is : (i : ℕ) → B.owner b ≡ Some i → i ≡ j
          owner-is i e = elim (split (c b)) [
            | inl none ↦ inside (sym e ∙ sym (owner-kept b none) ∙ h)
            | inr some ↦ elim (free_or_ours b (some.0) (some.1)) [ inl nobody ↦ absurd (none-some nobody e) | inr own ↦ inside (sym e ∙ own) ]
          ]

          was-own : B.owner b ≡ Some j → mine F B j (suc m) b ≡ laid (B.change j (suc m) b) (mine F B j m b)
          was-own e = whose-some _ _ e ∙ (whole.logged j m low high).says b e ∙ ap (λ z. laid (B.change j (suc m) b) z) (sym (whose-some _ _ e))

  logged-other : (i m : ℕ) → (i ≡ j → ⊥) → B.low i ≤ m → m < B.answered i → Logged F After i m
  logged-other i m ne low high =
      let p = whole.logged i m low high in
      logged_by F After i m _ _
      (ap (λ f. f (suc m)) (at-other (B.told) j _ i ne))
      (ap (λ f. f (suc m)) (at-other (B.change) j _ i ne))
      (λ b x h. owner-stays b x (p.touched b x h) h)
      (λ b h. (let e = owner-of-other i b ne h in
      says-other i (suc m) b ne ∙ p.says b (e.1) ∙ ap (λ z. laid (B.change i (suc m) b) z) (sym (says-other i m b ne))))
      (p.tells)
      (λ b x h. subst (λ z. Touches F (B.change i (suc m)) (LockOf F z) × Touches F (B.change i (suc m)) (LockOf F x)) (sym (says-other i m b ne)) (p.tracks b x h))
    where
      owner-stays : (b : ℕ) (x : CellOf F) → B.owner b ≡ Some i → B.change i (suc m) b ≡ Some x → After.owner b ≡ Some i
      owner-stays b x e h = elim (split (c b)) [
        | inl none ↦ owner-kept b none ∙ e
        | inr some ↦ elim (free_or_ours b (some.0) (some.1)) [ inl nobody ↦ absurd (none-some nobody e) | inr own ↦ absurd (ne (inside (sym e ∙ own))) ]
      ]

  logged' : (i m : ℕ) → B.low i ≤ m → m < After.answered i → Logged F After i m
  logged' i m low high = elim (cases_eq i j) [
    | inl e ↦ subst (λ i. B.low i ≤ m → m < After.answered i → Logged F After i m) (sym e) own low high
    | inr ne ↦ logged-other i m ne low (subst (λ a. m < a) (answered-other i ne) high)
  ]
    where
      own : B.low j ≤ m → m < After.answered j → Logged F After j m
      own low high = (let less : m < suc (B.answered j) = subst (λ a. m < a) answered-new high in elim (cases_lt m (B.answered j)) [
        | inl lt ↦ logged-own m low lt
        | inr ge ↦ (let e : B.answered j ≡ m = omega arith in subst (λ z. Logged F After j z) e logged-now)
      ])

  published-answered' : (i : ℕ) → B.published i ≤ After.answered i
  published-answered' i = let p = whole.published_answered i in elim (cases_eq i j) [
    | inl e ↦ subst (λ i. B.published i ≤ B.answered i → B.published i ≤ After.answered i) (sym e) (λ p. subst (λ a. B.published j ≤ a) (sym answered-new) (omega arith)) p
    | inr ne ↦ subst (λ a. B.published i ≤ a) (sym (answered-other i ne)) p
  ]

  pub whole_tried : Whole F After
  whole_tried = record {
    low_published = whole.low_published;
    published_answered = published-answered';
    stands = stands';
    right = right';
    numbered = whole.numbered;
    owned = owned';
    apart = whole.apart;
    cached = cached';
    past = past';
    logged = logged';
  }

  -- ---- disk and journals are as they were

  mirror-lives : (i b : ℕ) → B.owner b ≡ Some i → After.owner b ≡ Some i
  mirror-lives i b e = elim (split (c b)) [
    | inl none ↦ owner-kept b none ∙ e
    | inr some ↦ elim (free_or_ours b (some.0) (some.1)) [
      | inl nobody ↦ absurd (none-some nobody e)
      | inr is ↦ owner-new b (some.0) (some.1) ∙ sym is ∙ e
    ]
  ]

  mirror-nobody : (b : ℕ) → After.owner b ≡ None → B.owner b ≡ None
  mirror-nobody b h = elim (split (c b)) [
    | inl none ↦ sym (owner-kept b none) ∙ h
    | inr some ↦ absurd (none-some h (owner-new b (some.0) (some.1)))
  ]

  pub mirror_tried : (D : Disk F) → Mirror F B D → Mirror F After D
  mirror_tried D m = record {
    cuts = m.cuts;
    alone = m.alone;
    lives = λ i h b v e. mirror-lives i b (m.lives i h b v e);
    nobody = λ b h. m.nobody b (mirror-nobody b h);
    owned = owned-near;
    flights = m.flights;
  }
    where
      near-mine : (h : Bool) (b : ℕ) → (B.owner b ≡ None) ⊎ (B.owner b ≡ Some j) → Near F (laid ((D.heads j h).live b) (D.blocks b)) (mine F B j ((D.heads j h).cut) b)
      near-mine h b (inl nobody) = subst (λ x. Near F (laid ((D.heads j h).live b) (D.blocks b)) x) (sym (whose-none _ _ nobody)) (elim (split ((D.heads j h).live b)) [
        | inl none ↦ subst (λ d. Near F d (B.unowned b)) (sym (laid-none _ none)) (m.nobody b nobody)
        | inr some ↦ absurd (none-some nobody (m.lives j h b (some.0) (some.1)))
      ])
      near-mine h b (inr is) = subst (λ x. Near F (laid ((D.heads j h).live b) (D.blocks b)) x) (sym (whose-some _ _ is)) (m.owned j h b is)

      who : (b : ℕ) → After.owner b ≡ Some j → (B.owner b ≡ None) ⊎ (B.owner b ≡ Some j)
      who b e = elim (split (c b)) [ inl none ↦ inr (sym (owner-kept b none) ∙ e) | inr some ↦ free_or_ours b (some.0) (some.1) ]

      early : (h : Bool) → (D.heads j h).cut ≤ B.answered j
      early h = let p = (m.cuts j h).1 in let q = whole.published_answered j in omega arith

      owned-near : (i : ℕ) (h : Bool) (b : ℕ) → After.owner b ≡ Some i → Near F (laid ((D.heads i h).live b) (D.blocks b)) (After.says i ((D.heads i h).cut) b)
      owned-near i h b e = elim (cases_eq i j) [
        | inl same ↦ subst (λ i. After.owner b ≡ Some i → Near F (laid ((D.heads i h).live b) (D.blocks b)) (After.says i ((D.heads i h).cut) b)) (sym same)
            (λ e. subst (λ x. Near F (laid ((D.heads j h).live b) (D.blocks b)) x) (sym (says-old ((D.heads j h).cut) b (early h))) (near-mine h b (who b e))) e
        | inr ne ↦ subst (λ x. Near F (laid ((D.heads i h).live b) (D.blocks b)) x) (sym (says-other i ((D.heads i h).cut) b ne)) (m.owned i h b (owner-of-other i b ne e).1)
      ]
