-- Whichever nodes stop: all that was answered is published, the others' lives are lost, and the disk shows what is left.
use Rattle.std.proofs.Common.{ℕ, zero, suc, ◌+◌, ◌-◌, ◌≡◌, ◌≤◌, ◌<◌, ◌⊎◌, inl, inr, Bool, true, false, Some, List, [], ◌∷◌, ◌++◌, refl, sym, ap, ◌∙◌, subst, arith}
use Rattle.std.proofs.lemmas.Bool.{cases_eq, cases_lt, cases_Bool, cond-true, cond-false}
use Rattle.cluster_laws.specs.Files.{Files, RightTo}
use Rattle.cluster_laws.specs.Book.{at, W, kept_by}
use Rattle.cluster_laws.specs.Mirror.{Near, FreeIsFree, placed}
use Rattle.cluster_laws.specs.History.{living, saids, Legal, Loss, gones, cut_at, AreLives}
use Rattle.cluster_laws.specs.Laws.{head_cuts, AreLosses}
use Rattle.cluster_laws.specs.Log.{Untouched, Last, Calm}
use Rattle.cluster_laws.specs.World.{World, Sound, Run, Stop, Goes, Publishes}
use Rattle.cluster_laws.proofs.Cells.{split, inside, none-some, ltb-true, at-same, at-other, at-cases, whose-none, whose-some, laid-none, laid-some}
use Rattle.cluster_laws.proofs.Publishing.{kept_by-append}
use Rattle.cluster_laws.proofs.Logging.{steady, last-says}
use Rattle.cluster_laws.proofs.Running.{run_keeps}
use Rattle.cluster_laws.proofs.Remaining.{remains_legal, cut_at-lives, Above-lower, image_same, cut_at-losses}
use Rattle.cluster_events.proofs.Eventing.{run-append}
use Rattle.cluster_parts.specs.Parts.{published_one, published_next, published_below, PublishedFrom, cut_of, IsLive, NoneLive, Shows, EverySetMayStop, AllIsPublished, AllMayStop}

append-nil : {A : Type 0} (xs : List A) → xs ++ [] ≡ xs
append-nil [] = refl
append-nil (x ∷ xs) = ap (λ z. x ∷ z) (append-nil xs)

-- ---- all that was answered is published

module _ (F : Files) where
  -- what each publication keeps
  next-frame : (P : World F → Type 0) → ((v : World F) (i : ℕ) → P v → P (published_one F i v)) → (n i : ℕ) (v : World F) → P v → P (published_next F n i v)
  next-frame P one zero i v p = p
  next-frame P one (suc n) i v p = next-frame P one n i (published_one F i v) (one v i p)

  below-frame : (P : World F → Type 0) → ((v : World F) (i : ℕ) → P v → P (published_one F i v)) → (n : ℕ) (v : World F) → P v → P (published_below F n v)
  below-frame P one zero v p = p
  below-frame P one (suc n) v p =
      let u = published_below F n v in next-frame P one ((u.book).answered n - (u.book).published n) n u (below-frame P one n v p)

  pub next-published : (n i : ℕ) (v : World F) → ((published_next F n i v).book).published i ≡ (v.book).published i + n
  next-published zero i v = omega arith
  next-published (suc n) i v =
      let e = next-published n i (published_one F i v) in
      let s = at-same ((v.book).published) i (suc ((v.book).published i)) in omega (arith, e, s)

  next-other : (n i k : ℕ) (v : World F) → (k ≡ i → ⊥) → ((published_next F n i v).book).published k ≡ (v.book).published k
  next-other zero i k v ne = refl
  next-other (suc n) i k v ne = next-other n i k (published_one F i v) ne ∙ at-other ((v.book).published) i _ k ne

  next-run : (n i : ℕ) (v : World F) → (v.book).published i + n ≤ (v.book).answered i → Run F v (published_next F n i v)
  next-run zero i v h = Stop v
  next-run (suc n) i v h =
      let s = at-same ((v.book).published) i (suc ((v.book).published i)) in
      Goes v (published_one F i v) _ (Publishes i (omega arith)) (next-run n i (published_one F i v) (omega (arith, s, h)))

  pub record Same (w v : World F) : Type 0 where
    pub image : W F (v.book) ≡ W F (w.book)
    pub low : (v.book).low ≡ (w.book).low
    pub answered : (v.book).answered ≡ (w.book).answered
    pub start : (v.book).start ≡ (w.book).start
    pub state : (v.book).state ≡ (w.book).state
    pub disk : v.disk ≡ w.disk

  same-one : (w v : World F) (i : ℕ) → Same w v → Same w (published_one F i v)
  same-one w v i s = record { image = s.image; low = s.low; answered = s.answered; start = s.start; state = s.state; disk = s.disk }

  pub same-next : (n i : ℕ) (w : World F) → Same w (published_next F n i w)
  same-next n i w = next-frame (Same w) (same-one w) n i w (record { image = refl; low = refl; answered = refl; start = refl; state = refl; disk = refl })

  pub same-below : (w : World F) (n : ℕ) → Same w (published_below F n w)
  same-below w n = below-frame (Same w) (same-one w) n w (record { image = refl; low = refl; answered = refl; start = refl; state = refl; disk = refl })

  record Below (w : World F) (n : ℕ) : Type 0 where
    run : Run F w (published_below F n w)
    done : (k : ℕ) → k < n → ((published_below F n w).book).published k ≡ (w.book).answered k
    rest : (k : ℕ) → n ≤ k → ((published_below F n w).book).published k ≡ (w.book).published k

  below-more : (w : World F) → Sound F w → (n : ℕ) → Below w n → Below w (suc n)
  below-more w s n b = record {
    run = run-append F w v _ (b.run) (next-run m n v (omega (arith, p, r, a)));
    done = λ k h. elim (cases_eq k n) [
      | inl e ↦ subst (λ k. ((published_next F m n v).book).published k ≡ (w.book).answered k) (sym e) (let q = next-published m n v in omega (arith, p, r, a, q))
      | inr ne ↦ next-other m n k v ne ∙ b.done k (omega arith)
    ];
    rest = λ k h. next-other m n k v (λ e. absurd (omega arith)) ∙ b.rest k (omega arith);
  }
    where
      v : World F
      v = published_below F n w

      m : ℕ
      m = ((published_below F n w).book).answered n - ((published_below F n w).book).published n

      p : (w.book).published n ≤ (w.book).answered n
      p = (s.whole).published_answered n

      r : ((published_below F n w).book).published n ≡ (w.book).published n
      r = b.rest n (omega arith)

      a : ((published_below F n w).book).answered n ≡ (w.book).answered n
      a = ap (λ f. f n) ((same-below w n).answered)

  below : (w : World F) → Sound F w → (n : ℕ) → Below w n
  below w s zero = record { run = Stop w; done = λ k h. absurd (omega arith); rest = λ k h. refl }
  below w s (suc n) = below-more w s n (below w s n)

  module _ (w : World F) (n : ℕ) (s : Sound F w) (from : PublishedFrom F n w) where
    abbrev w' : World F
    w' = published_below F n w

    pub run' : Run F w w'
    run' = (below w s n).run

    pub all' : (i : ℕ) → (w'.book).published i ≡ (w.book).answered i
    all' i = elim (cases_lt i n) [ inl lt ↦ (below w s n).done i lt | inr ge ↦ (below w s n).rest i ge ∙ from i ge ]

    sound' : Sound F w'
    sound' = run_keeps F w w' run' s

    -- what is left of the history where lives leave exactly what a cut has
    module _ (cut : ℕ → ℕ) (ls : List Loss) (low : (i : ℕ) → (w.book).low i ≤ cut i) (high : (i : ℕ) → cut i ≤ (w.book).answered i)
        (lives : AreLives ((w.book).answered) cut ls) where
      low-same : (i : ℕ) → (w'.book).low i ≡ (w.book).low i
      low-same i = ap (λ f. f i) ((same-below w n).low)

      lives' : AreLives ((w'.book).published) cut ls
      lives' = subst (λ z. AreLives z cut ls) (λ k i. sym (all' i) k) lives

      remains : Legal F (w'.items ++ gones F ls) ((w'.book).start) × (saids F (living F (w'.items ++ gones F ls)) ≡ kept_by F (cut_at ((w'.book).published) ls) ((w'.book).kept))
      remains = remains_legal F w' ls sound' (Above-lower ((w'.book).low) cut ls (λ i. (let e = low-same i in let h = low i in omega arith)) (lives.above))

      pub told : saids F (living F (w'.items ++ gones F ls)) ≡ kept_by F cut ((w'.book).kept)
      told = remains.1 ∙ ap (λ z. kept_by F z ((w'.book).kept)) (λ k i. cut_at-lives ((w'.book).published) cut ls (λ i. (let e = all' i in let h = high i in omega arith)) lives' i k)

    -- what is left where lives lose by the rule
    module _ (cut : ℕ → ℕ) (ls : List Loss) (low : (i : ℕ) → (w.book).low i ≤ cut i) (high : (i : ℕ) → cut i ≤ (w.book).answered i)
        (losses : AreLosses F (w.book) ((w.book).answered) cut ls) where
      left : (i : ℕ) → (cut i ≤ cut_at ((w.book).answered) ls i) × (cut_at ((w.book).answered) ls i ≤ (w.book).answered i)
          × Calm F (w.book) i (cut i) (cut_at ((w.book).answered) ls i)
      left = cut_at-losses F (w.book) ((w.book).answered) cut ls high (λ i. omega arith) losses

      image : W F (w.book) (cut_at ((w.book).answered) ls) ≡ W F (w.book) cut
      image = image_same F (w.book) (s.whole) cut (cut_at ((w.book).answered) ls) (λ i. (low i, (left i).0, (left i).1, (left i).2))

      published-is : (w'.book).published ≡ (w.book).answered
      published-is = λ k i. all' i k

      remains' : Legal F (w'.items ++ gones F ls) ((w'.book).start) × (saids F (living F (w'.items ++ gones F ls)) ≡ kept_by F (cut_at ((w'.book).published) ls) ((w'.book).kept))
      remains' = remains_legal F w' ls sound'
          (Above-lower ((w'.book).low) cut ls (λ i. (let e = ap (λ f. f i) ((same-below w n).low) in let h = low i in omega arith)) (losses.above))

      pub legal : Legal F (w'.items ++ gones F ls) ((w.book).start)
      legal = subst (λ z. Legal F (w'.items ++ gones F ls) z) ((same-below w n).start) (remains'.0)

      told-left : saids F (living F (w'.items ++ gones F ls)) ≡ kept_by F (cut_at ((w.book).answered) ls) ((w'.book).kept)
      told-left = remains'.1 ∙ ap (λ z. kept_by F (cut_at z ls) ((w'.book).kept)) published-is

      pub tree : (t : F.Tree) × F.Stands (W F (w.book) cut) t × RightTo F (saids F (living F (w'.items ++ gones F ls))) ((w.book).start) t
      tree =
          let rest = cut_at ((w.book).answered) ls in
          let r = (sound'.whole).right rest (λ i. (let e = ap (λ f. f i) ((same-below w n).low) in let b = ap (λ f. f i) ((same-below w n).answered) in let l = low i in let h = (left i).0 in let k = (left i).1 in (omega arith, omega arith)))
          (λ i. (let e = all' i in let h = (left i).1 in omega arith)) in (
            r.0,
            subst (λ z. F.Stands z (r.0)) (ap (λ z. z rest) ((same-below w n).image) ∙ image) (r.1),
            subst (λ z. RightTo F z ((w.book).start) (r.0)) (sym told-left)
                (subst (λ z. RightTo F (kept_by F rest ((w'.book).kept)) z (r.0)) ((same-below w n).start) (r.2)),
          )

  pub all_published : AllIsPublished F
  all_published w n s from = (run' w n s from, all' w n s from, (same-below w n).disk)

  -- ---- what the disk shows

  module _ (w : World F) (s : Sound F w) (stops choice : ℕ → Bool) where
    abbrev cut : ℕ → ℕ
    cut = cut_of F w stops choice

    heads-low : (i : ℕ) → (w.book).low i ≤ head_cuts F (w.disk) choice i
    heads-low i = ((s.mirror).cuts i (choice i)).0

    heads-high : (i : ℕ) → head_cuts F (w.disk) choice i ≤ (w.book).answered i
    heads-high i = let p = ((s.mirror).cuts i (choice i)).1 in let q = (s.whole).published_answered i in omega arith

    cut-stops : (i : ℕ) → stops i ≡ true → cut_of F w stops choice i ≡ head_cuts F (w.disk) choice i
    cut-stops i e = cond-true (stops i) _ _ e

    cut-goes : (i : ℕ) → stops i ≡ false → cut_of F w stops choice i ≡ (w.book).answered i
    cut-goes i e = cond-false (stops i) _ _ e

    pub cut-low : (i : ℕ) → (w.book).low i ≤ cut_of F w stops choice i
    cut-low i = elim (cases_Bool (stops i)) [
      | inl e ↦ (let h = cut-stops i e in let p = heads-low i in omega arith)
      | inr e ↦ (let h = cut-goes i e in let p = heads-low i in let q = heads-high i in omega arith)
    ]

    pub cut-high : (i : ℕ) → cut_of F w stops choice i ≤ (w.book).answered i
    cut-high i = elim (cases_Bool (stops i)) [
      | inl e ↦ (let h = cut-stops i e in let q = heads-high i in omega arith)
      | inr e ↦ (let h = cut-goes i e in omega arith)
    ]

    owner-of-last : (i b : ℕ) → Last F (w.book) i (head_cuts F (w.disk) choice i) ((w.book).answered i) b → (w.book).owner b ≡ Some i
    owner-of-last i b l = ((s.whole).logged i (l.call) (let p = heads-low i in let q = l.above in omega arith) (l.below)).touched b (l.cell) (l.changes)

    module _ (r : ℕ → F.Content) (shows : Shows F w stops choice r) (b : ℕ) where
      Rest : Type 0
      Rest = IsLive F w choice b (r b) ⊎ (NoneLive F w choice b × (r b ≡ (w.disk).blocks b))

      of-heads : (o : ℕ) → (w.book).owner b ≡ Some o → (IsLive F w choice b (r b) ⊎ (NoneLive F w choice b × (r b ≡ (w.disk).blocks b)))
          → Near F (r b) ((w.book).says o (head_cuts F (w.disk) choice o) b)
      of-heads o own (inl live) =
          let same : live.0 ≡ o = inside (sym ((s.mirror).lives (live.0) (choice (live.0)) b (live.1) (live.2)) ∙ own) in
          let here : ((w.disk).heads o (choice o)).live b ≡ Some (live.1) = subst (λ k. ((w.disk).heads k (choice k)).live b ≡ Some (live.1)) same (live.2) in
          subst (λ d. Near F d ((w.book).says o (head_cuts F (w.disk) choice o) b)) (laid-some _ here ∙ sym (live.3)) ((s.mirror).owned o (choice o) b own)
      of-heads o own (inr rest) =
          subst (λ d. Near F d ((w.book).says o (head_cuts F (w.disk) choice o) b)) (laid-none _ (rest.0 o) ∙ sym (rest.1)) ((s.mirror).owned o (choice o) b own)

      of-owner : (o : ℕ) → (w.book).owner b ≡ Some o → Near F (r b) ((w.book).says o (cut_of F w stops choice o) b)
      of-owner o own = elim (cases_Bool (stops o)) [
        | inl stop ↦ subst (λ k. Near F (r b) ((w.book).says o k b)) (sym (cut-stops o stop)) (elim (shows b) [
          | inl fresh ↦ absurd (true-false stop (subst (λ k. stops k ≡ false) (inside (sym (owner-of-last (fresh.0) b (fresh.2).0) ∙ own)) (fresh.1)))
          | inr rest ↦ of-heads o own (rest.1)
        ])
        | inr goes ↦ subst (λ k. Near F (r b) ((w.book).says o k b)) (sym (cut-goes o goes)) (elim (shows b) [
          | inl fresh ↦ unflushed o own (fresh.0) (fresh.2).0 (fresh.2).1
          | inr rest ↦ subst (λ x. Near F (r b) x)
              (sym (steady F (w.book) (s.whole) o b own (head_cuts F (w.disk) choice o) ((w.book).answered o) (heads-low o) (heads-high o) (omega arith) (rest.0 o goes)))
              (of-heads o own (rest.1))
        ])
      ]
        where
          true-false : {z : Bool} → z ≡ true → z ≡ false → ⊥
          true-false e f = cc

          unflushed : (o : ℕ) → (w.book).owner b ≡ Some o → (i : ℕ) (l : Last F (w.book) i (head_cuts F (w.disk) choice i) ((w.book).answered i) b)
              → Near F (r b) (l.cell) → Near F (r b) ((w.book).says o ((w.book).answered o) b)
          unflushed o own i l e =
              let mine : (w.book).owner b ≡ Some i = owner-of-last i b l in
              let last = last-says F (w.book) (s.whole) i b mine (head_cuts F (w.disk) choice i) ((w.book).answered i) (heads-low i) (omega arith) l in
              subst (λ k. Near F (r b) ((w.book).says k ((w.book).answered k) b)) (inside (sym mine ∙ own)) (subst (λ x. Near F (r b) x) (sym last) e)

      pub near : Near F (r b) (W F (w.book) (cut_of F w stops choice) b)
      near = elim (split ((w.book).owner b)) [
        | inl nobody ↦ subst (λ x. Near F (r b) x) (sym (whose-none _ _ nobody)) (elim (shows b) [
          | inl fresh ↦ absurd (none-some nobody (owner-of-last (fresh.0) b (fresh.2).0))
          | inr rest ↦ elim (rest.1) [
            | inl live ↦ absurd (none-some nobody ((s.mirror).lives (live.0) (choice (live.0)) b (live.1) (live.2)))
            | inr home ↦ subst (λ d. Near F d ((w.book).unowned b)) (sym (home.1)) ((s.mirror).nobody b nobody)
          ]
        ])
        | inr some ↦ subst (λ x. Near F (r b) x) (sym (whose-some _ _ (some.1))) (of-owner (some.0) (some.1))
      ]

    pub shown : (t : F.Tree) → F.Stands (W F (w.book) (cut_of F w stops choice)) t → FreeIsFree F → (r : ℕ → F.Content) → Shows F w stops choice r
        → F.Stands (placed F r (W F (w.book) (cut_of F w stops choice))) t
    shown t stands free r shows = free (W F (w.book) (cut_of F w stops choice)) (placed F r (W F (w.book) (cut_of F w stops choice))) t stands
        (λ b. elim (near r shows b) [
          | inl e ↦ inl (ap (λ d. record { content = d; place = (W F (w.book) (cut_of F w stops choice) b).place }) e)
          | inr f ↦ inr (f, refl)
        ])

  pub every_set : EverySetMayStop F
  every_set w n stops choice ls s from lives =
      let low = cut-low w s stops choice in
      let high = cut-high w s stops choice in
      let t = tree w n s from (cut_of F w stops choice) ls low high lives in
      record {
        legal = legal w n s from (cut_of F w stops choice) ls low high lives;
        tree = t.0;
        answers = t.2;
        stands = t.1;
        shown = shown w s stops choice (t.0) (t.1);
      }

  -- ---- where all stop

  kept-one : (cut : ℕ → ℕ) (w v : World F) (i : ℕ) → ((k : ℕ) → cut k ≤ (v.book).published k) × (kept_by F cut ((v.book).kept) ≡ kept_by F cut ((w.book).kept))
      → ((k : ℕ) → cut k ≤ at ((v.book).published) i (suc ((v.book).published i)) k)
      × (kept_by F cut ((v.book).kept ++ (record { node = i; number = suc ((v.book).published i); said = (v.book).told i (suc ((v.book).published i)) } ∷ [])) ≡ kept_by F cut ((w.book).kept))
  kept-one cut w v i h = (
    λ k. at-cases (λ z. cut k ≤ z) ((v.book).published) i (suc ((v.book).published i)) k (λ e. (let p = h.0 k in let q = ap ((v.book).published) e in omega arith)) (λ ne. h.0 k),
    kept_by-append F cut ((v.book).kept) _
        ∙ ap (λ z. kept_by F cut ((v.book).kept) ++ z) (cond-true _ _ _ (ltb-true (cut i) (suc ((v.book).published i)) (let p = h.0 i in omega arith)))
        ∙ append-nil _ ∙ h.1,
  )

  kept-below : (cut : ℕ → ℕ) (w : World F) (n : ℕ) → ((k : ℕ) → cut k ≤ (w.book).published k) → kept_by F cut (((published_below F n w).book).kept) ≡ kept_by F cut ((w.book).kept)
  kept-below cut w n h = (below-frame (λ v. ((k : ℕ) → cut k ≤ (v.book).published k) × (kept_by F cut ((v.book).kept) ≡ kept_by F cut ((w.book).kept)))
      (λ v i p. kept-one cut w v i p) n w (h, refl)).1

  pub all_stop : AllMayStop F
  all_stop w n choice ls s from lives = record {
    image = λ r replay b. elim (replay b) [
      | inl live ↦ inr (none, inl live)
      | inr rest ↦ inr (none, inr rest)
    ];
    history = told w n s from (head_cuts F (w.disk) choice) ls low high lives ∙ kept-below (head_cuts F (w.disk) choice) w n flushed
        ∙ sym (remains.1 ∙ ap (λ z. kept_by F z ((w.book).kept)) (λ k i. cut_at-lives ((w.book).published) (head_cuts F (w.disk) choice) ls flushed lives0 i k));
    flushed = flushed;
  }
    where
      none : {b : ℕ} (i : ℕ) → true ≡ false → Untouched F (w.book) i (head_cuts F (w.disk) choice i) ((w.book).answered i) b
      none i e = absurd (let f : true ≡ false = e in cc)

      flushed : (i : ℕ) → head_cuts F (w.disk) choice i ≤ (w.book).published i
      flushed i = ((s.mirror).cuts i (choice i)).1

      low : (i : ℕ) → (w.book).low i ≤ head_cuts F (w.disk) choice i
      low i = ((s.mirror).cuts i (choice i)).0

      high : (i : ℕ) → head_cuts F (w.disk) choice i ≤ (w.book).answered i
      high i = let p = flushed i in let q = (s.whole).published_answered i in omega arith

      lives0 : AreLives ((w.book).published) (head_cuts F (w.disk) choice) ls
      lives0 = record {
        above = lives.above;
        every = λ i. elim (lives.every i) [ inl all ↦ inl (let q = (s.whole).published_answered i in omega arith) | inr life ↦ inr life ];
      }

      remains : Legal F (w.items ++ gones F ls) ((w.book).start) × (saids F (living F (w.items ++ gones F ls)) ≡ kept_by F (cut_at ((w.book).published) ls) ((w.book).kept))
      remains = remains_legal F w ls s (Above-lower ((w.book).low) (head_cuts F (w.disk) choice) ls low (lives.above))
