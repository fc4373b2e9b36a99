-- Disk and journals: what each event of theirs keeps, and what stands when all stop.
use Rattle.std.proofs.Common.{ℕ, ◌≡◌, ◌≤◌, ◌⊎◌, inl, inr, suc, Bool, true, false, None, Some, refl, sym, ap, ◌∙◌, subst, arith}
use Rattle.std.proofs.lemmas.Bool.{cases_eq, cond-true, cond-false, cases_Bool}
use Rattle.cluster_laws.specs.Files.{Files, Part, RightTo, State, laid}
use Rattle.cluster_laws.specs.Book.{at, Book, W, Whole, kept_by, publish, flushed, settled, relocked, lost}
use Rattle.cluster_laws.specs.Mirror.{Near, Head, Disk, Mirror, IsOutcome, IsReplay, placed, FreeIsFree, ended, flown, either, headed, chosen, Heads, renumbered}
use Rattle.cluster_laws.proofs.Cells.{split, inside, none-some, at-same, at-other, at-cases, whose-none, whose-some, laid-none, laid-some}

-- ---- what stands when all stop

module _ (F : Files) (B : Book F) (D : Disk F) (mirror : Mirror F B D) (choice : ℕ → Bool) (x r : ℕ → F.Content)
    (outcome : IsOutcome F D x) (replay : IsReplay F D choice x r) where
  cut : ℕ → ℕ
  cut i = (D.heads i (choice i)).cut

  -- where no head has the block live, nothing was in flight to it
  settled-there : (b : ℕ) → ((i : ℕ) → (D.heads i (choice i)).live b ≡ None) → x b ≡ D.blocks b
  settled-there b none = elim (outcome b) [
    | inl e ↦ e
    | inr f ↦ (let g = mirror.flights (f.0) b (f.1) (f.2) in absurd (none-some (none (g.0)) (g.1 (choice (g.0)))))
  ]

  pub near : (b : ℕ) → Near F (r b) (W F B (λ i. (D.heads i (choice i)).cut) b)
  near b = elim (split (B.owner b)) [
    | inl nobody ↦ subst (λ z. Near F (r b) z) (sym (whose-none _ _ nobody)) (elim (replay b) [
      | inl live ↦ absurd (none-some nobody (mirror.lives (live.0) (choice (live.0)) b (live.1) (live.2)))
      | inr rest ↦ subst (λ d. Near F d (B.unowned b)) (sym (rest.1 ∙ settled-there b (rest.0))) (mirror.nobody b nobody)
    ])
    | inr some ↦ subst (λ z. Near F (r b) z) (sym (whose-some _ _ (some.1))) (elim (replay b) [
      | inl live ↦ subst (λ d. Near F d (B.says (some.0) ((D.heads (some.0) (choice (some.0))).cut) b))
          (laid-some _ (subst (λ k. (D.heads k (choice k)).live b ≡ Some (live.1)) (inside (sym (mirror.lives (live.0) (choice (live.0)) b (live.1) (live.2)) ∙ some.1)) (live.2)) ∙ sym (live.3))
          (mirror.owned (some.0) (choice (some.0)) b (some.1))
      | inr rest ↦ subst (λ d. Near F d (B.says (some.0) ((D.heads (some.0) (choice (some.0))).cut) b))
          (laid-none _ (rest.0 (some.0)) ∙ sym (rest.1 ∙ settled-there b (rest.0)))
          (mirror.owned (some.0) (choice (some.0)) b (some.1))
    ])
  ]

  -- the prefix clause
  pub stands_for_what_remains : Whole F B → FreeIsFree F
      → (t : F.Tree) × F.Stands (placed F r (W F B (λ i. (D.heads i (choice i)).cut))) t × RightTo F (kept_by F (λ i. (D.heads i (choice i)).cut) (B.kept)) (B.start) t
  stands_for_what_remains whole free =
      let right = whole.right (λ i. (D.heads i (choice i)).cut)
      (λ i. (let p = mirror.cuts i (choice i) in let q = whole.published_answered i in (p.0, omega arith)))
      (λ i. (mirror.cuts i (choice i)).1) in (
        right.0,
        free (W F B (λ i. (D.heads i (choice i)).cut)) (placed F r (W F B (λ i. (D.heads i (choice i)).cut))) (right.0) (right.1)
            (λ b. elim (near b) [
              | inl e ↦ inl (ap (λ d. record { content = d; place = (W F B (λ i. (D.heads i (choice i)).cut) b).place }) e)
              | inr f ↦ inr (f, refl)
            ]),
        right.2,
      )

-- ---- writes in flight are settled, as any bytes: a barrier, a fence

pub mirror_ended : (F : Files) (B : Book F) (D : Disk F) → Mirror F B D → (r : ℕ) (x : ℕ → F.Content)
    → ((b : ℕ) → (x b ≡ D.blocks b) ⊎ ((v : F.Content) × (D.flight r b ≡ Some v))) → Mirror F B (ended F D r x)
mirror_ended F B D m r x settles = record {
  cuts = m.cuts;
  alone = m.alone;
  lives = m.lives;
  nobody = λ b nobody. elim (settles b) [
    | inl e ↦ subst (λ d. Near F d (B.unowned b)) (sym e) (m.nobody b nobody)
    | inr f ↦ absurd (none-some nobody (owner-of b (f.0) (f.1)).1)
  ];
  owned = λ i c b e. elim (split ((D.heads i c).live b)) [
    | inl none ↦ elim (settles b) [
      | inl same ↦ subst (λ d. Near F (laid ((D.heads i c).live b) d) (B.says i ((D.heads i c).cut) b)) (sym same) (m.owned i c b e)
      | inr f ↦ absurd (none-some none (live-too i c b (f.0) (f.1) e))
    ]
    | inr some ↦ subst (λ d. Near F d (B.says i ((D.heads i c).cut) b)) (laid-some _ (some.1) ∙ sym (laid-some _ (some.1))) (m.owned i c b e)
  ];
  flights = λ k b v. at-cases (λ f. f b ≡ Some v → (i : ℕ) × ((c : Bool) → (D.heads i c).live b ≡ Some v)) (D.flight) r (λ b. None) k
      (λ e h. absurd (none-some refl h)) (λ ne h. m.flights k b v h);
}
  where
    owner-of : (b : ℕ) (v : F.Content) → D.flight r b ≡ Some v → (i : ℕ) × (B.owner b ≡ Some i)
    owner-of b v h = let g = m.flights r b v h in (g.0, m.lives (g.0) false b v (g.1 false))

    live-too : (i : ℕ) (c : Bool) (b : ℕ) (v : F.Content) → D.flight r b ≡ Some v → B.owner b ≡ Some i → (D.heads i c).live b ≡ Some v
    live-too i c b v h e = let g = m.flights r b v h in
        subst (λ k. (D.heads k c).live b ≡ Some v) (inside (sym (m.lives (g.0) false b v (g.1 false)) ∙ e)) (g.1 c)

-- a write home, of the journal's node or of whoever replays it
pub mirror_flown : (F : Files) (B : Book F) (D : Disk F) → Mirror F B D → (r b : ℕ) (v : F.Content) (i : ℕ)
    → ((c : Bool) → (D.heads i c).live b ≡ Some v) → Mirror F B (flown F D r b v)
mirror_flown F B D m r b v i live = record {
  cuts = m.cuts;
  alone = m.alone;
  lives = m.lives;
  nobody = m.nobody;
  owned = m.owned;
  flights = λ k b' v'. at-cases (λ f. f b' ≡ Some v' → (i : ℕ) × ((c : Bool) → (D.heads i c).live b' ≡ Some v')) (D.flight) r (at (D.flight r) b (Some v)) k
      (λ e. at-cases (λ o. o ≡ Some v' → (i : ℕ) × ((c : Bool) → (D.heads i c).live b' ≡ Some v')) (D.flight r) b (Some v) b'
      (λ eb h. (i, λ c. subst (λ z. (D.heads i c).live z ≡ Some v') (sym eb) (live c ∙ h)))
      (λ nb h. m.flights r b' v' h))
      (λ ne h. m.flights k b' v' h);
}

-- ---- headers

pub mirror_headed : (F : Files) (B : Book F) (D : Disk F) → Mirror F B D → (i : ℕ) (h : Head F) → Heads F B D i h → Mirror F B (headed F D i h)
mirror_headed F B D m i h heads = record {
  cuts = λ k c. at-cases (λ f. (B.low k ≤ (f c).cut) × ((f c).cut ≤ B.published k)) (D.heads) i (either (D.heads i false) h) k
      (λ e. subst (λ k. (B.low k ≤ (either (D.heads i false) h c).cut) × ((either (D.heads i false) h c).cut ≤ B.published k)) (sym e) (new-cuts c)) (λ ne. m.cuts k c);
  alone = λ k. at-cases (λ f. (f false).cut ≡ B.low k) (D.heads) i (either (D.heads i false) h) k
      (λ e. subst (λ k. (D.heads i false).cut ≡ B.low k) (sym e) (m.alone i)) (λ ne. m.alone k);
  lives = λ k c b v. at-cases (λ f. (f c).live b ≡ Some v → B.owner b ≡ Some k) (D.heads) i (either (D.heads i false) h) k
      (λ e. subst (λ k. (either (D.heads i false) h c).live b ≡ Some v → B.owner b ≡ Some k) (sym e) (new-lives c b v)) (λ ne. m.lives k c b v);
  nobody = m.nobody;
  owned = λ k c b e. at-cases (λ f. Near F (laid ((f c).live b) (D.blocks b)) (B.says k ((f c).cut) b)) (D.heads) i (either (D.heads i false) h) k
      (λ same. subst (λ k. B.owner b ≡ Some k → Near F (laid ((either (D.heads i false) h c).live b) (D.blocks b)) (B.says k ((either (D.heads i false) h c).cut) b)) (sym same) (new-owned c b) e) (λ ne. m.owned k c b e);
  flights = λ r b v f. (let g = m.flights r b v f in (
    g.0,
    λ c. at-cases (λ f. (f c).live b ≡ Some v) (D.heads) i (either (D.heads i false) h) (g.0)
        (λ e. new-flights c r b v f (subst (λ k. B.owner b ≡ Some k) e (m.lives (g.0) false b v (g.1 false))) (subst (λ k. (D.heads k false).live b ≡ Some v) e (g.1 false)))
        (λ ne. g.1 c),
  ));
}
  where
    new-cuts : (c : Bool) → (B.low i ≤ (either (D.heads i false) h c).cut) × ((either (D.heads i false) h c).cut ≤ B.published i)
    new-cuts false = m.cuts i false
    new-cuts true = heads.cut

    new-lives : (c : Bool) (b : ℕ) (v : F.Content) → (either (D.heads i false) h c).live b ≡ Some v → B.owner b ≡ Some i
    new-lives false b v = m.lives i false b v
    new-lives true b v = heads.lives b v

    new-owned : (c : Bool) (b : ℕ) → B.owner b ≡ Some i → Near F (laid ((either (D.heads i false) h c).live b) (D.blocks b)) (B.says i ((either (D.heads i false) h c).cut) b)
    new-owned false b = m.owned i false b
    new-owned true b = heads.owned b

    new-flights : (c : Bool) (r b : ℕ) (v : F.Content) → D.flight r b ≡ Some v → B.owner b ≡ Some i → (D.heads i false).live b ≡ Some v → (either (D.heads i false) h c).live b ≡ Some v
    new-flights false r b v f e old = old
    new-flights true r b v f e old = heads.flights r b v f e

-- the header in flight is on the disk, or it isn't and never will be
pub mirror_chosen : (F : Files) (B : Book F) (D : Disk F) → Mirror F B D → (i : ℕ) (c : Bool) → Mirror F (flushed F B i ((D.heads i c).cut)) (chosen F D i c)
mirror_chosen F B D m i c = record {
  cuts = λ k d. at-cases (λ f. (at (B.low) i ((D.heads i c).cut) k ≤ (f d).cut) × ((f d).cut ≤ B.published k)) (D.heads) i (either (D.heads i c) (D.heads i c)) k
      (λ e. subst (λ k. (at (B.low) i ((D.heads i c).cut) k ≤ (either (D.heads i c) (D.heads i c) d).cut) × ((either (D.heads i c) (D.heads i c) d).cut ≤ B.published k)) (sym e)
      (subst (λ a. (a ≤ (either (D.heads i c) (D.heads i c) d).cut) × ((either (D.heads i c) (D.heads i c) d).cut ≤ B.published i)) (sym (at-same (B.low) i ((D.heads i c).cut)))
      (at-either (λ h. ((D.heads i c).cut ≤ h.cut) × (h.cut ≤ B.published i)) d (omega arith, (m.cuts i c).1))))
      (λ ne. subst (λ a. (a ≤ (D.heads k d).cut) × ((D.heads k d).cut ≤ B.published k)) (sym (at-other (B.low) i _ k ne)) (m.cuts k d));
  alone = λ k. at-cases (λ f. (f false).cut ≡ at (B.low) i ((D.heads i c).cut) k) (D.heads) i (either (D.heads i c) (D.heads i c)) k
      (λ e. subst (λ k. (D.heads i c).cut ≡ at (B.low) i ((D.heads i c).cut) k) (sym e) (sym (at-same (B.low) i ((D.heads i c).cut))))
      (λ ne. m.alone k ∙ sym (at-other (B.low) i _ k ne));
  lives = λ k d b v. at-cases (λ f. (f d).live b ≡ Some v → B.owner b ≡ Some k) (D.heads) i (either (D.heads i c) (D.heads i c)) k
      (λ e. subst (λ k. (either (D.heads i c) (D.heads i c) d).live b ≡ Some v → B.owner b ≡ Some k) (sym e) (at-either (λ h. h.live b ≡ Some v → B.owner b ≡ Some i) d (m.lives i c b v)))
      (λ ne. m.lives k d b v);
  nobody = m.nobody;
  owned = λ k d b e. at-cases (λ f. Near F (laid ((f d).live b) (D.blocks b)) (B.says k ((f d).cut) b)) (D.heads) i (either (D.heads i c) (D.heads i c)) k
      (λ same. at-either (λ h. Near F (laid (h.live b) (D.blocks b)) (B.says k (h.cut) b)) d
      (subst (λ k. Near F (laid ((D.heads i c).live b) (D.blocks b)) (B.says k ((D.heads i c).cut) b)) (sym same) (m.owned i c b (subst (λ k. B.owner b ≡ Some k) same e))))
      (λ ne. m.owned k d b e);
  flights = λ r b v f. (let g = m.flights r b v f in (
    g.0,
    λ d. at-cases (λ f. (f d).live b ≡ Some v) (D.heads) i (either (D.heads i c) (D.heads i c)) (g.0)
        (λ e. at-either (λ h. h.live b ≡ Some v) d (subst (λ k. (D.heads k c).live b ≡ Some v) e (g.1 c))) (λ ne. g.1 d),
  ));
}
  where
    at-either : (P : Head F → Type 0) (d : Bool) → P (D.heads i c) → P (either (D.heads i c) (D.heads i c) d)
    at-either P false p = p
    at-either P true p = p

-- ---- events of the book

pub mirror_published : (F : Files) (B : Book F) (D : Disk F) → Mirror F B D → (i : ℕ) → Mirror F (publish F B i) D
mirror_published F B D m i = record {
  cuts = λ k c. (
    (m.cuts k c).0,
    at-cases (λ a. (D.heads k c).cut ≤ a) (B.published) i (suc (B.published i)) k
        (λ e. (let p = (m.cuts k c).1 in let q : (D.heads k c).cut ≤ B.published i = subst (λ z. (D.heads k c).cut ≤ B.published z) e p in omega arith)) (λ ne. (m.cuts k c).1),
  );
  alone = m.alone;
  lives = m.lives;
  nobody = m.nobody;
  owned = m.owned;
  flights = m.flights;
}

pub mirror_relocked : (F : Files) (B : Book F) (D : Disk F) → Mirror F B D → (state : ℕ → F.Lock → State) (cache : ℕ → Part F) → Mirror F (relocked F B state cache) D
mirror_relocked F B D m state cache = record { cuts = m.cuts; alone = m.alone; lives = m.lives; nobody = m.nobody; owned = m.owned; flights = m.flights }

pub mirror_settled : (F : Files) (B : Book F) (D : Disk F) → Whole F B → Mirror F B D → (i : ℕ) (p : ℕ → Bool)
    → ((b : ℕ) → p b ≡ true → B.owner b ≡ Some i)
    → ((k b : ℕ) → p b ≡ true → B.low i ≤ k → k ≤ B.answered i → B.says i k b ≡ B.says i (B.answered i) b)
    → ((c : Bool) (b : ℕ) → p b ≡ true → (D.heads i c).live b ≡ None)
    → Mirror F (settled F B i p) D
mirror_settled F B D whole m i p own one dead = record {
  cuts = m.cuts;
  alone = m.alone;
  lives = λ k c b v h. elim (cases_Bool (p b)) [
    | inl e ↦ absurd (none-some (dead c b e) (subst (λ k. (D.heads k c).live b ≡ Some v) (inside (sym (m.lives k c b v h) ∙ own b e)) h))
    | inr e ↦ cond-false _ _ _ e ∙ m.lives k c b v h
  ];
  nobody = λ b h. elim (cases_Bool (p b)) [
    | inl e ↦ subst (λ z. Near F (D.blocks b) z) (one ((D.heads i false).cut) b e (m.cuts i false).0 (early) ∙ sym (cond-true _ _ _ e))
        (subst (λ d. Near F d (B.says i ((D.heads i false).cut) b)) (laid-none _ (dead false b e)) (m.owned i false b (own b e)))
    | inr e ↦ subst (λ z. Near F (D.blocks b) z) (sym (cond-false _ _ _ e)) (m.nobody b (sym (cond-false _ _ _ e) ∙ h))
  ];
  owned = λ k c b h. elim (cases_Bool (p b)) [
    | inl e ↦ absurd (none-some (cond-true _ _ _ e) h)
    | inr e ↦ m.owned k c b (sym (cond-false _ _ _ e) ∙ h)
  ];
  flights = m.flights;
}
  where
    early : (D.heads i false).cut ≤ B.answered i
    early = let q = (m.cuts i false).1 in let w = whole.published_answered i in omega arith

pub mirror_lost : (F : Files) (B : Book F) (D : Disk F) → Mirror F B D → (i k : ℕ) → B.published i ≡ B.answered i
    → ((c : Bool) (b : ℕ) → B.owner b ≡ Some i → B.says i ((D.heads i c).cut) b ≡ B.says i k b)
    → Mirror F (lost F B i k) (renumbered F D i (B.answered i))
mirror_lost F B D m i k all same-cell = record {
  cuts = λ j c. at-cases (λ f. (at (B.low) i (B.answered i) j ≤ (f c).cut) × ((f c).cut ≤ B.published j)) (D.heads) i _ j
      (λ e. subst (λ j. (at (B.low) i (B.answered i) j ≤ B.answered i) × (B.answered i ≤ B.published j)) (sym e)
      (subst (λ a. (a ≤ B.answered i) × (B.answered i ≤ B.published i)) (sym (at-same (B.low) i (B.answered i))) (omega arith, omega (arith, all))))
      (λ ne. subst (λ a. (a ≤ (D.heads j c).cut) × ((D.heads j c).cut ≤ B.published j)) (sym (at-other (B.low) i _ j ne)) (m.cuts j c));
  alone = λ j. at-cases (λ f. (f false).cut ≡ at (B.low) i (B.answered i) j) (D.heads) i _ j
      (λ e. subst (λ j. B.answered i ≡ at (B.low) i (B.answered i) j) (sym e) (sym (at-same (B.low) i (B.answered i))))
      (λ ne. m.alone j ∙ sym (at-other (B.low) i _ j ne));
  lives = λ j c b v. at-cases (λ f. (f c).live b ≡ Some v → B.owner b ≡ Some j) (D.heads) i _ j
      (λ e h. m.lives j c b v (subst (λ z. (D.heads z c).live b ≡ Some v) (sym e) h)) (λ ne. m.lives j c b v);
  nobody = m.nobody;
  owned = λ j c b h. elim (cases_eq j i) [
    | inl e ↦ subst (λ j. B.owner b ≡ Some j → Near F (laid ((at (D.heads) i (λ c. record { cut = B.answered i; live = (D.heads i c).live }) j c).live b) (D.blocks b))
        (at (B.says) i (λ n. λ b. B.says i k b) j ((at (D.heads) i (λ c. record { cut = B.answered i; live = (D.heads i c).live }) j c).cut) b)) (sym e)
        (λ h. subst (λ f. Near F (laid ((f c).live b) (D.blocks b)) (at (B.says) i (λ n. λ b. B.says i k b) i ((f c).cut) b)) (sym (at-same (D.heads) i (λ c. record { cut = B.answered i; live = (D.heads i c).live })))
        (subst (λ s. Near F (laid ((D.heads i c).live b) (D.blocks b)) (s (B.answered i) b)) (sym (at-same (B.says) i (λ n. λ b. B.says i k b)))
        (subst (λ z. Near F (laid ((D.heads i c).live b) (D.blocks b)) z) (same-cell c b h) (m.owned i c b h)))) h
    | inr ne ↦ subst (λ f. Near F (laid ((f c).live b) (D.blocks b)) (at (B.says) i (λ n. λ b. B.says i k b) j ((f c).cut) b)) (sym (at-other (D.heads) i _ j ne))
        (subst (λ s. Near F (laid ((D.heads j c).live b) (D.blocks b)) (s ((D.heads j c).cut) b)) (sym (at-other (B.says) i _ j ne)) (m.owned j c b h))
  ];
  flights = λ r b v f. (let g = m.flights r b v f in (g.0, λ c. at-cases (λ f. (f c).live b ≡ Some v) (D.heads) i _ (g.0) (λ e. subst (λ z. (D.heads z c).live b ≡ Some v) e (g.1 c)) (λ ne. g.1 c)));
}
