-- Blocks that no cut of the box tells apart get no owner: each image of the box is as it was.
use Rattle.std.proofs.Common.{zero, suc, ◌+◌, ◌-◌, ap, ℕ, ◌≡◌, ◌≤◌, ◌<◌, inl, inr, Bool, true, false, None, Some, refl, sym, ◌∙◌, subst, arith}
use Rattle.std.proofs.lemmas.Bool.{cond-true, cond-false, cases_Bool}
use Rattle.cluster_laws.specs.Files.{Files, CellOf}
use Rattle.cluster_laws.specs.Book.{Book, W, InBox, Seen, Past, Logged, Whole, settled}
use Rattle.cluster_laws.proofs.Cells.{split, inside, none-some, whose-none, whose-some, laid-none}

module _ (F : Files) (B : Book F) (whole : Whole F B) (i : ℕ) (p : ℕ → Bool)
    (all : B.published i ≡ B.answered i)
    (own : (b : ℕ) → p b ≡ true → B.owner b ≡ Some i)
    (untouched : (n b : ℕ) → p b ≡ true → B.low i ≤ n → n < B.answered i → B.change i (suc n) b ≡ None) where
  -- no cut of the box tells the block
  steady : (d k b : ℕ) → p b ≡ true → B.low i ≤ k → k + d ≤ B.answered i → B.says i (k + d) b ≡ B.says i k b
  steady zero k b e low high = ap (λ m. B.says i m b) (zero-more k)
    where
      zero-more : (k : ℕ) → k + zero ≡ k
      zero-more k = omega arith
  steady (suc d) k b e low high = ap (λ m. B.says i m b) (suc-more k d)
      ∙ (whole.logged i (k + d) (omega arith) (omega arith)).says b (own b e)
      ∙ laid-none _ (untouched (k + d) b e (omega arith) (omega arith)) ∙ steady d k b e low (omega arith)
    where
      suc-more : (k d : ℕ) → k + suc d ≡ suc (k + d)
      suc-more k d = omega arith

  pub one : (k b : ℕ) → p b ≡ true → B.low i ≤ k → k ≤ B.answered i → B.says i k b ≡ B.says i (B.answered i) b
  one k b e low high = let z : k + (B.answered i - k) ≡ B.answered i = omega arith in sym (steady (B.answered i - k) k b e low (omega arith)) ∙ ap (λ m. B.says i m b) z

  abbrev After : Book F
  After = settled F B i p

  owner-gone : (b : ℕ) → p b ≡ true → After.owner b ≡ None
  owner-gone b e = cond-true _ _ _ e

  owner-kept : (b : ℕ) → p b ≡ false → After.owner b ≡ B.owner b
  owner-kept b e = cond-false _ _ _ e

  unowned-new : (b : ℕ) → p b ≡ true → After.unowned b ≡ B.says i (B.answered i) b
  unowned-new b e = cond-true _ _ _ e

  unowned-kept : (b : ℕ) → p b ≡ false → After.unowned b ≡ B.unowned b
  unowned-kept b e = cond-false _ _ _ e

  pub W-same : (cut : ℕ → ℕ) → InBox F B cut → (b : ℕ) → W F After cut b ≡ W F B cut b
  W-same cut box b = elim (cases_Bool (p b)) [
    | inl e ↦ whose-none _ _ (owner-gone b e) ∙ unowned-new b e ∙ sym (one (cut i) b e (box i).0 (box i).1) ∙ sym (whose-some _ _ (own b e))
    | inr e ↦ elim (split (B.owner b)) [
      | inl nobody ↦ whose-none _ _ (owner-kept b e ∙ nobody) ∙ unowned-kept b e ∙ sym (whose-none _ _ nobody)
      | inr some ↦ whose-some _ _ (owner-kept b e ∙ some.1) ∙ sym (whose-some _ _ (some.1))
    ]
  ]

  image : (cut : ℕ → ℕ) → InBox F B cut → W F B cut ≡ W F After cut
  image cut box = λ k b. sym (W-same cut box b) k

  pub owner-was : (b k : ℕ) → After.owner b ≡ Some k → (p b ≡ false) × (B.owner b ≡ Some k)
  owner-was b k h = elim (cases_Bool (p b)) [
    | inl e ↦ absurd (none-some (owner-gone b e) h)
    | inr e ↦ (e, sym (owner-kept b e) ∙ h)
  ]

  -- a block that is seen by a node whose calls are all published, or that isn't settled
  seen-kept : (j m b : ℕ) (x : CellOf F) → p b ≡ false → Seen F B j m b x → Seen F After j m b x
  seen-kept j m b x e s = record {
    owner = elim (s.owner) [ inl nobody ↦ inl (owner-kept b e ∙ nobody) | inr is ↦ inr (owner-kept b e ∙ is) ];
    cell = (elim (split (B.owner b)) [
      | inl nobody ↦ whose-none _ _ (owner-kept b e ∙ nobody) ∙ unowned-kept b e ∙ sym (whose-none _ _ nobody)
      | inr some ↦ whose-some _ _ (owner-kept b e ∙ some.1) ∙ sym (whose-some _ _ (some.1))
    ]) ∙ s.cell;
    held = s.held;
  }

  seer : (j m b : ℕ) (x : CellOf F) → p b ≡ true → Seen F B j m b x → j ≡ i
  seer j m b x e s = elim (s.owner) [ inl nobody ↦ absurd (none-some nobody (own b e)) | inr is ↦ inside (sym is ∙ own b e) ]

  cached' : (j b : ℕ) (x : CellOf F) → Seen F B j (B.answered j) b x → Seen F After j (B.answered j) b x
  cached' j b x s = elim (cases_Bool (p b)) [
    | inl e ↦ record {
      owner = inl (owner-gone b e);
      cell = whose-none _ _ (owner-gone b e) ∙ unowned-new b e ∙ sym (subst (λ k. B.says k (B.answered k) b ≡ B.says i (B.answered i) b) (sym (seer j (B.answered j) b x e s)) refl)
          ∙ sym (whose-some _ _ (own b e)) ∙ s.cell;
      held = s.held;
    }
    | inr e ↦ seen-kept j (B.answered j) b x e s
  ]

  past' : (j m : ℕ) → B.published j ≤ m → m < B.answered j → Past F After j m
  past' j m low high = let q = whole.past j m low high in record {
    does = q.does;
    seen = λ b x h. elim (cases_Bool (p b)) [
      | inl e ↦ absurd (other (seer j m b x e (q.seen b x h)))
      | inr e ↦ seen-kept j m b x e (q.seen b x h)
    ];
  }
    where
      other : j ≡ i → ⊥
      other e = (let low' : B.published i ≤ m = subst (λ k. B.published k ≤ m) e low in let high' : m < B.answered i = subst (λ k. m < B.answered k) e high in absurd (omega (arith, all)))

  logged' : (j m : ℕ) → B.low j ≤ m → m < B.answered j → Logged F After j m
  logged' j m low high = let q = whole.logged j m low high in record {
    touched = λ b x h. elim (cases_Bool (p b)) [
      | inl e ↦ absurd (clash b x e (inside (sym (q.touched b x h) ∙ own b e)) h)
      | inr e ↦ owner-kept b e ∙ q.touched b x h
    ];
    says = λ b h. q.says b (owner-was b j h).1;
    tells = q.tells;
    tracks = q.tracks;
  }
    where
      clash : (b : ℕ) (x : CellOf F) → p b ≡ true → j ≡ i → B.change j (suc m) b ≡ Some x → ⊥
      clash b x e same h = none-some (untouched m b e (subst (λ k. B.low k ≤ m) same low) (subst (λ k. m < B.answered k) same high)) (subst (λ k. B.change k (suc m) b ≡ Some x) same h)

  pub whole_settled : Whole F After
  whole_settled = record {
    low_published = whole.low_published;
    published_answered = whole.published_answered;
    stands = λ cut box. (let s = whole.stands cut box in (s.0, subst (λ m. F.Stands m (s.0)) (image cut box) (s.1)));
    right = λ cut box low. (let r = whole.right cut box low in (r.0, subst (λ m. F.Stands m (r.0)) (image cut box) (r.1), r.2));
    numbered = whole.numbered;
    owned = λ k m b e low high. whole.owned k m b (owner-was b k e).1 low high;
    apart = whole.apart;
    cached = λ j b x h. cached' j b x (whole.cached j b x h);
    past = past';
    logged = logged';
  }
