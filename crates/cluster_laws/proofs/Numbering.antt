-- The numbers of the last calls that touched the locks of a node.
use Rattle.std.proofs.Common.{ℕ, suc, ◌≡◌, ◌≤◌, ◌<◌, inl, inr, Some, refl, sym, ap, ◌∙◌, subst, arith}
use Rattle.std.proofs.lemmas.Bool.{cases_eq}
use Rattle.cluster_laws.specs.Files.{Files, CellOf, Part, LockOf, Touches, Un, Ex}
use Rattle.cluster_laws.specs.Book.{at, Book, Whole, tried, flushed, lost}
use Rattle.cluster_laws.specs.Log.{NumbersStand, GoOn}
use Rattle.cluster_laws.specs.World.{Answering, nothing, Answers, Syncs, Publishes, Begins, Ends, Writes, Lands, Settles, Lower, Grants, Reads, Shrinks, Loses}
use Rattle.cluster_laws.specs.Laws.{NumbersKeep}
use Rattle.cluster_laws.proofs.Cells.{none-some, ex-held, at-same, at-other, at-cases, whose-some, laid-some}
use Rattle.cluster_laws.proofs.Trying.{says-old}
use Rattle.cluster_laws.proofs.Running.{sync_answers}

-- a lock that isn't held has no block of the node under it in any call that isn't in the journal, so its numbers may begin anew
renew : (F : Files) (B : Book F) → Whole F B → (i : ℕ) (since last since' last' : F.Lock → ℕ) → GoOn F B i since last since' last' → NumbersStand F B i since last
    → NumbersStand F B i since' last'
renew F B whole i since last since' last' on numbers = record {
  answered = λ l. elim (on l) [
    | inl anew ↦ (let e = anew.1 in omega arith)
    | inr same ↦ (let e = same.0 in let p = numbers.answered l in omega arith)
  ];
  touched = λ n l low after high touches. elim (on l) [
    | inl anew ↦ (let e = anew.1 in absurd (omega arith))
    | inr same ↦ (let e = same.0 in let r = same.1 in let p = numbers.touched n l low (omega arith) high touches in omega arith)
  ];
  none_before = λ n b x l low before change. elim (on l) [
    | inl anew ↦ (let e = anew.1 in not-under n b x l low (omega arith) change (anew.0))
    | inr same ↦ (let e = same.0 in numbers.none_before n b x l low (omega arith) change)
  ];
}
  where
    not-under : (n b : ℕ) (x : CellOf F) (l : F.Lock) → B.low i ≤ n → n < B.answered i → B.change i (suc n) b ≡ Some x → B.state i l ≡ Un
        → (LockOf F x ≡ l → ⊥) × (LockOf F (B.says i n b) ≡ l → ⊥)
    not-under n b x l low high change un =
        let logged = whole.logged i n low high in
        let own = logged.touched b x change in
        let after = logged.says b own ∙ laid-some _ change in (
          λ e. ex-held (subst (λ m. B.state i m ≡ Ex) (ap (LockOf F) after ∙ e) (whole.owned i (suc n) b own (omega arith) (omega arith))) un,
          λ e. ex-held (subst (λ m. B.state i m ≡ Ex) e (whole.owned i n b own low (omega arith))) un,
        )

-- ---- a try

module _ (F : Files) (B : Book F) (whole : Whole F B) (j : ℕ) (said : F.Said) (v c cache : Part F) (a : Answering F B j said v c cache) where
  abbrev After : Book F
  After = tried F B j said v c cache

  pub own-answered : After.answered j ≡ suc (B.answered j)
  own-answered = at-same (B.answered) j _

  pub own-change : (n : ℕ) → n < B.answered j → After.change j (suc n) ≡ B.change j (suc n)
  own-change n below = ap (λ f. f (suc n)) (at-same (B.change) j _) ∙ at-other (B.change j) (suc (B.answered j)) c (suc n) (λ e. absurd (omega arith))

  pub last-change : After.change j (suc (B.answered j)) ≡ c
  last-change = ap (λ f. f (suc (B.answered j))) (at-same (B.change) j _) ∙ at-same (B.change j) (suc (B.answered j)) c

  own : (since last : F.Lock → ℕ) → ((l : F.Lock) → Touches F c l → suc (B.answered j) ≤ last l) → NumbersStand F B j since last → NumbersStand F After j since last
  own since last raises numbers = record {
    answered = λ l. (let p = numbers.answered l in let e = own-answered in omega arith);
    touched = λ n l low after high touches. elim (cases_eq n (B.answered j)) [
      | inl e ↦ (let t : Touches F c l = subst (λ f. Touches F f l) (ap (λ z. After.change j (suc z)) e ∙ last-change) touches in let p = raises l t in omega arith)
      | inr ne ↦ (let e = own-answered in let below : n < B.answered j = omega arith in
          numbers.touched n l low after below (subst (λ f. Touches F f l) (own-change n below) touches))
    ];
    none_before = λ n b x l low before change.
        let p = numbers.answered l in
        let below : n < B.answered j = omega arith in
        let change' : B.change j (suc n) b ≡ Some x = sym (ap (λ f. f b) (own-change n below)) ∙ change in
        let is = (whole.logged j n low below).touched b x change' in
        let none = numbers.none_before n b x l low before change' in (
          none.0,
          λ e. none.1 (ap (LockOf F) (sym (whose-some _ _ is)
              ∙ sym (says-old F B whole j said v c cache (a.sees) (a.does) (a.guards) (a.caches) (a.tells) (a.tracks) n b (omega arith))) ∙ e),
        );
  }

  other : (i : ℕ) → (i ≡ j → ⊥) → (since last : F.Lock → ℕ) → NumbersStand F B i since last → NumbersStand F After i since last
  other i ne since last numbers = record {
    answered = λ l. subst (λ z. since l ≤ z) (sym (at-other (B.answered) j _ i ne)) (numbers.answered l);
    touched = λ n l low after high touches. numbers.touched n l low after (subst (λ z. n < z) (at-other (B.answered) j _ i ne) high)
        (subst (λ f. Touches F (f (suc n)) l) (at-other (B.change) j _ i ne) touches);
    none_before = λ n b x l low before change.
        let none = numbers.none_before n b x l low before (sym (ap (λ f. f (suc n) b) (at-other (B.change) j _ i ne)) ∙ change) in
        (none.0, λ e. none.1 (ap (LockOf F) (sym (ap (λ f. f n b) (at-other (B.says) j _ i ne))) ∙ e));
  }

  tried-keeps : (i : ℕ) (since last : F.Lock → ℕ) → (i ≡ j → (l : F.Lock) → Touches F c l → suc (B.answered j) ≤ last l) → NumbersStand F B i since last → NumbersStand F After i since last
  tried-keeps i since last raises numbers = elim (cases_eq i j) [
    | inl e ↦ subst (λ i. NumbersStand F After i since last) (sym e) (own since last (raises e) (subst (λ i. NumbersStand F B i since last) e numbers))
    | inr ne ↦ other i ne since last numbers
  ]

-- ---- headers, and the end of a life

-- where a journal has more calls less is asked
raised : (F : Files) (B : Book F) (k u : ℕ) → B.low k ≤ u → (i : ℕ) (since last : F.Lock → ℕ) → NumbersStand F B i since last → NumbersStand F (flushed F B k u) i since last
raised F B k u more i since last numbers = record {
  answered = numbers.answered;
  touched = λ n l low after high touches. numbers.touched n l (was n low) after high touches;
  none_before = λ n b x l low before change. numbers.none_before n b x l (was n low) before change;
}
  where
    was : (n : ℕ) → at (B.low) k u i ≤ n → B.low i ≤ n
    was n = at-cases (λ z. z ≤ n → B.low i ≤ n) (B.low) k u i (λ e low. (let q : B.low i ≡ B.low k = ap (B.low) e in omega arith)) (λ ne low. low)

ended-life : (F : Files) (B : Book F) (k m i : ℕ) (since last : F.Lock → ℕ) → NumbersStand F B i since last → NumbersStand F (lost F B k m) i since last
ended-life F B k m i since last numbers = elim (cases_eq i k) [
  | inl e ↦ record {
    answered = numbers.answered;
    touched = λ n l low after high touches. (let p = is-low e in absurd (omega arith));
    none_before = λ n b x l low before change. (let p = is-low e in let q = numbers.answered l in absurd (omega arith));
  }
  | inr ne ↦ record {
    answered = numbers.answered;
    touched = λ n l low after high touches. numbers.touched n l (subst (λ z. z ≤ n) (at-other (B.low) k _ i ne) low) after high touches;
    none_before = λ n b x l low before change.
        let none = numbers.none_before n b x l (subst (λ z. z ≤ n) (at-other (B.low) k _ i ne) low) before change in
        (none.0, λ e. none.1 (ap (LockOf F) (sym (ap (λ f. f n b) (at-other (B.says) k _ i ne))) ∙ e));
  }
]
  where
    is-low : i ≡ k → at (B.low) k (B.answered k) i ≡ B.answered i
    is-low e = subst (λ z. at (B.low) k (B.answered k) z ≡ B.answered z) (sym e) (at-same (B.low) k _)

-- ---- every event

module _ (F : Files) (i : ℕ) (since last : F.Lock → ℕ) where
  as-was : (B B' : Book F) → B'.answered i ≡ B.answered i → B'.low i ≡ B.low i → B'.change i ≡ B.change i → B'.says i ≡ B.says i → NumbersStand F B i since last
      → NumbersStand F B' i since last
  as-was B B' answered low change says numbers = record {
    answered = λ l. (let p = numbers.answered l in omega arith);
    touched = λ n l lo after high touches. numbers.touched n l (omega arith) after (omega arith) (subst (λ f. Touches F (f (suc n)) l) change touches);
    none_before = λ n b x l lo before is. let none = numbers.none_before n b x l (omega arith) before (sym (ap (λ f. f (suc n) b) change) ∙ is) in
        (none.0, λ e. none.1 (ap (LockOf F) (sym (ap (λ f. f n b) says)) ∙ e));
  }

pub numbers_keep : (F : Files) → NumbersKeep F
numbers_keep F w _ (Answers j said v c cache no_sync a) i since last since' last' s on minds numbers =
    tried-keeps F (w.book) (s.whole) j said v c cache a i since' last' minds (renew F (w.book) (s.whole) i since last since' last' on numbers)
numbers_keep F w _ (Syncs j said does still calm) i since last since' last' s on minds numbers =
    tried-keeps F (w.book) (s.whole) j said (nothing F) (nothing F) ((w.book).cache j) (sync_answers F w s j said does still) i since' last'
    (λ e l t. absurd (none-some refl (t.2))) (renew F (w.book) (s.whole) i since last since' last' on numbers)
numbers_keep F w _ (Ends k c) i since last since' last' s on minds numbers =
    raised F (w.book) k _ (((s.mirror).cuts k c).0) i since' last' (renew F (w.book) (s.whole) i since last since' last' on numbers)
numbers_keep F w _ (Loses k m all above below calm next none single) i since last since' last' s on minds numbers =
    ended-life F (w.book) k m i since' last' (renew F (w.book) (s.whole) i since last since' last' on numbers)
numbers_keep F w v (Publishes k some) i since last since' last' s on minds numbers = as-was F i since' last' (w.book) _ refl refl refl refl (renew F (w.book) (s.whole) i since last since' last' on numbers)
numbers_keep F w _ (Begins k h single heads) i since last since' last' s on minds numbers = renew F (w.book) (s.whole) i since last since' last' on numbers
numbers_keep F w _ (Writes r b v k live) i since last since' last' s on minds numbers = renew F (w.book) (s.whole) i since last since' last' on numbers
numbers_keep F w _ (Lands r x settles) i since last since' last' s on minds numbers = renew F (w.book) (s.whole) i since last since' last' on numbers
numbers_keep F w _ (Settles k p all own one dead) i since last since' last' s on minds numbers = as-was F i since' last' (w.book) _ refl refl refl refl (renew F (w.book) (s.whole) i since last since' last' on numbers)
numbers_keep F w _ (Lower k state cache lowers) i since last since' last' s on minds numbers = as-was F i since' last' (w.book) _ refl refl refl refl (renew F (w.book) (s.whole) i since last since' last' on numbers)
numbers_keep F w _ (Grants k state raises) i since last since' last' s on minds numbers = as-was F i since' last' (w.book) _ refl refl refl refl (renew F (w.book) (s.whole) i since last since' last' on numbers)
numbers_keep F w _ (Reads j b held) i since last since' last' s on minds numbers = as-was F i since' last' (w.book) _ refl refl refl refl (renew F (w.book) (s.whole) i since last since' last' on numbers)
numbers_keep F w _ (Shrinks k cache forgets) i since last since' last' s on minds numbers = as-was F i since' last' (w.book) _ refl refl refl refl (renew F (w.book) (s.whole) i since last since' last' on numbers)
