-- A node's log: its headers, and the locks that it may let go.
use Rattle.std.proofs.Common.{ℕ, zero, suc, ◌+◌, ◌-◌, ◌≡◌, ◌≤◌, ◌<◌, ◌⊎◌, inl, inr, Bool, true, false, ◌&&◌, Option, None, Some, refl, sym, ap, ◌∙◌, subst, arith}
use Rattle.std.specs.Prelude.{◌==◌}
use Rattle.std.proofs.lemmas.Bool.{cases_eq, cases_lt, cases_Bool, cond-true, cond-false, eqb-true, eq-eqb}
use Rattle.cluster_laws.specs.Files.{Files, CellOf, Part, LockOf, Touches, State, Un, laid}
use Rattle.cluster_laws.specs.Book.{Book, W, Whole, settled, relocked}
use Rattle.cluster_laws.specs.Mirror.{Near, Head, Disk, Mirror, Heads}
use Rattle.cluster_laws.specs.Locks.{Lowers}
use Rattle.cluster_laws.specs.Log.{Untouched, Last, Calm, IsHeader, IsFlushed, IsRevoked, MayGo, NumbersStand, GoesDown}
use Rattle.cluster_laws.proofs.Cells.{split, inside, none-some, laid-none, laid-some, whose-none, whose-some}
use Rattle.cluster_laws.proofs.Settling.{whole_settled, one}
use Rattle.cluster_laws.proofs.Locking.{whole_lowered, seen_by_lock}
use Rattle.cluster_laws.proofs.Replaying.{mirror_settled, mirror_relocked}

-- ---- blocks that calls don't touch

module _ (F : Files) (B : Book F) (whole : Whole F B) (i b : ℕ) (own : B.owner b ≡ Some i) where
  more : (d lo : ℕ) → B.low i ≤ lo → lo + d ≤ B.answered i → Untouched F B i lo (lo + d) b → B.says i (lo + d) b ≡ B.says i lo b
  more zero lo low high untouched = let z : lo + zero ≡ lo = omega arith in ap (λ m. B.says i m b) z
  more (suc d) lo low high untouched = let z : lo + suc d ≡ suc (lo + d) = omega arith in ap (λ m. B.says i m b) z
      ∙ (whole.logged i (lo + d) (omega arith) (omega arith)).says b own
      ∙ laid-none _ (untouched (lo + d) (omega arith) (omega arith))
      ∙ more d lo low (omega arith) (λ n l h. untouched n l (omega arith))

  pub steady : (lo hi : ℕ) → B.low i ≤ lo → lo ≤ hi → hi ≤ B.answered i → Untouched F B i lo hi b → B.says i hi b ≡ B.says i lo b
  steady lo hi low order high untouched = let z : lo + (hi - lo) ≡ hi = omega arith in
      ap (λ m. B.says i m b) (sym z) ∙ more (hi - lo) lo low (omega arith) (λ n l h. untouched n l (omega arith))

  pub last-says : (lo hi : ℕ) → B.low i ≤ lo → hi ≤ B.answered i → (l : Last F B i lo hi b) → B.says i hi b ≡ l.cell
  last-says lo hi low high l =
      let p = l.above in let q = l.below in
      steady (suc (l.call)) hi (omega arith) (omega arith) high (l.none_later)
      ∙ (whole.logged i (l.call) (omega arith) (omega arith)).says b own ∙ laid-some _ (l.changes)

pub header_heads : (F : Files) (B : Book F) (D : Disk F) (i u : ℕ) (h : Head F) → Whole F B → Mirror F B D → IsHeader F B D i u h → Heads F B D i h
header_heads F B D i u h whole m f = record {
  cut = subst (λ z. (B.low i ≤ z) × (z ≤ B.published i)) (sym (f.cut)) (f.range);
  lives = λ b v e. elim (f.each b) [
    | inl same ↦ elim (same.1) [ inl live ↦ m.lives i false b v (sym live ∙ e) | inr gone ↦ absurd (none-some (gone.0) e) ]
    | inr last ↦ touched b (last.0)
  ];
  owned = λ b own. subst (λ z. Near F (laid (h.live b) (D.blocks b)) (B.says i z b)) (sym (f.cut)) (elim (f.each b) [
    | inl same ↦ subst (λ x. Near F (laid (h.live b) (D.blocks b)) x) (sym (steady F B whole i b own (B.low i) u (omega arith) (f.range).0 top (same.0)))
        (subst (λ z. Near F (laid (h.live b) (D.blocks b)) (B.says i z b)) (m.alone i) (of-old b own (same.1)))
    | inr last ↦ subst (λ x. Near F (laid (h.live b) (D.blocks b)) x) (sym (last-says F B whole i b own (B.low i) u (omega arith) top (last.0)))
        (elim (last.1) [ inl logged ↦ inl (sym (laid-some _ logged)) | inr free ↦ inr free ])
  ]);
  flights = λ r b v fly own. absurd (f.none_flying r b v fly own);
}
  where
    top : u ≤ B.answered i
    top = let p = (f.range).1 in let q = whole.published_answered i in omega arith

    touched : (b : ℕ) → Last F B i (B.low i) u b → B.owner b ≡ Some i
    touched b l = let p = l.above in let q = l.below in let t = top in (whole.logged i (l.call) p (omega arith)).touched b (l.cell) (l.changes)

    of-old : (b : ℕ) → B.owner b ≡ Some i
        → ((h.live b ≡ (D.heads i false).live b) ⊎ ((h.live b ≡ None) × ((v : F.Content) → (D.heads i false).live b ≡ Some v → D.blocks b ≡ v)))
        → Near F (laid (h.live b) (D.blocks b)) (B.says i ((D.heads i false).cut) b)
    of-old b own (inl same) = subst (λ o. Near F (laid o (D.blocks b)) (B.says i ((D.heads i false).cut) b)) (sym same) (m.owned i false b own)
    of-old b own (inr gone) = subst (λ d. Near F d (B.says i ((D.heads i false).cut) b)) (sym (laid-none _ (gone.0))) (elim (split ((D.heads i false).live b)) [
      | inl none ↦ subst (λ d. Near F d (B.says i ((D.heads i false).cut) b)) (laid-none _ none) (m.owned i false b own)
      | inr some ↦ subst (λ d. Near F d (B.says i ((D.heads i false).cut) b)) (laid-some _ (some.1) ∙ sym (gone.1 (some.0) (some.1))) (m.owned i false b own)
    ])

-- ---- which blocks a node gives back

is_none : {A : Type 0} → Option A → Bool
is_none None = true
is_none (Some x) = false

is_none-true : {A : Type 0} (o : Option A) → is_none o ≡ true → o ≡ None
unfolding is_none
is_none-true None e = refl
is_none-true (Some x) e = cc

is_none-false : {A : Type 0} (o : Option A) → is_none o ≡ false → (x : A) × (o ≡ Some x)
unfolding is_none
is_none-false None e = cc
is_none-false (Some x) e = (x, refl)

pub owned_by : Option ℕ → ℕ → Bool
owned_by None i = false
owned_by (Some o) i = o == i

pub owned_by-true : (o : Option ℕ) (i : ℕ) → owned_by o i ≡ true → o ≡ Some i
unfolding owned_by
owned_by-true None i e = cc
owned_by-true (Some o) i e = ap (λ k. Some k) (eqb-true o i e)

pub owned_by-false : (o : Option ℕ) (i : ℕ) → owned_by o i ≡ false → o ≡ Some i → ⊥
unfolding owned_by
owned_by-false None i e h = cc
owned_by-false (Some o) i e h = let same : o ≡ i = inside h in let t : (o == i) ≡ true = eq-eqb o i same in cc

and-true : (a b : Bool) → (a && b) ≡ true → (a ≡ true) × (b ≡ true)
and-true true b e = (refl, e)
and-true false b e = absurd (let z : false ≡ true = e in cc)

and-false : (a b : Bool) → (a && b) ≡ false → (a ≡ false) ⊎ (b ≡ false)
and-false true b e = inr e
and-false false b e = inl refl

module _ (F : Files) (B : Book F) (D : Disk F) (whole : Whole F B) (mirror : Mirror F B D) (i : ℕ) where
  -- whether none of the d calls after low touches the block
  calm : ℕ → ℕ → Bool
  calm b zero = true
  calm b (suc d) = is_none (B.change i (suc (B.low i + d)) b) && calm b d

  calm-true : (b d : ℕ) → calm b d ≡ true → Untouched F B i (B.low i) (B.low i + d) b
  unfolding calm
  calm-true b zero e n low high = absurd (omega arith)
  calm-true b (suc d) e n low high = elim (cases_eq n (B.low i + d)) [
    | inl same ↦ subst (λ n. B.change i (suc n) b ≡ None) (sym same) (is_none-true _ (and-true (is_none (B.change i (suc (B.low i + d)) b)) (calm b d) e).0)
    | inr other ↦ calm-true b d (and-true (is_none (B.change i (suc (B.low i + d)) b)) (calm b d) e).1 n low (omega arith)
  ]

  Touch : ℕ → Type 0
  Touch b = (n : ℕ) × (x : CellOf F) × (B.low i ≤ n) × (n < B.answered i) × (B.change i (suc n) b ≡ Some x)

  calm-false : (b d : ℕ) → B.low i + d ≤ B.answered i → calm b d ≡ false
      → (n : ℕ) × (x : CellOf F) × (B.low i ≤ n) × (n < B.answered i) × (B.change i (suc n) b ≡ Some x)
  unfolding calm
  calm-false b zero high e = cc
  calm-false b (suc d) high e = elim (and-false (is_none (B.change i (suc (B.low i + d)) b)) (calm b d) e) [
    | inl some ↦ (let o = is_none-false _ some in (B.low i + d, o.0, omega arith, omega arith, o.1))
    | inr rest ↦ calm-false b d (omega arith) rest
  ]

  length_of_box : ℕ
  length_of_box = B.answered i - B.low i

  pub given_back : ℕ → Bool
  given_back b = owned_by (B.owner b) i && (is_none ((D.heads i false).live b) && (is_none ((D.heads i true).live b) && calm b (B.answered i - B.low i)))

  pub given : (b : ℕ) → given_back b ≡ true → (B.owner b ≡ Some i) × ((D.heads i false).live b ≡ None) × ((D.heads i true).live b ≡ None) × Untouched F B i (B.low i) (B.answered i) b
  unfolding given_back
  given b e =
      let w = and-true (owned_by (B.owner b) i) (is_none ((D.heads i false).live b) && (is_none ((D.heads i true).live b) && calm b (B.answered i - B.low i))) e in
      let x = and-true (is_none ((D.heads i false).live b)) (is_none ((D.heads i true).live b) && calm b (B.answered i - B.low i)) (w.1) in
      let y = and-true (is_none ((D.heads i true).live b)) (calm b (B.answered i - B.low i)) (x.1) in
      let p = whole.low_published i in let q = whole.published_answered i in let z : B.low i + (B.answered i - B.low i) ≡ B.answered i = omega arith in
      (owned_by-true _ i (w.0), is_none-true _ (x.0), is_none-true _ (y.0), λ n low high. calm-true b (B.answered i - B.low i) (y.1) n low (omega arith))

  -- what stays the node's is live or touched
  pub stays : (b : ℕ) → given_back b ≡ false → B.owner b ≡ Some i
      → ((c : Bool) × (v : F.Content) × ((D.heads i c).live b ≡ Some v)) ⊎ ((n : ℕ) × (x : CellOf F) × (B.low i ≤ n) × (n < B.answered i) × (B.change i (suc n) b ≡ Some x))
  unfolding given_back
  stays b e own = elim (and-false (owned_by (B.owner b) i) (is_none ((D.heads i false).live b) && (is_none ((D.heads i true).live b) && calm b (B.answered i - B.low i))) e) [
    | inl foreign ↦ absurd (owned_by-false _ i foreign own)
    | inr rest ↦ elim (and-false (is_none ((D.heads i false).live b)) (is_none ((D.heads i true).live b) && calm b (B.answered i - B.low i)) rest) [
      | inl old ↦ (let o = is_none-false _ old in inl (false, o.0, o.1))
      | inr rest ↦ elim (and-false (is_none ((D.heads i true).live b)) (calm b (B.answered i - B.low i)) rest) [
        | inl new ↦ (let o = is_none-false _ new in inl (true, o.0, o.1))
        | inr touched ↦ inr (calm-false b (B.answered i - B.low i) (let p = whole.low_published i in let q = whole.published_answered i in omega arith) touched)
      ]
    ]
  ]

  -- ---- a lock that may go covers no block of the node, in no cut of the box
  module _ (l : F.Lock) (may : MayGo F B D i l) (b : ℕ) (own : B.owner b ≡ Some i) where
    step-up : (k : ℕ) → B.low i ≤ k → k < B.answered i → (LockOf F (B.says i k b) ≡ l → ⊥) → LockOf F (B.says i (suc k) b) ≡ l → ⊥
    step-up k low high not_yet = elim (split (B.change i (suc k) b)) [
      | inl none ↦ (λ e. not_yet (ap (LockOf F) (sym ((whole.logged i k low high).says b own ∙ laid-none _ none)) ∙ e))
      | inr some ↦ (λ e. (may.untouched k b (some.0) low high (some.1)).0 (ap (LockOf F) (sym ((whole.logged i k low high).says b own ∙ laid-some _ (some.1))) ∙ e))
    ]

    step-down : (k : ℕ) → B.low i ≤ k → k < B.answered i → (LockOf F (B.says i (suc k) b) ≡ l → ⊥) → LockOf F (B.says i k b) ≡ l → ⊥
    step-down k low high not_yet = elim (split (B.change i (suc k) b)) [
      | inl none ↦ (λ e. not_yet (ap (LockOf F) ((whole.logged i k low high).says b own ∙ laid-none _ none) ∙ e))
      | inr some ↦ (may.untouched k b (some.0) low high (some.1)).1
    ]

    up : (d k : ℕ) → B.low i ≤ k → k + d ≤ B.answered i → (LockOf F (B.says i k b) ≡ l → ⊥) → LockOf F (B.says i (k + d) b) ≡ l → ⊥
    up zero k low high not_yet = let z : k ≡ k + zero = omega arith in subst (λ m. LockOf F (B.says i m b) ≡ l → ⊥) z not_yet
    up (suc d) k low high not_yet = let z : suc (k + d) ≡ k + suc d = omega arith in
        subst (λ m. LockOf F (B.says i m b) ≡ l → ⊥) z (step-up (k + d) (omega arith) (omega arith) (up d k low (omega arith) not_yet))

    down : (d k : ℕ) → B.low i ≤ k → k + d ≤ B.answered i → (LockOf F (B.says i (k + d) b) ≡ l → ⊥) → LockOf F (B.says i k b) ≡ l → ⊥
    down zero k low high not_yet = let z : k + zero ≡ k = omega arith in subst (λ m. LockOf F (B.says i m b) ≡ l → ⊥) z not_yet
    down (suc d) k low high not_yet = let z : k + suc d ≡ suc k + d = omega arith in
        step-down k low (omega arith) (down d (suc k) (omega arith) (omega arith) (subst (λ m. LockOf F (B.says i m b) ≡ l → ⊥) z not_yet))

    pub never_under : (((c : Bool) × (v : F.Content) × ((D.heads i c).live b ≡ Some v)) ⊎ ((n : ℕ) × (x : CellOf F) × (B.low i ≤ n) × (n < B.answered i) × (B.change i (suc n) b ≡ Some x)))
        → (k : ℕ) → B.low i ≤ k → k ≤ B.answered i → LockOf F (B.says i k b) ≡ l → ⊥
    never_under (inl live) k low high = let z : B.low i + (k - B.low i) ≡ k = omega arith in
        subst (λ m. LockOf F (B.says i m b) ≡ l → ⊥) z (up (k - B.low i) (B.low i) (omega arith) (omega arith) (may.unlive (live.0) b (live.1) (live.2)))
    never_under (inr touch) k low high = elim (cases_lt k (touch.0)) [
      | inl before ↦ (let a = touch.2 in let c = touch.3 in let z : touch.0 ≡ k + (touch.0 - k) = omega arith in
          down (touch.0 - k) k low (omega arith) (subst (λ m. LockOf F (B.says i m b) ≡ l → ⊥) z (may.untouched (touch.0) b (touch.1) a c (touch.4)).1))
      | inr after ↦ (let a = touch.2 in let c = touch.3 in let z : touch.0 + (k - touch.0) ≡ k = omega arith in
          subst (λ m. LockOf F (B.says i m b) ≡ l → ⊥) z (up (k - touch.0) (touch.0) a (omega arith) (may.untouched (touch.0) b (touch.1) a c (touch.4)).1))
    ]

  pub release : (state : ℕ → F.Lock → State) (cache : ℕ → Part F) → GoesDown F B D i state cache
      → (p : ℕ → Bool) × Whole F (relocked F (settled F B i p) state cache) × Mirror F (relocked F (settled F B i p) state cache) D
  release state cache goes =
      let own : (b : ℕ) → given_back b ≡ true → B.owner b ≡ Some i = λ b e. (given b e).0 in
      let untouched : (n b : ℕ) → given_back b ≡ true → B.low i ≤ n → n < B.answered i → B.change i (suc n) b ≡ None = λ n b e. (given b e).3 n in
      let dead : (c : Bool) (b : ℕ) → given_back b ≡ true → (D.heads i c).live b ≡ None = (λ c b e. dead-both c b (given b e).1 (given b e).2) in
      let w : Whole F (settled F B i given_back) = whole_settled F B whole i given_back (goes.all_published) own untouched in (
        given_back,
        whole_lowered F (settled F B i given_back) w i state cache lowers,
        mirror_relocked F (settled F B i given_back) D (mirror_settled F B D whole mirror i given_back own (one F B whole i given_back (goes.all_published) own untouched) dead) state cache,
      )
    where
      dead-both : (c : Bool) (b : ℕ) → (D.heads i false).live b ≡ None → (D.heads i true).live b ≡ None → (D.heads i c).live b ≡ None
      dead-both false b old new = old
      dead-both true b old new = new

      owner-was : (b : ℕ) → (settled F B i given_back).owner b ≡ Some i → (given_back b ≡ false) × (B.owner b ≡ Some i)
      owner-was b h = elim (cases_Bool (given_back b)) [
        | inl e ↦ absurd (none-some (cond-true _ _ _ e) h)
        | inr e ↦ (e, sym (cond-false _ _ _ e) ∙ h)
      ]

      lowers : Lowers F (settled F B i given_back) i state cache
      lowers = record {
        others = goes.others;
        all_published = goes.all_published;
        clean = λ l ex. elim (goes.clean l ex) [
          | inl same ↦ inl same
          | inr may ↦ inr (λ k b h low high. (let o = owner-was b h in never_under l may b (o.1) (stays b (o.0) (o.1)) k low high))
        ];
        weaker = goes.weaker;
        cached = goes.cached;
      }

-- ---- the test that a node makes

pub number_flushes : (F : Files) (B : Book F) (i : ℕ) (l : F.Lock) (since last : F.Lock → ℕ) → Whole F B → NumbersStand F B i since last → last l ≤ B.low i → IsFlushed F B i l
number_flushes F B i l since last whole numbers low = λ n b x lo hi h. elim (cases_lt n (since l)) [
  | inl before ↦ numbers.none_before n b x l lo before h
  | inr after ↦ (
    λ e. never n lo after hi (subst (λ z. Touches F (B.change i (suc n)) z) e ((whole.logged i n lo hi).tracks b x h).1),
    λ e. never n lo after hi (subst (λ z. Touches F (B.change i (suc n)) z) e ((whole.logged i n lo hi).tracks b x h).0),
  )
]
  where
    never : (n : ℕ) → B.low i ≤ n → since l ≤ n → n < B.answered i → Touches F (B.change i (suc n)) l → ⊥
    never n lo after hi t = let p = numbers.touched n l lo after hi t in absurd (omega arith)

pub number_tells : (F : Files) (B : Book F) (D : Disk F) (i : ℕ) (l : F.Lock) (since last : F.Lock → ℕ) → Whole F B → NumbersStand F B i since last
    → IsRevoked F B D i l → last l ≤ B.low i → MayGo F B D i l
number_tells F B D i l since last whole numbers unlive low = record { unlive = unlive; untouched = number_flushes F B i l since last whole numbers low }

pub calm_untouched : (F : Files) (B : Book F) (i lo hi b : ℕ) → Whole F B → B.low i ≤ lo → hi ≤ B.answered i → Calm F B i lo hi → Untouched F B i lo hi b
calm_untouched F B i lo hi b whole low high quiet n l h = ((whole.logged i n (omega arith) (omega arith)).tells).empty (quiet n l h) b

-- ---- reads

pub read_is_right : (F : Files) (B : Book F) (D : Disk F) (j b : ℕ) → Whole F B → Mirror F B D → (B.state j (LockOf F (W F B (B.answered) b)) ≡ Un → ⊥)
    → (B.owner b ≡ Some j → Untouched F B j (B.low j) (B.answered j) b × ((v : F.Content) → (D.heads j false).live b ≡ Some v → D.blocks b ≡ v))
    → Near F (D.blocks b) (W F B (B.answered) b)
read_is_right F B D j b whole m held home = elim ((seen_by_lock F B whole j b held).owner) [
  | inl nobody ↦ subst (λ x. Near F (D.blocks b) x) (sym (whose-none _ _ nobody)) (m.nobody b nobody)
  | inr own ↦ subst (λ x. Near F (D.blocks b) x) (sym (whose-some _ _ own))
      (subst (λ x. Near F (D.blocks b) x)
      (sym (let c = m.cuts j false in let q = whole.published_answered j in steady F B whole j b own ((D.heads j false).cut) (B.answered j) (c.0) (omega arith) (omega arith) (λ n low high. (home own).0 n (omega arith) high)))
      (subst (λ d. Near F d (B.says j ((D.heads j false).cut) b)) (is-home own) (m.owned j false b own)))
]
  where
    is-home : B.owner b ≡ Some j → laid ((D.heads j false).live b) (D.blocks b) ≡ D.blocks b
    is-home own = elim (split ((D.heads j false).live b)) [
      | inl none ↦ laid-none _ none
      | inr some ↦ laid-some _ (some.1) ∙ sym ((home own).1 (some.0) (some.1))
    ]
