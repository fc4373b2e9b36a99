-- Histories with losses that are not there yet: they are legal, and keep what the cut keeps.
use Rattle.std.proofs.Common.{ℕ, suc, ◌+◌, ◌≡◌, ◌≤◌, ◌<◌, ◌⊎◌, inl, inr, Bool, true, false, ◌&&◌, List, [], ◌∷◌, ◌++◌, refl, sym, ap, ◌∙◌, subst, arith}
use Rattle.std.specs.Prelude.{nat_lt, if◌then◌else◌}
use Rattle.std.proofs.lemmas.Bool.{cases_eq, cases_lt, cases_Bool, cond-true, cond-false, eq-eqb}
use Rattle.cluster_laws.specs.Files.{Files, RightTo}
use Rattle.cluster_laws.specs.Book.{at, Kept, Book, W, InBox, kept_by, Numbered, dropped, Whole}
use Rattle.cluster_laws.specs.History.{Item, Called, Gone, living, saids, Legal, Each, calls_of, Fitting, Loss, gones, least, cut_at, Above, HasLife, AreLives}
use Rattle.cluster_laws.specs.Log.{Calm}
use Rattle.cluster_laws.specs.World.{World, Sound}
use Rattle.cluster_laws.specs.Mirror.{Near, IsOutcome, IsReplay, FreeIsFree, placed}
use Rattle.cluster_laws.specs.Laws.{RemainsLegal, PrefixClause, HasLoss, AreLosses, NothingIsUnflushed, AtTheEnd, ImageAtTheEnd, head_cuts}
use Rattle.cluster_laws.proofs.Logging.{steady, calm_untouched}
use Rattle.cluster_laws.proofs.Cells.{split, whose-none, whose-some, ltb-true, ltb-false, eqb-false, at-same, at-other, at-cases}
use Rattle.cluster_laws.proofs.Replaying.{near, stands_for_what_remains}
use Rattle.cluster_laws.proofs.Histories.{living-gone, Legal-more, calls_of-called, calls_of-gone}

-- the kept calls of a cut, with their nodes and numbers
keep : (F : Files) → (ℕ → ℕ) → List (Kept F) → List (Kept F)
keep F cut [] = []
keep F cut (x ∷ xs) = if nat_lt (cut (x.node)) (x.number) then keep F cut xs else (x ∷ keep F cut xs)

saids-keep : (F : Files) (cut : ℕ → ℕ) (xs : List (Kept F)) → saids F (keep F cut xs) ≡ kept_by F cut xs
unfolding keep
saids-keep F cut [] = refl
saids-keep F cut (x ∷ xs) = elim (cases_Bool (nat_lt (cut (x.node)) (x.number))) [
  | inl e ↦ ap (saids F) (cond-true _ _ _ e) ∙ saids-keep F cut xs ∙ sym (cond-true _ _ _ e)
  | inr e ↦ ap (saids F) (cond-false _ _ _ e) ∙ ap (λ z. x.said ∷ z) (saids-keep F cut xs) ∙ sym (cond-false _ _ _ e)
]

keep-all : (F : Files) (cut : ℕ → ℕ) (xs : List (Kept F)) → Numbered F cut xs → keep F cut xs ≡ xs
unfolding keep
keep-all F cut [] p = refl
keep-all F cut (x ∷ xs) p = cond-false _ _ _ (ltb-false (cut (x.node)) (x.number) (p.0)) ∙ ap (λ z. x ∷ z) (keep-all F cut xs (p.1))

least-is : (a b : ℕ) → ((least a b ≡ b) × (b < a)) ⊎ ((least a b ≡ a) × (a ≤ b))
least-is a b = elim (cases_lt b a) [
  | inl lt ↦ inl (cond-true _ _ _ (ltb-true b a lt), lt)
  | inr ge ↦ inr (cond-false _ _ _ (ltb-false b a ge), ge)
]

least-first : (a b : ℕ) → least a b ≤ a
least-first a b = elim (least-is a b) [ inl l ↦ (let e = l.0 in let h = l.1 in omega arith) | inr l ↦ (let e = l.0 in omega arith) ]

least-second : (a b : ℕ) → least a b ≤ b
least-second a b = elim (least-is a b) [ inl l ↦ (let e = l.0 in omega arith) | inr l ↦ (let e = l.0 in let h = l.1 in omega arith) ]

least-above : (n a b : ℕ) → n ≤ a → n ≤ b → n ≤ least a b
least-above n a b p q = elim (least-is a b) [ inl l ↦ (let e = l.0 in omega arith) | inr l ↦ (let e = l.0 in omega arith) ]

dropped-keep : (F : Files) (i k : ℕ) (cut : ℕ → ℕ) (xs : List (Kept F)) → dropped F i k (keep F cut xs) ≡ keep F (at cut i (least (cut i) k)) xs
unfolding keep
dropped-keep F i k cut [] = refl
dropped-keep F i k cut (x ∷ xs) = let rest = dropped-keep F i k cut xs in elim (cases_eq (x.node) i) [
  | inl e ↦ (let e0 : at cut i (least (cut i) k) (x.node) ≡ least (cut i) k = ap (at cut i (least (cut i) k)) e ∙ at-same cut i (least (cut i) k) in
      let e1 : cut (x.node) ≡ cut i = ap cut e in
      let p = least-first (cut i) k in let q = least-second (cut i) k in elim (cases_lt (cut i) (x.number)) [
        | inl above ↦ ap (dropped F i k) (cond-true _ _ _ (ap (λ z. nat_lt z (x.number)) e1 ∙ ltb-true (cut i) (x.number) above))
            ∙ rest ∙ sym (cond-true _ _ _ (ap (λ z. nat_lt z (x.number)) e0 ∙ ltb-true (least (cut i) k) (x.number) (omega arith)))
        | inr within ↦ ap (dropped F i k) (cond-false _ _ _ (ap (λ z. nat_lt z (x.number)) e1 ∙ ltb-false (cut i) (x.number) within)) ∙ (elim (cases_lt k (x.number)) [
          | inl lt ↦ cond-true _ _ _ (subst (λ z. (z && nat_lt k (x.number)) ≡ true) (sym (eq-eqb _ _ (sym e))) (ltb-true k (x.number) lt))
              ∙ rest ∙ sym (cond-true _ _ _ (ap (λ z. nat_lt z (x.number)) e0 ∙ ltb-true (least (cut i) k) (x.number) (omega arith)))
          | inr ge ↦ (let r = least-above (x.number) (cut i) k within ge in
              cond-false _ _ _ (subst (λ z. (z && nat_lt k (x.number)) ≡ false) (sym (eq-eqb _ _ (sym e))) (ltb-false k (x.number) ge))
              ∙ ap (λ z. x ∷ z) rest ∙ sym (cond-false _ _ _ (ap (λ z. nat_lt z (x.number)) e0 ∙ ltb-false (least (cut i) k) (x.number) r)))
        ])
      ])
  | inr ne ↦ (let e0 : at cut i (least (cut i) k) (x.node) ≡ cut (x.node) = at-other cut i (least (cut i) k) (x.node) ne in elim (cases_Bool (nat_lt (cut (x.node)) (x.number))) [
    | inl lt ↦ ap (dropped F i k) (cond-true _ _ _ lt) ∙ rest ∙ sym (cond-true _ _ _ (ap (λ z. nat_lt z (x.number)) e0 ∙ lt))
    | inr ge ↦ ap (dropped F i k) (cond-false _ _ _ ge)
        ∙ cond-false _ _ _ (subst (λ z. (z && nat_lt k (x.number)) ≡ false) (sym (eqb-false _ _ (λ e. ne (sym e)))) refl)
        ∙ ap (λ z. x ∷ z) rest ∙ sym (cond-false _ _ _ (ap (λ z. nat_lt z (x.number)) e0 ∙ ge))
  ])
]

append_assoc : {A : Type 0} (xs ys zs : List A) → (xs ++ ys) ++ zs ≡ xs ++ (ys ++ zs)
append_assoc [] ys zs = refl
append_assoc (x ∷ xs) ys zs = ap (λ z. x ∷ z) (append_assoc xs ys zs)

append-nil : {A : Type 0} (xs : List A) → xs ++ [] ≡ xs
append-nil [] = refl
append-nil (x ∷ xs) = ap (λ z. x ∷ z) (append-nil xs)

module _ (F : Files) (B : Book F) (whole : Whole F B) where
  more : (now : ℕ → ℕ) (ls : List Loss) (items : List (Item F)) → InBox F B now → ((i : ℕ) → now i ≤ B.published i) → Above (B.low) ls
      → Legal F items (B.start) → living F items ≡ keep F now (B.kept)
      → Legal F (items ++ gones F ls) (B.start) × (saids F (living F (items ++ gones F ls)) ≡ kept_by F (cut_at now ls) (B.kept))
  more now [] items in_box below above legal told =
      (subst (λ z. Legal F z (B.start)) (sym (append-nil items)) legal, ap (λ z. saids F (living F z)) (append-nil items) ∙ ap (saids F) told ∙ saids-keep F now (B.kept))
  more now (l ∷ ls) items in_box below above legal told =
      let told' : living F (items ++ (Gone (l.node) (l.kept) (l.kept) ∷ [])) ≡ keep F (at now (l.node) (least (now (l.node)) (l.kept))) (B.kept) =
      living-gone F (l.node) (l.kept) (l.kept) items ∙ ap (dropped F (l.node) (l.kept)) told ∙ dropped-keep F (l.node) (l.kept) now (B.kept) in
      let in_box' : InBox F B (at now (l.node) (least (now (l.node)) (l.kept))) = (λ i. at-cases (λ z. (B.low i ≤ z) × (z ≤ B.answered i)) now (l.node) (least (now (l.node)) (l.kept)) i
      (λ e. subst (λ m. (B.low m ≤ least (now (l.node)) (l.kept)) × (least (now (l.node)) (l.kept) ≤ B.answered m)) (sym e)
      (least-above (B.low (l.node)) (now (l.node)) (l.kept) (in_box (l.node)).0 (above.0), (let p = least-first (now (l.node)) (l.kept) in let q = (in_box (l.node)).1 in omega arith))) (λ ne. in_box i)) in
      let below' : (i : ℕ) → at now (l.node) (least (now (l.node)) (l.kept)) i ≤ B.published i = (λ i. at-cases (λ z. z ≤ B.published i) now (l.node) (least (now (l.node)) (l.kept)) i
      (λ e. subst (λ m. least (now (l.node)) (l.kept) ≤ B.published m) (sym e) (let p = least-first (now (l.node)) (l.kept) in let q = below (l.node) in omega arith)) (λ ne. below i)) in
      let r = whole.right (at now (l.node) (least (now (l.node)) (l.kept))) in_box' below' in
      let legal' : Legal F (items ++ (Gone (l.node) (l.kept) (l.kept) ∷ [])) (B.start) = Legal-more F items (Gone (l.node) (l.kept) (l.kept)) (B.start) legal
      (r.0, subst (λ z. RightTo F z (B.start) (r.0)) (sym (ap (saids F) told' ∙ saids-keep F (at now (l.node) (least (now (l.node)) (l.kept))) (B.kept))) (r.2)) in
      let rest = more (at now (l.node) (least (now (l.node)) (l.kept))) ls (items ++ (Gone (l.node) (l.kept) (l.kept) ∷ [])) in_box' below' (above.1) legal' told' in (
        subst (λ z. Legal F z (B.start)) (append_assoc items (Gone (l.node) (l.kept) (l.kept) ∷ []) (gones F ls)) (rest.0),
        ap (λ z. saids F (living F z)) (sym (append_assoc items (Gone (l.node) (l.kept) (l.kept) ∷ []) (gones F ls))) ∙ rest.1,
      )

pub remains_legal : (F : Files) → RemainsLegal F
remains_legal F w ls s above =
    more F (w.book) (s.whole) ((w.book).published) ls (w.items) (λ i. ((s.whole).low_published i, (s.whole).published_answered i)) (λ i. omega arith)
    above (s.legal) (s.told ∙ sym (keep-all F ((w.book).published) ((w.book).kept) ((s.whole).numbered)))

-- ---- lives that leave exactly what a cut has

cut_at-above : (cut now : ℕ → ℕ) (ls : List Loss) → ((i : ℕ) → cut i ≤ now i) → Above cut ls → (i : ℕ) → cut i ≤ cut_at now ls i
cut_at-above cut now [] below above i = below i
cut_at-above cut now (l ∷ ls) below above i = cut_at-above cut (at now (l.node) (least (now (l.node)) (l.kept))) ls
    (λ j. at-cases (λ z. cut j ≤ z) now (l.node) (least (now (l.node)) (l.kept)) j
    (λ e. subst (λ m. cut m ≤ least (now (l.node)) (l.kept)) (sym e) (least-above (cut (l.node)) (now (l.node)) (l.kept) (below (l.node)) (above.0))) (λ ne. below j)) (above.1) i

cut_at-below : (now : ℕ → ℕ) (ls : List Loss) (i : ℕ) → cut_at now ls i ≤ now i
cut_at-below now [] i = omega arith
cut_at-below now (l ∷ ls) i =
    let p = cut_at-below (at now (l.node) (least (now (l.node)) (l.kept))) ls i in
    let q : at now (l.node) (least (now (l.node)) (l.kept)) i ≤ now i = at-cases (λ z. z ≤ now i) now (l.node) (least (now (l.node)) (l.kept)) i
    (λ e. subst (λ m. least (now (l.node)) (l.kept) ≤ now m) (sym e) (least-first (now (l.node)) (l.kept))) (λ ne. omega arith) in omega arith

cut_at-life : (cut now : ℕ → ℕ) (ls : List Loss) (i : ℕ) → HasLife cut i ls → cut_at now ls i ≤ cut i
cut_at-life cut now [] i h = absurd h
cut_at-life cut now (l ∷ ls) i (inl h) =
    let p = cut_at-below (at now (l.node) (least (now (l.node)) (l.kept))) ls i in
    let q : at now (l.node) (least (now (l.node)) (l.kept)) i ≤ l.kept = subst (λ m. at now (l.node) (least (now (l.node)) (l.kept)) m ≤ l.kept) (h.0)
    (subst (λ z. z ≤ l.kept) (sym (at-same now (l.node) (least (now (l.node)) (l.kept)))) (least-second (now (l.node)) (l.kept))) in
    let e = h.1 in omega arith
cut_at-life cut now (l ∷ ls) i (inr h) = cut_at-life cut (at now (l.node) (least (now (l.node)) (l.kept))) ls i h

pub cut_at-lives : (published cut : ℕ → ℕ) (ls : List Loss) → ((i : ℕ) → cut i ≤ published i) → AreLives published cut ls → (i : ℕ) → cut_at published ls i ≡ cut i
cut_at-lives published cut ls below lives i =
    let p = cut_at-above cut published ls below (lives.above) i in elim (lives.every i) [
      | inl all ↦ (let q = cut_at-below published ls i in omega arith)
      | inr life ↦ (let q = cut_at-life cut published ls i life in omega arith)
    ]

pub Above-lower : (low cut : ℕ → ℕ) (ls : List Loss) → ((i : ℕ) → low i ≤ cut i) → Above cut ls → Above low ls
Above-lower low cut [] h above = tt
Above-lower low cut (l ∷ ls) h above = (let p = h (l.node) in let q = above.0 in omega arith, Above-lower low cut ls h (above.1))

pub prefix_clause : (F : Files) → PrefixClause F
prefix_clause F w choice x r ls s free outcome replay lives =
    let cuts : ℕ → ℕ = head_cuts F (w.disk) choice in
    let remains = remains_legal F w ls s (Above-lower ((w.book).low) (head_cuts F (w.disk) choice) ls (λ i. ((s.mirror).cuts i (choice i)).0) (lives.above)) in
    let told : saids F (living F (w.items ++ gones F ls)) ≡ kept_by F (head_cuts F (w.disk) choice) ((w.book).kept) =
    remains.1 ∙ ap (λ z. kept_by F z ((w.book).kept)) (λ k i. cut_at-lives ((w.book).published) (head_cuts F (w.disk) choice) ls (λ i. ((s.mirror).cuts i (choice i)).1) lives i k) in
    let stands = stands_for_what_remains F (w.book) (w.disk) (s.mirror) choice x r outcome replay (s.whole) free in
    (remains.0, (stands.0, stands.1, subst (λ z. RightTo F z ((w.book).start) (stands.0)) (sym told) (stands.2)))

-- ---- losses by the rule, and the end of a run

-- where the calls between two cuts change nothing, their images are one
pub image_same : (F : Files) (B : Book F) → Whole F B → (a b : ℕ → ℕ) → ((i : ℕ) → (B.low i ≤ a i) × (a i ≤ b i) × (b i ≤ B.answered i) × Calm F B i (a i) (b i)) → W F B b ≡ W F B a
image_same F B whole a b between = λ i k. at_block k i
  where
    at_block : (k : ℕ) → W F B b k ≡ W F B a k
    at_block k = elim (split (B.owner k)) [
      | inl nobody ↦ whose-none _ _ nobody ∙ sym (whose-none _ _ nobody)
      | inr some ↦ (let o = some.0 in let h = between o in
          whose-some _ _ (some.1)
          ∙ steady F B whole o k (some.1) (a o) (b o) (h.0) (h.1) (h.2) (calm_untouched F B o (a o) (b o) k whole (h.0) (h.2) (h.3))
          ∙ sym (whose-some _ _ (some.1)))
    ]

cut_at-loss : (F : Files) (B : Book F) (cut now : ℕ → ℕ) (ls : List Loss) (i : ℕ) → HasLoss F B cut i ls
    → (k : ℕ) × (cut_at now ls i ≤ k) × (k ≤ B.answered i) × Calm F B i (cut i) k
cut_at-loss F B cut now [] i h = absurd h
cut_at-loss F B cut now (l ∷ ls) i (inl h) =
    let p = cut_at-below (at now (l.node) (least (now (l.node)) (l.kept))) ls i in
    let q : at now (l.node) (least (now (l.node)) (l.kept)) i ≤ l.kept = subst (λ m. at now (l.node) (least (now (l.node)) (l.kept)) m ≤ l.kept) (h.0)
    (subst (λ z. z ≤ l.kept) (sym (at-same now (l.node) (least (now (l.node)) (l.kept)))) (least-second (now (l.node)) (l.kept))) in
    (l.kept, omega arith, h.1, h.2)
cut_at-loss F B cut now (l ∷ ls) i (inr h) = cut_at-loss F B cut (at now (l.node) (least (now (l.node)) (l.kept))) ls i h

-- what such losses leave of a node is the cut, or more that changes nothing
pub cut_at-losses : (F : Files) (B : Book F) (published cut : ℕ → ℕ) (ls : List Loss) → ((i : ℕ) → cut i ≤ published i) → ((i : ℕ) → published i ≤ B.answered i)
    → AreLosses F B published cut ls → (i : ℕ)
    → (cut i ≤ cut_at published ls i) × (cut_at published ls i ≤ published i) × Calm F B i (cut i) (cut_at published ls i)
cut_at-losses F B published cut ls below top losses i = (
  cut_at-above cut published ls below (losses.above) i,
  cut_at-below published ls i,
  elim (losses.every i) [
    | inl all ↦ (λ n low high. absurd (let q = cut_at-below published ls i in omega arith))
    | inr loss ↦ (let k = cut_at-loss F B cut published ls i loss in let h = k.1 in λ n low high. k.3 n low (omega arith))
  ],
)

-- ---- each number up to a node's last has its item

Each-both : (F : Files) (P Q : Kept F → Type 0) (xs : List (Item F)) → Each F P xs → Each F Q xs → Each F (λ k. P k × Q k) xs
Each-both F P Q [] p q = tt
Each-both F P Q (Called k ∷ xs) p q = ((p.0, q.0), Each-both F P Q xs (p.1) (q.1))
Each-both F P Q (Gone i upto kept ∷ xs) p q = Each-both F P Q xs p q

call-found : (F : Files) (P : Kept F → Type 0) (before rest items : List (Item F)) (i n : ℕ) → items ≡ before ++ rest → Fitting F items → Each F P rest
    → calls_of F i before ≤ n → n < calls_of F i before + calls_of F i rest → (k : Kept F) × P k × (k.node ≡ i) × (k.number ≡ suc n)
call-found F P before [] items i n e fits each low high = absurd (omega arith)
call-found F P before (Gone j upto kept ∷ rest) items i n e fits each low high =
    let same = calls_of-gone F i j upto kept before in
    call-found F P (before ++ (Gone j upto kept ∷ [])) rest items i n (e ∙ sym (append_assoc before (Gone j upto kept ∷ []) rest)) fits each (omega (arith, same, low)) (omega (arith, same, high))
call-found F P before (Called k ∷ rest) items i n e fits each low high = elim (cases_eq (k.node) i) [
  | inl here ↦ (let test = eq-eqb (k.node) i here in
      let now = calls_of-called F i k before ∙ cond-true _ _ _ test in
      let all : calls_of F i (Called k ∷ rest) ≡ suc (calls_of F i rest) = cond-true _ _ _ test in
      elim (cases_eq (calls_of F i before) n) [
        | inl first ↦ (k, each.0, here, fits before rest (Called k) e ∙ ap (λ z. suc (calls_of F z before)) here ∙ ap suc first)
        | inr later ↦ call-found F P (before ++ (Called k ∷ [])) rest items i n (e ∙ sym (append_assoc before (Called k ∷ []) rest)) fits (each.1)
            (omega (arith, now, low, later)) (omega (arith, now, all, high))
      ])
  | inr other ↦ (let test = eqb-false (k.node) i other in
      let now = calls_of-called F i k before ∙ cond-false _ _ _ test in
      let all : calls_of F i (Called k ∷ rest) ≡ calls_of F i rest = cond-false _ _ _ test in
      call-found F P (before ++ (Called k ∷ [])) rest items i n (e ∙ sym (append_assoc before (Called k ∷ []) rest)) fits (each.1)
      (omega (arith, now, low)) (omega (arith, now, all, high)))
]

module _ (F : Files) (w : World F) (s : Sound F w) (free : FreeIsFree F) (choice : ℕ → Bool) (flushed : NothingIsUnflushed F w choice) where
  calm : (i : ℕ) → Calm F (w.book) i (head_cuts F (w.disk) choice i) ((w.book).published i)
  calm i n low high =
      let count = s.counted i in
      let found = call-found F (λ k. (head_cuts F (w.disk) choice (k.node) < k.number → F.Changes (k.said) ≡ false)
      × ((k.number ≤ (w.book).published (k.node)) × (k.said ≡ (w.book).told (k.node) (k.number)))) [] (w.items) (w.items) i n refl (s.fits)
      (Each-both F _ _ (w.items) flushed (s.heard)) (omega arith) (omega (arith, count, high)) in
      let k = found.0 in
      let node : k.node ≡ i = found.2 in
      let number : k.number ≡ suc n = found.3 in
      let above : head_cuts F (w.disk) choice (k.node) < k.number = subst (λ z. head_cuts F (w.disk) choice z < k.number) (sym node) (omega (arith, number, low)) in
      let said : k.said ≡ (w.book).told i (suc n) = ((found.1).1).1 ∙ ap (λ z. (w.book).told z (k.number)) node ∙ ap ((w.book).told i) number in
      sym (ap (F.Changes) said) ∙ (found.1).0 above

  -- the image of all published calls stands for the tree of the history
  all-stands : (t : F.Tree) × F.Stands (W F (w.book) ((w.book).published)) t × RightTo F (saids F (living F (w.items))) ((w.book).start) t
  all-stands =
      let right = (s.whole).right ((w.book).published) (λ i. ((s.whole).low_published i, (s.whole).published_answered i)) (λ i. omega arith) in (
        right.0,
        right.1,
        subst (λ z. RightTo F z ((w.book).start) (right.0))
            (sym (saids-keep F ((w.book).published) ((w.book).kept)) ∙ ap (saids F) (keep-all F ((w.book).published) ((w.book).kept) ((s.whole).numbered)) ∙ ap (saids F) (sym (s.told))) (right.2),
      )

  -- it is the image of the heads
  same-image : W F (w.book) ((w.book).published) ≡ W F (w.book) (λ i. ((w.disk).heads i (choice i)).cut)
  same-image = image_same F (w.book) (s.whole) (λ i. ((w.disk).heads i (choice i)).cut) ((w.book).published)
      (λ i. (let c = (s.mirror).cuts i (choice i) in (c.0, c.1, (s.whole).published_answered i, calm i)))

  pub end-stands : (x r : ℕ → F.Content) → IsOutcome F (w.disk) x → IsReplay F (w.disk) choice x r
      → (t : F.Tree) × F.Stands (placed F r (W F (w.book) ((w.book).published))) t × RightTo F (saids F (living F (w.items))) ((w.book).start) t
  end-stands x r outcome replay = (
    all-stands.0,
    free (W F (w.book) ((w.book).published)) (placed F r (W F (w.book) ((w.book).published))) (all-stands.0) (all-stands.1)
        (λ b. elim (subst (λ m. Near F (r b) (m b)) (sym same-image) (near F (w.book) (w.disk) (s.mirror) choice x r outcome replay b)) [
          | inl e ↦ inl (ap (λ d. record { content = d; place = (W F (w.book) ((w.book).published) b).place }) e)
          | inr f ↦ inr (f, refl)
        ]),
    all-stands.2,
  )

pub at_the_end : (F : Files) → AtTheEnd F
at_the_end F w choice x r s free flushed outcome replay = end-stands F w s free choice flushed x r outcome replay

pub image_at_the_end : (F : Files) → ImageAtTheEnd F
image_at_the_end F w choice s free flushed still none = end-stands F w s free choice flushed ((w.disk).blocks) ((w.disk).blocks) (λ b. inl refl) (λ b. inr ((λ i. none i b), refl))
