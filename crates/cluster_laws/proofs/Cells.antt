-- Small facts on the parts of a book.
use Rattle.std.proofs.Common.{ℕ, ◌≡◌, ◌≤◌, ◌<◌, ◌⊎◌, inl, inr, suc, true, false, Option, None, Some, refl, sym, ap, ◌∙◌, subst, arith}
use Rattle.std.specs.Prelude.{◌==◌, nat_lt}
use Rattle.std.proofs.lemmas.Bool.{cases_eq, cond-true, cond-false, eq-eqb}
use Rattle.std.proofs.lemmas.Bool.Decides.{nat_tests, eqb_tells}
use Rattle.cluster_laws.specs.Files.{Files, CellOf, Part, LockOf, laid, Does, Tells, Touches, State, Un, Ex}
use Rattle.cluster_laws.specs.Book.{at, Book, whose, W, mine, InBox, Seen, Past, Logged, Whole}

pub split : {A : Type 0} (o : Option A) → (o ≡ None) ⊎ ((x : A) × (o ≡ Some x))
split None = inl refl
split (Some x) = inr (x, refl)

pub inside : {A : Type 0} {x y : A} → Some x ≡ Some y → x ≡ y
inside e = cc

pub none-some : {A : Type 0} {o : Option A} {x : A} → o ≡ None → o ≡ Some x → ⊥
none-some e f = cc

pub ex-held : {s : State} → s ≡ Ex → s ≡ Un → ⊥
ex-held e f = cc

pub eqb-false : (i j : ℕ) → (i ≡ j → ⊥) → (i == j) ≡ false
eqb-false i j ne = elim (eqb_tells i j) [ inl h ↦ absurd (ne h.1) | inr h ↦ h.0 ]

pub ltb-true : (i j : ℕ) → i < j → nat_lt i j ≡ true
ltb-true i j h = grind (arith, nat_tests)

pub ltb-false : (i j : ℕ) → j ≤ i → nat_lt i j ≡ false
ltb-false i j h = grind (arith, nat_tests)

pub at-same : {A : Type 0} (f : ℕ → A) (j : ℕ) (x : A) → at f j x j ≡ x
at-same f j x = cond-true (j == j) x (f j) (eq-eqb j j refl)

pub at-other : {A : Type 0} (f : ℕ → A) (j : ℕ) (x : A) (i : ℕ) → (i ≡ j → ⊥) → at f j x i ≡ f i
at-other f j x i ne = cond-false (i == j) x (f i) (eqb-false i j ne)

pub whose-none : {A : Type 0} {o : Option ℕ} (g : A) (s : ℕ → A) → o ≡ None → whose o g s ≡ g
whose-none g s e = ap (λ o. whose o g s) e

pub whose-some : {A : Type 0} {o : Option ℕ} {i : ℕ} (g : A) (s : ℕ → A) → o ≡ Some i → whose o g s ≡ s i
whose-some g s e = ap (λ o. whose o g s) e

pub laid-none : {A : Type 0} {o : Option A} (y : A) → o ≡ None → laid o y ≡ y
laid-none y e = ap (λ o. laid o y) e

pub laid-some : {A : Type 0} {o : Option A} {x : A} (y : A) → o ≡ Some x → laid o y ≡ x
laid-some y e = ap (λ o. laid o y) e

-- a cell that j sees at its cut n is what every image has in which j's cut is n
pub seen_in : (F : Files) (B : Book F) (j n b : ℕ) (x : CellOf F) (cut : ℕ → ℕ) → Seen F B j n b x → cut j ≡ n → W F B cut b ≡ x
seen_in F B j n b x cut seen e = elim (seen.owner) [
  | inl none ↦ whose-none (B.unowned b) (λ i. B.says i (cut i) b) none ∙ sym (whose-none (B.unowned b) (λ i. B.says j n b) none) ∙ seen.cell
  | inr some ↦ whose-some (B.unowned b) (λ i. B.says i (cut i) b) some ∙ ap (λ k. B.says j k b) e ∙ sym (whose-some (B.unowned b) (λ i. B.says j n b) some) ∙ seen.cell
]

-- what j has where it is the owner or nobody is
pub mine-W : (F : Files) (B : Book F) (j b : ℕ) (cut : ℕ → ℕ) → ((B.owner b ≡ None) ⊎ (B.owner b ≡ Some j)) → mine F B j (cut j) b ≡ W F B cut b
mine-W F B j b cut (inl none) = whose-none (B.unowned b) (λ i. B.says j (cut j) b) none ∙ sym (whose-none (B.unowned b) (λ i. B.says i (cut i) b) none)
mine-W F B j b cut (inr some) = whose-some (B.unowned b) (λ i. B.says j (cut j) b) some ∙ sym (whose-some (B.unowned b) (λ i. B.says i (cut i) b) some)

pub full : (F : Files) (B : Book F) → Whole F B → InBox F B (B.answered)
full F B whole i = let p = whole.low_published i in let q = whole.published_answered i in (omega arith, omega arith)

-- a past call, given what its view, its reply and its change are
pub past_by : (F : Files) (B : Book F) (i m : ℕ) (v : Part F) (said : F.Said) (c : Part F)
    → B.view i (suc m) ≡ v → B.told i (suc m) ≡ said → B.change i (suc m) ≡ c
    → Does F v said c
    → ((b : ℕ) (x : CellOf F) → v b ≡ Some x → Seen F B i m b x)
    → Past F B i m
past_by F B i m v said c ev es ec does seen = record {
  does = subst (λ z. Does F z (B.told i (suc m)) (B.change i (suc m))) (sym ev)
      (subst (λ z. Does F v z (B.change i (suc m))) (sym es) (subst (λ z. Does F v said z) (sym ec) does));
  seen = λ b x h. seen b x (sym (ap (λ f. f b) ev) ∙ h);
}

pub logged_by : (F : Files) (B : Book F) (i m : ℕ) (said : F.Said) (c : Part F) → B.told i (suc m) ≡ said → B.change i (suc m) ≡ c
    → ((b : ℕ) (x : CellOf F) → c b ≡ Some x → B.owner b ≡ Some i)
    → ((b : ℕ) → B.owner b ≡ Some i → B.says i (suc m) b ≡ laid (c b) (B.says i m b))
    → Tells F said c
    → ((b : ℕ) (x : CellOf F) → c b ≡ Some x → Touches F c (LockOf F (B.says i m b)) × Touches F c (LockOf F x))
    → Logged F B i m
logged_by F B i m said c es ec touched says tells tracks = record {
  touched = λ b x h. touched b x (sym (ap (λ f. f b) ec) ∙ h);
  says = λ b h. says b h ∙ sym (ap (λ f. laid (f b) (B.says i m b)) ec);
  tells = subst (λ z. Tells F z (B.change i (suc m))) (sym es) (subst (λ z. Tells F said z) (sym ec) tells);
  tracks = λ b x h. subst (λ z. Touches F z (LockOf F (B.says i m b)) × Touches F z (LockOf F x)) (sym ec) (tracks b x (sym (ap (λ f. f b) ec) ∙ h));
}

-- what holds of a function with one value given anew
pub at-cases : {A : Type 0} (P : A → Type 0) (f : ℕ → A) (j : ℕ) (x : A) (i : ℕ) → (i ≡ j → P x) → ((i ≡ j → ⊥) → P (f i)) → P (at f j x i)
at-cases P f j x i here there = elim (cases_eq i j) [
  | inl e ↦ subst P (sym (subst (λ k. at f j x k ≡ x) (sym e) (at-same f j x))) (here e)
  | inr ne ↦ subst P (sym (at-other f j x i ne)) (there ne)
]
