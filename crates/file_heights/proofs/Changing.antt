-- Which blocks a draft changes, one change after another.
use Rattle.std.proofs.Common.{◌≡◌, ◌⊎◌, inl, inr, Result, Ok, Err, OnOk, ℕ, sym, ap, subst, ◌∙◌}
use Rattle.std.proofs.lemmas.Bool.{cases_eq}
use Rattle.std.specs.Cmp.{nat_cmp_total}
use Rattle.std.specs.FinMap.{FinMap, insert, nat_cmp-IsAntisymmetric}
use Rattle.std.specs.Ordering.{nat_cmp}
use Rattle.drafts.specs.Fates.{Drafted}
use Rattle.drafts.specs.declared.fate.Fate.{Fate}
use Rattle.finite_maps.proofs.Keys.{inserted_apart}
use Rattle.file_fills.specs.Causes.{ChangesOnly}

pub changes_one : (old : FinMap nat_cmp Fate) (x : ℕ) (fate : Fate) → ChangesOnly old (insert old x fate) (λ b. b ≡ x)
changes_one old x fate b = elim (cases_eq b x) [
  | inl e ↦ inr e
  | inr other ↦ inl (inserted_apart nat_cmp_total nat_cmp-IsAntisymmetric old x fate b other)
]

pub changes_then : (f0 f1 f2 : FinMap nat_cmp Fate) (P Q R : ℕ → Type 0) → ((b : ℕ) → P b → R b) → ((b : ℕ) → Q b → R b) → ChangesOnly f0 f1 P → ChangesOnly f1 f2 Q → ChangesOnly f0 f2 R
changes_then f0 f1 f2 P Q R before after first second b = elim (second b) [
  | inr is ↦ inr (after b is)
  | inl same ↦ elim (first b) [
    | inr is ↦ inr (before b is)
    | inl still ↦ inl (same ∙ still)
  ]
]

pub changes_two : (old : FinMap nat_cmp Fate) (x y : ℕ) (fate fate' : Fate) → ChangesOnly old (insert (insert old x fate) y fate') (λ b. (b ≡ x) ⊎ (b ≡ y))
changes_two old x y fate fate' =
    changes_then old (insert old x fate) (insert (insert old x fate) y fate') (λ b. b ≡ x) (λ b. b ≡ y) (λ b. (b ≡ x) ⊎ (b ≡ y)) (λ b e. inl e) (λ b e. inr e)
    (changes_one old x fate) (changes_one (insert old x fate) y fate')

pub changes_wider : (old new : FinMap nat_cmp Fate) (P Q : ℕ → Type 0) → ((b : ℕ) → P b → Q b) → ChangesOnly old new P → ChangesOnly old new Q
changes_wider old new P Q more changes b = elim (changes b) [
  | inl same ↦ inl same
  | inr is ↦ inr (more b is)
]

-- as a draft tells it
pub changes_of : {V : Type 0} (old now : Drafted V) (fates : FinMap nat_cmp Fate) (P : ℕ → Type 0) → now ≡ record old { fates = fates } → ChangesOnly old.fates fates P → ChangesOnly old.fates now.fates P
changes_of {V} old now fates P is changes = subst (λ m. ChangesOnly old.fates m P) (sym (ap (λ (d : Drafted V). d.fates) is)) changes

-- of what is said twice of an answer
pub on_both : {E : Type 0} (r : Result Unit E) (P Q R : Type 0) → (P → Q → R) → OnOk r P → OnOk r Q → OnOk r R
on_both (Ok u) P Q R to p q = to p q
on_both (Err e) P Q R to p q = tt
