-- Lists that are added to.
use Rattle.std.proofs.Common.{◌≡◌, ◌+◌, ◌<◌, ◌⊎◌, inl, inr, ℕ, List, [], ◌∷◌, ◌++◌, length, Some, sym, ap, subst, ◌∙◌, arith}
use Rattle.std.specs.Prelude.{Contains, slice_get}
use Rattle.std.proofs.lemmas.Bool.{cases_lt}
use Rattle.std.proofs.lemmas.Option.{get_or_from_slice_get, slice_get-get_or, slice_get_within}
use Rattle.hash_dirs.proofs.Gathered.{in_back, in_front, in_one, none_in, one_there, the_one}
use Rattle.image_journals.specs.Adding.{AreAdded}

pub added_none : (xs : List ℕ) (P : ℕ → Type 0) → ((x : ℕ) → P x → ⊥) → AreAdded xs xs P
added_none xs P none = record { stay = λ x has. has; come = λ x p. absurd (none x p); only = λ x has. inl has }

pub added_one : (olds news : List ℕ) (y : ℕ) → news ≡ olds ++ y ∷ [] → AreAdded olds news (λ x. x ≡ y)
added_one olds news y is = record {
  stay = λ x has. subst (λ xs. Contains xs x) (sym is) (in_front olds (y ∷ []) x has);
  come = λ x e. subst (λ xs. Contains xs x) (sym is) (in_back olds (y ∷ []) x (subst (Contains (y ∷ [])) (sym e) (one_there y)));
  only = λ x has. elim (in_one olds (y ∷ []) x (subst (λ xs. Contains xs x) is has)) [ inl old ↦ inl old | inr new ↦ inr (the_one x y new) ];
}

pub added_both : (a b c : List ℕ) (P Q : ℕ → Type 0) → AreAdded a b P → AreAdded b c Q → AreAdded a c (λ x. P x ⊎ Q x)
added_both a b c P Q first more = record {
  stay = λ x has. more.stay x (first.stay x has);
  come = λ x some. elim some [ inl p ↦ more.stay x (first.come x p) | inr q ↦ more.come x q ];
  only = λ x has. elim (more.only x has) [
    | inl old ↦ elim (first.only x old) [ inl older ↦ inl older | inr p ↦ inr (inl p) ]
    | inr q ↦ inr (inr q)
  ];
}

pub added_as : (a b : List ℕ) (P Q : ℕ → Type 0) → AreAdded a b P → ((x : ℕ) → P x → Q x) → ((x : ℕ) → Q x → P x) → AreAdded a b Q
added_as a b P Q are there back = record {
  stay = are.stay;
  come = λ x q. are.come x (back x q);
  only = λ x has. elim (are.only x has) [ inl old ↦ inl old | inr p ↦ inr (there x p) ];
}

-- ---- elements by their places

pub contained_at : {X : Type 0} (xs : List X) (x : X) → Contains xs x → (k : ℕ) × (k < length xs) × (slice_get xs k ≡ Some x)
contained_at xs x has = (has.0, has.1, slice_get-get_or xs has.0 x has.1 ∙ ap Some has.2)

pub contained_by : {X : Type 0} (xs : List X) (k : ℕ) (x : X) → slice_get xs k ≡ Some x → Contains xs x
contained_by xs k x there = (k, slice_get_within xs k x there, get_or_from_slice_get xs k x x there)

-- one of the first so many
abbrev pub IsAmongFirst : List ℕ → ℕ → ℕ → Type 0
IsAmongFirst xs n x = (k : ℕ) × (k < n) × (slice_get xs k ≡ Some x)

pub parted : (k n : ℕ) → k < n + 1 → (k < n) ⊎ (k ≡ n)
parted k n low = elim (cases_lt k n) [ inl less ↦ inl less | inr more ↦ inr (omega (arith, low, more)) ]

-- what was added to an empty list is all that there is
pub all_of : (olds news row : List ℕ) (P : ℕ → Type 0) → olds ≡ [] → AreAdded olds news P → row ≡ news → ((x : ℕ) → Contains row x → P x) × ((x : ℕ) → P x → Contains row x)
all_of olds news row P none are same = (
  λ x has. elim (are.only x (subst (λ xs. Contains xs x) same has)) [
    | inl old ↦ absurd (none_in x (subst (λ xs. Contains xs x) none old))
    | inr p ↦ p
  ],
  λ x p. subst (λ xs. Contains xs x) (sym same) (are.come x p),
)
