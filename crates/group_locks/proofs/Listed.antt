-- The list of a call's locks: others, and behind them those of groups.
use Rattle.std.proofs.Common.{◌≡◌, ◌≢◌, ◌||◌, inl, inr, ℕ, zero, suc, ◌+◌, ◌<◌, ◌≤◌, Bool, true, false, true≢false, List, [], ◌∷◌, ◌++◌, refl, sym, ap, ◌∙◌, subst, arith}
use Rattle.std.proofs.lemmas.Bool.{cases_Bool, cond-true, cond-false}
use Rattle.std.proofs.lemmas.List.Elements.{All-nil, All-cons, All-head, All-tail}
use Rattle.std.specs.Prelude.{map, filter}
use Rattle.std.specs.List.{list_any, range_with_len}
use Rattle.gfs2_layout.specs.declared.rindex.Rindex.{Rindex}
use Rattle.glock_names.specs.Views.{Seen, group_of_entry}
use Rattle.glock_names.specs.declared.State.TheVariants.{Ex}
use Rattle.glock_names.specs.declared.views.Group.{Group}
use Rattle.resource_groups.specs.Shown.{group_lock}
use Rattle.image_model.proofs.Members.{IsIn}
use Rattle.path_walks.specs.Holds.{Hold, AreHeld, holds, IsFirstLack, hold_of_group}
use Rattle.group_locks.specs.Groups.{holds_of_those}

-- ---- ranges

pub any_range : (test : ℕ → Bool) (first n : ℕ) → list_any test (range_with_len first n) ≡ true → (b : ℕ) × (first ≤ b) × (b < first + n) × (test b ≡ true)
any_range test first zero e = absurd (true≢false (sym e))
any_range test first (suc n) e = elim (cases_Bool (test first)) [
  | inl here ↦ (first, omega arith, omega arith, here)
  | inr away ↦
      let later = any_range test (first + 1) n (sym (ap (λ x. x || list_any test (range_with_len (first + 1) n)) away) ∙ e) in
      (later.0, omega (arith, later.1), omega (arith, later.2), later.3)
]

pub range_any : (test : ℕ → Bool) (first n b : ℕ) → first ≤ b → b < first + n → test b ≡ true → list_any test (range_with_len first n) ≡ true
range_any test first zero b low high e = absurd (omega (arith, low, high))
range_any test first (suc n) b low high e = elim (cases_Bool (test first)) [
  | inl here ↦ ap (λ x. x || list_any test (range_with_len (first + 1) n)) here
  | inr away ↦
      let other : b ≢ first = λ same. true≢false (sym e ∙ ap test same ∙ away) in
      ap (λ x. x || list_any test (range_with_len (first + 1) n)) away ∙ range_any test (first + 1) n b (omega (arith, low, other)) (omega (arith, high)) e
]

-- ---- the locks of groups

module _ (passes : Rindex → Bool) where
  pub one_more : (g : Rindex) (gs : List Rindex) → passes g ≡ true → holds_of_those passes (g ∷ gs) ≡ hold_of_group (group_of_entry g) ∷ holds_of_those passes gs
  one_more g gs e = ap (map (λ (k : Rindex). hold_of_group (group_of_entry k))) (cond-true _ (g ∷ filter passes gs) (filter passes gs) e)

  pub none_more : (g : Rindex) (gs : List Rindex) → passes g ≡ false → holds_of_those passes (g ∷ gs) ≡ holds_of_those passes gs
  none_more g gs e = ap (map (λ (k : Rindex). hold_of_group (group_of_entry k))) (cond-false _ (g ∷ filter passes gs) (filter passes gs) e)

  -- each group that has some has its place in the list
  pub record IsPlacedIn (list : List Hold) (g : Rindex) : Type 0 where
    pub front : List Hold
    pub back : List Hold
    pub split : list ≡ front ++ hold_of_group (group_of_entry g) ∷ back

  pub placed_in : (gs : List Rindex) (g : Rindex) → IsIn g gs → passes g ≡ true → IsPlacedIn (holds_of_those passes gs) g
  placed_in [] g at some = elim at [ ]
  placed_in (k ∷ gs) g (inl e) some = record {
    front = [];
    back = holds_of_those passes gs;
    split = one_more k gs (ap passes (sym e) ∙ some) ∙ ap (λ (x : Rindex). hold_of_group (group_of_entry x) ∷ holds_of_those passes gs) (sym e);
  }
  placed_in (k ∷ gs) g (inr at) some =
      let later = placed_in gs g at some in
      elim (cases_Bool (passes k)) [
        | inl e ↦ record { front = hold_of_group (group_of_entry k) ∷ later.front; back = later.back; split = one_more k gs e ∙ ap (λ x. hold_of_group (group_of_entry k) ∷ x) later.split }
        | inr e ↦ record { front = later.front; back = later.back; split = none_more k gs e ∙ later.split }
      ]

module _ (v : Seen) (passes : Rindex → Bool) (P : Group → Type 0) (so : (g : Rindex) → passes g ≡ true → P (group_of_entry g)) (from_some : (g : Rindex) → P (group_of_entry g) → passes g ≡ true) where
  -- where the locks of all groups that have some are held, these are
  pub groups_held : (gs : List Rindex) → ((g : Rindex) → IsIn g gs → P (group_of_entry g) → holds v (hold_of_group (group_of_entry g)) ≡ true) → AreHeld v (holds_of_those passes gs)
  groups_held [] held = All-nil (λ k. holds v k ≡ true)
  groups_held (g ∷ gs) held = elim (cases_Bool (passes g)) [
    | inl e ↦ subst (AreHeld v) (sym (one_more passes g gs e)) (All-cons (λ k. holds v k ≡ true) (hold_of_group (group_of_entry g)) (holds_of_those passes gs) (held g (inl refl) (so g e)) (groups_held gs (λ k at. held k (inr at))))
    | inr e ↦ subst (AreHeld v) (sym (none_more passes g gs e)) (groups_held gs (λ k at. held k (inr at)))
  ]

  -- the first group that isn't held is the first lock that isn't
  pub first_lack : (gs : List Rindex) (front : List Group) (group : Group) (rest : List Group) → map group_of_entry gs ≡ front ++ group ∷ rest → P group → holds v (hold_of_group group) ≡ false
      → ((k : Group) → IsIn k front → P k → holds v (hold_of_group k) ≡ true) → IsFirstLack v (holds_of_those passes gs) (group_lock group) Ex
  first_lack [] [] group rest split some lacks held = cc
  first_lack [] (k ∷ front) group rest split some lacks held = cc
  first_lack (g ∷ gs) [] group rest split some lacks held =
      let is : group_of_entry g ≡ group = head_same split in
      let e : passes g ≡ true = from_some g (subst (λ x. P x) (sym is) some) in
      record {
        front = [];
        back = holds_of_those passes gs;
        split = one_more passes g gs e ∙ ap (λ (x : Group). hold_of_group x ∷ holds_of_those passes gs) is;
        held = All-nil (λ k. holds v k ≡ true);
        lacks = lacks;
      }
    where
      head_same : {X : Type 0} {x y : X} {xs ys : List X} → x ∷ xs ≡ y ∷ ys → x ≡ y
      head_same e = cc
  first_lack (g ∷ gs) (k ∷ front) group rest split some lacks held =
      let is : group_of_entry g ≡ k = head_same split in
      let later = first_lack gs front group rest (tail_same split) some lacks (λ x at. held x (inr at)) in
      elim (cases_Bool (passes g)) [
        | inr e ↦ subst (λ list. IsFirstLack v list (group_lock group) Ex) (sym (none_more passes g gs e)) later
        | inl e ↦ subst (λ list. IsFirstLack v list (group_lock group) Ex) (sym (one_more passes g gs e)) (record {
          front = hold_of_group (group_of_entry g) ∷ later.front;
          back = later.back;
          split = ap (λ x. hold_of_group (group_of_entry g) ∷ x) later.split;
          held = All-cons (λ x. holds v x ≡ true) (hold_of_group (group_of_entry g)) later.front (ap (λ x. holds v (hold_of_group x)) is ∙ held k (inl refl) (subst (λ x. P x) is (so g e))) later.held;
          lacks = later.lacks;
        })
      ]
    where
      head_same : {X : Type 0} {x y : X} {xs ys : List X} → x ∷ xs ≡ y ∷ ys → x ≡ y
      head_same e = cc

      tail_same : {X : Type 0} {x y : X} {xs ys : List X} → x ∷ xs ≡ y ∷ ys → xs ≡ ys
      tail_same e = cc

-- a list that is held is held up to each of its places
pub held_upto : (v : Seen) (front back : List Hold) (x : Hold) → AreHeld v (front ++ x ∷ back) → AreHeld v (front ++ x ∷ [])
held_upto v [] back x held = All-cons (λ k. holds v k ≡ true) x [] (All-head (λ k. holds v k ≡ true) x back held) (All-nil (λ k. holds v k ≡ true))
held_upto v (y ∷ front) back x held =
    All-cons (λ k. holds v k ≡ true) y (front ++ x ∷ []) (All-head (λ k. holds v k ≡ true) y (front ++ x ∷ back) held) (held_upto v front back x (All-tail (λ k. holds v k ≡ true) y (front ++ x ∷ back) held))
