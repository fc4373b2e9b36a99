-- How many blocks a draft puts of which each stands in a list, or is the one of its sort.
use Rattle.std.proofs.Common.{◌≡◌, ◌+◌, ◌≤◌, ◌⊎◌, ℕ, suc, inl, inr, Bool, true, List, [], ◌∷◌, length, map, Option, None, Some, refl, sym, ap, subst, ◌∙◌, arith, true≢false}
use Rattle.std.specs.Prelude.{◌==◌, is_some}
use Rattle.std.specs.FinMap.{FinMap, get}
use Rattle.std.specs.Ordering.{nat_cmp}
use Rattle.std.proofs.lemmas.Bool.{cases_eq, cond-false, cond-true, eq-eqb, ne_eqb}
use Rattle.std.proofs.lemmas.Map.Keys.{IsStrictlyIncreasing-from_sorted}
use Rattle.std.proofs.Math.ListN.{length-map}
use Rattle.glock_names.specs.declared.LockName.{LockName}
use Rattle.drafts.specs.Fates.{block_with}
use Rattle.drafts.specs.declared.change.Change.{Change}
use Rattle.drafts.specs.declared.change.Written.{Written}
use Rattle.drafts.specs.declared.fate.Fate.{Fate}
use Rattle.drafts.specs.declared.fate.Fate.TheVariants.{Put, Freed}
use Rattle.image_model.proofs.Members.{IsIn}
use Rattle.image_model.proofs.Rising.{Rising, rising}
use Rattle.image_changes.specs.Does.{bytes_for}
use Rattle.image_changes.specs.Drafted.{IsFinished, IsOfDraft}
use Rattle.image_changes.proofs.Finishing.{finish_makes}
use Rattle.small_changes.proofs.Counting.{no_more}

-- ---- lists

-- each of the list is so, or one is otherwise
search : (P Q : ℕ → Type 0) (xs : List ℕ) → ((x : ℕ) → IsIn x xs → P x ⊎ Q x) → ((x : ℕ) → IsIn x xs → P x) ⊎ ((x : ℕ) × IsIn x xs × Q x)
search P Q [] each = inl (λ x there. elim there [ ])
search P Q (y ∷ ys) each = elim (each y (inl refl)) [
  | inr other ↦ inr (y, inl refl, other)
  | inl so ↦ elim (search P Q ys (λ x there. each x (inr there))) [
    | inr one ↦ inr (one.0, inr one.1, one.2)
    | inl all ↦ inl (first_or so all)
  ]
]
  where
    first_or : P y → ((x : ℕ) → IsIn x ys → P x) → (x : ℕ) → IsIn x (y ∷ ys) → P x
    first_or so all x (inl e) = subst P (sym e) so
    first_or so all x (inr later) = all x later

-- One of a sort adds one: if of these numbers each stands in a list or is otherwise so, or is the one of a sort, they are one more at most than where no sort is told.
pub one_sort : (R Q : ℕ → Type 0) (xs : List ℕ) (n : ℕ) → ((x y : ℕ) → Q x → Q y → x ≡ y) → ((list : List ℕ) → ((x : ℕ) → IsIn x xs → IsIn x list ⊎ R x) → length xs ≤ length list + n)
    → (list : List ℕ) → ((x : ℕ) → IsIn x xs → (IsIn x list ⊎ R x) ⊎ Q x) → length xs ≤ length list + suc n
one_sort R Q xs n one fewer list each = elim (search (λ x. IsIn x list ⊎ R x) Q xs each) [
  | inl all ↦ let few = fewer list all in omega (arith, few)
  | inr found ↦ let few = fewer (found.0 ∷ list) (λ y here. beside found.0 found.2 y (each y here)) in omega (arith, few)
]
  where
    beside : (x : ℕ) → Q x → (y : ℕ) → (IsIn y list ⊎ R y) ⊎ Q y → IsIn y (x ∷ list) ⊎ R y
    beside x is y (inl (inl in_list)) = inl (inr in_list)
    beside x is y (inl (inr other)) = inr other
    beside x is y (inr same) = inl (inl (one y x same is))

-- no sort at all
pub no_sort : (xs list : List ℕ) → Rising xs → ((x : ℕ) → IsIn x xs → IsIn x list ⊎ ⊥) → length xs ≤ length list + 0
no_sort xs list rise each = let few = no_more xs list rise (λ x there. elim (each x there) [ inl here ↦ here | inr never ↦ absurd never ]) in omega (arith, few)

-- ---- the blocks that a draft puts

is_written : (ws : List Written) (b : ℕ) → IsIn b (map (λ (w : Written). w.block) ws) → is_some (bytes_for ws b) ≡ true
is_written [] b there = elim there [ ]
is_written (w ∷ ws) b there = elim (cases_eq w.block b) [
  | inl same ↦ ap is_some (cond-true (w.block == b) (Some w.bytes) (bytes_for ws b) (eq-eqb w.block b same))
  | inr other ↦ ap is_some (cond-false (w.block == b) (Some w.bytes) (bytes_for ws b) (ne_eqb w.block b other)) ∙ is_written ws b (elim there [ inl e ↦ absurd (other (sym e)) | inr later ↦ later ])
]

put_there : (f : Option Fate) → is_some (block_with f None) ≡ true → (lock : LockName) × (plain : Bool) × (bytes : List ℕ) × (f ≡ Some (Put lock plain bytes))
put_there (Some (Put lock plain bytes)) e = (lock, plain, bytes, refl)
put_there (Some Freed) e = absurd (true≢false (sym e))
put_there None e = absurd (true≢false (sym e))

abbrev pub IsPut : FinMap nat_cmp Fate → ℕ → Type 0
IsPut fates b = (lock : LockName) × (plain : Bool) × (bytes : List ℕ) × (get fates b ≡ Some (Put lock plain bytes))

-- a change writes at most so many blocks, if of rising numbers of blocks that are put there are at most so many
pub puts_most : (fates : FinMap nat_cmp Fate) (change : Change) (most : ℕ) → IsFinished fates change
    → ((xs : List ℕ) → Rising xs → ((b : ℕ) → IsIn b xs → IsPut fates b) → length xs ≤ most) → length change.blocks.items ≤ most
puts_most fates change most finished few =
    let d : IsOfDraft fates change = finish_makes fates change finished in
    let numbers : List ℕ = map (λ (w : Written). w.block) change.blocks.items in
    let less = few numbers (rising numbers (IsStrictlyIncreasing-from_sorted numbers d.form.blocks)) (λ b there. put_there (get fates b) (sym (d.puts b) ∙ is_written change.blocks.items b there)) in
    let same : length numbers ≡ length change.blocks.items = length-map change.blocks.items (λ (w : Written). w.block) in
    omega (arith, less, same)
