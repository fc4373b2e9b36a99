-- A call that removes a name writes few blocks.
use Rattle.std.proofs.Common.{◌≡◌, ◌+◌, ◌≤◌, ℕ, inl, inr, Bool, List, ◌∷◌, length, Some, sym, ap, ◌∙◌, arith}
use Rattle.std.specs.Prelude.{Contains}
use Rattle.std.specs.FinMap.{FinMap, get}
use Rattle.std.specs.Ordering.{nat_cmp}
use Rattle.std.proofs.lemmas.Bool.{cases_eq}
use Rattle.file_tree.specs.Tree.{Tree}
use Rattle.file_tree.specs.declared.call.Call.{Call}
use Rattle.glock_names.specs.Views.{Seen}
use Rattle.glock_names.specs.declared.LockName.{LockName}
use Rattle.drafts.specs.declared.change.Change.{Change}
use Rattle.drafts.specs.declared.fate.Fate.{Fate}
use Rattle.drafts.specs.declared.fate.Fate.TheVariants.{Put, Freed}
use Rattle.image_model.specs.Image.{Image}
use Rattle.image_model.specs.Owners.{Owners}
use Rattle.image_model.specs.Profile.{group_length}
use Rattle.image_model.specs.Stands.{Layout}
use Rattle.image_model.proofs.Members.{IsIn}
use Rattle.removing_calls.specs.Removing.{IsRemovedBy}
use Rattle.small_changes.specs.Counting.{IsOfProfile, RemovalsAreSmall}
use Rattle.small_changes.proofs.Counting.{headers, headers_many, in_headers, in_or_not, not_none, puts_few}

-- the view's groups have as many headers and bitmaps as the image's
pub headers_of : (v : Seen) (im : Image) (o : Owners) (l : Layout) (t : Tree) → IsOfProfile v im o l t → length (headers v.groups) ≡ group_length l.groups
headers_of v im o l t of = ap (λ gs. length (headers gs)) (sym of.is.groups) ∙ headers_many l.groups

module _ {V : Type 0} (seen : V → Seen) (view : V) (call : Call) (time : ℕ) (change : Change) (is : IsRemovedBy seen view call time change) where
  abbrev fates : FinMap nat_cmp Fate
  fates = is.is.freed.fates

  -- what is put is in the directory, or of a group
  abbrev list : List ℕ
  list = is.directory ∷ is.is.leaf ∷ headers (seen view).groups

  module _ (b : ℕ) (lock : LockName) (plain : Bool) (bytes : List ℕ) (put : get fates b ≡ Some (Put lock plain bytes)) where
    stays : Contains is.blocks b → ⊥
    stays there = freed_put (sym (is.is.freed.frees.freed b there) ∙ put)
      where
        freed_put : Some Freed ≡ Some (Put lock plain bytes) → ⊥
        freed_put e = cc

    in_directory : (IsIn b (headers (seen view).groups) → ⊥) → IsIn b list
    in_directory off = elim (cases_eq b is.directory) [
      | inl same ↦ inl same
      | inr other ↦ elim (cases_eq b is.is.leaf) [
        | inl same ↦ inr (inl same)
        | inr apart ↦
            let kept : get fates b ≡ get is.is.fates b = is.is.freed.rest.others b stays (λ g has some head. off (in_headers (seen view).groups g b has head)) in
            absurd (not_none (get fates b) (get is.is.fates b) (Put lock plain bytes) kept (is.is.taken.others b other apart) put)
      ]
    ]

    in_list : IsIn b list
    in_list = elim (in_or_not (headers (seen view).groups) b) [ inl head ↦ inr (inr head) | inr off ↦ in_directory off ]

  pub few : length change.blocks.items ≤ 2 + length (headers (seen view).groups)
  few = omega (arith, puts_few fates change is.is.freed.finished list in_list)

pub removals_are_small : {V : Type 0} (seen : V → Seen) → RemovalsAreSmall seen
removals_are_small seen view im o l t call time change of is =
    let some : length change.blocks.items ≤ 2 + length (headers (seen view).groups) = few seen view call time change is in
    let many : length (headers (seen view).groups) ≡ group_length l.groups = headers_of (seen view) im o l t of in
    omega (arith, some, many, of.few)
