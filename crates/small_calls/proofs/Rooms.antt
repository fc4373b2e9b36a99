-- The blocks that a node finds for a call are free in the image, each of them once.
use Rattle.std.proofs.Common.{◌≡◌, ◌<◌, ◌⊎◌, ℕ, zero, suc, inl, inr, List, [], ◌∷◌, take, refl, sym, ap, subst, ◌∙◌, arith}
use Rattle.std.specs.Prelude.{Contains}
use Rattle.std.specs.List.{AllByRecursion}
use Rattle.std.proofs.lemmas.Bool.{cases_Bool, cond-false, cond-true}
use Rattle.std.proofs.lemmas.List.{append-nil}
use Rattle.file_tree.specs.Tree.{Tree}
use Rattle.glock_names.specs.Views.{HasGroup, IsView, Seen}
use Rattle.glock_names.specs.declared.views.Group.{Group}
use Rattle.growth_drafts.specs.Taken.{IsDistinct}
use Rattle.resource_groups.specs.Shown.{said}
use Rattle.image_model.specs.Image.{Image}
use Rattle.image_model.specs.Owners.{Owners}
use Rattle.image_model.specs.Stands.{Layout}
use Rattle.image_model.proofs.Counts.{all_in}
use Rattle.image_model.proofs.Members.{IsIn, contained, from_flat_map, is_in}
use Rattle.image_model.proofs.Rising.{Rising}
use Rattle.image_changes.specs.Does.{IsOf}
use Rattle.draft_changes.specs.Resizing.{IsSaidFree}
use Rattle.file_calls.specs.Holds.{hold_of_group}
use Rattle.file_calls.specs.FoundBlocks.{free_for, free_in, free_in_all, have_too_few}
use Rattle.file_calls.specs.FoundSearches.{AreShown}
use Rattle.file_calls.proofs.Free.{all_rise, free_rises, from_free}
use Rattle.file_calls.proofs.FoundInImage.{are_shown, said_free}

-- numbers that rise stand once each
pub distinct : (xs : List ℕ) → Rising xs → IsDistinct xs
distinct [] r = tt
distinct (x ∷ xs) r = ((λ has. let less : x < x = all_in (λ y. x < y) x xs r.0 (is_in x xs has) in absurd (omega (arith, less))), distinct xs r.1)

-- ---- fronts of lists

in_front : (n b : ℕ) (xs : List ℕ) → IsIn b (take n xs) → IsIn b xs
in_front zero b xs there = elim there [ ]
in_front (suc n) b [] there = elim there [ ]
in_front (suc n) b (x ∷ xs) (inl e) = inl e
in_front (suc n) b (x ∷ xs) (inr later) = inr (in_front n b xs later)

all_front : (P : ℕ → Type 0) (n : ℕ) (xs : List ℕ) → AllByRecursion P xs → AllByRecursion P (take n xs)
all_front P zero xs all = tt
all_front P (suc n) [] all = tt
all_front P (suc n) (x ∷ xs) all = (all.0, all_front P n xs all.1)

rising_front : (n : ℕ) (xs : List ℕ) → Rising xs → Rising (take n xs)
rising_front zero xs rise = tt
rising_front (suc n) [] rise = tt
rising_front (suc n) (x ∷ xs) rise = (all_front (λ y. x < y) n xs rise.0, rising_front n xs rise.1)

module _ (v : Seen) (im : Image) (o : Owners) (l : Layout) (t : Tree) (of : IsOf v im o l t) (own : Group) (has_own : HasGroup v own) (need : ℕ) (room : List ℕ) (first : AreShown v im.at → room ≡ free_for (said im.at) v.groups own need) where
  room_is : room ≡ free_for (said im.at) v.groups own need
  room_is = first (are_shown v im o l t of)

  -- it is the front of the free blocks of all groups, or of the node's own
  front : (room ≡ take need (free_in_all (said im.at) v.groups)) ⊎ (room ≡ take need (free_in (said im.at) own))
  front = elim (cases_Bool (have_too_few (said im.at) (own ∷ []) need)) [
    | inl few ↦ inl (room_is ∙ ap (take need) (cond-true (have_too_few (said im.at) (own ∷ []) need) (free_in_all (said im.at) v.groups) (free_in_all (said im.at) (own ∷ [])) few))
    | inr many ↦ inr (room_is ∙ ap (take need) (cond-false (have_too_few (said im.at) (own ∷ []) need) (free_in_all (said im.at) v.groups) (free_in_all (said im.at) (own ∷ [])) many ∙ append-nil (free_in (said im.at) own)))
  ]

  free_of : (g : Group) → HasGroup v g → (b : ℕ) → IsIn b (free_in (said im.at) g) → IsSaidFree im l b
  free_of g has b there =
      let free = from_free (said im.at) g b there in
      said_free v im o l t of (hold_of_group g ∷ []) b (record { group = g; has = has; data_block = free.data_block; free = free.free; listed = (0, omega arith, refl) })

  pub room_said : (b : ℕ) → Contains room b → IsSaidFree im l b
  room_said b there = elim front [
    | inl all ↦
        let found = from_flat_map (free_in (said im.at)) b v.groups (in_front need b (free_in_all (said im.at) v.groups) (subst (IsIn b) all (is_in b room there))) in
        free_of found.0 (contained found.0 v.groups found.1) b found.2
    | inr mine ↦ free_of own has_own b (in_front need b (free_in (said im.at) own) (subst (IsIn b) mine (is_in b room there)))
  ]

  pub room_once : IsView v → IsDistinct room
  room_once view = distinct room (elim front [
    | inl all ↦ subst Rising (sym all) (rising_front need (free_in_all (said im.at) v.groups) (all_rise (said im.at) v.size 0 v.groups view.groups.rise))
    | inr mine ↦ subst Rising (sym mine) (rising_front need (free_in (said im.at) own) (free_rises (said im.at) own))
  ])
