-- What is found for a new name, under the locks of groups and the new inode's.
use Rattle.std.proofs.Common.{◌≡◌, ℕ, ◌<◌, ◌≤◌, true, false, nat_lt, List, [], ◌∷◌, ◌++◌, length, drop, take, slice_get, None, Some, sym, ap, ap₂, subst, ◌∙◌, arith}
use Rattle.std.proofs.lemmas.Bool.{cond-false, cond-true, le-ltb, lt-ltb}
use Rattle.std.proofs.lemmas.List.{take_all}
use Rattle.std.specs.Prelude.{slice_index_or}
use Rattle.std.proofs.lemmas.List.Elements.{All-append, All-nil}
use Rattle.glock_names.specs.Views.{Seen, HasGroup}
use Rattle.glock_names.specs.declared.State.TheVariants.{Ex}
use Rattle.glock_names.specs.declared.views.Group.{Group}
use Rattle.resource_groups.specs.Shown.{IsDataOf}
use Rattle.name_drafts.specs.Holds.{Hold, AreHeld, IsFirstLack, holds, hold_of, hold_for}
use Rattle.name_drafts.proofs.Longer.{lack_behind}
use Rattle.room_search.specs.Blocks.{States, free_in_all, free_for, group_holds}
use Rattle.room_search.specs.Searches as room
use Rattle.room_search.proofs.Holds.{held_one, lack_one}
use Rattle.room_search.proofs.Room.{for_all}
use Rattle.making_calls.specs.Blocks.{block_holds, first_of}
use Rattle.making_calls.specs.Searches.{IsTaken, blocks_of}
use Rattle.making_calls.specs.declared.blocks.Room.{Room}
use Rattle.making_calls.specs.declared.blocks.NewRoom.TheVariants as taken

-- the first of some blocks, and the rest
pub first_and_rest : (blocks rest : List ℕ) (block : ℕ) → 1 ≤ length blocks → block ≡ slice_index_or blocks 0 block → rest ≡ take 0 blocks ++ drop 1 blocks → block ∷ rest ≡ blocks
first_and_rest [] rest block some first more = absurd (omega (arith, some))
first_and_rest (x ∷ xs) rest block some first more = ap₂ (λ b bs. b ∷ bs) first more

module _ (v : Seen) (says : States) (own : Group) (need : ℕ) where
  abbrev last : List Hold
  last = hold_for (first_of need (free_for says v.groups own need)) Ex

  -- the blocks that are found, with the group of the first
  pub blocks_taken : (r : Room) (blocks : List ℕ) → room.IsRoom v says v.groups own need blocks → blocks_of r ≡ blocks → HasGroup v r.new.group → IsDataOf r.new.group r.new.block
      → IsTaken v says own need (taken.Is r)
  blocks_taken r blocks is whole has data_block = record { has = has; data_block = data_block; room = subst (room.IsRoom v says v.groups own need) (sym whole) is }

  pub first_is : (r : Room) → IsTaken v says own need (taken.Is r) → first_of need (free_for says v.groups own need) ≡ Some r.new.block
  first_is r is =
      ap (first_of need) (sym is.room.are)
      ∙ cond-false (nat_lt (length (blocks_of r)) need) None (Some r.new.block) (le-ltb (length (blocks_of r)) need (omega (arith, is.room.many)))

  pub taken_held : (r : Room) → AreHeld v (group_holds says v.groups own need) → IsTaken v says own need (taken.Is r) → holds v (hold_of r.new.block Ex) ≡ true → AreHeld v (block_holds says v.groups own need)
  taken_held r held is now = All-append (λ h. holds v h ≡ true) (group_holds says v.groups own need) last held
      (subst (λ x. AreHeld v (hold_for x Ex)) (sym (first_is r is)) (held_one v (hold_of r.new.block Ex) now))

  pub taken_lack : (r : Room) → AreHeld v (group_holds says v.groups own need) → IsTaken v says own need (taken.Is r) → holds v (hold_of r.new.block Ex) ≡ false
      → IsFirstLack v (block_holds says v.groups own need) (hold_of r.new.block Ex).lock Ex
  taken_lack r held is lacks = lack_behind v (group_holds says v.groups own need) last (hold_of r.new.block Ex).lock Ex held
      (subst (λ x. IsFirstLack v (hold_for x Ex) (hold_of r.new.block Ex).lock Ex) (sym (first_is r is)) (lack_one v (hold_of r.new.block Ex) lacks))

  -- where too few are free, no block's lock is needed
  pub none_held : (free : ℕ) → AreHeld v (group_holds says v.groups own need) → IsTaken v says own need (taken.TooFew free) → AreHeld v (block_holds says v.groups own need)
  none_held free held is =
      let few : length (free_for says v.groups own need) < need = subst (λ xs. length xs < need) (sym (for_all says v.groups (own ∷ []) need is.fewer_first)) (shorter (free_in_all says v.groups) (subst (λ n. n < need) is.free_are is.fewer)) in
      let none : first_of need (free_for says v.groups own need) ≡ None = cond-true (nat_lt (length (free_for says v.groups own need)) need) None (slice_get (free_for says v.groups own need) 0) (lt-ltb (length (free_for says v.groups own need)) need few) in
      All-append (λ h. holds v h ≡ true) (group_holds says v.groups own need) last held
      (subst (λ x. AreHeld v (hold_for x Ex)) (sym none) (All-nil (λ x. holds v x ≡ true)))
    where
      shorter : (xs : List ℕ) → length xs < need → length (take need xs) < need
      shorter xs few = subst (λ ys. length ys < need) (sym (take_all need xs (omega (arith, few)))) few
