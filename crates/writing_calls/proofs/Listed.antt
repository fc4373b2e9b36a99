-- The locks of a call that changes a file's content, in an image.
use Rattle.std.proofs.Common.{◌≡◌, ◌+◌, ℕ, true, false, List, [], ◌++◌, length, sym, ap, ◌∙◌, subst}
use Rattle.std.proofs.lemmas.Bool.{cond-true, cond-false, lt-ltb, le-ltb}
use Rattle.std.proofs.lemmas.List.{append-nil}
use Rattle.std.specs.Prelude.{nat_lt}
use Rattle.cluster_history.specs.Changes.{is_ok}
use Rattle.file_tree.specs.Apply.{apply}
use Rattle.file_tree.specs.Tree.{Tree}
use Rattle.file_tree.specs.declared.call.Call.{Call}
use Rattle.call_locks.specs.Wants.{wanted}
use Rattle.call_locks.specs.WantLaws.{path_of}
use Rattle.growth_laws.specs.Need.{needed}
use Rattle.growth_drafts.specs.Taken.{IsLookedAt}
use Rattle.image_model.specs.Flat.{follow}
use Rattle.image_model.specs.Image.{Image}
use Rattle.image_model.specs.Owners.{Owners, holding}
use Rattle.image_model.specs.Stands.{Layout, flat_of}
use Rattle.image_changes.specs.Instances.{IsAt, dinode_at}
use Rattle.file_changes.specs.Making.{goes_at}
use Rattle.path_walks.specs.Holds.{holds_in}
use Rattle.room_search.specs.Blocks.{room_holds}
use Rattle.file_changes.specs.Groups.{holds_of_groups}
use Rattle.writing_calls.specs.Writing.{Cuts, Puts, by_growth, by_write, call_holds, group_holds_at, group_holds_of, looks_at, need_in}

-- where the tree refuses the call no group's lock is taken
pub plain_list : (im : Image) (o : Owners) (l : Layout) (t : Tree) (c : Call) (node : ℕ) → is_ok (apply c t).reply ≡ false → call_holds im o l t c node ≡ holds_in im o l (path_of c false) (wanted c)
plain_list im o l t c node refuses =
    ap (λ xs. holds_in im o l (path_of c false) (wanted c) ++ xs) (cond-false _ (group_holds_at im o l c node (follow (flat_of im o) l.root (path_of c false))) [] refuses)
    ∙ append-nil (holds_in im o l (path_of c false) (wanted c))

-- where it takes it, those of groups stand behind the path's
pub taken_list : (im : Image) (o : Owners) (l : Layout) (t : Tree) (c : Call) (node a : ℕ) → is_ok (apply c t).reply ≡ true → IsAt im o l (path_of c false) a
    → call_holds im o l t c node ≡ holds_in im o l (path_of c false) (wanted c) ++ group_holds_of im o l c node a
taken_list im o l t c node a ok at =
    ap (λ xs. holds_in im o l (path_of c false) (wanted c) ++ xs)
    (cond-true _ (group_holds_at im o l c node (follow (flat_of im o) l.root (path_of c false))) [] ok ∙ ap (group_holds_at im o l c node) at)

module _ (im : Image) (o : Owners) (l : Layout) (c : Call) (node a : ℕ) where
  -- of a call that needs so many blocks
  pub room_list : (size at : ℕ) (new : List ℕ) (need : ℕ) → (dinode_at im o a).size ≡ size → Puts c size at new → need ≡ needed (holding im o a) at (length new)
      → group_holds_of im o l c node a ≡ room_holds o l node need
  room_list size at new need same (by_write x bytes writes) is = ap (λ k. group_holds_of im o l k node a) writes ∙ ap (room_holds o l node) (sym is)
  room_list size at new need same (by_growth end cuts longer) is =
      ap (λ k. group_holds_of im o l k node a) cuts
      ∙ cond-true _ (room_holds o l node (needed (holding im o a) end 0)) (holds_of_groups (goes_at (holding im o a) end) l.groups) (ap (λ n. nat_lt n end) same ∙ lt-ltb size end longer)
      ∙ ap (room_holds o l node) (sym is)

  pub need_is : (size at : ℕ) (new : List ℕ) (need : ℕ) → (dinode_at im o a).size ≡ size → Puts c size at new → need ≡ needed (holding im o a) at (length new) → need ≡ need_in im o c a
  need_is size at new need same (by_write x bytes writes) is = is ∙ ap (λ k. need_in im o k a) (sym writes)
  need_is size at new need same (by_growth end cuts longer) is =
      is ∙ sym (cond-true _ (needed (holding im o a) end 0) 0 (ap (λ n. nat_lt n end) same ∙ lt-ltb size end longer)) ∙ ap (λ k. need_in im o k a) (sym cuts)

  pub looks_so : (size at : ℕ) (new : List ℕ) (i : ℕ) → Puts c size at new → looks_at im o c a i → IsLookedAt (holding im o a) at (at + length new) i
  looks_so size at new i (by_write x bytes writes) looks = subst (λ k. looks_at im o k a i) writes looks
  looks_so size at new i (by_growth end cuts longer) looks = (subst (λ k. looks_at im o k a i) cuts looks).1

  -- and of one that cuts the file
  pub cut_list : (size end : ℕ) → (dinode_at im o a).size ≡ size → Cuts c size end → group_holds_of im o l c node a ≡ holds_of_groups (goes_at (holding im o a) end) l.groups
  cut_list size end same cuts =
      ap (λ k. group_holds_of im o l k node a) cuts.is
      ∙ cond-false _ (room_holds o l node (needed (holding im o a) end 0)) (holds_of_groups (goes_at (holding im o a) end) l.groups) (ap (λ n. nat_lt n end) same ∙ le-ltb size end cuts.shorter)
