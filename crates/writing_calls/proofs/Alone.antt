-- The one block of a write's change, and its lock.
use Rattle.std.proofs.Common.{◌≡◌, inl, inr, ℕ, true, false, true≢false, List, [], ◌∷◌, ◌++◌, length, take, refl, sym, ap, ◌∙◌, subst, arith}
use Rattle.std.proofs.lemmas.Grind.{flat_map-append}
use Rattle.std.proofs.lemmas.List.{append-nil, take_all}
use Rattle.std.proofs.lemmas.List.Elements.{Contains-append_right}
use Rattle.std.specs.Cmp.{nat_cmp_total}
use Rattle.std.specs.FinMap.{FinMap, empty, get, entries, entries-insert, len-empty, len-entries, put}
use Rattle.std.specs.List.{AllByRecursion, list_any}
use Rattle.std.specs.Ordering.{nat_cmp}
use Rattle.std.specs.Prelude.{Contains, flat_map, ◌==◌}
use Rattle.file_tree.specs.Tree.{Tree}
use Rattle.file_tree.specs.declared.call.Call.{Call}
use Rattle.drafts.specs.Fates.{blocks_in, freed_in, locks_in}
use Rattle.drafts.specs.declared.change.Change.{Change}
use Rattle.drafts.specs.declared.fate.Fate.{Fate}
use Rattle.drafts.specs.declared.fate.Fate.TheVariants.{Put}
use Rattle.glock_names.specs.Views.{Seen, IsView, group_of_entry}
use Rattle.glock_names.specs.declared.State.TheVariants.{Ex}
use Rattle.call_locks.specs.declared.want.Want.{Want}
use Rattle.call_locks.specs.Wants.{want, shared_above, wanted}
use Rattle.call_locks.specs.WantLaws.{path_of}
use Rattle.dinode_tree.specs.Reading.{inode_lock}
use Rattle.resource_groups.specs.Putting.{HasDataBlock}
use Rattle.image_model.specs.Flat.{Path, follow}
use Rattle.image_model.specs.Image.{Image}
use Rattle.image_model.specs.Owners.{Owner, Owners, Super, InGroup, Free, Nobody, Root, Master, Named, Below, Chained, IsUsed, is_dinode}
use Rattle.image_model.specs.Stands.{Layout, flat_of}
use Rattle.image_model.proofs.Members.{is_in}
use Rattle.image_changes.specs.Does.{AreInside, IsInside, IsOf}
use Rattle.image_changes.specs.Instances.{IsAt}
use Rattle.draft_changes.proofs.Views.{groups_are_listed}
use Rattle.path_walks.specs.Holds.{Hold, IsUnder, hold_for, hold_of, holds_in}
use Rattle.path_walks.proofs.Lying.{data_lies}
use Rattle.path_walks.proofs.Images.{is_inode}
use Rattle.writing_calls.specs.Drafting.{IsWrite}
use Rattle.writing_calls.specs.Writing.{IsEdit}
use Rattle.writing_calls.proofs.Doing.{wants_are}
use Rattle.writing_calls.proofs.Written.{put_there}

-- ---- the block

no_entry : {X : Type 0} (xs : List X) → length xs ≡ 0 → xs ≡ []
no_entry [] e = refl
no_entry (x ∷ xs) e = absurd (omega (arith, e))

nothing_put : entries (empty {K = ℕ} {X = Fate} {R = nat_cmp}) ≡ []
nothing_put = no_entry (entries (empty {K = ℕ} {X = Fate} {R = nat_cmp})) (sym (len-entries (empty {K = ℕ} {X = Fate} {R = nat_cmp})) ∙ len-empty nat_cmp Fate)

module _ (v : Seen) (a at : ℕ) (new : List ℕ) (time : ℕ) (change : Change) (w : IsWrite v a at new time change) where
  one : entries w.fates ≡ (a, Put (inode_lock a) false w.puts.bytes) ∷ []
  one = ap entries w.puts.put ∙ entries-insert nat_cmp_total empty a (Put (inode_lock a) false w.puts.bytes) ∙ ap (put nat_cmp a (Put (inode_lock a) false w.puts.bytes)) nothing_put

  locks_are : change.locks.items ≡ inode_lock a ∷ []
  locks_are = w.finished.locks ∙ ap locks_in one

  pub none_freed : change.freed.items ≡ []
  none_freed = w.finished.freed ∙ ap freed_in one

  blocks_are : change.blocks.items ≡ record { block = a; plain = false; bytes = w.puts.bytes } ∷ []
  blocks_are = w.finished.blocks ∙ ap blocks_in one

  pub are_inside : IsView v → HasDataBlock v a → AreInside v change
  are_inside view inside = subst (AllByRecursion (IsInside v)) (sym blocks_are) (record { whole = whole; inside = data_lies v a view inside }, tt)
    where
      whole : length w.puts.bytes ≡ v.size
      whole = w.whole a (inode_lock a) false w.puts.bytes (ap (λ (m : FinMap nat_cmp Fate). get m a) w.puts.put ∙ put_there a (Put (inode_lock a) false w.puts.bytes))

  pub is_under : (o : Owners) (list : List Hold) → Contains list (hold_of a Ex) → IsUnder o list change
  is_under o list has = record {
    written = λ lock at. elim (is_in lock (inode_lock a ∷ []) (subst (λ xs. Contains xs lock) locks_are at)) [
      | inl e ↦ subst (λ k. Contains list (record { lock = k; state = Ex })) (sym e) has
      | inr none ↦ elim none [ ]
    ];
    freed = λ b x gone its. absurd (true≢false (sym gone ∙ ap (list_any (λ f. f == b)) none_freed));
  }

-- ---- its lock is the last of the list

last_is : (f : Want → List Hold) (ws : List Want) (x : Want) (y : Hold) → f x ≡ y ∷ [] → Contains (flat_map f (ws ++ x ∷ [])) y
last_is f ws x y is =
    subst (λ list. Contains list y) (sym (flat_map-append f ws (x ∷ []))) (Contains-append_right (flat_map f ws) (flat_map f (x ∷ [])) y
    (subst (λ list. Contains list y) (sym (append-nil (f x) ∙ is)) (0, omega arith, refl)))

pub file_listed : (c : Call) (im : Image) (o : Owners) (l : Layout) (a : ℕ) → IsEdit c → IsAt im o l (path_of c false) a → Contains (holds_in im o l (path_of c false) (wanted c)) (hold_of a Ex)
file_listed c im o l a is here =
    let path = path_of c false in
    let holds_at = λ (w : Want). hold_for (follow (flat_of im o) l.root (take w.depth path)) w.state in
    subst (λ ws. Contains (flat_map holds_at ws) (hold_of a Ex)) (sym (wants_are c is))
    (last_is holds_at (shared_above false (length path)) (want false (length path) Ex) (hold_of a Ex)
    (ap (λ p. hold_for (follow (flat_of im o) l.root p) Ex) (take_all (length path) path (omega arith)) ∙ ap (λ f. hold_for f Ex) here))

-- ---- a dinode that stands is a data block of a group

used_dinode : (o : Owner) → is_dinode o ≡ true → IsUsed o
used_dinode Root e = tt
used_dinode Master e = tt
used_dinode (Named parent name) e = tt
used_dinode (Below d b k level first) e = tt
used_dinode (Chained d hash place) e = tt
used_dinode Super e = cc
used_dinode (InGroup g) e = cc
used_dinode (Free g) e = cc
used_dinode Nobody e = cc

pub dinode_inside : (v : Seen) (im : Image) (o : Owners) (l : Layout) (t : Tree) → IsOf v im o l t → (path : Path) (a : ℕ) → IsAt im o l path a → HasDataBlock v a
dinode_inside v im o l t of path a at =
    let placed = of.stands.laid.zoned.placed a (used_dinode (o a) (is_inode v im o l t of path a at)) in
    (group_of_entry placed.0, (groups_are_listed v im o l t (group_of_entry placed.0) of).1 (placed.0, placed.1, refl), record { low = placed.2.low; high = placed.2.high })
