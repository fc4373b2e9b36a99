-- A block that a call asks for.
use Rattle.std.proofs.Common.{◌≡◌, ℕ, ◌+◌, ◌<◌, ◌≤◌, Bool, true, false, List, [], ◌∷◌, length, None, Some, inl, inr, refl, sym, ap, ◌∙◌, subst, arith, true≢false}
use Rattle.std.proofs.lemmas.Bool.{cases_Bool, cases_lt}
use Rattle.std.specs.Prelude.{Option, Contains, ◌&&◌, ◌==◌, not}
use Rattle.std.specs.List.{AllByRecursion, list_any}
use Rattle.file_tree.specs.declared.call.Call.{Call}
use Rattle.file_tree.specs.declared.call.Call.TheVariants as call
use Rattle.gfs2_layout.specs.Holding.{Holding}
use Rattle.glock_names.specs.Views.{Seen}
use Rattle.glock_names.specs.declared.LockName.{LockName}
use Rattle.glock_names.specs.declared.steps.Missing.{Missing}
use Rattle.dinode_tree.specs.Shown.{IsShown}
use Rattle.image_model.specs.Image.{Image}
use Rattle.image_model.specs.Owners.{Owners, Nobody}
use Rattle.image_model.specs.Stands.{Layout, IsLaid}
use Rattle.image_changes.specs.Changes.{cover}
use Rattle.image_changes.specs.Does.{Does, IsFormed, IsInside, frees, is_empty, is_nothing, AreInside}
use Rattle.drafts.specs.declared.change.Change.{Change}
use Rattle.writing_calls.specs.Writing as writing
use Rattle.file_calls.specs.Calls.{IsCallList, IsSoOfList, IsTooFew}
use Rattle.move_calls.specs.Locks as move_locks
use Rattle.move_calls.specs.MoveEnds.{IsRenaming}
use Rattle.read_calls.specs.Reading.{IsReading, IsNeededFor, on_path, at_end}
use Rattle.call_locks.specs.WantLaws.{path_of}
use Rattle.call_locks.specs.Wants.{wanted}
use Rattle.cluster_history.specs.Changes.{is_ok, may_change}
use Rattle.file_tree.specs.Tree.{Tree}
use Rattle.file_tree.specs.declared.reply.Reply.{Reply}
use Rattle.making_calls.specs.Making as making
use Rattle.read_calls.specs.Holds.{Hold, holds_in, IsUnder}
use Rattle.read_calls.proofs.Asked.{unread_absent}
use Rattle.removing_calls.specs.Removing.{IsRemoving, holds_for}
use Rattle.removing_calls.specs.Removing as removing
use Rattle.writing_calls.specs.FileDrafting.{IsNeededAt, of_any, of_group, of_inode}
use Rattle.growth_drafts.specs.Taken.{IsCutAt, IsLookedAt}

-- a view shows each inode
abbrev ShowsEach : Seen → Type 0
ShowsEach v = (a : ℕ) → (h : Holding) × IsShown v a h

-- a block without which a call that reads isn't answered is one that the view hasn't
pub needed_absent : (v : Seen) (c : Call) (m : Missing) → ShowsEach v → IsNeededFor v c m → v.block_at m.block ≡ None
needed_absent v c m shows (on_path unread) = unread_absent v (wanted c) (path_of c false) m unread
needed_absent v (call.Read p at count) m shows (at_end a leads asked) = let s = shows a in (asked s.0 s.1).1.absent
needed_absent v (call.Dread p at count) m shows (at_end a leads asked) = let s = shows a in (asked s.0 s.1).1.absent
needed_absent v (call.List p) m shows (at_end a leads asked) = asked.2
needed_absent v (call.Stat p) m shows (at_end a leads asked) = asked.2
needed_absent v (call.Create p) m shows (at_end a leads asked) = absurd asked
needed_absent v (call.Mkdir p) m shows (at_end a leads asked) = absurd asked
needed_absent v (call.Unlink p) m shows (at_end a leads asked) = absurd asked
needed_absent v (call.Rmdir p) m shows (at_end a leads asked) = absurd asked
needed_absent v (call.Write p at new) m shows (at_end a leads asked) = absurd asked
needed_absent v (call.Truncate p size) m shows (at_end a leads asked) = absurd asked
needed_absent v (call.Rename p q) m shows (at_end a leads asked) = absurd asked
needed_absent v call.Sync m shows (at_end a leads asked) = absurd asked

module _ (im : Image) (o : Owners) (l : Layout) (laid : IsLaid im o l) where
  -- nobody owns a block behind the device
  none_beyond : (b : ℕ) → im.count ≤ b → o b ≡ Nobody
  none_beyond b past = laid.zoned.between b (omega (arith, laid.super.inside, past)) (λ g at.
      let fits = laid.fit.each g at in (
        λ header. absurd (omega (arith, header.high, fits.first, fits.inside, past)),
        λ data_block. absurd (omega (arith, data_block.high, fits.inside, past)),
      ))

  -- a block that a lock covers is on the device
  pub covered_low : (b : ℕ) (lock : LockName) → cover l b (o b) ≡ Some lock → b < im.count
  covered_low b lock is = elim (cases_lt b im.count) [
    | inl low ↦ low
    | inr past ↦ absurd (no_cover (sym (ap (cover l b) (none_beyond b past)) ∙ is))
  ]
    where
      no_cover : ◌≡◌ {A = Option LockName} None (Some lock) → ⊥
      no_cover e = cc

-- ---- what is written

first : (a b : Bool) → a && b ≡ true → a ≡ true
first true b e = refl
first false b e = e

second : (a b : Bool) → a && b ≡ true → b ≡ true
second true b e = e
second false b e = absurd (true≢false (sym e))

empty_is : {X : Type 0} (xs : List X) → is_empty xs ≡ true → xs ≡ []
empty_is [] is = refl
empty_is (x ∷ xs) is = absurd (true≢false (sym is))

no_length : {X : Type 0} (xs : List X) → length xs ≡ 0 → xs ≡ []
no_length [] is = refl
no_length (x ∷ xs) is = absurd (omega (arith, is))

none_there : {X : Type 0} (xs : List X) (x : X) → xs ≡ [] → Contains xs x → ⊥
none_there xs x none (k, low, is) = omega (arith, low, ap length none)

module _ (change : Change) (is : is_nothing change ≡ true) where
  no_blocks : change.blocks.items ≡ []
  no_blocks = empty_is change.blocks.items (first (is_empty change.blocks.items) (is_empty change.freed.items) is)

  none_freed : (b : ℕ) → frees change b ≡ true → ⊥
  none_freed b freed = true≢false (sym freed ∙ ap (list_any (λ f. f == b)) (empty_is change.freed.items (second (is_empty change.blocks.items) (is_empty change.freed.items) is)))

  -- a change of nothing has no lock and no block
  pub nothing_under : (o : Owners) (list : List Hold) → IsFormed change → IsUnder o list change
  nothing_under o list form = record {
    written = λ lock has. absurd (none_there change.locks.items lock (no_length change.locks.items (form.locks ∙ ap length no_blocks)) has);
    freed = λ b a freed was. absurd (none_freed b freed);
  }

  pub nothing_inside : (v : Seen) → AreInside v change
  nothing_inside v = subst (AllByRecursion (IsInside v)) (sym no_blocks) tt

-- ---- the lists of locks

-- this list is so, and no other is
abbrev IsJust : (List Hold → Type 0) → List Hold → Type 0
IsJust P holds = P holds × ((list : List Hold) → P list → list ≡ holds)

module _ (im : Image) (o : Owners) (l : Layout) (t : Tree) (node : ℕ) where
  abbrev IsTheList : Call → List Hold → Type 0
  IsTheList c holds = IsJust (IsCallList im o l t c node) holds

  -- what is so of the list of a call that moves no name
  pub so_of_list : (c : Call) → (IsRenaming c → ⊥) → (P : List Hold → Type 0) (list : List Hold) → IsCallList im o l t c node list → P list → IsSoOfList im o l t c node P
  so_of_list (call.Create p) other P list is so = (list, is, so)
  so_of_list (call.Mkdir p) other P list is so = (list, is, so)
  so_of_list (call.Unlink p) other P list is so = (list, is, so)
  so_of_list (call.Rmdir p) other P list is so = (list, is, so)
  so_of_list (call.Read p at count) other P list is so = (list, is, so)
  so_of_list (call.Dread p at count) other P list is so = (list, is, so)
  so_of_list (call.Write p at new) other P list is so = (list, is, so)
  so_of_list (call.Truncate p size) other P list is so = (list, is, so)
  so_of_list (call.Stat p) other P list is so = (list, is, so)
  so_of_list (call.List p) other P list is so = (list, is, so)
  so_of_list (call.Rename p q) other P list is so = absurd (other tt)
  so_of_list call.Sync other P list is so = (list, is, so)

  -- and of one that does
  pub moving_so : (c : Call) → IsRenaming c → (P : List Hold → Type 0) → move_locks.IsSoOfList im o l t c node P → IsSoOfList im o l t c node P
  moving_so (call.Create p) is P so = absurd is
  moving_so (call.Mkdir p) is P so = absurd is
  moving_so (call.Unlink p) is P so = absurd is
  moving_so (call.Rmdir p) is P so = absurd is
  moving_so (call.Read p at count) is P so = absurd is
  moving_so (call.Dread p at count) is P so = absurd is
  moving_so (call.Write p at new) is P so = absurd is
  moving_so (call.Truncate p size) is P so = absurd is
  moving_so (call.Stat p) is P so = absurd is
  moving_so (call.List p) is P so = absurd is
  moving_so (call.Rename p q) is P so = so
  moving_so call.Sync is P so = absurd is

  pub reading_list : (c : Call) → IsReading c → IsTheList c (holds_in im o l (path_of c false) (wanted c))
  reading_list (call.Create p) is = absurd is
  reading_list (call.Mkdir p) is = absurd is
  reading_list (call.Unlink p) is = absurd is
  reading_list (call.Rmdir p) is = absurd is
  reading_list (call.Read p at count) is = (refl, λ list e. e)
  reading_list (call.Dread p at count) is = (refl, λ list e. e)
  reading_list (call.Write p at new) is = absurd is
  reading_list (call.Truncate p size) is = absurd is
  reading_list (call.Stat p) is = (refl, λ list e. e)
  reading_list (call.List p) is = (refl, λ list e. e)
  reading_list (call.Rename p q) is = absurd is
  reading_list call.Sync is = absurd is

  pub making_list : (c : Call) → making.IsMaking c → IsTheList c (making.call_holds im o l t c node)
  making_list (call.Create p) is = (refl, λ list e. e)
  making_list (call.Mkdir p) is = (refl, λ list e. e)
  making_list (call.Unlink p) is = absurd is
  making_list (call.Rmdir p) is = absurd is
  making_list (call.Read p at count) is = absurd is
  making_list (call.Dread p at count) is = absurd is
  making_list (call.Write p at new) is = absurd is
  making_list (call.Truncate p size) is = absurd is
  making_list (call.Stat p) is = absurd is
  making_list (call.List p) is = absurd is
  making_list (call.Rename p q) is = absurd is
  making_list call.Sync is = absurd is

  pub writing_list : (c : Call) → writing.IsWriting c → IsTheList c (writing.call_holds im o l t c node)
  writing_list (call.Create p) is = absurd is
  writing_list (call.Mkdir p) is = absurd is
  writing_list (call.Unlink p) is = absurd is
  writing_list (call.Rmdir p) is = absurd is
  writing_list (call.Read p at count) is = absurd is
  writing_list (call.Dread p at count) is = absurd is
  writing_list (call.Write p at new) is = (refl, λ list e. e)
  writing_list (call.Truncate p size) is = (refl, λ list e. e)
  writing_list (call.Stat p) is = absurd is
  writing_list (call.List p) is = absurd is
  writing_list (call.Rename p q) is = absurd is
  writing_list call.Sync is = (refl, λ list e. e)

  pub removing_list : (c : Call) → IsRemoving c → IsTheList c (holds_for im o l t c)
  removing_list (call.Create p) is = absurd is
  removing_list (call.Mkdir p) is = absurd is
  removing_list (call.Unlink p) is = (refl, λ list e. e)
  removing_list (call.Rmdir p) is = (refl, λ list e. e)
  removing_list (call.Read p at count) is = absurd is
  removing_list (call.Dread p at count) is = absurd is
  removing_list (call.Write p at new) is = absurd is
  removing_list (call.Truncate p size) is = absurd is
  removing_list (call.Stat p) is = absurd is
  removing_list (call.List p) is = absurd is
  removing_list (call.Rename p q) is = absurd is
  removing_list call.Sync is = absurd is

  -- of a call that moves a name there is one for each number of blocks that it needs, which is one number
  pub moving_list : (c : Call) → IsRenaming c → (list : List Hold) → IsCallList im o l t c node list → (need : ℕ) × move_locks.IsNeed im o l t c need × (list ≡ move_locks.call_holds im o l t c node need)
  moving_list (call.Create p) is list listed = absurd is
  moving_list (call.Mkdir p) is list listed = absurd is
  moving_list (call.Unlink p) is list listed = absurd is
  moving_list (call.Rmdir p) is list listed = absurd is
  moving_list (call.Read p at count) is list listed = absurd is
  moving_list (call.Dread p at count) is list listed = absurd is
  moving_list (call.Write p at new) is list listed = absurd is
  moving_list (call.Truncate p size) is list listed = absurd is
  moving_list (call.Stat p) is list listed = absurd is
  moving_list (call.List p) is list listed = absurd is
  moving_list (call.Rename p q) is list listed = listed
  moving_list call.Sync is list listed = absurd is

  pub list_of_move : (c : Call) → IsRenaming c → (need : ℕ) → move_locks.IsNeed im o l t c need → IsCallList im o l t c node (move_locks.call_holds im o l t c node need)
  list_of_move (call.Create p) is need needs = absurd is
  list_of_move (call.Mkdir p) is need needs = absurd is
  list_of_move (call.Unlink p) is need needs = absurd is
  list_of_move (call.Rmdir p) is need needs = absurd is
  list_of_move (call.Read p at count) is need needs = absurd is
  list_of_move (call.Dread p at count) is need needs = absurd is
  list_of_move (call.Write p at new) is need needs = absurd is
  list_of_move (call.Truncate p size) is need needs = absurd is
  list_of_move (call.Stat p) is need needs = absurd is
  list_of_move (call.List p) is need needs = absurd is
  list_of_move (call.Rename p q) is need needs = (need, needs, refl)
  list_of_move call.Sync is need needs = absurd is

-- ---- a call that removes a name

pub removing_absent : (v : Seen) (c : Call) (m : Missing) → ShowsEach v → removing.IsNeededFor v c m → v.block_at m.block ≡ None
removing_absent v c m shows (removing.on_path unread) = unread_absent v (wanted c) (path_of c false) m unread
removing_absent v c m shows (removing.of_inode a taken (removing.IsNeededOf.in_tree needed)) = let s = shows a in (needed s.0 s.1).absent
removing_absent v c m shows (removing.of_inode a taken (removing.IsNeededOf.in_leaves is needed absent)) = absent
removing_absent v c m shows (removing.of_group a blocks taken all held needed) = needed.2.3.block.absent

-- one that wasn't answered Ok changed nothing
refused_nothing : (v : Seen) (c : Call) (r : Reply) (change : Change) → Does v c r change → is_ok r ≡ false → is_nothing change ≡ true
refused_nothing v c r change does no_ok = does.tells ∙ ap (λ b. not (b && may_change c)) no_ok

pub removing_under : (v : Seen) (o : Owners) (list : List Hold) (c : Call) (r : Reply) (change : Change) → Does v c r change → (is_ok r ≡ true → IsUnder o list change) → IsUnder o list change
removing_under v o list c r change does under = elim (cases_Bool (is_ok r)) [
  | inl ok ↦ under ok
  | inr refused ↦ nothing_under change (refused_nothing v c r change does refused) o list does.form
]

pub removing_inside : (v : Seen) (c : Call) (r : Reply) (change : Change) → Does v c r change → (is_ok r ≡ true → AreInside v change) → AreInside v change
removing_inside v c r change does inside = elim (cases_Bool (is_ok r)) [
  | inl ok ↦ inside ok
  | inr refused ↦ nothing_inside change (refused_nothing v c r change does refused) v
]

-- ---- a call that writes

asked_absent : (v : Seen) (a : ℕ) (wanted : Holding → ℕ → Type 0) (blocks : List ℕ) (m : Missing) → ShowsEach v → IsNeededAt v a wanted blocks m → v.block_at m.block ≡ None
asked_absent v a wanted blocks m shows (of_inode asks) = let s = shows a in (asks s.0 s.1).absent
asked_absent v a wanted blocks m shows (of_any asks) = let s = shows a in (asks s.0 s.1).absent
asked_absent v a wanted blocks m shows (of_group asks) = asks.2.3.block.absent

pub writing_absent : (v : Seen) (c : Call) (m : Missing) → ShowsEach v → writing.IsNeededFor v c m → v.block_at m.block ≡ None
writing_absent v c m shows (writing.on_path unread) = unread_absent v (wanted c) (path_of c false) m unread
writing_absent v c m shows (writing.of_write a at new changes puts asks) = asked_absent v a (λ h. IsLookedAt h at (at + length new)) [] m shows asks
writing_absent v c m shows (writing.of_taken node a at new need room changes puts needs is_room asks) = asked_absent v a (λ h. IsLookedAt h at (at + length new)) room m shows asks
writing_absent v c m shows (writing.of_cut a size changes cuts asks) = asked_absent v a (λ h. IsCutAt h size) [] m shows asks
writing_absent v c m shows (writing.of_freed a size time freed fates changes cuts draft held asks) = asked_absent v a (λ h i. ⊥) freed m shows asks
writing_absent v c m shows (writing.of_room a at new need changes puts needs asks) = asks.missing.absent

-- its want of space is the one that is told of every call
module _ (v : Seen) (im : Image) (o : Owners) (l : Layout) (t : Tree) (need free : ℕ) where
  pub writing_few : (c : Call) → writing.IsWriting c → writing.IsTooFew v im o l t c need free → IsTooFew v im o l t c need free
  writing_few (call.Write p at new) is few = few
  writing_few (call.Truncate p size) is few = few
  writing_few call.Sync is few = absurd (omega (arith, few.needs, few.fewer))
  writing_few (call.Read p at count) is few = absurd is
  writing_few (call.Stat p) is few = absurd is
  writing_few (call.List p) is few = absurd is
  writing_few (call.Create p) is few = absurd is
  writing_few (call.Mkdir p) is few = absurd is
  writing_few (call.Unlink p) is few = absurd is
  writing_few (call.Rmdir p) is few = absurd is
  writing_few (call.Dread p at count) is few = absurd is
  writing_few (call.Rename p q) is few = absurd is

-- ---- a call that makes a name

-- its want of space is the one that is told of every call
pub making_few : (v : Seen) (im : Image) (o : Owners) (l : Layout) (t : Tree) (c : Call) → making.IsMaking c → (need free : ℕ) → making.IsTooFew v im o l t c need free → IsTooFew v im o l t c need free
making_few v im o l t (call.Create p) is need free few = few
making_few v im o l t (call.Mkdir p) is need free few = few
making_few v im o l t (call.Read p at count) is need free few = absurd is
making_few v im o l t (call.Stat p) is need free few = absurd is
making_few v im o l t (call.List p) is need free few = absurd is
making_few v im o l t (call.Unlink p) is need free few = absurd is
making_few v im o l t (call.Rmdir p) is need free few = absurd is
making_few v im o l t (call.Dread p at count) is need free few = absurd is
making_few v im o l t (call.Write p at new) is need free few = absurd is
making_few v im o l t (call.Truncate p size) is need free few = absurd is
making_few v im o l t (call.Rename p q) is need free few = absurd is
making_few v im o l t call.Sync is need free few = absurd is

-- its want of space is the one that is told of every call
pub moving_few : (v : Seen) (im : Image) (o : Owners) (l : Layout) (t : Tree) (c : Call) → IsRenaming c → (need free : ℕ) → move_locks.IsTooFew v im o l t c need free → IsTooFew v im o l t c need free
moving_few v im o l t (call.Create p) is need free few = absurd is
moving_few v im o l t (call.Mkdir p) is need free few = absurd is
moving_few v im o l t (call.Unlink p) is need free few = absurd is
moving_few v im o l t (call.Rmdir p) is need free few = absurd is
moving_few v im o l t (call.Read p at count) is need free few = absurd is
moving_few v im o l t (call.Dread p at count) is need free few = absurd is
moving_few v im o l t (call.Write p at new) is need free few = absurd is
moving_few v im o l t (call.Truncate p size) is need free few = absurd is
moving_few v im o l t (call.Stat p) is need free few = absurd is
moving_few v im o l t (call.List p) is need free few = absurd is
moving_few v im o l t (call.Rename p q) is need free few = few
moving_few v im o l t call.Sync is need free few = absurd is

-- ---- where a call's kind is known it moves no name

pub reads_move_none : (c : Call) → IsReading c → IsRenaming c → ⊥
reads_move_none (call.Create p) is moves = moves
reads_move_none (call.Mkdir p) is moves = moves
reads_move_none (call.Unlink p) is moves = moves
reads_move_none (call.Rmdir p) is moves = moves
reads_move_none (call.Read p at count) is moves = moves
reads_move_none (call.Dread p at count) is moves = moves
reads_move_none (call.Write p at new) is moves = moves
reads_move_none (call.Truncate p size) is moves = moves
reads_move_none (call.Stat p) is moves = moves
reads_move_none (call.List p) is moves = moves
reads_move_none (call.Rename p q) is moves = is
reads_move_none call.Sync is moves = moves

pub makings_move_none : (c : Call) → making.IsMaking c → IsRenaming c → ⊥
makings_move_none (call.Create p) is moves = moves
makings_move_none (call.Mkdir p) is moves = moves
makings_move_none (call.Unlink p) is moves = moves
makings_move_none (call.Rmdir p) is moves = moves
makings_move_none (call.Read p at count) is moves = moves
makings_move_none (call.Dread p at count) is moves = moves
makings_move_none (call.Write p at new) is moves = moves
makings_move_none (call.Truncate p size) is moves = moves
makings_move_none (call.Stat p) is moves = moves
makings_move_none (call.List p) is moves = moves
makings_move_none (call.Rename p q) is moves = is
makings_move_none call.Sync is moves = moves

pub removals_move_none : (c : Call) → IsRemoving c → IsRenaming c → ⊥
removals_move_none (call.Create p) is moves = moves
removals_move_none (call.Mkdir p) is moves = moves
removals_move_none (call.Unlink p) is moves = moves
removals_move_none (call.Rmdir p) is moves = moves
removals_move_none (call.Read p at count) is moves = moves
removals_move_none (call.Dread p at count) is moves = moves
removals_move_none (call.Write p at new) is moves = moves
removals_move_none (call.Truncate p size) is moves = moves
removals_move_none (call.Stat p) is moves = moves
removals_move_none (call.List p) is moves = moves
removals_move_none (call.Rename p q) is moves = is
removals_move_none call.Sync is moves = moves

pub writes_move_none : (c : Call) → writing.IsWriting c → IsRenaming c → ⊥
writes_move_none (call.Create p) is moves = moves
writes_move_none (call.Mkdir p) is moves = moves
writes_move_none (call.Unlink p) is moves = moves
writes_move_none (call.Rmdir p) is moves = moves
writes_move_none (call.Read p at count) is moves = moves
writes_move_none (call.Dread p at count) is moves = moves
writes_move_none (call.Write p at new) is moves = moves
writes_move_none (call.Truncate p size) is moves = moves
writes_move_none (call.Stat p) is moves = moves
writes_move_none (call.List p) is moves = moves
writes_move_none (call.Rename p q) is moves = is
writes_move_none call.Sync is moves = moves
