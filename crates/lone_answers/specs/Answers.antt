-- How node 1 answers a call from what it keeps.
use Rattle.std.specs.Prelude.{ℕ, ◌≡◌, ◌≢◌, ◌<◌, false, Some}
use Rattle.file_tree.specs.Apply.{TakesSpace}
use Rattle.file_tree.specs.Tree.{Tree}
use Rattle.file_tree.specs.declared.call.Call.{Call}
use Rattle.file_tree.specs.declared.reply.Reply.{Reply}
use Rattle.file_tree.specs.declared.reply.Reply.TheVariants as replies
use Rattle.drafts.specs.declared.change.Change.{Change}
use Rattle.file_calls.specs.Answers.{IsAnswered, IsFullFor, IsMadeIn}
use Rattle.file_calls.specs.Calls.{IsTooFew, IsUnderItsLocks}
use Rattle.glock_names.specs.declared.LockName.{LockName}
use Rattle.image_changes.specs.Changes.{cover, is_free}
use Rattle.image_changes.specs.Does.{AreInside, Does, IsOf}
use Rattle.image_model.specs.Image.{Image}
use Rattle.image_model.specs.Owners.{Owners}
use Rattle.image_model.specs.Stands.{Layout}
use Rattle.lone_view.specs.Seeing.{Lone, seen_alone}

-- The call is answered so from this view, as node 1's at this time. On every view the reply and the change are as the view shows, and whole
-- blocks of groups are written; in each image that the view may be of the change is the one that leaves it standing for the tree's answer, all under
-- locks of the call's list, each of which is held.
pub record IsDoneBy (view : Lone) (time : ℕ) (call : Call) (reply : Reply) (change : Change) : Type 0 where
  pub does : Does (seen_alone view) call reply change
  pub inside : AreInside (seen_alone view) change
  pub under : (im : Image) (o : Owners) (l : Layout) (t : Tree) → IsOf (seen_alone view) im o l t → IsUnderItsLocks (seen_alone view) im o l t call 1 change
  pub spaced : reply ≢ replies.NoSpace
  pub answered : IsAnswered seen_alone view call 1 time reply change
  pub made : (im : Image) (o : Owners) (l : Layout) (t : Tree) → IsOf (seen_alone view) im o l t → IsMadeIn im o l call 1 time reply change

-- The call is one that takes blocks, and too few are free for it, as the view shows: fewer than it needs, which is told of each image that the view
-- may be of.
pub record IsSpaceless (view : Lone) (call : Call) (need free : ℕ) : Type 0 where
  pub takes : TakesSpace call
  pub fewer : free < need
  pub shown : IsFullFor (seen_alone view) call 1 need free
  pub few : (im : Image) (o : Owners) (l : Layout) (t : Tree) → IsOf (seen_alone view) im o l t → IsTooFew (seen_alone view) im o l t call need free

-- a block that a call asks for: in each image that the view may be of this lock covers it, and it isn't free
abbrev pub IsAsked : Lone → ℕ → LockName → Type 0
IsAsked view b lock = (im : Image) (o : Owners) (l : Layout) (t : Tree) → IsOf (seen_alone view) im o l t → (cover l b (o b) ≡ Some lock) × (is_free (o b) ≡ false)
