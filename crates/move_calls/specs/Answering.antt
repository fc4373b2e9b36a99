-- What a call that moves a name is answered: by the ends of its paths, by what is looked at before the move, or by what carrying it out answers.
use Rattle.std.specs.Prelude.{ℕ, ◌≡◌, List, [], Contains, Option, None, Some, Vec}
use Rattle.std.specs.Global.{Global}
use Rattle.drafts.specs.declared.attempt.Attempt.{Attempt}
use Rattle.drafts.specs.declared.attempt.Attempt.TheVariants as attempt
use Rattle.drafts.specs.declared.change.Change.{Change}
use Rattle.file_tree.specs.Names.{last_of}
use Rattle.file_tree.specs.Tree.{Tree}
use Rattle.file_tree.specs.declared.call.Call.{Call}
use Rattle.file_tree.specs.declared.reply.Reply.{Reply}
use Rattle.file_tree.specs.declared.reply.Reply.TheVariants as reply
use Rattle.glock_names.specs.Views.{Seen}
use Rattle.glock_names.specs.declared.LockName.{LockName}
use Rattle.glock_names.specs.declared.State.{State}
use Rattle.glock_names.specs.declared.steps.Missing.{Missing}
use Rattle.image_model.specs.Image.{Image}
use Rattle.image_model.specs.Owners.{Owners}
use Rattle.image_model.specs.Stands.{Layout}
use Rattle.image_changes.specs.Does.{IsOf}
use Rattle.resource_groups.specs.Putting.{HasDataBlock}
use Rattle.move_ends.specs.Holds.{AreHeld}
use Rattle.move_ends.specs.walk.Place.{Place}
use Rattle.move_ends.specs.Ends.{AreEnds, IsAbsentBlock, IsDamageAtEnds, IsFoundIn, IsLackedOnPaths, IsNeededAtEnds, IsRefusal, IsRefused, IsTarget, IsTold, MovesIn, StaysWhere, from_path, inode_holds, to_path}
use Rattle.move_ends.specs.declared.ends.Ends.{Ends}
use Rattle.move_ends.specs.declared.ends.Ends.TheVariants as ends
use Rattle.name_moves.specs.Moving.{CanBeMoved, Move, freed_by}
use Rattle.move_calls.specs.Carrying.{IsCarried, IsCarriedOut, IsDamageOf, IsFull, IsStuck, LacksLock, NeedsBlock}
use Rattle.move_calls.specs.Checks.{IsClear, IsNeededToSee, IsUnfit, IsWrongMove}

-- ---- what is to move

abbrev pub the_move : Call → Place → Place → Option (List ℕ) → Move
the_move call from to replaced = record { from = from.above; name = last_of (from_path call); to = to; new_name = last_of (to_path call); moved = from; replaced = replaced }

-- the blocks that go, as lists
abbrev pub blocks_of_replaced : Option (Vec ℕ Global) → Option (List ℕ)
blocks_of_replaced None = None
blocks_of_replaced (Some blocks) = Some blocks.items

-- The call is meant to move this, as its walks have seen it, and as it is in each image that the view may be of.
pub record IsMeant (v : Seen) (call : Call) (m : Move) : Type 0 where
  pub ends : AreEnds v call m.moved m.to
  pub target : IsTarget v call m.moved m.to m.replaced
  pub inside : (b : ℕ) → Contains (freed_by m) b → HasDataBlock v b
  pub is : m ≡ the_move call m.moved m.to m.replaced
  pub images : (im : Image) (o : Owners) (l : Layout) (t : Tree) → IsOf v im o l t → MovesIn v im o l t call m.moved m.to m.replaced × AreHeld v (inode_holds im o l call)

-- and it can be, and nothing that goes is on the way to a name of it
pub record IsToMove (v : Seen) (call : Call) (m : Move) : Type 0 where
  pub meant : IsMeant v call m
  pub can : CanBeMoved v m
  pub clear : IsClear v m

-- ---- as far as the view shows

-- the change is empty
pub record IsNothing (change : Change) : Type 0 where
  pub blocks : change.blocks.items ≡ []
  pub locks : change.locks.items ≡ []
  pub freed : change.freed.items ≡ []

-- The call is answered so: it is refused at the ends of its paths, or the name stays where it is, and nothing changes; or the name moved.
pub data IsAnswered (v : Seen) (call : Call) (node time : ℕ) : Reply → Change → Type 0 where
  refused : (r : Reply) (change : Change) → IsRefused v call r → IsNothing change → IsAnswered v call node time r change
  stays : (change : Change) → StaysWhere v call → IsNothing change → IsAnswered v call node time reply.Ok change
  moved : (m : Move) (change : Change) → IsToMove v call m → IsCarriedOut v node time m change → IsAnswered v call node time reply.Ok change

-- This lock isn't held so strongly: that which puts renames in order, or that of the next inode on the paths; or, where a name is to move, that of the next group.
pub data IsLackedFor (v : Seen) (call : Call) (node : ℕ) (lock : LockName) (state : State) : Type 0 where
  on_paths : IsLackedOnPaths v call lock state → IsLackedFor v call node lock state
  of_group : (m : Move) → IsToMove v call m → LacksLock v node m lock state → IsLackedFor v call node lock state

-- A block without which the call isn't answered: one on the paths, or of what stands at the new name; one without which it isn't told whether a directory that gets another parent
-- has `..`, or whether something that goes is on the way to a name; or one that is needed to move the name.
pub data IsNeededFor (v : Seen) (call : Call) (node : ℕ) (n : Missing) : Type 0 where
  at_ends : IsNeededAtEnds v call n → IsNeededFor v call node n
  to_see : (m : Move) → IsMeant v call m → IsNeededToSee v m n → IsNeededFor v call node n
  to_move : (m : Move) → IsToMove v call m → NeedsBlock v node m n → IsNeededFor v call node n

-- a name is to move, and fewer blocks are free than that needs
pub record IsFullFor (v : Seen) (call : Call) (node need free : ℕ) : Type 0 where
  pub move : Move
  pub moves : IsToMove v call move
  pub full : IsFull v node move need free

-- The call isn't built for what stands there: the name is to move, and can't, though it isn't told which block is wrong. In an image that stands for a tree none is such a one.
pub data IsUnbuilt (v : Seen) (call : Call) (node : ℕ) : Type 0 where
  unfit : (m : Move) → IsMeant v call m → IsUnfit v m → IsUnbuilt v call node
  stuck : (m : Move) → IsToMove v call m → IsStuck v node m → IsUnbuilt v call node

-- the block breaks this rule: at the ends of the paths; as a move that can't be made; or where the name is to move
pub data IsDamage (v : Seen) (call : Call) (node rule b : ℕ) : Type 0 where
  at_ends : IsDamageAtEnds v call rule b → IsDamage v call node rule b
  to_see : (m : Move) → IsMeant v call m → IsWrongMove v m rule b → IsDamage v call node rule b
  to_move : (m : Move) → IsToMove v call m → IsDamageOf v node m rule b → IsDamage v call node rule b

-- ---- part by part

-- what the ends of the paths tell, over the view and in each image that it may be of, is this
pub record IsAtEnds (v : Seen) (call : Call) (e : Ends) : Type 0 where
  pub told : IsTold v call e
  pub found : (im : Image) (o : Owners) (l : Layout) (t : Tree) → IsOf v im o l t → IsFoundIn v im o l t call e
  pub refusal : IsRefusal e
  pub absent : IsAbsentBlock v e

-- the answer is one by the ends
pub data IsAnswerAtEnds (v : Seen) (call : Call) : Attempt → Type 0 where
  refused : (r : Reply) (change : Change) → IsAtEnds v call (ends.Refused r) → IsNothing change → IsAnswerAtEnds v call (attempt.Done r change)
  stays : (change : Change) → IsAtEnds v call ends.Stays → IsNothing change → IsAnswerAtEnds v call (attempt.Done reply.Ok change)
  lacks : (lock : LockName) (state : State) → IsAtEnds v call (ends.NeedLock lock state) → IsAnswerAtEnds v call (attempt.NeedLock lock state)
  needs : (n : Missing) → IsAtEnds v call (ends.NeedBlock n) → IsAnswerAtEnds v call (attempt.NeedBlock n)

-- the answer is so: by the ends; a block that is needed to see that the move can be made; that it can't; or what carrying it out answers
pub data IsAnswerOf (v : Seen) (call : Call) (node time : ℕ) (a : Attempt) : Type 0 where
  by_ends : IsAnswerAtEnds v call a → IsAnswerOf v call node time a
  to_see : (m : Move) (n : Missing) → IsMeant v call m → IsNeededToSee v m n → a ≡ attempt.NeedBlock n → IsAnswerOf v call node time a
  unfit : (m : Move) → IsMeant v call m → IsUnfit v m → a ≡ attempt.NotBuilt → IsAnswerOf v call node time a
  carried : (m : Move) → IsToMove v call m → IsCarried v node time m a → IsAnswerOf v call node time a
