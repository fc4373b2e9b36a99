-- What a draft's change is of the draft, and what a call shows of its draft so that its answer means what it should.
use Rattle.std.specs.Prelude.{ℕ, ◌≡◌, ◌||◌, Bool, true, false, is_some, unwrap_or, slice_get, List, Option, None, Some}
use Rattle.std.specs.Ordering.{nat_cmp}
use Rattle.std.specs.FinMap.{FinMap, get, entries}
use Rattle.file_tree.specs.Tree.{Tree, file}
use Rattle.file_tree.specs.Names.{leads_to}
use Rattle.file_tree.specs.Apply.{apply, put_at, remove_at}
use Rattle.file_tree.specs.declared.call.Call.{Call}
use Rattle.file_tree.specs.declared.reply.Reply.{Reply}
use Rattle.cluster_history.specs.Changes.{Changes}
use Rattle.gfs2_layout.specs.Inode.{content_of}
use Rattle.glock_names.specs.Views.{Seen}
use Rattle.glock_names.specs.declared.LockName.{LockName}
use Rattle.glock_names.specs.declared.State.TheVariants.{Ex}
use Rattle.drafts.specs.declared.change.Change.{Change}
use Rattle.drafts.specs.declared.change.Written.{Written}
use Rattle.drafts.specs.declared.fate.Fate.{Fate}
use Rattle.drafts.specs.declared.fate.Fate.TheVariants.{Put, Freed}
use Rattle.drafts.specs.Fates.{AreWhole, block_with, seen_with, blocks_in, locks_in, freed_in}
use Rattle.image_model.specs.Flat.{Path, tree_at}
use Rattle.image_model.specs.Image.{Image}
use Rattle.image_model.specs.Owners.{Owners, holding}
use Rattle.image_model.specs.Stands.{Layout}
use Rattle.image_changes.specs.Flats.{in_directory}
use Rattle.image_changes.specs.Instances.{IsAt, IsFileChanged, IsNameAdded, IsNameRemoved, IsNameMoved}
use Rattle.image_changes.specs.Does.{with_change, writes, frees, IsFormed, IsOf, IsHeld, AreInside, LiesInGroup, IsWritten, IsFreed, GroupsAreWritten, Does}

-- ---- what becomes of blocks in a draft

abbrev pub is_gone : Option Fate → Bool
is_gone (Some Freed) = true
is_gone _ = false

abbrev pub is_put : FinMap nat_cmp Fate → ℕ → Bool
is_put fates b = is_some (block_with (get fates b) None)

abbrev pub is_freed : FinMap nat_cmp Fate → ℕ → Bool
is_freed fates b = is_gone (get fates b)

-- the draft puts the block or frees it
abbrev pub is_drafted : FinMap nat_cmp Fate → ℕ → Bool
is_drafted fates b = is_put fates b || is_freed fates b

-- the image with the blocks that are put
abbrev pub with_draft : Image → FinMap nat_cmp Fate → Image
with_draft im fates = record { size = im.size; count = im.count; at = λ b. unwrap_or (block_with (get fates b) None) (im.at b) }

-- ---- what a draft's change is

-- the change that the draft is finished to
pub record IsFinished (fates : FinMap nat_cmp Fate) (change : Change) : Type 0 where
  pub blocks : change.blocks.items ≡ blocks_in (entries fates)
  pub locks : change.locks.items ≡ locks_in (entries fates)
  pub freed : change.freed.items ≡ freed_in (entries fates)

-- it has the form of a change; it writes what is put and frees what is freed; at the place of a block stands the lock with which it was
-- put; and an image with the change has the blocks that were put
pub record IsOfDraft (fates : FinMap nat_cmp Fate) (change : Change) : Type 0 where
  pub form : IsFormed change
  pub puts : (b : ℕ) → writes change b ≡ is_put fates b
  pub gone : (b : ℕ) → frees change b ≡ is_freed fates b
  pub told : (i : ℕ) (w : Written) (lock : LockName) → slice_get change.blocks.items i ≡ Some w → slice_get change.locks.items i ≡ Some lock
      → get fates w.block ≡ Some (Put lock w.plain w.bytes)
  pub image : (im : Image) → with_change im change ≡ with_draft im fates

abbrev pub FinishMakes : Type 0
FinishMakes = (fates : FinMap nat_cmp Fate) (change : Change) → IsFinished fates change → IsOfDraft fates change

-- an image that agrees with the view has, with the blocks that are put, what the draft sees, and as it was what the draft doesn't see
abbrev pub DraftsShow : Type 0
DraftsShow = (v : Seen) (fates : FinMap nat_cmp Fate) (im : Image) → ((b : ℕ) (bytes : List ℕ) → v.block_at b ≡ Some bytes → im.at b ≡ bytes)
    → (b : ℕ) → (with_draft im fates).at b ≡ unwrap_or ((seen_with v fates).block_at b) (im.at b)

-- ---- what a call shows of its draft

-- one of the four changes, and the tree after it
pub data IsOneOfFour (im im' : Image) (o o' : Owners) (l : Layout) (written : ℕ → Bool) (t : Tree) : Tree → Type 0 where
  file_changed : (path : Path) (a : ℕ) → IsAt im o l path a → IsFileChanged im im' o o' l written a
      → IsOneOfFour im im' o o' l written t (put_at path (file (content_of (holding im' o' a))) t)
  name_added : (path : Path) (parent : ℕ) (name : List ℕ) (a : ℕ) (u : Tree) → IsAt im o l path parent → IsNameAdded im im' o o' l written parent name a u
      → IsOneOfFour im im' o o' l written t (put_at (in_directory path name) u t)
  name_removed : (path : Path) (parent : ℕ) (name : List ℕ) (a : ℕ) → IsAt im o l path parent → IsNameRemoved im im' o o' l written parent name a
      → IsOneOfFour im im' o o' l written t (remove_at (in_directory path name) t)
  name_moved : (path path' : Path) (from : ℕ) (name : List ℕ) (to : ℕ) (name' : List ℕ) (a : ℕ) (u : Tree) → IsAt im o l path from → IsAt im o l path' to
      → tree_at t (in_directory path name) ≡ Some u → leads_to (in_directory path name) (in_directory path' name') ≡ false
      → IsNameMoved im im' o o' l written from name to name' a
      → IsOneOfFour im im' o o' l written t (put_at (in_directory path' name') u (remove_at (in_directory path name) t))

-- In one image: the blocks that are put make one of the four changes, to the tree after the call, which is answered as the tree says;
-- each block that is put or freed was and is what it should be, one that is freed under a lock that is held exclusive; and groups are
-- written.
pub record MakesIn (v : Seen) (call : Call) (reply : Reply) (fates : FinMap nat_cmp Fate) (im : Image) (o : Owners) (l : Layout) (t : Tree) : Type 0 where
  pub owners : Owners
  pub tree : Tree
  pub answers : apply call t ≡ record { reply = reply; tree = tree }
  pub one : IsOneOfFour im (with_draft im fates) o owners l (is_drafted fates) t tree
  pub written : (w : Written) (lock : LockName) → get fates w.block ≡ Some (Put lock w.plain w.bytes) → IsWritten l (with_draft im fates) o owners w lock
  pub freed : (b : ℕ) → is_freed fates b ≡ true → IsFreed (is_put fates) (is_freed fates) o owners b
  pub held : (b : ℕ) → is_freed fates b ≡ true → IsHeld v l o b
  pub groups : GroupsAreWritten (is_put fates) (is_drafted fates) o owners

-- in every image that the view may be of each lock with which a draft puts a block is held exclusive
abbrev pub ArePutUnderHeld : Seen → FinMap nat_cmp Fate → Type 0
ArePutUnderHeld v fates = (im : Image) (o : Owners) (l : Layout) (t : Tree) → IsOf v im o l t
    → (b : ℕ) (lock : LockName) (plain : Bool) (bytes : List ℕ) → get fates b ≡ Some (Put lock plain bytes) → v.state_of lock ≡ Ex

-- a changing call that was answered Ok, and whose draft, which puts some block, puts each with a lock that is held exclusive and makes
-- one of the four changes in every image that the view may be of, does what it should
abbrev pub DraftsDo : Type 0
DraftsDo = (v : Seen) (call : Call) (reply : Reply) (fates : FinMap nat_cmp Fate) (change : Change) → IsFinished fates change
    → Changes (record { call = call; reply = reply }) ≡ true
    → (some : ℕ) → is_put fates some ≡ true
    → ArePutUnderHeld v fates
    → ((im : Image) (o : Owners) (l : Layout) (t : Tree) → IsOf v im o l t → MakesIn v call reply fates im o l t)
    → Does v call reply change

-- what a draft writes that puts whole blocks alone, each in one of the view's groups, is inside
abbrev pub DraftsStayInside : Type 0
DraftsStayInside = (v : Seen) (fates : FinMap nat_cmp Fate) (change : Change) → IsFinished fates change → AreWhole v.size fates
    → ((b : ℕ) (lock : LockName) (plain : Bool) (bytes : List ℕ) → get fates b ≡ Some (Put lock plain bytes) → LiesInGroup v b)
    → AreInside v change
