-- A draft that moves a name, between directories of any form or within one: in an image, the record goes here and comes there, what stood at the target
-- is no more, and a directory that gets another parent names it. A name that is moved onto itself is no change, and isn't meant here.
use Rattle.std.specs.Prelude.{ℕ, ◌≡◌, ◌≢◌, ◌↔◌, IsSome, true, false, List, [], ◌∷◌, codes, Contains, None, Some}
use Rattle.std.specs.Ordering.{nat_cmp}
use Rattle.std.specs.FinMap.{FinMap, get}
use Rattle.file_tree.specs.Tree.{Tree}
use Rattle.file_tree.specs.Names.{IsName, leads_to}
use Rattle.file_tree.specs.Apply.{apply, put_at, remove_at}
use Rattle.file_tree.specs.declared.call.Call.{Call}
use Rattle.file_tree.specs.declared.reply.Reply.TheVariants.{Ok}
use Rattle.drafts.specs.Fates.{AreWhole}
use Rattle.drafts.specs.declared.fate.Fate.{Fate}
use Rattle.drafts.specs.declared.fate.Fate.TheVariants.{Freed}
use Rattle.gfs2_layout.specs.declared.rindex.Rindex.{Rindex}
use Rattle.gfs2_layout.specs.Holding.{Holding}
use Rattle.gfs2_layout.specs.Records.{Record, child_named}
use Rattle.glock_names.specs.Views.{Seen}
use Rattle.glock_names.specs.declared.State.TheVariants.{Ex}
use Rattle.linear_dirs.specs.Exchanges.{HasExchanged}
use Rattle.image_model.specs.Flat.{Path, tree_at}
use Rattle.image_model.specs.Groups.{IsListed, IsHeaderOf}
use Rattle.image_model.specs.Image.{Image}
use Rattle.image_model.specs.Owners.{Owners, holding}
use Rattle.image_model.specs.Stands.{Layout, IsRecordOf, heads_of}
use Rattle.image_changes.specs.Does.{IsOf}
use Rattle.image_changes.specs.Drafted.{MakesIn, with_draft}
use Rattle.image_changes.specs.Flats.{in_directory}
use Rattle.image_changes.specs.Instances.{IsAt, IsChildless, is_directory_at, records_at}
use Rattle.draft_changes.specs.Groups.{PutsGroup}
use Rattle.draft_changes.specs.Resizing.{HasExchangedBlocks, HasSomeOf, HoldsThere, IsSaidFree, states_with}
use Rattle.directory_changes.specs.Growing.{IsPutOrLeft}

-- What stood at the target: nothing; or an inode that names nothing, of which these are all blocks.
pub data IsTargetOf (im : Image) (o : Owners) (l : Layout) (path : Path) (to : ℕ) (name : List ℕ) : List ℕ → List Record → List ℕ → Type 0 where
  nothing : child_named (records_at im o to) name ≡ None → IsTargetOf im o l path to name [] [] []
  an_inode : (c : ℕ) (entry : Record) (blocks : List ℕ) → IsAt im o l (in_directory path name) c → IsChildless im o c → entry.name ≡ name
      → ((b : ℕ) → Contains blocks b ↔ IsSome ((holding im o c).cell b)) → IsTargetOf im o l path to name (c ∷ []) (entry ∷ []) blocks

-- The record goes from one directory to the other, which is this one afterwards; or within one.
pub data AreRecordsMoved (im : Image) (o : Owners) (fates : FinMap nat_cmp Fate) (from to : ℕ) (g : Holding) (old new : Record) (target : List Record) : Type 0 where
  in_one : from ≡ to → HasExchanged (holding im o to) g (old ∷ target) (new ∷ []) → AreRecordsMoved im o fates from to g old new target
  in_two : from ≢ to → HasExchanged (holding im o from) (holding (with_draft im fates) o from) (old ∷ []) [] → HasExchanged (holding im o to) g target (new ∷ [])
      → AreRecordsMoved im o fates from to g old new target

-- The inode itself is left, and so keeps its parent where it is a directory; or it is a directory that gets another parent, and its `..` names
-- that, in the blocks that it has.
pub data IsInodeMoved (im : Image) (o : Owners) (fates : FinMap nat_cmp Fate) (from to a : ℕ) : Type 0 where
  left_alone : (is_directory_at im o a ≡ true → from ≡ to) → ((b : ℕ) → IsSome ((holding im o a).cell b) → get fates b ≡ None) → IsInodeMoved im o fates from to a
  gets_parent : (old new : Record) → is_directory_at im o a ≡ true → HasExchanged (holding im o a) (holding (with_draft im fates) o a) (old ∷ []) (new ∷ [])
      → old.name ≡ codes ".." → new.name ≡ codes ".." → IsRecordOf (heads_of im o) to new
      → ((b : ℕ) → IsSome ((holding im o a).cell b) → IsPutOrLeft fates (holding im o a) a b) → IsInodeMoved im o fates from to a

-- In one image the draft moves the name of the inode in block a from one directory to the other, or within one. The directory that gets the name
-- is this holding afterwards, with the taken blocks more; each block of what stood at the target is freed. That the inode is none of the two
-- directories, and what stood at the target none of the three, isn't asked: it follows where the paths are apart.
pub record MovesName (im : Image) (o : Owners) (l : Layout) (fates : FinMap nat_cmp Fate) (from : ℕ) (name : List ℕ) (path' : Path) (to : ℕ) (name' : List ℕ) (a : ℕ) (g : Holding) (taken removed freed : List ℕ) : Type 0 where
  pub whole : AreWhole im.size fates
  -- what stood at the target
  pub target : List Record
  pub stood : IsTargetOf im o l path' to name' removed target freed
  pub frees : (b : ℕ) → Contains freed b → get fates b ≡ Some Freed
  -- the blocks that are taken were free, and each group that has some of these or of those says so
  pub free : (b : ℕ) → Contains taken b → IsSaidFree im l b
  pub states : (k : Rindex) → IsListed l.groups k → HasSomeOf k taken freed → PutsGroup im fates k (states_with o taken freed k)
  -- the directories
  pub is_name : IsName name'
  pub directory : is_directory_at im o to ≡ true
  pub old : Record
  pub new : Record
  pub old_named : old.name ≡ name
  pub new_named : new.name ≡ name'
  pub true_of : IsRecordOf (heads_of im o) a new
  pub there : HoldsThere (with_draft im fates) to g
  pub blocks : HasExchangedBlocks (holding im o to) g taken []
  pub records : AreRecordsMoved im o fates from to g old new target
  pub puts_from : from ≢ to → (b : ℕ) → IsSome ((holding im o from).cell b) → IsPutOrLeft fates (holding im o from) from b
  pub puts_to : (b : ℕ) → IsSome (g.cell b) → IsPutOrLeft fates (holding im o to) to b
  -- the inode
  pub itself : IsInodeMoved im o fates from to a
  -- and nothing else
  pub others : (b : ℕ) → ¬ (IsSome ((holding im o from).cell b)) → ¬ (IsSome (g.cell b)) → ¬ (IsSome ((holding im o a).cell b)) → ¬ (Contains freed b)
      → ((k : Rindex) → IsListed l.groups k → HasSomeOf k taken freed → ¬ (IsHeaderOf k b)) → get fates b ≡ None

-- a draft that does so in an image that the view may be of makes there what the call should, where the tree takes the call so and the lock of
-- what stood at the target is held exclusive
abbrev pub MovingMakes : Type 0
MovingMakes = (v : Seen) (call : Call) (fates : FinMap nat_cmp Fate) (im : Image) (o : Owners) (l : Layout) (t : Tree) (path path' : Path) (from : ℕ) (name : List ℕ) (to : ℕ) (name' : List ℕ) (a : ℕ) (g : Holding)
    (taken removed freed : List ℕ) (u : Tree)
    → IsOf v im o l t → IsAt im o l path from → IsAt im o l path' to → IsAt im o l (in_directory path name) a
    → tree_at t (in_directory path name) ≡ Some u → leads_to (in_directory path name) (in_directory path' name') ≡ false
    → MovesName im o l fates from name path' to name' a g taken removed freed
    → ((c : ℕ) → Contains removed c → v.state_of (record { kind = 2; number = c }) ≡ Ex)
    → apply call t ≡ record { reply = Ok; tree = put_at (in_directory path' name') u (remove_at (in_directory path name) t) }
    → MakesIn v call Ok fates im o l t
