-- A draft that removes a name from a directory of any form: in an image, the directory has a record less, and each block of the inode is freed.
use Rattle.std.specs.Prelude.{ℕ, ◌≡◌, ◌↔◌, IsSome, List, [], ◌∷◌, Contains, None, Some}
use Rattle.std.specs.Ordering.{nat_cmp}
use Rattle.std.specs.FinMap.{FinMap, get}
use Rattle.file_tree.specs.Tree.{Tree}
use Rattle.file_tree.specs.Apply.{apply, remove_at}
use Rattle.file_tree.specs.declared.call.Call.{Call}
use Rattle.file_tree.specs.declared.reply.Reply.TheVariants.{Ok}
use Rattle.drafts.specs.Fates.{AreWhole}
use Rattle.drafts.specs.declared.fate.Fate.{Fate}
use Rattle.drafts.specs.declared.fate.Fate.TheVariants.{Freed}
use Rattle.gfs2_layout.specs.declared.rindex.Rindex.{Rindex}
use Rattle.gfs2_layout.specs.Records.{Record}
use Rattle.glock_names.specs.Views.{Seen}
use Rattle.glock_names.specs.declared.State.TheVariants.{Ex}
use Rattle.linear_dirs.specs.Exchanges.{HasExchanged}
use Rattle.image_model.specs.Flat.{Path}
use Rattle.image_model.specs.Groups.{IsListed, IsHeaderOf}
use Rattle.image_model.specs.Image.{Image}
use Rattle.image_model.specs.Owners.{Owners, holding}
use Rattle.image_model.specs.Stands.{Layout}
use Rattle.image_changes.specs.Does.{IsOf}
use Rattle.image_changes.specs.Drafted.{MakesIn, with_draft}
use Rattle.image_changes.specs.Flats.{in_directory}
use Rattle.image_changes.specs.Instances.{IsAt, IsChildless}
use Rattle.draft_changes.specs.Groups.{PutsGroup}
use Rattle.draft_changes.specs.Removing.{HasSome, states_without}
use Rattle.directory_changes.specs.Growing.{IsPutOrLeft}

-- In one image the draft removes the name of the inode in block a from the directory, which keeps its blocks.
pub record ShrinksByName (im : Image) (o : Owners) (l : Layout) (fates : FinMap nat_cmp Fate) (parent : ℕ) (name : List ℕ) (a : ℕ) : Type 0 where
  pub whole : AreWhole im.size fates
  -- the inode, which names nothing: these are its blocks, and each of them is freed
  pub childless : IsChildless im o a
  pub blocks : List ℕ
  pub own : (b : ℕ) → Contains blocks b ↔ IsSome ((holding im o a).cell b)
  pub freed : (b : ℕ) → Contains blocks b → get fates b ≡ Some Freed
  -- each group of which some block is freed says so
  pub states : (g : Rindex) → IsListed l.groups g → HasSome g blocks → PutsGroup im fates g (states_without o blocks g)
  -- the directory, with a record less
  pub entry : Record
  pub named : entry.name ≡ name
  pub exchanged : HasExchanged (holding im o parent) (holding (with_draft im fates) o parent) (entry ∷ []) []
  pub puts : (b : ℕ) → IsSome ((holding im o parent).cell b) → IsPutOrLeft fates (holding im o parent) parent b
  -- and nothing else
  pub others : (b : ℕ) → ¬ (IsSome ((holding im o parent).cell b)) → ¬ (Contains blocks b) → ((g : Rindex) → IsListed l.groups g → HasSome g blocks → ¬ (IsHeaderOf g b)) → get fates b ≡ None

-- a draft that does so in an image that the view may be of makes there what the call should, where the tree takes the call so and the lock of
-- the inode is held exclusive
abbrev pub ShrinkingMakes : Type 0
ShrinkingMakes = (v : Seen) (call : Call) (fates : FinMap nat_cmp Fate) (im : Image) (o : Owners) (l : Layout) (t : Tree) (path : Path) (parent : ℕ) (name : List ℕ) (a : ℕ)
    → IsOf v im o l t → IsAt im o l path parent → IsAt im o l (in_directory path name) a → ShrinksByName im o l fates parent name a
    → v.state_of (record { kind = 2; number = a }) ≡ Ex
    → apply call t ≡ record { reply = Ok; tree = remove_at (in_directory path name) t }
    → MakesIn v call Ok fates im o l t
