-- A draft that adds a name to a directory that may get blocks for it: in an image, the directory has a record more, and a block that was free is a new
-- inode's dinode.
use Rattle.std.specs.Prelude.{ℕ, ◌≡◌, ◌≢◌, ◌⊎◌, ◌==◌, if◌then◌else◌, IsSome, true, false, List, [], ◌∷◌, map, Contains, None, Some}
use Rattle.std.specs.List.{range_with_len}
use Rattle.std.specs.Ordering.{nat_cmp}
use Rattle.std.specs.FinMap.{FinMap, get}
use Rattle.file_tree.specs.Tree.{Tree}
use Rattle.file_tree.specs.Names.{IsName}
use Rattle.file_tree.specs.Apply.{apply, put_at}
use Rattle.file_tree.specs.declared.call.Call.{Call}
use Rattle.file_tree.specs.declared.reply.Reply.TheVariants.{Ok}
use Rattle.drafts.specs.Fates.{AreWhole}
use Rattle.drafts.specs.declared.fate.Fate.{Fate}
use Rattle.drafts.specs.declared.fate.Fate.TheVariants.{Put}
use Rattle.gfs2_layout.specs.declared.rindex.Rindex.{Rindex}
use Rattle.gfs2_layout.specs.Holding.{Holding, alone}
use Rattle.gfs2_layout.specs.Inode.{IsInode, head_of}
use Rattle.gfs2_layout.specs.Records.{Record, child_named}
use Rattle.glock_names.specs.Views.{Seen}
use Rattle.linear_dirs.specs.Exchanges.{HasExchanged}
use Rattle.image_model.specs.Flat.{Path}
use Rattle.image_model.specs.Groups.{IsListed, IsHeaderOf, state_of}
use Rattle.image_model.specs.Image.{Image}
use Rattle.image_model.specs.Owners.{Owners, holding}
use Rattle.image_model.specs.Stands.{Layout, IsRecordOf, heads_of}
use Rattle.image_changes.specs.Does.{IsOf}
use Rattle.image_changes.specs.Drafted.{MakesIn, with_draft}
use Rattle.image_changes.specs.Flats.{in_directory}
use Rattle.image_changes.specs.Instances.{IsAt, among, records_at, is_directory_at}
use Rattle.draft_changes.specs.Adding.{ReadsNew}
use Rattle.draft_changes.specs.Groups.{PutsGroup}
use Rattle.draft_changes.specs.Removing.{HasSome}
use Rattle.draft_changes.specs.Resizing.{HasExchangedBlocks, HoldsThere, IsSaidFree}

-- the states of a group's data blocks, with that of the new inode's block put to a dinode's, and of each other taken block to used
abbrev pub states_made : Owners → ℕ → List ℕ → Rindex → List ℕ
states_made o a taken g = map (λ b. if b == a then 3 else if among taken b then 1 else state_of (o b)) (range_with_len g.data0 g.data_blocks)

-- a block of the directory in this block is put under its lock, or is left, and then it was the directory's before
abbrev pub IsPutOrLeft : FinMap nat_cmp Fate → Holding → ℕ → ℕ → Type 0
IsPutOrLeft fates h dir b = ((bytes : List ℕ) × (get fates b ≡ Some (Put (record { kind = 2; number = dir }) false bytes))) ⊎ (IsSome (h.cell b) × (get fates b ≡ None))

-- In one image the draft adds the name of the inode in block a to the directory, of which it makes this one, with the taken blocks more.
pub record GrowsByName (im : Image) (o : Owners) (l : Layout) (fates : FinMap nat_cmp Fate) (parent : ℕ) (name : List ℕ) (a : ℕ) (u : Tree) (g : Holding) (taken : List ℕ) : Type 0 where
  pub whole : AreWhole im.size fates
  -- all blocks that are taken were free, and each group that has some of them says what they are
  pub free : (b : ℕ) → Contains (a ∷ taken) b → IsSaidFree im l b
  pub apart : ¬ (Contains taken a)
  pub states : (k : Rindex) → IsListed l.groups k → HasSome k (a ∷ taken) → PutsGroup im fates k (states_made o a taken k)
  -- the new inode
  pub bytes : List ℕ
  pub put : get fates a ≡ Some (Put (record { kind = 2; number = a }) false bytes)
  pub sound : IsInode (alone im.size im.count a bytes)
  pub new : ReadsNew (heads_of im o parent) parent (alone im.size im.count a bytes) u
  -- the directory, with a record more
  pub is_name : IsName name
  pub directory : is_directory_at im o parent ≡ true
  pub absent : child_named (records_at im o parent) name ≡ None
  pub entry : Record
  pub named : entry.name ≡ name
  pub true_of : IsRecordOf (λ b. head_of (alone im.size im.count a bytes)) a entry
  pub there : HoldsThere (with_draft im fates) parent g
  pub exchanged : HasExchanged (holding im o parent) g [] (entry ∷ [])
  pub blocks : HasExchangedBlocks (holding im o parent) g taken []
  pub puts : (b : ℕ) → IsSome (g.cell b) → IsPutOrLeft fates (holding im o parent) parent b
  -- and nothing else
  pub others : (b : ℕ) → ¬ (IsSome (g.cell b)) → b ≢ a → ((k : Rindex) → IsListed l.groups k → HasSome k (a ∷ taken) → ¬ (IsHeaderOf k b)) → get fates b ≡ None

-- a draft that does so in an image that the view may be of makes there what the call should, where the tree takes the call so
abbrev pub GrowingMakes : Type 0
GrowingMakes = (v : Seen) (call : Call) (fates : FinMap nat_cmp Fate) (im : Image) (o : Owners) (l : Layout) (t : Tree) (path : Path) (parent : ℕ) (name : List ℕ) (a : ℕ) (u : Tree) (g : Holding) (taken : List ℕ)
    → IsOf v im o l t → IsAt im o l path parent → GrowsByName im o l fates parent name a u g taken
    → apply call t ≡ record { reply = Ok; tree = put_at (in_directory path name) u t }
    → MakesIn v call Ok fates im o l t
