-- A draft that adds a name: in an image, the directory gets a record more, and a block that was free a new inode's dinode.
use Rattle.std.specs.Prelude.{ℕ, ◌≡◌, ◌≢◌, ◌-◌, true, false, List, [], ◌∷◌, codes, slice_set, None, Some}
use Rattle.std.specs.List.Sorted.{IsPermutation}
use Rattle.std.specs.Ordering.{nat_cmp}
use Rattle.std.specs.FinMap.{FinMap, get}
use Rattle.file_tree.specs.Tree.{Tree, file, dir, none}
use Rattle.file_tree.specs.Names.{IsName}
use Rattle.file_tree.specs.Apply.{apply, put_at}
use Rattle.file_tree.specs.declared.call.Call.{Call}
use Rattle.file_tree.specs.declared.reply.Reply.TheVariants.{Ok}
use Rattle.drafts.specs.Fates.{AreWhole}
use Rattle.drafts.specs.declared.fate.Fate.{Fate}
use Rattle.drafts.specs.declared.fate.Fate.TheVariants.{Put}
use Rattle.gfs2_layout.specs.Bitmap.{state_at}
use Rattle.gfs2_layout.specs.Groups.{bitmap_of}
use Rattle.gfs2_layout.specs.declared.rindex.Rindex.{Rindex}
use Rattle.gfs2_layout.specs.Holding.{Holding, alone}
use Rattle.gfs2_layout.specs.Inode.{Head, IsInode, dinode_in, is_directory_in, head_of, records_of}
use Rattle.gfs2_layout.specs.Records.{Record, child_named}
use Rattle.glock_names.specs.Views.{Seen}
use Rattle.linear_dirs.specs.Exchanges.{HasExchanged}
use Rattle.image_model.specs.Flat.{Path}
use Rattle.image_model.specs.Groups.{IsListed, IsHeaderOf, IsDataOf, group_blocks, states_of}
use Rattle.image_model.specs.Image.{Image}
use Rattle.image_model.specs.Owners.{Owners, holding}
use Rattle.image_model.specs.Stands.{Layout, IsRecordOf, heads_of}
use Rattle.image_changes.specs.Does.{IsOf}
use Rattle.image_changes.specs.Drafted.{MakesIn, with_draft}
use Rattle.image_changes.specs.Flats.{in_directory}
use Rattle.image_changes.specs.Instances.{IsAt, records_at, is_directory_at}
use Rattle.draft_changes.specs.Groups.{PutsGroup}

-- a directory without a name: `.` is its record of itself, and `..` that of its parent, which has this number and kind
pub record IsEmptyDirectory (above : Head) (parent : ℕ) (h : Holding) : Type 0 where
  pub directory : is_directory_in h ≡ true
  pub dot : Record
  pub dots : Record
  pub are : IsPermutation (records_of h) (dot ∷ (dots ∷ []))
  pub dot_is : (dot.name ≡ codes ".") × IsRecordOf (λ b. head_of h) h.own dot
  pub dots_is : (dots.name ≡ codes "..") × IsRecordOf (λ b. above) parent dots
  pub entries : (dinode_in h).entries ≡ 2
  pub links : (dinode_in h).nlink ≡ 2

-- a new inode reads as a file without content, or as a directory without a name
pub data ReadsNew (above : Head) (parent : ℕ) (h : Holding) : Tree → Type 0 where
  empty_file : is_directory_in h ≡ false → (dinode_in h).size ≡ 0 → ReadsNew above parent h (file [])
  empty_directory : IsEmptyDirectory above parent h → ReadsNew above parent h (dir none)

-- In one image the draft adds the name of the inode in block a to the directory.
pub record AddsName (im : Image) (o : Owners) (l : Layout) (fates : FinMap nat_cmp Fate) (parent : ℕ) (name : List ℕ) (a : ℕ) (u : Tree) : Type 0 where
  pub whole : AreWhole im.size fates
  -- the block, which was free, and its group
  pub group : Rindex
  pub listed : IsListed l.groups group
  pub data_block : IsDataOf group a
  pub was_free : state_at (bitmap_of (group_blocks im.at group)) (a - group.data0) ≡ 0
  pub states : PutsGroup im fates group (slice_set (states_of o group) (a - group.data0) 3)
  -- the new inode
  pub bytes : List ℕ
  pub put : get fates a ≡ Some (Put (record { kind = 2; number = a }) false bytes)
  pub sound : IsInode (alone im.size im.count a bytes)
  pub new : ReadsNew (heads_of im o parent) parent (alone im.size im.count a bytes) u
  -- the directory, with a record more
  pub is_name : IsName name
  pub directory : is_directory_at im o parent ≡ true
  pub absent : child_named (records_at im o parent) name ≡ None
  pub entry : Record
  pub named : entry.name ≡ name
  pub true_of : IsRecordOf (λ b. head_of (alone im.size im.count a bytes)) a entry
  pub parent_bytes : List ℕ
  pub parent_put : get fates parent ≡ Some (Put (record { kind = 2; number = parent }) false parent_bytes)
  pub exchanged : HasExchanged (holding im o parent) (holding (with_draft im fates) o parent) [] (entry ∷ [])
  -- and nothing else
  pub others : (b : ℕ) → b ≢ parent → b ≢ a → ¬ (IsHeaderOf group b) → get fates b ≡ None

-- a draft that adds a name in an image that the view may be of makes there what the call should, where the tree takes the call so
abbrev pub AddingMakes : Type 0
AddingMakes = (v : Seen) (call : Call) (fates : FinMap nat_cmp Fate) (im : Image) (o : Owners) (l : Layout) (t : Tree) (path : Path) (parent : ℕ) (name : List ℕ) (a : ℕ) (u : Tree)
    → IsOf v im o l t → IsAt im o l path parent → AddsName im o l fates parent name a u
    → apply call t ≡ record { reply = Ok; tree = put_at (in_directory path name) u t }
    → MakesIn v call Ok fates im o l t
