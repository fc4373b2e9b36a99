-- A draft that changes the content of a file which keeps its blocks.
use Rattle.std.specs.Prelude.{ℕ, zero, ◌≡◌, ◌≢◌, ◌≤◌, Bool, true, false, IsSome, List, Option, Some}
use Rattle.std.specs.Ordering.{nat_cmp}
use Rattle.std.specs.FinMap.{FinMap, get}
use Rattle.file_tree.specs.Tree.{Tree, file}
use Rattle.file_tree.specs.Apply.{apply, file_limit, put_at}
use Rattle.file_tree.specs.declared.call.Call.{Call}
use Rattle.file_tree.specs.declared.reply.Reply.TheVariants.{Ok}
use Rattle.drafts.specs.Fates.{AreWhole}
use Rattle.drafts.specs.declared.fate.Fate.{Fate}
use Rattle.drafts.specs.declared.fate.Fate.TheVariants.{Put, Freed}
use Rattle.gfs2_layout.specs.Holding.{Holding, Part, Pointed, part_at}
use Rattle.gfs2_layout.specs.Inode.{IsInode, dinode_in, head_of, content_of}
use Rattle.glock_names.specs.Views.{Seen}
use Rattle.glock_names.specs.declared.LockName.{LockName}
use Rattle.image_model.specs.Flat.{Path}
use Rattle.image_model.specs.Image.{Image}
use Rattle.image_model.specs.Owners.{Owners, holding}
use Rattle.image_model.specs.Stands.{Layout}
use Rattle.image_changes.specs.Does.{IsOf}
use Rattle.image_changes.specs.Drafted.{MakesIn, with_draft}
use Rattle.image_changes.specs.Instances.{IsAt, is_directory_at}

-- the part is that of a block of content
abbrev pub is_content_part : Option Part → Bool
is_content_part (Some (Pointed above k zero first)) = true
is_content_part _ = false

-- what is put into a block of the inode: under the inode's lock, and plain where the block is content
pub record IsPutInFile (h : Holding) (b : ℕ) (lock : LockName) (plain : Bool) : Type 0 where
  pub own : IsSome (h.cell b)
  pub under : lock ≡ record { kind = 2; number = h.own }
  pub is_plain : plain ≡ is_content_part (part_at h b)

-- a file with other bytes in its blocks: it is sound, with the number that it had, and no longer than a file may be
pub record IsRewritten (h h' : Holding) : Type 0 where
  pub sound : IsInode h'
  pub head : head_of h' ≡ head_of h
  pub short : (dinode_in h').size ≤ file_limit

-- In one image the draft puts blocks of the file, and nothing else.
pub record RewritesFile (im : Image) (o : Owners) (fates : FinMap nat_cmp Fate) (a : ℕ) : Type 0 where
  pub whole : AreWhole im.size fates
  pub is_file : is_directory_at im o a ≡ false
  pub rewritten : IsRewritten (holding im o a) (holding (with_draft im fates) o a)
  pub puts : (b : ℕ) (lock : LockName) (plain : Bool) (bytes : List ℕ) → get fates b ≡ Some (Put lock plain bytes) → IsPutInFile (holding im o a) b lock plain
  pub kept : (b : ℕ) → get fates b ≢ Some Freed

-- a draft that changes a file's content in an image that the view may be of makes there what the call should, where the tree takes the
-- call so
abbrev pub RewritingMakes : Type 0
RewritingMakes = (v : Seen) (call : Call) (fates : FinMap nat_cmp Fate) (im : Image) (o : Owners) (l : Layout) (t : Tree) (path : Path) (a : ℕ)
    → IsOf v im o l t → IsAt im o l path a → RewritesFile im o fates a
    → apply call t ≡ record { reply = Ok; tree = put_at path (file (content_of (holding (with_draft im fates) o a))) t }
    → MakesIn v call Ok fates im o l t
