-- A draft that changes a file's content and which blocks it has: those that it takes were free, and those that it gives back are freed.
use Rattle.std.specs.Prelude.{ℕ, ◌≡◌, ◌⊎◌, ◌↔◌, ◌-◌, ◌<◌, ◌≢◌, IsSome, Bool, true, false, if◌then◌else◌, List, [], map, Contains, None, Some}
use Rattle.std.specs.List.{range_with_len}
use Rattle.std.specs.Ordering.{nat_cmp}
use Rattle.std.specs.FinMap.{FinMap, get}
use Rattle.file_tree.specs.Tree.{Tree, file}
use Rattle.file_tree.specs.Apply.{apply, put_at}
use Rattle.file_tree.specs.declared.call.Call.{Call}
use Rattle.file_tree.specs.declared.reply.Reply.TheVariants.{Ok}
use Rattle.drafts.specs.Fates.{AreWhole, Drafted}
use Rattle.drafts.specs.declared.fate.Fate.{Fate}
use Rattle.drafts.specs.declared.fate.Fate.TheVariants.{Put, Freed}
use Rattle.gfs2_layout.specs.Bitmap.{state_at}
use Rattle.gfs2_layout.specs.Groups.{bitmap_of}
use Rattle.gfs2_layout.specs.Holding.{Holding, Itself, Pointed, part_at, bytes_at}
use Rattle.gfs2_layout.specs.Inode.{content_of}
use Rattle.gfs2_layout.specs.declared.rindex.Rindex.{Rindex}
use Rattle.glock_names.specs.Views.{Seen, IsView}
use Rattle.glock_names.specs.declared.State.TheVariants.{Ex}
use Rattle.image_model.specs.Flat.{Path}
use Rattle.image_model.specs.Groups.{IsListed, IsHeaderOf, IsDataOf, group_blocks, state_of}
use Rattle.image_model.specs.Image.{Image}
use Rattle.image_model.specs.Owners.{Owners, holding}
use Rattle.image_model.specs.Stands.{Layout, IsLaid}
use Rattle.image_changes.specs.Does.{IsOf}
use Rattle.image_changes.specs.Drafted.{is_put, MakesIn, with_draft}
use Rattle.image_changes.specs.Instances.{IsAt, among, is_directory_at}
use Rattle.resource_groups.specs.Freeing.{AreFreed}
use Rattle.resource_groups.specs.Taking.{AreTaken}
use Rattle.draft_changes.specs.Groups.{PutsGroup}
use Rattle.draft_changes.specs.Removing.{HasSome}
use Rattle.draft_changes.specs.Rewriting.{IsRewritten}

-- ---- the file, and its blocks

-- the holding is that of the inode in block a, with bytes that the image has there; its dinode is that block and no other
pub record HoldsThere (im : Image) (a : ℕ) (g : Holding) : Type 0 where
  pub size : g.size ≡ im.size
  pub count : g.count ≡ im.count
  pub own : g.own ≡ a
  pub itself : (b : ℕ) → (part_at g b ≡ Some Itself) ↔ (b ≡ a)
  pub bytes : (b : ℕ) → IsSome (g.cell b) → bytes_at g b ≡ im.at b

-- it has these blocks more, and without these, which it had
pub record HasExchangedBlocks (h g : Holding) (taken freed : List ℕ) : Type 0 where
  pub were : (b : ℕ) → Contains freed b → IsSome (h.cell b)
  pub has : (b : ℕ) → IsSome (g.cell b) ↔ ((IsSome (h.cell b) ⊎ Contains taken b) × ¬ (Contains freed b))

-- the block is a data block of a listed group, whose bits say that it is free
pub record IsSaidFree (im : Image) (l : Layout) (b : ℕ) : Type 0 where
  pub group : Rindex
  pub listed : IsListed l.groups group
  pub data_block : IsDataOf group b
  pub free : state_at (bitmap_of (group_blocks im.at group)) (b - group.data0) ≡ 0

-- ---- what the draft makes of blocks

-- the block is one of the file's content
abbrev pub IsContentOf : Holding → ℕ → Type 0
IsContentOf g b = (above k first : ℕ) × (part_at g b ≡ Some (Pointed above k 0 first))

-- the block is put under the lock of the file that has it, plain exactly where it is content
pub record IsPutOf (fates : FinMap nat_cmp Fate) (g : Holding) (b : ℕ) : Type 0 where
  pub plain : Bool
  pub bytes : List ℕ
  pub fate : get fates b ≡ Some (Put (record { kind = 2; number = g.own }) plain bytes)
  pub content : (plain ≡ true) ↔ IsContentOf g b

-- a block of the file is put, or it is left, and then it was the file's before
abbrev pub IsPutOrKept : FinMap nat_cmp Fate → Holding → Holding → ℕ → Type 0
IsPutOrKept fates h g b = IsPutOf fates g b ⊎ (IsSome (h.cell b) × (get fates b ≡ None))

-- some of the taken or freed blocks are data blocks of the group
abbrev pub HasSomeOf : Rindex → List ℕ → List ℕ → Type 0
HasSomeOf k taken freed = HasSome k taken ⊎ HasSome k freed

-- the states of a group's data blocks, with that of each taken block put to used, and of each freed one to free
abbrev pub states_with : Owners → List ℕ → List ℕ → Rindex → List ℕ
states_with o taken freed g = map (λ b. if among freed b then 0 else if among taken b then 1 else state_of (o b)) (range_with_len g.data0 g.data_blocks)

-- In one image the draft makes of the file in block a this one, which takes some blocks and gives some back.
pub record ResizesFile (im : Image) (o : Owners) (l : Layout) (fates : FinMap nat_cmp Fate) (a : ℕ) (g : Holding) (taken freed : List ℕ) : Type 0 where
  pub whole : AreWhole im.size fates
  pub is_file : is_directory_at im o a ≡ false
  -- the file afterwards: it is sound, with the number that it had, and no longer than a file may be
  pub there : HoldsThere (with_draft im fates) a g
  pub rewritten : IsRewritten (holding im o a) g
  -- its blocks: those that it takes were free; each that it has is put or left, each that it gives back is freed, and with any of
  -- these the dinode is put
  pub blocks : HasExchangedBlocks (holding im o a) g taken freed
  pub free : (b : ℕ) → Contains taken b → IsSaidFree im l b
  pub puts : (b : ℕ) → IsSome (g.cell b) → IsPutOrKept fates (holding im o a) g b
  pub frees : (b : ℕ) → Contains freed b → get fates b ≡ Some Freed
  pub dinode : (b : ℕ) → Contains freed b → is_put fates a ≡ true
  -- each group of which some block is taken or freed says so
  pub states : (k : Rindex) → IsListed l.groups k → HasSomeOf k taken freed → PutsGroup im fates k (states_with o taken freed k)
  -- and nothing else
  pub others : (b : ℕ) → ¬ (IsSome (g.cell b)) → ¬ (Contains freed b) → ((k : Rindex) → IsListed l.groups k → HasSomeOf k taken freed → ¬ (IsHeaderOf k b)) → get fates b ≡ None

-- a draft that changes a file and its blocks in an image that the view may be of makes there what the call should, where the tree takes
-- the call so and the file's lock is held exclusive
abbrev pub ResizingMakes : Type 0
ResizingMakes = (v : Seen) (call : Call) (fates : FinMap nat_cmp Fate) (im : Image) (o : Owners) (l : Layout) (t : Tree) (path : Path) (a : ℕ) (g : Holding) (taken freed : List ℕ)
    → IsOf v im o l t → IsAt im o l path a → ResizesFile im o l fates a g taken freed
    → v.state_of (record { kind = 2; number = a }) ≡ Ex
    → apply call t ≡ record { reply = Ok; tree = put_at path (file (content_of g)) t }
    → MakesIn v call Ok fates im o l t

-- ---- what a call knows of blocks that it takes or frees

-- a block that is said free is no inode's, isn't the first, and is one of the image's
abbrev pub FreeBlocksAreNew : Type 0
FreeBlocksAreNew = (im : Image) (o : Owners) (l : Layout) (b : ℕ) → IsLaid im o l → IsSaidFree im l b → ((a : ℕ) → (holding im o a).cell b ≡ None) × (b ≢ 0) × (b < im.count)

-- a draft over the view
abbrev pub over : Seen → FinMap nat_cmp Fate → Drafted Seen
over v fates = record { view = v; fates = fates }

-- the draft puts no header and no bitmap of a listed group
abbrev pub LeavesGroups : Layout → FinMap nat_cmp Fate → Type 0
LeavesGroups l fates = (k : Rindex) (b : ℕ) → IsListed l.groups k → IsHeaderOf k b → get fates b ≡ None

-- where blocks are taken over a draft that puts no group, each group that has some of them says so
abbrev pub TakenGroupsSay : Type 0
TakenGroupsSay = (v : Seen) (old new : FinMap nat_cmp Fate) (im : Image) (o : Owners) (l : Layout) (t : Tree) (taken : List ℕ) → IsOf v im o l t → IsView v
    → LeavesGroups l old → AreTaken (λ s. s) (over v old) (over v new) taken
    → (k : Rindex) → IsListed l.groups k → HasSome k taken → PutsGroup im new k (states_with o taken [] k)

-- and so where blocks are freed
abbrev pub FreedGroupsSay : Type 0
FreedGroupsSay = (v : Seen) (old new : FinMap nat_cmp Fate) (im : Image) (o : Owners) (l : Layout) (t : Tree) (freed : List ℕ) → IsOf v im o l t → IsView v
    → LeavesGroups l old → AreFreed (λ s. s) (over v old) (over v new) freed
    → (k : Rindex) → IsListed l.groups k → HasSome k freed → PutsGroup im new k (states_with o [] freed k)
