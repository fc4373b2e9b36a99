-- What such a change makes of an image that the view may be of and that stands for a tree.
use Rattle.std.specs.Prelude.{ℕ, ◌≡◌, ◌⊎◌, ◌↔◌, ◌+◌, ◌≤◌, ◌&&◌, not, Bool, true, false, nat_lt, nat_le, List, [], length, take, Contains, Option, Some}
use Rattle.std.specs.List.{list_any, range_with_len}
use Rattle.std.specs.Ordering.{nat_cmp}
use Rattle.std.specs.FinMap.{FinMap, get}
use Rattle.file_tree.specs.Apply.{file_limit, overwritten}
use Rattle.file_tree.specs.Tree.{Tree}
use Rattle.drafts.specs.declared.change.Change.{Change}
use Rattle.drafts.specs.declared.fate.Fate.{Fate}
use Rattle.drafts.specs.declared.fate.Fate.TheVariants.{Put}
use Rattle.gfs2_layout.specs.Holding.{Holding, Part, Pointed, part_at}
use Rattle.gfs2_layout.specs.Inode.{content_of, dinode_in, span}
use Rattle.gfs2_layout.specs.declared.dinode.Dinode.{Dinode}
use Rattle.gfs2_layout.specs.declared.rindex.Rindex.{Rindex}
use Rattle.glock_names.specs.Views.{Seen, IsView}
use Rattle.glock_names.specs.declared.LockName.{LockName}
use Rattle.dinode_tree.specs.Reading.{inode_lock}
use Rattle.growth_laws.specs.Need.{needed}
use Rattle.growth_drafts.specs.Taken.{IsDistinct}
use Rattle.file_cuts.specs.Cut.{end_of}
use Rattle.image_model.specs.Flat.{Path}
use Rattle.image_model.specs.Groups.{IsListed}
use Rattle.image_model.specs.Image.{Image}
use Rattle.image_model.specs.Owners.{Owners, holding}
use Rattle.image_model.specs.Stands.{Layout}
use Rattle.image_changes.specs.Does.{IsOf}
use Rattle.image_changes.specs.Drafted.{is_put}
use Rattle.image_changes.specs.Instances.{IsAt, is_directory_at}
use Rattle.draft_changes.specs.Resizing.{HasSomeOf, IsSaidFree, ResizesFile}
use Rattle.file_changes.specs.Drafting.{IsCutDraft, IsFreedAndDone, IsWriteDraft, IsWrongAt}

-- the time of the last change of its content and of its own is this
abbrev pub HasTimes : Dinode → ℕ → Type 0
HasTimes d time = (d.mtime ≡ time) × (d.ctime ≡ time)

-- The draft makes of the file in block a one with this content and this time, which takes some blocks and gives some back. What it puts is under
-- the file's lock, or under that of a group that has some of these.
pub record MakesFile (im : Image) (o : Owners) (l : Layout) (fates : FinMap nat_cmp Fate) (a : ℕ) (bytes : List ℕ) (time : ℕ) (taken freed : List ℕ) : Type 0 where
  pub g : Holding
  pub resizes : ResizesFile im o l fates a g taken freed
  pub content : content_of g ≡ bytes
  pub times : HasTimes (dinode_in g) time
  pub under : (b : ℕ) (lock : LockName) (plain : Bool) (put : List ℕ) → get fates b ≡ Some (Put lock plain put)
      → (lock ≡ inode_lock a) ⊎ ((k : Rindex) × IsListed l.groups k × HasSomeOf k taken freed × (lock ≡ record { kind = 3; number = k.address }))
  pub put : is_put fates a ≡ true

-- ---- bytes are written

-- a file to which bytes can be written from a place on, and these blocks are free and as many as that needs
pub record IsRoomIn (im : Image) (o : Owners) (l : Layout) (a at len : ℕ) (room : List ℕ) : Type 0 where
  pub file : is_directory_at im o a ≡ false
  pub short : at + len ≤ file_limit
  pub free : (b : ℕ) → Contains room b → IsSaidFree im l b
  pub once : IsDistinct room
  pub as_many : length room ≡ needed (holding im o a) at len

abbrev pub WritesMakeFiles : Type 0
WritesMakeFiles = (v : Seen) (a at : ℕ) (new : List ℕ) (time : ℕ) (room : List ℕ) (change : Change) (im : Image) (o : Owners) (l : Layout) (t : Tree) (path : Path)
    → IsView v → IsOf v im o l t → IsAt im o l path a → (is : IsWriteDraft v a at new time room change) → IsRoomIn im o l a at (length new) room
    → MakesFile im o l is.last a (overwritten at new (content_of (holding im o a))) time room []

-- ---- a file is cut

-- a block below a place, counted in blocks of content from its first on, stands wholly before the end
abbrev pub stays_below : ℕ → ℕ → ℕ → ℕ → Option Part → Bool
stays_below size end level first (Some (Pointed from k l f)) = nat_le l level && nat_le first f && nat_lt f (first + span size level) && nat_le (f + span size l) end
stays_below size end level first p = false

-- Of the blocks of a file that is cut to so many bytes those go that stand past the end, as do the blocks below them: none of it stands wholly before it.
abbrev pub goes_with : Holding → ℕ → Option Part → Bool
goes_with h size (Some (Pointed from k level first)) = not (list_any (λ c. stays_below h.size (end_of h size) level first (part_at h c)) (range_with_len 0 h.count))
goes_with h size p = false

abbrev pub goes_at : Holding → ℕ → ℕ → Bool
goes_at h size b = goes_with h size (part_at h b)

-- the file can be cut so, and these blocks are exactly those that go
pub record IsCutIn (im : Image) (o : Owners) (a size : ℕ) (freed : List ℕ) : Type 0 where
  pub exactly : (b : ℕ) → Contains freed b ↔ (goes_at (holding im o a) size b ≡ true)

-- a file that is no smaller
pub record CanBeCut (im : Image) (o : Owners) (a size : ℕ) : Type 0 where
  pub file : is_directory_at im o a ≡ false
  pub larger : size ≤ (dinode_in (holding im o a)).size

abbrev pub CutsFreeExactly : Type 0
CutsFreeExactly = (v : Seen) (a size time : ℕ) (freed : List ℕ) (fates : FinMap nat_cmp Fate) (im : Image) (o : Owners) (l : Layout) (t : Tree) (path : Path)
    → IsView v → IsOf v im o l t → IsAt im o l path a → IsCutDraft v a size time freed fates → CanBeCut im o a size → IsCutIn im o a size freed

abbrev pub CutsMakeFiles : Type 0
CutsMakeFiles = (v : Seen) (a size time : ℕ) (freed : List ℕ) (fates : FinMap nat_cmp Fate) (change : Change) (im : Image) (o : Owners) (l : Layout) (t : Tree) (path : Path)
    → IsView v → IsOf v im o l t → IsAt im o l path a → IsCutDraft v a size time freed fates → CanBeCut im o a size → (is : IsFreedAndDone v fates freed change)
    → MakesFile im o l is.last a (take size (content_of (holding im o a))) time [] freed

-- ---- what is told as damaged

-- no rule is broken by a file of an image that the view may be of and that stands for a tree, nor by its groups
abbrev pub NothingIsWrong : Type 0
NothingIsWrong = (v : Seen) (a : ℕ) (blocks : List ℕ) (rule b : ℕ) (im : Image) (o : Owners) (l : Layout) (t : Tree) (path : Path) → IsOf v im o l t → IsAt im o l path a → ¬ (IsWrongAt v a blocks rule b)
