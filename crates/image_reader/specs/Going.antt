-- What holds while a walk goes over an inode, and what it adds.
use Rattle.std.specs.Prelude.{ℕ, ◌≡◌, ◌⊎◌, ◌+◌, ◌-◌, ◌^◌, ◌<◌, ◌==◌, min, Bool, false, if◌then◌else◌, count_by, is_none, List, [], ◌∷◌, ◌++◌, length, codes, Contains, Option, None, Some, slice_get}
use Rattle.std.specs.List.{All}
use Rattle.gfs2_layout.specs.Area.{Slot, slots_of, IsShown}
use Rattle.gfs2_layout.specs.Exchanges.{directory_count}
use Rattle.gfs2_layout.specs.Records.{Record, is_dots}
use Rattle.gfs2_layout.specs.Structures.{is_in_use}
use Rattle.gfs2_layout.specs.declared.dirent.Dirent.{Dirent}
use Rattle.image_model.specs.Claims.{IsInodeAt, HasInode, HasArea}
use Rattle.image_reader.specs.Finding.{said_by, IsFoundIn}
use Rattle.image_reader.specs.Found.{HasEntry}
use Rattle.image_model.specs.Owners.{Owner, Named, Below, Chained, parent_of}
use Rattle.image_reader.specs.Owning.{owner_of}
use Rattle.image_reader.specs.Reading.{image_at}
use Rattle.image_reader.specs.Walking.{IsSound}
use Rattle.image_reader.specs.declared.blocks.Blocks.{Blocks}
use Rattle.image_reader.specs.declared.directory.Found.{Found}
use Rattle.image_reader.specs.declared.directory.Tally.{Tally}
use Rattle.image_reader.specs.declared.directory.Visit.{Visit}
use Rattle.image_reader.specs.declared.owners.Claim.{Claim}
use Rattle.image_reader.specs.declared.walk.Walk.{Walk}

-- an inode that is gone over is in the image, and so is the directory above it
pub record IsVisitIn (image : Blocks) (visit : Visit) : Type 0 where
  pub same : visit.inode.block.image ≡ image
  pub owner : Owner
  pub at : IsInodeAt (image_at image) visit.inode.block.number owner
  pub parent : visit.parent ≡ parent_of visit.inode.block.number owner
  pub above : HasInode (image_at image) visit.parent
  pub inside : visit.parent < image.count

-- each block that is claimed by a name in this directory has its entry
abbrev pub AreNoted : List (Option Claim) → Visit → List Found → Type 0
AreNoted entries visit found = (b : ℕ) (claim : Claim) (name : List ℕ) → slice_get entries b ≡ Some (Some claim)
    → owner_of claim ≡ Named visit.inode.block.number name → HasEntry found visit.place name b

-- what holds while an inode is gone over: what is held and what was found is true of the image, and each block that this inode names is noted
pub record IsGoing (walk : Walk) (visit : Visit) (found : List Found) : Type 0 where
  pub sound : IsSound walk
  pub visited : IsVisitIn walk.image visit
  pub true_of : All (IsFoundIn walk.image) found
  pub noted : AreNoted walk.owners.entries.items visit found

-- ---- what is added

-- by this the block is named by the directory in block a
abbrev pub IsNameOf : ℕ → Owner → Type 0
IsNameOf a (Named parent name) = parent ≡ a
IsNameOf a _ = ⊥

-- by this it is named by the inode in block a, or is one of its own
abbrev pub IsOf : ℕ → Owner → Type 0
IsOf a (Named parent name) = parent ≡ a
IsOf a (Below d b k level first) = d ≡ a
IsOf a (Chained d hash place) = d ≡ a
IsOf a _ = ⊥

-- nothing is claimed by this inode yet
abbrev pub IsFresh : ℕ → List (Option Claim) → Type 0
IsFresh a entries = (b : ℕ) (claim : Claim) → slice_get entries b ≡ Some (Some claim) → IsOf a (owner_of claim) → ⊥

-- by this it is one of the inode's blocks of content, or one above them
abbrev pub IsBelow : ℕ → Owner → Type 0
IsBelow a (Below d b k level first) = d ≡ a
IsBelow a _ = ⊥

-- the owner that is claimed is the inode in block a, of a block beside its dinode
abbrev pub is_within : ℕ → Owner → Bool
is_within a (Below d b k level first) = d == a
is_within a (Chained d hash place) = d == a
is_within a _ = false

abbrev pub has_within : ℕ → Option Claim → Bool
has_within a None = false
has_within a (Some claim) = is_within a (owner_of claim)

-- how many blocks nothing claims, and those that are claimed as the inode's beside its dinode
abbrev pub free_or_within : ℕ → List (Option Claim) → ℕ
free_or_within a entries = count_by is_none entries + count_by (has_within a) entries

-- every claim stays, and those that are new are by such owners
pub record ClaimsOnly (P : Owner → Type 0) (old new : List (Option Claim)) : Type 0 where
  pub kept : (b : ℕ) (claim : Claim) → slice_get old b ≡ Some (Some claim) → slice_get new b ≡ Some (Some claim)
  pub own : (b : ℕ) (claim : Claim) → slice_get new b ≡ Some (Some claim) → (slice_get old b ≡ Some (Some claim)) ⊎ P (owner_of claim)

-- the blocks that are claimed now are the inode's blocks of content, and those above them
pub record TakesOnly (a : ℕ) (old new : List (Option Claim)) : Type 0 where
  pub claims : ClaimsOnly (IsBelow a) old new
  pub counted : free_or_within a new ≡ free_or_within a old

abbrev pub IsNamedBy : Visit → Found → Type 0
IsNamedBy visit f = (f.up ≡ visit.place) × (f.parent ≡ visit.inode.block.number)

-- every entry stays, and those that are new are named by this directory
pub record FindsOnlyOf (visit : Visit) (old new : List Found) : Type 0 where
  pub kept : (i : ℕ) (f : Found) → slice_get old i ≡ Some f → slice_get new i ≡ Some f
  pub own : (i : ℕ) (f : Found) → slice_get new i ≡ Some f → (slice_get old i ≡ Some f) ⊎ IsNamedBy visit f

-- the entry's block, which nothing claimed, is claimed by its name now
pub record IsTaken (old new : List (Option Claim)) (f : Found) : Type 0 where
  pub free : (claim : Claim) → slice_get old f.inode.block.number ≡ Some (Some claim) → ⊥
  pub claim : Claim
  pub there : slice_get new f.inode.block.number ≡ Some (Some claim)
  pub owner : owner_of claim ≡ Named f.parent f.name

-- every entry that is new is of such a block, each of another
pub record AreTaken (old new : List (Option Claim)) (before after : List Found) : Type 0 where
  pub each : (i : ℕ) (f : Found) → slice_get after i ≡ Some f → (slice_get before i ≡ Some f) ⊎ IsTaken old new f
  pub apart : (i j : ℕ) (f g : Found) → slice_get after i ≡ Some f → slice_get after j ≡ Some g → f.inode.block.number ≡ g.inode.block.number
      → (i ≡ j) ⊎ ((slice_get before i ≡ Some f) ⊎ (slice_get before j ≡ Some g))

-- each block that is claimed now is one of the inode's beside its dinode, or has its entry
pub record GoesOn (P : Owner → Type 0) (visit : Visit) (old : List (Option Claim)) (before : List Found) (new : List (Option Claim)) (after : List Found) : Type 0 where
  pub claims : ClaimsOnly P old new
  pub finds : FindsOnlyOf visit before after
  pub taken : AreTaken old new before after
  pub counted : length after + free_or_within visit.inode.block.number new ≡ length before + free_or_within visit.inode.block.number old

-- ---- records

-- an area of the directory in block a, in which a record of this head and this name stands behind some others, and before those in these bytes
pub record HasSlotBefore (image : Blocks) (a x : ℕ) (head : Dirent) (name behind : List ℕ) : Type 0 where
  pub area : List ℕ
  pub has : HasArea (image_at image) a x area
  pub before : List Slot
  pub slot : Slot
  pub split : slots_of area ≡ before ++ (slot ∷ slots_of behind)
  pub shown : IsShown head name slot

-- what a record says, if it is in use
abbrev pub says : Dirent → List ℕ → List Record
says head name = if is_in_use head then said_by head name ∷ [] else []

-- what the records name, but for `.` and `..`, was found
abbrev pub AreFound : List Found → Visit → List Record → Type 0
AreFound found visit records = (r : Record) → Contains records r → is_dots r.name ≡ false → HasEntry found visit.place r.name r.address

-- the greatest number that is counted
abbrev pub most : ℕ
most = 2 ^ 64 - 1

-- these records are counted: as many as there are, as far as numbers go; and where no `.` or no `..` was seen, there is none
pub record AreCounted (old new : Tally) (records : List Record) : Type 0 where
  pub entries : new.entries ≡ min (old.entries + length records) most
  pub directories : new.directories ≡ min (old.directories + directory_count records) most
  pub dot : new.dot ≡ false → (old.dot ≡ false) × ((r : Record) → Contains records r → r.name ≡ codes "." → ⊥)
  pub dots : new.dots ≡ false → (old.dots ≡ false) × ((r : Record) → Contains records r → r.name ≡ codes ".." → ⊥)
