-- What a draft that makes a name makes: the directory gets a record, and blocks for it where it needs some; it gets times; the new inode is put; and the
-- groups say what is taken.
use Rattle.std.specs.Prelude.{ℕ, ◌≡◌, ◌≢◌, ◌⊎◌, ◌<◌, Bool, true, false, List, [], ◌∷◌, ◌++◌, length, drop, Contains, None, Some}
use Rattle.std.specs.Ordering.{nat_cmp}
use Rattle.std.specs.FinMap.{FinMap, get}
use Rattle.file_tree.specs.Tree.{Tree, file, dir, none}
use Rattle.drafts.specs.Fates.{AreWhole, seen_with}
use Rattle.drafts.specs.declared.change.Change.{Change}
use Rattle.drafts.specs.declared.fate.Fate.{Fate}
use Rattle.drafts.specs.declared.fate.Fate.TheVariants.{Put}
use Rattle.gfs2_layout.specs.Area.{slots_of}
use Rattle.gfs2_layout.specs.Exchanges.{IsCounted}
use Rattle.gfs2_layout.specs.Groups.{group_header}
use Rattle.gfs2_layout.specs.Groups as layout
use Rattle.gfs2_layout.specs.Holding.{Holding, alone, bytes_at}
use Rattle.gfs2_layout.specs.Inode.{is_hashed_in}
use Rattle.gfs2_layout.specs.Putting.{put_slot}
use Rattle.gfs2_layout.specs.Records.{child_named}
use Rattle.gfs2_layout.specs.Structures.{dinode_length, dinode_of}
use Rattle.gfs2_layout.specs.declared.dinode.Dinode.{Dinode}
use Rattle.gfs2_layout.specs.declared.group_header.GroupHeader.{GroupHeader}
use Rattle.glock_names.specs.Views.{Seen, HasGroup}
use Rattle.glock_names.specs.declared.LockName.{LockName}
use Rattle.glock_names.specs.declared.steps.Entry.{Entry}
use Rattle.glock_names.specs.declared.steps.Missing.{Missing}
use Rattle.glock_names.specs.declared.views.Group.{Group}
use Rattle.dinode_tree.specs.Reading.{inode_lock}
use Rattle.growth_drafts.specs.Taken.{AreFreeFor, IsDistinct}
use Rattle.linear_dirs.specs.Exchanges.{IsLaidOver, uncounted}
use Rattle.linear_dirs.specs.Shown.{head_for, holding_over, record_for}
use Rattle.name_inserts.specs.DirectoryShown.{IsShown}
use Rattle.new_inodes.specs.New.{IsNewDirectory, IsNewFile}
use Rattle.new_inodes.specs.Touched.{IsTouched, with_times}
use Rattle.resource_groups.specs.Freeing.{BreaksSome, HasSome, IsNeededFor, SaysStateOfSome}
use Rattle.resource_groups.specs.Numbering.{IsNumberPut, next_number}
use Rattle.resource_groups.specs.Putting.{ArePutIn, HasDataBlock, IsPutIfOwn, overlaid}
use Rattle.resource_groups.specs.Shown.{IsDataOf, IsHeaderOf, group_lock}
use Rattle.resource_groups.specs.Shown as group
use Rattle.image_model.specs.Flat.{Path}
use Rattle.image_model.specs.Image.{Image}
use Rattle.image_model.specs.Owners.{Owners, holding}
use Rattle.image_model.specs.Stands.{Layout}
use Rattle.image_changes.specs.Does.{AreInside, IsOf}
use Rattle.image_changes.specs.Drafted.{IsFinished, is_freed}
use Rattle.image_changes.specs.Instances.{IsAt, dinode_at, is_directory_at, records_at}
use Rattle.draft_changes.specs.Resizing.{IsSaidFree}
use Rattle.directory_changes.specs.Growing.{GrowsByName}
use Rattle.path_walks.specs.declared.walk.Place.{Place}
use Rattle.name_inserts.specs.Inserting.{CanGetName, IsNamed, IsNamedAt, IsNeededForName, IsWrongForName}
use Rattle.name_inserts.specs.Need.{has_linear_room, name_need}
use Rattle.name_drafts.specs.declared.drafting.NewBlock.{NewBlock}

-- ---- the new inode

-- what is made: a file without content, or a directory without a name
abbrev pub new_tree : Bool → Tree
new_tree true = dir none
new_tree false = file []

-- where `..` of a new directory leads: to the directory in this place
abbrev pub entry_above : Place → Entry
entry_above p = record { number = p.dinode.num.number; addr = p.inode; kind = 4 }

-- the kind that the record of a new inode tells
abbrev pub kind_for : Bool → ℕ
kind_for true = 4
kind_for false = 8

-- where the name leads: to the inode with this number in this block
abbrev pub entry_for : Bool → ℕ → ℕ → Entry
entry_for is_directory number block = record { number = number; addr = block; kind = kind_for is_directory }

-- a new inode, byte by byte: a directory, whose `..` leads there, or a file
abbrev pub IsNewInode : Bool → Entry → ℕ → ℕ → ℕ → Holding → Type 0
IsNewInode true above number block time h = IsNewDirectory number block above time h
IsNewInode false above number block time h = IsNewFile number block time h

-- the inode that is put: a directory below that in this place, or a file
abbrev pub IsNewOf : Bool → Place → ℕ → ℕ → ℕ → Holding → Type 0
IsNewOf is_directory p number block time h = IsNewInode is_directory (entry_above p) number block time h

-- ---- the directory

-- the time of the last change of its content and of its own is this
abbrev pub HasTimes : Dinode → ℕ → Type 0
HasTimes d time = (d.mtime ≡ time) × (d.ctime ≡ time)

-- The bytes of a linear directory's block after a name came: the dinode says, apart from its counts, what it said, with this time as that of the
-- last change of its content and of its own; its counts follow; the name's record is put into the first one that has room for it; and no other
-- byte changes.
pub record GetsRecord (old new : List ℕ) (name : List ℕ) (entry : Entry) (time : ℕ) : Type 0 where
  pub dinode : uncounted (dinode_of new) ≡ uncounted (with_times (dinode_of old) time)
  pub counted : IsCounted (dinode_of old) (dinode_of new) [] (record_for name entry ∷ [])
  pub slots : put_slot (head_for name entry) name (slots_of (drop dinode_length old)) ≡ Some (slots_of (drop dinode_length new))
  pub bytes : IsLaidOver old new

-- a linear directory with room for the name
pub record HasLinearRoom (h : Holding) (name : List ℕ) : Type 0 where
  pub linear : is_hashed_in h ≡ false
  pub room : has_linear_room h name ≡ true

-- The directory gets the name, and takes these blocks for it; then it gets this time. What it is then is what the draft sees of it. Of the blocks that
-- are neither the new inode's nor with a group's header or bits, the draft does something to those alone to which something is done for the name.
pub record GrowsInto (v : Seen) (fates : FinMap nat_cmp Fate) (name : List ℕ) (e : Entry) (time : ℕ) (taken : List ℕ) (h g : Holding) : Type 0 where
  pub named : Holding
  pub gets : IsNamed name e h named taken
  pub few : length taken ≡ name_need h name
  pub touched : IsTouched named g time
  pub sees : g ≡ holding_over (seen_with v fates) named
  pub changes : (b : ℕ) → b ≢ e.addr → ((k : Group) → HasGroup v k → ¬ (IsHeaderOf k b)) → (get fates b ≡ None) ⊎ IsNamedAt h named name taken b

-- ---- the groups

-- what a group's header says
abbrev pub header_in : (ℕ → List ℕ) → Group → GroupHeader
header_in at g = group_header (group.blocks_of at g)

-- the number is that after the last one that the group gave
abbrev pub IsNextOf : (ℕ → List ℕ) → Group → ℕ → Type 0
IsNextOf at g number = number ≡ next_number (header_in at g).igeneration

-- the group's header tells the number as the last one that it gave, and else, apart from its counts of blocks, what it told before
abbrev pub CountsNumber : (ℕ → List ℕ) → (ℕ → List ℕ) → Group → ℕ → Type 0
CountsNumber at at' g number = layout.uncounted (header_in at' g) ≡ layout.uncounted (record (header_in at g) { igeneration = number })

-- where it is the new block's the group tells the number as the last one that it gave
abbrev pub IsNumberedIn : (ℕ → List ℕ) → (ℕ → List ℕ) → NewBlock → Group → ℕ → Type 0
IsNumberedIn at at' r g number = (g ≡ r.group → IsNumberPut at at' g number) × (g ≢ r.group → (c : ℕ) → IsHeaderOf g c → at' c ≡ at c)

-- Of a group's blocks: the number is told where the new inode's block is its; then it says of that block that it is a dinode, and of the taken ones that
-- they are in use, where they are its; of each other block it says what it said, and the counts follow.
pub record SaysMade (at at' : ℕ → List ℕ) (r : NewBlock) (taken : List ℕ) (g : Group) (number : ℕ) : Type 0 where
  pub first : ℕ → List ℕ
  pub numbered : IsNumberedIn at first r g number
  pub second : ℕ → List ℕ
  pub said : IsPutIfOwn first second g r.block 3
  pub takes : ArePutIn second at' g taken 1

-- ---- the change

-- in the image the inode at the path is a directory without the name, this is what its dinode says, and these blocks are free, and as many as it needs
pub record IsPlaceFor (im : Image) (o : Owners) (l : Layout) (path : Path) (name : List ℕ) (p : Place) (r : NewBlock) (room : List ℕ) : Type 0 where
  pub at : IsAt im o l path p.inode
  pub directory : is_directory_at im o p.inode ≡ true
  pub dinode : p.dinode ≡ dinode_at im o p.inode
  pub absent : child_named (records_at im o p.inode) name ≡ None
  pub free : (b : ℕ) → Contains (r.block ∷ room) b → IsSaidFree im l b
  pub once : IsDistinct (r.block ∷ room)
  pub as_many : length room ≡ name_need (holding im o p.inode) name

-- A block that is put is the header of a group that has some of these blocks, or has the bits of some of them, under the group's lock; or it is the
-- directory's, or the new inode's, each under its own.
pub data IsPutUnder (v : Seen) (p : Place) (r : NewBlock) (taken : List ℕ) (b : ℕ) (lock : LockName) : Type 0 where
  of_group : (g : Group) → HasGroup v g → HasSome g (r.block ∷ taken) → SaysStateOfSome v.size g (r.block ∷ taken) b → lock ≡ group_lock g → IsPutUnder v p r taken b lock
  of_directory : (b ≡ p.inode) ⊎ (Contains taken b ⊎ HasDataBlock v b) → lock ≡ inode_lock p.inode → IsPutUnder v p r taken b lock
  of_inode : b ≡ r.block → lock ≡ inode_lock r.block → IsPutUnder v p r taken b lock

abbrev pub PutsUnder : Seen → FinMap nat_cmp Fate → Place → NewBlock → List ℕ → Type 0
PutsUnder v fates p r taken = (b : ℕ) (lock : LockName) (plain : Bool) (bytes : List ℕ) → get fates b ≡ Some (Put lock plain bytes) → IsPutUnder v p r taken b lock

-- the directory has no block of a group's header or bitmap
abbrev pub HasNoGroupBlock : Seen → Holding → Type 0
HasNoGroupBlock v h = (k : Group) (b : ℕ) → HasGroup v k → IsHeaderOf k b → h.cell b ≡ None

-- The change is that of a draft that puts all under these locks and inside the view's groups, and frees nothing. From the front of the room it takes
-- blocks for the directory. The new inode is put with the next number of its block's group and with this time, and the directory with the time: each
-- that is sound, hasn't the name and can get it gets it so, and a linear one with room for it byte by byte. In each image that the view may be of it
-- adds the name.
pub record IsAddition (v : Seen) (is_directory : Bool) (p : Place) (name : List ℕ) (r : NewBlock) (room : List ℕ) (time : ℕ) (change : Change) : Type 0 where
  pub fates : FinMap nat_cmp Fate
  pub finished : IsFinished fates change
  pub whole : AreWhole v.size fates
  pub taken : List ℕ
  pub left : List ℕ
  pub front : room ≡ taken ++ left
  pub locks : PutsUnder v fates p r taken
  pub none_freed : (b : ℕ) → is_freed fates b ≡ false
  pub inside : AreInside v change
  -- the groups
  pub number : ℕ
  pub next : (at : ℕ → List ℕ) → group.IsShown v r.group at → IsNextOf at r.group number
  pub header : List ℕ
  pub header_put : get fates r.group.addr ≡ Some (Put (group_lock r.group) false header)
  pub counted : (at at' : ℕ → List ℕ) → group.IsShown v r.group at → at' r.group.addr ≡ header → CountsNumber at at' r.group number
  pub says : (at : ℕ → List ℕ) (g : Group) → HasGroup v g → group.IsShown v g at → SaysMade at (overlaid (seen_with v fates) at) r taken g number
  -- the new inode
  pub bytes : List ℕ
  pub put : get fates r.block ≡ Some (Put (inode_lock r.block) false bytes)
  pub new : (count : ℕ) → r.block < count → IsNewOf is_directory p number r.block time (alone v.size count r.block bytes)
  -- the directory
  pub parent_bytes : List ℕ
  pub parent_put : get fates p.inode ≡ Some (Put (inode_lock p.inode) false parent_bytes)
  pub times : HasTimes (dinode_of parent_bytes) time
  pub gets : (h : Holding) → IsShown v p.inode h → HasLinearRoom h name → GetsRecord (bytes_at h p.inode) parent_bytes name (entry_for is_directory number r.block) time
  pub grows : (h : Holding) → IsShown v p.inode h → CanGetName h name room → AreFreeFor h (r.block ∷ room) → HasNoGroupBlock v h → (g : Holding) × GrowsInto v fates name (entry_for is_directory number r.block) time taken h g
  -- in an image
  pub adds : (im : Image) (o : Owners) (l : Layout) (t : Tree) (path : Path) → IsOf v im o l t → IsPlaceFor im o l path name p r room
      → (g : Holding) × GrowsByName im o l fates p.inode name r.block (new_tree is_directory) g taken
      × GrowsInto v fates name (entry_for is_directory number r.block) time taken (holding im o p.inode) g

-- ---- what stands in the way

-- the view hasn't this block: one that the directory's name needs, or one with the header or bits of these blocks
pub data IsNeededIn (v : Seen) (dir : ℕ) (name blocks : List ℕ) (m : Missing) : Type 0 where
  in_directory : v.block_at m.block ≡ None → ((h : Holding) → IsShown v dir h → IsNeededForName v h name m) → IsNeededIn v dir name blocks m
  in_group : IsNeededFor v blocks m → IsNeededIn v dir name blocks m

-- the directory breaks the rule, or a group does that has some of these blocks
pub data IsWrongIn (v : Seen) (dir : ℕ) (blocks : List ℕ) : ℕ → ℕ → Type 0 where
  in_directory : (rule b : ℕ) → ((h : Holding) → IsShown v dir h → IsWrongForName v h rule b) → IsWrongIn v dir blocks rule b
  in_group : (rule b : ℕ) → BreaksSome v blocks rule b → IsWrongIn v dir blocks rule b
