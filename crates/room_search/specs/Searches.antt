-- What a search for free blocks tells: of a view, as the bits of its groups say; and in an image that the view may be of.
use Rattle.std.specs.Prelude.{ℕ, ◌≡◌, ◌<◌, true, false, List, [], ◌∷◌, ◌++◌, length, map, Contains, Some}
use Rattle.std.specs.List.Sorted.{IsStrictlyIncreasing}
use Rattle.glock_names.specs.Views.{Seen, HasGroup, group_of_entry}
use Rattle.glock_names.specs.declared.State.TheVariants.{Ex}
use Rattle.glock_names.specs.declared.steps.Missing.{Missing}
use Rattle.glock_names.specs.declared.views.Group.{Group}
use Rattle.resource_groups.specs.Shown.{IsShown, IsMissing, IsDataOf, IsBroken}
use Rattle.gfs2_layout.specs.declared.rindex.Rindex.{Rindex}
use Rattle.image_model.specs.Groups as image
use Rattle.image_model.specs.Groups.{IsListed}
use Rattle.image_model.specs.Image.{Image}
use Rattle.image_model.specs.Owners.{Owners}
use Rattle.image_model.specs.Stands.{Layout}
use Rattle.path_walks.specs.Resizing.{IsSaidFree}
use Rattle.path_walks.specs.Holds.{Hold, AreHeld, IsAskedFor, IsFirstLack, holds, hold_of_group}
use Rattle.room_search.specs.Blocks.{States, blocks_of_first, first_holds, free_first, free_in_all, group_of_node, holds_of_first, own_first, states_by}
use Rattle.room_search.specs.declared.search.Locked.{Locked}
use Rattle.room_search.specs.declared.search.Locked.TheVariants as locked
use Rattle.room_search.specs.declared.search.Taken.{Taken}
use Rattle.room_search.specs.declared.search.Taken.TheVariants as taken

-- the headers and bitmaps of all groups may hold these bytes, as far as the view tells
abbrev pub AreShown : Seen → (ℕ → List ℕ) → Type 0
AreShown v at = (g : Group) → HasGroup v g → IsShown v g at

-- the node has a group of its own, one of the view's
abbrev pub HasOwnGroup : Seen → ℕ → Type 0
HasOwnGroup v node = (own : Group) × (group_of_node v.groups node ≡ Some own) × HasGroup v own

-- ---- under locks

-- A block of a group that the view hasn't, under the group's lock, which is one of the list, exclusive, and held, as each before it is.
pub record IsGroupBlock (v : Seen) (list : List Hold) (m : Missing) : Type 0 where
  pub group : Group
  pub has : HasGroup v group
  pub missing : IsMissing v group m
  pub front : List Hold
  pub back : List Hold
  pub split : list ≡ front ++ record { lock = m.lock; state = Ex } ∷ back
  pub held : AreHeld v (front ++ record { lock = m.lock; state = Ex } ∷ [])

-- something that is found under these locks is so; or this is the first of them that isn't held, or a block that is needed
abbrev pub IsUnder : {T : Type 0} → Seen → List Hold → (T → Type 0) → Locked T → Type 0
IsUnder v list P (locked.Is x) = AreHeld v list × P x
IsUnder v list P (locked.NeedLock lock state) = IsFirstLack v list lock state
IsUnder v list P (locked.NeedBlock m) = IsGroupBlock v list m

-- ---- what is found

-- a free data block of a group of the view, whose lock is one of these
pub record IsFreeUnder (v : Seen) (says : States) (list : List Hold) (b : ℕ) : Type 0 where
  pub group : Group
  pub has : HasGroup v group
  pub data_block : IsDataOf group b
  pub free : says group b ≡ 0
  pub listed : Contains list (hold_of_group group)

-- the blocks are those that are taken where these groups come first, as many as are needed, each once and by rising number; and each is a free data block
-- of a group whose lock is one of those
pub record IsRoomOf (v : Seen) (says : States) (groups first : List Group) (need : ℕ) (blocks : List ℕ) : Type 0 where
  pub are : blocks ≡ free_first says groups first need
  pub many : length blocks ≡ need
  pub rise : IsStrictlyIncreasing blocks
  pub each : (b : ℕ) → Contains blocks b → IsFreeUnder v says (first_holds says groups first need) b

-- so many blocks are free in all groups, fewer than are needed; and so in those that come first
pub record IsShortOf (says : States) (groups first : List Group) (need free : ℕ) : Type 0 where
  pub free_are : free ≡ length (free_in_all says groups)
  pub fewer : free < need
  pub fewer_first : length (free_in_all says first) < need

-- the blocks are taken, or too few are free
abbrev pub IsTakenOf : Seen → States → List Group → List Group → ℕ → Taken → Type 0
IsTakenOf v says groups first need (taken.Is blocks) = IsRoomOf v says groups first need blocks.items
IsTakenOf v says groups first need (taken.TooFew free) = IsShortOf says groups first need free

-- ---- where a node's own group comes first alone

abbrev pub IsRoom : Seen → States → List Group → Group → ℕ → List ℕ → Type 0
IsRoom v says groups own need blocks = IsRoomOf v says groups (own ∷ []) need blocks

abbrev pub IsShort : States → List Group → Group → ℕ → ℕ → Type 0
IsShort says groups own need free = IsShortOf says groups (own ∷ []) need free

abbrev pub IsTaken : Seen → States → List Group → Group → ℕ → Taken → Type 0
IsTaken v says groups own need taken = IsTakenOf v says groups (own ∷ []) need taken

-- ---- whatever the view hasn't of its groups

-- a data block of a group of the view, whose lock is held
pub record IsHeldBlock (v : Seen) (b : ℕ) : Type 0 where
  pub group : Group
  pub has : HasGroup v group
  pub data_block : IsDataOf group b
  pub held : holds v (hold_of_group group) ≡ true

-- so many data blocks of groups whose locks are held, each once and by rising number
pub record AreHeldBlocks (v : Seen) (need : ℕ) (blocks : List ℕ) : Type 0 where
  pub many : length blocks ≡ need
  pub rise : IsStrictlyIncreasing blocks
  pub each : (b : ℕ) → Contains blocks b → IsHeldBlock v b

-- a block of a group's header and bitmap that the view hasn't, though the group's lock is held
pub record IsGroupNeeded (v : Seen) (m : Missing) : Type 0 where
  pub group : Group
  pub has : HasGroup v group
  pub held : holds v (hold_of_group group) ≡ true
  pub missing : IsMissing v group m

-- as far as the view shows, a group whose lock is held breaks this rule
pub record IsGroupBroken (v : Seen) (rule b : ℕ) : Type 0 where
  pub group : Group
  pub has : HasGroup v group
  pub held : holds v (hold_of_group group) ≡ true
  pub broken : (at : ℕ → List ℕ) → IsShown v group at → IsBroken at group rule b

-- what the answer tells
abbrev pub IsTold : Seen → ℕ → Locked Taken → Type 0
IsTold v need (locked.Is (taken.Is blocks)) = AreHeldBlocks v need blocks.items
IsTold v need (locked.Is (taken.TooFew free)) = free < need
IsTold v need (locked.NeedLock lock state) = holds v (record { lock = lock; state = state }) ≡ false
IsTold v need (locked.NeedBlock m) = IsGroupNeeded v m

-- ---- in an image that the view may be of

-- the block is a data block of a listed group, whose lock is one of these
pub record IsListedUnder (l : Layout) (list : List Hold) (b : ℕ) : Type 0 where
  pub group : Rindex
  pub listed : IsListed l.groups group
  pub data_block : image.IsDataOf group b
  pub among : Contains list (hold_of_group (group_of_entry group))

-- the blocks are those that are taken where these groups come first, as many as are needed, and each is free by its group's bits, under that group's lock
pub record IsRoomOfIn (im : Image) (o : Owners) (l : Layout) (first : List Group) (need : ℕ) (blocks : List ℕ) : Type 0 where
  pub are : blocks ≡ blocks_of_first o l first need
  pub many : length blocks ≡ need
  pub rise : IsStrictlyIncreasing blocks
  pub free : (b : ℕ) → Contains blocks b → IsSaidFree im l b
  pub under : (b : ℕ) → Contains blocks b → IsListedUnder l (holds_of_first o l first need) b

-- so many blocks are free in all groups, each of whose locks is held, fewer than are needed
pub record IsShortIn (v : Seen) (o : Owners) (l : Layout) (need free : ℕ) : Type 0 where
  pub groups : AreHeld v (map hold_of_group (map group_of_entry l.groups))
  pub free_are : free ≡ length (free_in_all (states_by o) (map group_of_entry l.groups))
  pub fewer : free < need

abbrev pub IsTakenOfIn : Seen → Image → Owners → Layout → List Group → ℕ → Taken → Type 0
IsTakenOfIn v im o l first need (taken.Is blocks) = IsRoomOfIn im o l first need blocks.items
IsTakenOfIn v im o l first need (taken.TooFew free) = IsShortIn v o l need free

-- each lock of the list is held, and the blocks are taken or too few are free; or this is the first lock of it that isn't held, or a block
-- that is asked for under one
abbrev pub IsFoundOfIn : Seen → Image → Owners → Layout → List Group → ℕ → Locked Taken → Type 0
IsFoundOfIn v im o l first need (locked.Is x) = AreHeld v (holds_of_first o l first need) × IsTakenOfIn v im o l first need x
IsFoundOfIn v im o l first need (locked.NeedLock lock state) = IsFirstLack v (holds_of_first o l first need) lock state
IsFoundOfIn v im o l first need (locked.NeedBlock m) = IsAskedFor v im o l (holds_of_first o l first need) m

-- ---- where a node's own group comes first alone

abbrev pub IsRoomIn : Image → Owners → Layout → ℕ → ℕ → List ℕ → Type 0
IsRoomIn im o l node need blocks = IsRoomOfIn im o l (own_first l node) need blocks

abbrev pub IsFoundIn : Seen → Image → Owners → Layout → ℕ → ℕ → Locked Taken → Type 0
IsFoundIn v im o l node need found = IsFoundOfIn v im o l (own_first l node) need found
