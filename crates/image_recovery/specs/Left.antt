-- The image that is on a disk once all journals of a mounted image are replayed.
use Rattle.std.specs.Prelude.{ℕ, ◌≡◌, ◌⊎◌, ◌+◌, ◌^◌, ◌≤◌, ◌<◌, false, true, IsTrue, List, length, slice_get, Some}
use Rattle.disk_turns.specs.Turns.{Moment}
use Rattle.file_tree.specs.Tree.{Tree}
use Rattle.gfs2_layout.specs.Device.{IsBlockSize}
use Rattle.gfs2_layout.specs.Inode.{content_block}
use Rattle.image_changes.specs.Instances.{StandsBy}
use Rattle.image_model.specs.Claims.{every}
use Rattle.image_model.specs.Image.{Image, image_of}
use Rattle.image_model.specs.Replays.{Replayed, StandsReplayed}
use Rattle.image_model.specs.Stands.{IsJournalAt, Layout, Stands}
use Rattle.image_mount.specs.Looks.{IsPlaceOf}
use Rattle.image_mount.specs.Mounted.{IsMounted, IsOfProfile, Journal, MountedValue}
use Rattle.image_replays.specs.Replays.{ArePlans}
use Rattle.log_layout.specs.Journal.{IsClean, head_in, ring_of}
use Rattle.log_layout.specs.declared.log_header.LogHeader.{LogHeader}
use Rattle.peer_replay.specs.declared.planned.Plan.{Plan}
use Rattle.shared_disk.specs.Disk.{IsIdle}
use Rattle.trace_text.specs.declared.item.TraceItem.{TraceItem}
use Rattle.image_recovery.specs.Ended.{head_left}
use Rattle.image_recovery.specs.Recoveries.{AreHeadersRead, CanReplayAll, HaveReplayed}

-- the block is a place of one of the image's journals, and a whole block stands there now
pub record HoldsPlace (im left : Image) (l : Layout) (b : ℕ) : Type 0 where
  pub journal : ℕ
  pub place : ℕ
  pub is : IsPlaceOf im l journal place b
  pub whole : length (left.at b) ≡ im.size

-- A replay of the image with this layout leaves that one: it is the replayed image but for places of the journals, each journal has the places that it had, and
-- its head is clean: the one that it had, where that was clean, and else one with the sequence behind it at most.
pub record IsLeft (im : Image) (l : Layout) (left : Image) : Type 0 where
  pub replayed : Image
  pub is : Replayed im l replayed
  pub size : left.size ≡ im.size
  pub count : left.count ≡ im.count
  pub blocks : (b : ℕ) → (left.at b ≡ replayed.at b) ⊎ HoldsPlace im left l b
  pub as_many : (j d : ℕ) → IsJournalAt l j d → (ring_of (every left d)).places ≡ (ring_of (every im d)).places
  pub places : (j d p : ℕ) → IsJournalAt l j d → p < (ring_of (every im d)).places → content_block (every left d) p ≡ content_block (every im d) p
  pub clean : (j d : ℕ) → IsJournalAt l j d → IsClean (ring_of (every left d))
  pub still : (j d : ℕ) (head now : LogHeader) → IsJournalAt l j d → head_in (ring_of (every im d)) ≡ Some head → head_in (ring_of (every left d)) ≡ Some now → head.clean ≡ true → now ≡ head
  pub sequence : (j d : ℕ) (head now : LogHeader) → IsJournalAt l j d → head_in (ring_of (every im d)) ≡ Some head → head_in (ring_of (every left d)) ≡ Some now → now.sequence ≤ head.sequence + 1

-- Once all journals of a mounted image on a disk at rest are replayed by their plans, the disk has the image that a replay leaves.
abbrev pub ReplayLeaves : Type 0
ReplayLeaves = (node time : ℕ) (before after : Moment) (m : MountedValue) (plans : List Plan) (items items' : List TraceItem) → IsTrue before.disk.tells → IsIdle before.disk → IsBlockSize before.disk.size
    → (is : IsMounted (image_of before.disk) m) → ArePlans (image_of before.disk) is.layout plans → CanReplayAll before.disk m.journals plans → AreHeadersRead before.disk.size 1 time m.journals plans
    → HaveReplayed node time before after m.journals plans items items' → IsLeft (image_of before.disk) is.layout (image_of after.disk)

-- It stands, as it lies and with its journals replayed, for the tree for which the image stands with its journals replayed.
abbrev pub LeftStands : Type 0
LeftStands = (im left : Image) (m : MountedValue) (is : IsMounted im m) (t : Tree) → IsLeft im is.layout left → StandsReplayed im t → Stands left t × StandsReplayed left t

-- So it does by the owners and the layout by which the replayed image stands for the tree.
abbrev pub LeftStandsBy : Type 0
LeftStandsBy = (im left : Image) (m : MountedValue) (is : IsMounted im m) (t : Tree) → IsLeft im is.layout left → (it : StandsReplayed im t) → StandsBy left it.stands.owners it.stands.layout t

-- this has the superblock, the groups and the journals of what was mounted before, each journal in the same blocks
pub record HasSameJournals (before m : MountedValue) : Type 0 where
  pub superblock : m.superblock ≡ before.superblock
  pub groups : m.groups ≡ before.groups
  pub count : length m.journals ≡ length before.journals
  pub dinodes : (j : ℕ) (x y : Journal) → slice_get before.journals j ≡ Some x → slice_get m.journals j ≡ Some y → y.dinode ≡ x.dinode
  pub places : (j : ℕ) (x y : Journal) → slice_get before.journals j ≡ Some x → slice_get m.journals j ≡ Some y → y.blocks ≡ x.blocks

-- and the head of each journal is clean
pub record IsMountedClean (before m : MountedValue) : Type 0 where
  pub same : HasSameJournals before m
  pub clean : (j : ℕ) (y : Journal) → slice_get m.journals j ≡ Some y → y.head.clean ≡ true

-- What is mounted of it, where the image stands with its journals replayed, is what was mounted of the image, but that each journal is clean.
abbrev pub LeftMounts : Type 0
LeftMounts = (im left : Image) (before m : MountedValue) (is : IsMounted im before) (t : Tree) → IsLeft im is.layout left → StandsReplayed im t → IsMounted left m → IsMountedClean before m

-- behind the sequence of each head that isn't clean there is one more that is in the profile
abbrev pub HaveLowHeads : MountedValue → Type 0
HaveLowHeads m = (j : ℕ) (x : Journal) → slice_get m.journals j ≡ Some x → x.head.clean ≡ false → x.head.sequence + 1 < 2 ^ 63

-- It is of the profile where the replayed image stands and is, and no head that isn't clean has the last sequence that is.
abbrev pub LeftIsOfProfile : Type 0
LeftIsOfProfile = (im left replayed : Image) (m : MountedValue) (is : IsMounted im m) (l : Layout) (t : Tree) → IsLeft im is.layout left → StandsReplayed im t → Replayed im l replayed → IsOfProfile replayed
    → HaveLowHeads m → IsOfProfile left

-- this is what was mounted of another image, with the heads that the journals have in this one
pub record IsMountedAs (im : Image) (before m : MountedValue) : Type 0 where
  pub same : HasSameJournals before m
  pub system : m.system ≡ before.system
  pub heads : (j : ℕ) (y : Journal) → slice_get m.journals j ≡ Some y → head_in (ring_of (every im y.dinode)) ≡ Some y.head

-- Where the image stands with its journals replayed, what was mounted of it, with the heads that are left, is mounted of what is left; but where a head
-- that wasn't clean had the last sequence that is.
abbrev pub LeftIsMounted : Type 0
LeftIsMounted = (im left : Image) (before m : MountedValue) (is : IsMounted im before) (t : Tree) → IsLeft im is.layout left → StandsReplayed im t → HaveLowHeads before → IsMountedAs left before m
    → IsMounted left m

-- this is what was mounted, with the heads that a replay by these plans left
pub record HasHeadsLeft (size time : ℕ) (plans : List Plan) (before m : MountedValue) : Type 0 where
  pub same : HasSameJournals before m
  pub system : m.system ≡ before.system
  pub heads : (j : ℕ) (x y : Journal) (p : Plan) → slice_get before.journals j ≡ Some x → slice_get m.journals j ≡ Some y → slice_get plans j ≡ Some p → y.head ≡ head_left size (j + 1) time x p.clean x.head

-- These are the heads that the journals have in what is left.
abbrev pub HeadsAreLeft : Type 0
HeadsAreLeft = (node time : ℕ) (before after : Moment) (m m' : MountedValue) (plans : List Plan) (items items' : List TraceItem) → IsTrue before.disk.tells → IsIdle before.disk → IsBlockSize before.disk.size
    → (is : IsMounted (image_of before.disk) m) → ArePlans (image_of before.disk) is.layout plans → CanReplayAll before.disk m.journals plans → AreHeadersRead before.disk.size 1 time m.journals plans
    → HaveReplayed node time before after m.journals plans items items' → HasHeadsLeft before.disk.size time plans m m' → IsMountedAs (image_of after.disk) m m'
