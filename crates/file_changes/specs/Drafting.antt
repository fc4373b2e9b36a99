-- The change of a file's content, step by step: what a draft over a view makes of the file's blocks, of the times in its dinode, and of the groups.
use Rattle.std.specs.Prelude.{ℕ, ◌≡◌, false, List, [], length, Contains}
use Rattle.std.specs.Ordering.{nat_cmp}
use Rattle.std.specs.FinMap.{FinMap, empty, insert}
use Rattle.drafts.specs.Fates.{AreWhole, seen_with}
use Rattle.drafts.specs.declared.change.Change.{Change}
use Rattle.drafts.specs.declared.fate.Fate.{Fate}
use Rattle.drafts.specs.declared.fate.Fate.TheVariants.{Put}
use Rattle.gfs2_layout.specs.Holding.{Holding}
use Rattle.glock_names.specs.Views.{Seen}
use Rattle.glock_names.specs.declared.steps.Missing.{Missing}
use Rattle.dinode_tree.specs.Below.{AnyIndex, IsLedFrom}
use Rattle.dinode_tree.specs.Broken.{IsBroken}
use Rattle.dinode_tree.specs.Reading.{IsNeeded, inode_lock}
use Rattle.dinode_tree.specs.Shown.{IsShown}
use Rattle.growth_drafts.specs.Touched.{Follows}
use Rattle.file_cuts.specs.Cut.{CanCut, HasCut, WasLedTo}
use Rattle.file_cuts.specs.Written.{CanWrite, HasWritten}
use Rattle.linear_dirs.specs.Shown.{holding_over}
use Rattle.new_inodes.specs.Touched.{IsTouched}
use Rattle.resource_groups.specs.Freeing.{AreFreed, BreaksSome, IsNeededFor, KeepsRest}
use Rattle.resource_groups.specs.Putting.{HasDataBlock}
use Rattle.resource_groups.specs.Taking.{AreTaken, KeepsBlocks}
use Rattle.image_changes.specs.Drafted.{IsFinished}
use Rattle.draft_changes.specs.Resizing.{over}

-- over a draft the dinode in block a gets this time as that of the last change of its content and of its own, and nothing else is put
pub record GetsTime (v : Seen) (before : FinMap nat_cmp Fate) (a time : ℕ) (fates : FinMap nat_cmp Fate) : Type 0 where
  pub bytes : List ℕ
  pub put : fates ≡ insert before a (Put (inode_lock a) false bytes)
  pub touched : (h : Holding) → IsShown (seen_with v before) a h → IsTouched h (holding_over (seen_with v fates) h) time

-- ---- bytes are written

-- Over a draft these blocks are taken.
pub record TakesIn (v : Seen) (old new : FinMap nat_cmp Fate) (room : List ℕ) : Type 0 where
  pub takes : AreTaken (λ (s : Seen). s) (over v old) (over v new) room
  pub rest : KeepsBlocks (λ (s : Seen). s) (over v old) (over v new) room

-- In a draft over the view bytes are written to the file from a place on, and the blocks of the room are taken for it, all of them: of each
-- file that the view shows, and to which that can be done, it then shows one so written. No block changes but the file's and the room's. Then
-- its dinode gets the time, and the groups of the room's blocks say that these are in use.
pub record WritesFile (v : Seen) (a at : ℕ) (new : List ℕ) (time : ℕ) (room : List ℕ) (fates : FinMap nat_cmp Fate) : Type 0 where
  pub first : FinMap nat_cmp Fate
  pub within : Follows v a room empty first
  pub written : (h : Holding) → IsShown v a h → CanWrite h at (length new) room → HasWritten (seen_with v first) empty first room [] h at new
  pub second : FinMap nat_cmp Fate
  pub timed : GetsTime v first a time second
  pub taken : TakesIn v second fates room

-- The change is that of such a draft.
pub record IsWriteDraft (v : Seen) (a at : ℕ) (new : List ℕ) (time : ℕ) (room : List ℕ) (change : Change) : Type 0 where
  pub last : FinMap nat_cmp Fate
  pub writes : WritesFile v a at new time room last
  pub whole : AreWhole v.size last
  pub finished : IsFinished last change

-- ---- a file is cut

-- In a draft over the view the file is cut to so many bytes: of each file that the view shows, and that can be cut so, it then shows the
-- one that is left, without these blocks. Whatever the view shows, no block changes but the file's, and each of these blocks is a data block of a
-- group, to which the file's pointers led. Then its dinode gets the time.
pub record IsCutDraft (v : Seen) (a size time : ℕ) (freed : List ℕ) (fates : FinMap nat_cmp Fate) : Type 0 where
  pub first : FinMap nat_cmp Fate
  pub within : Follows v a [] empty first
  pub is_cut : (h : Holding) → IsShown v a h → CanCut h size → HasCut (seen_with v first) empty first h size freed
  pub led : (b : ℕ) → Contains freed b → WasLedTo v a empty first b
  pub inside : (b : ℕ) → Contains freed b → HasDataBlock v b
  pub timed : GetsTime v first a time fates

-- Over a draft these blocks are freed.
pub record FreesIn (v : Seen) (old new : FinMap nat_cmp Fate) (freed : List ℕ) : Type 0 where
  pub frees : AreFreed (λ (s : Seen). s) (over v old) (over v new) freed
  pub rest : KeepsRest (λ (s : Seen). s) (over v old) (over v new) freed

-- The change is that of the draft that comes of it.
pub record IsFreedAndDone (v : Seen) (fates : FinMap nat_cmp Fate) (freed : List ℕ) (change : Change) : Type 0 where
  pub last : FinMap nat_cmp Fate
  pub frees : FreesIn v fates last freed
  pub whole : AreWhole v.size last
  pub finished : IsFinished last change

-- ---- what stands in the way

-- A block for which bytes that are to be written, or a cut, at these indexes of content ask: one of the inode on the way there; any of its
-- indirect blocks, which say whether each block to which it leads is in a group; or one with the bits of these blocks.
pub data IsNeededAt (v : Seen) (a : ℕ) (wanted : Holding → ℕ → Type 0) (blocks : List ℕ) (m : Missing) : Type 0 where
  of_inode : ((h : Holding) → IsShown v a h → IsNeeded v h (wanted h) 0 m) → IsNeededAt v a wanted blocks m
  of_any : ((h : Holding) → IsShown v a h → IsNeeded v h AnyIndex 1 m) → IsNeededAt v a wanted blocks m
  of_group : IsNeededFor v blocks m → IsNeededAt v a wanted blocks m

-- the block breaks this rule: of the inode; (2) a pointer in it leads to one that is no data block of a group; or in a group that has some of
-- these blocks
pub data IsWrongAt (v : Seen) (a : ℕ) (blocks : List ℕ) : ℕ → ℕ → Type 0 where
  in_inode : (rule b : ℕ) → ((h : Holding) → IsShown v a h → IsBroken h rule b) → IsWrongAt v a blocks rule b
  stray : (from b : ℕ) → ((h : Holding) → IsShown v a h → IsLedFrom h from b) → ¬ (HasDataBlock v b) → IsWrongAt v a blocks 2 from
  in_group : (rule b : ℕ) → BreaksSome v blocks rule b → IsWrongAt v a blocks rule b
