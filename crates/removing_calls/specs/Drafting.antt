-- What the draft of a removal is: a name is taken from a directory, which gets a time, and then blocks are freed.
use Rattle.std.specs.Prelude.{ℕ, ◌≡◌, ◌≢◌, ◌⊎◌, ◌-◌, true, false, Contains, List, [], ◌∷◌, take, drop, None, Some}
use Rattle.std.specs.Ordering.{nat_cmp}
use Rattle.std.specs.FinMap.{FinMap, get}
use Rattle.drafts.specs.Fates.{AreWhole, Drafted, seen_with}
use Rattle.drafts.specs.declared.change.Change.{Change}
use Rattle.drafts.specs.declared.fate.Fate.{Fate}
use Rattle.drafts.specs.declared.fate.Fate.TheVariants.{Put}
use Rattle.gfs2_layout.specs.Area.{IsRecordAt, first_named, slots_of}
use Rattle.gfs2_layout.specs.Cutting.{slot_from, slots_without}
use Rattle.gfs2_layout.specs.Exchanges.{IsCounted}
use Rattle.gfs2_layout.specs.Holding.{Holding, bytes_at}
use Rattle.gfs2_layout.specs.Inode.{dinode_in, is_hashed_in, leaf_area, leaf_in, leaf_length, records_of}
use Rattle.gfs2_layout.specs.Records.{Record, record_named, records_in}
use Rattle.gfs2_layout.specs.Structures.{dinode_length, dinode_of}
use Rattle.gfs2_layout.specs.Writing.{leaf_put}
use Rattle.gfs2_layout.specs.declared.dinode.Dinode.{Dinode}
use Rattle.glock_names.specs.Views.{Seen, IsView, HasBlock}
use Rattle.glock_names.specs.declared.steps.Missing.{Missing}
use Rattle.dinode_tree.specs.Pads.{KeepsPads}
use Rattle.dinode_tree.specs.Reading.{inode_lock}
use Rattle.dinode_tree.specs.Shown.{IsShown}
use Rattle.linear_dirs.specs.Exchanges.{IsLaidOver, uncounted}
use Rattle.linear_dirs.specs.Shown.{holding_over}
use Rattle.hash_dirs.specs.Finding.{IsLeafOfName}
use Rattle.hash_dirs.specs.Shown.{IsSound}
use Rattle.directories.specs.Shown as dirs
use Rattle.directories.specs.Taking.{HasRecordOf, IsWithoutName}
use Rattle.new_inodes.specs.Touched.{IsTouched, with_times}
use Rattle.resource_groups.specs.Freeing.{AreFreed, KeepsRest, BreaksSome}
use Rattle.resource_groups.specs.Freeing as freeing
use Rattle.resource_groups.specs.Putting.{HasDataBlock}
use Rattle.image_changes.specs.Drafted.{IsFinished}

-- the time of the last change of its content and of its own is this
abbrev pub HasTimes : Dinode → ℕ → Type 0
HasTimes d time = (d.mtime ≡ time) × (d.ctime ≡ time)

-- The bytes of a linear directory's block after a name went: the dinode says, apart from its counts, what it said, with this time as that of the last
-- change of its content and of its own; its counts follow; the first record of the name is cut; and no other byte changes.
pub record LosesRecord (old new : List ℕ) (name : List ℕ) (time : ℕ) : Type 0 where
  pub dinode : uncounted (dinode_of new) ≡ uncounted (with_times (dinode_of old) time)
  pub record_is : Record
  pub named : record_named (records_in (drop dinode_length old)) name ≡ Some record_is
  pub counted : IsCounted (dinode_of old) (dinode_of new) (record_is ∷ []) []
  pub place : ℕ
  pub at : IsRecordAt (drop dinode_length old) place
  pub none_before : first_named name (slots_of (take place (drop dinode_length old))) ≡ None
  pub first : first_named name (slots_of (drop dinode_length old)) ≡ Some (slot_from place (drop dinode_length old))
  pub slots : slots_of (drop dinode_length new) ≡ slots_without place (drop dinode_length old)
  pub bytes : IsLaidOver old new

-- A hashed directory after a name went: the first record of the name is cut from its leaf, which counts one record less; the dinode says, apart from its
-- counts, what it said, with this time as that of the last change of its content and of its own; its counts follow; and no other byte changes: the leaf's
-- head is written over the old one, and what stands behind the dinode stays.
pub record LosesInLeaf (h h' : Holding) (name : List ℕ) (time : ℕ) : Type 0 where
  pub dinode : uncounted (dinode_in h') ≡ uncounted (with_times (dinode_in h) time)
  pub record_is : Record
  pub named : record_named (records_of h) name ≡ Some record_is
  pub counted : IsCounted (dinode_in h) (dinode_in h') (record_is ∷ []) []
  pub pads : KeepsPads (bytes_at h h.own) (bytes_at h' h.own)
  pub leaf : ℕ
  pub of_name : IsLeafOfName h name (Some leaf)
  pub place : ℕ
  pub at : IsRecordAt (leaf_area h leaf) place
  pub none_before : first_named name (slots_of (take place (leaf_area h leaf))) ≡ None
  pub first : first_named name (slots_of (leaf_area h leaf)) ≡ Some (slot_from place (leaf_area h leaf))
  pub slots : slots_of (leaf_area h' leaf) ≡ slots_without place (leaf_area h leaf)
  pub head : leaf_in h' leaf ≡ record (leaf_in h leaf) { entries = (leaf_in h leaf).entries - 1 }
  pub front : take leaf_length (bytes_at h' leaf) ≡ take leaf_length (leaf_put (leaf_in h' leaf) (bytes_at h leaf))
  pub behind : drop dinode_length (bytes_at h' h.own) ≡ drop dinode_length (bytes_at h h.own)
  pub others : (b : ℕ) → b ≢ leaf → b ≢ h.own → bytes_at h' b ≡ bytes_at h b

-- In the draft the name is taken from the directory, and then the directory gets this time. What is put is under the directory's lock: its dinode's block,
-- and the block that had the record, which is the same or a data block of a group.
pub record IsNameTaken (v : Seen) (dir : ℕ) (name : List ℕ) (time leaf : ℕ) (fates : FinMap nat_cmp Fate) : Type 0 where
  pub first : FinMap nat_cmp Fate
  pub taken : IsWithoutName v (seen_with v first) dir name leaf
  pub touched : (h : Holding) → IsShown (seen_with v first) dir h → IsTouched h (holding_over (seen_with v fates) h) time
  pub sees : (b : ℕ) → HasBlock (seen_with v first) b → HasBlock (seen_with v fates) b
  pub there : HasBlock v dir
  pub leaf_there : HasBlock v leaf
  pub inside : (leaf ≡ dir) ⊎ HasDataBlock v leaf
  pub bytes : List ℕ
  pub put : get fates dir ≡ Some (Put (inode_lock dir) false bytes)
  pub leaf_put : (now : List ℕ) × (get fates leaf ≡ Some (Put (inode_lock dir) false now))
  pub others : (b : ℕ) → b ≢ dir → b ≢ leaf → get fates b ≡ None
  pub times : HasTimes (dinode_of bytes) time
  pub in_linear : (h : Holding) (old : List ℕ) → dirs.IsShown v dir h → is_hashed_in h ≡ false → v.block_at dir ≡ Some old → LosesRecord old bytes name time
  pub in_hashed : (h : Holding) (r : Record) → dirs.IsShown v dir h → is_hashed_in h ≡ true → IsSound h → record_named (records_of h) name ≡ Some r → LosesInLeaf h (holding_over (seen_with v fates) h) name time

-- Over that draft blocks are freed, and the change is that of the draft that comes of it.
pub record IsFreedAndDone {V : Type 0} (seen : V → Seen) (old : Drafted V) (blocks : List ℕ) (change : Change) : Type 0 where
  pub fates : FinMap nat_cmp Fate
  pub frees : AreFreed seen old (record old { fates = fates }) blocks
  pub rest : KeepsRest seen old (record old { fates = fates }) blocks
  pub whole : AreWhole (seen old.view).size fates
  pub finished : IsFinished fates change

-- The change is that of a draft over the view in which the name is taken from the directory, which has this time, and these blocks are freed. What was put
-- of the directory stays, so none of the blocks is one of those.
pub record IsRemoval {V : Type 0} (seen : V → Seen) (view : V) (dir : ℕ) (name : List ℕ) (time : ℕ) (blocks : List ℕ) (change : Change) : Type 0 where
  pub shows : IsView (seen view)
  pub fates : FinMap nat_cmp Fate
  pub leaf : ℕ
  pub taken : IsNameTaken (seen view) dir name time leaf fates
  pub freed : IsFreedAndDone seen (record { view = view; fates = fates }) blocks change
  pub stays : (b : ℕ) → (b ≡ dir) ⊎ (b ≡ leaf) → get freed.fates b ≡ get fates b

-- a block of the directory is needed to find its name, or one of a group that has some of these blocks
pub data IsNeededIn (v : Seen) (dir : ℕ) (name : List ℕ) (blocks : List ℕ) (m : Missing) : Type 0 where
  in_directory : ((h : Holding) → dirs.IsShown v dir h → dirs.IsNeededFor v h name m) → v.block_at m.block ≡ None → IsNeededIn v dir name blocks m
  in_group : freeing.IsNeededFor v blocks m → IsNeededIn v dir name blocks m

-- the directory breaks the rule, or a group that has some of these blocks does; or (3) the block that has the name's record is one of these
pub data IsWrongIn (v : Seen) (dir : ℕ) (name : List ℕ) (blocks : List ℕ) : ℕ → ℕ → Type 0 where
  in_directory : (rule b : ℕ) → ((h : Holding) → dirs.IsShown v dir h → dirs.IsBroken v h rule b) → IsWrongIn v dir name blocks rule b
  in_group : (rule b : ℕ) → BreaksSome v blocks rule b → IsWrongIn v dir name blocks rule b
  shared : (b : ℕ) → ((h : Holding) → dirs.IsShown v dir h → HasRecordOf h name b) → Contains blocks b → IsWrongIn v dir name blocks 3 b
