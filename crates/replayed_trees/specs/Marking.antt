-- Which blocks a replay may write, as marks.
use Rattle.std.specs.Prelude.{ℕ, ◌≡◌, ◌+◌, ◌||◌, Bool, if◌then◌else◌, List}
use Rattle.std.specs.List.{list_any}
use Rattle.gfs2_layout.specs.declared.rindex.Rindex.{Rindex}
use Rattle.image_journals.specs.declared.finding.JournalPlaces.{JournalPlaces}
use Rattle.image_model.specs.Image.{Image}
use Rattle.image_model.specs.Replays.{MayChange}
use Rattle.image_model.specs.Stands.{Layout}
use Rattle.replay_marks.specs.Marking.{is_among, is_between, mark_of}
use Rattle.replay_marks.specs.declared.marks.Mark.{Mark}
use Rattle.replay_marks.specs.declared.marks.Mark.TheVariants.{Barred, Live, Open}

-- exactly the blocks that a replay may change are open, and none is live yet
pub record AreMarked (im : Image) (l : Layout) (marks : List Mark) : Type 0 where
  pub may : (b : ℕ) → mark_of marks b ≡ Open → MayChange im l b
  pub may_not : (b : ℕ) → mark_of marks b ≡ Barred → ¬ (MayChange im l b)
  pub fresh : (b : ℕ) → mark_of marks b ≡ Live → ⊥

-- ---- as the code has them

-- the block is one of the group's header and bitmap, or of its data blocks
abbrev pub is_of_group : ℕ → Rindex → Bool
is_of_group block g = is_between g.address (g.address + g.length) block || is_between g.data0 (g.data0 + g.data_blocks) block

abbrev pub is_in_groups : List Rindex → ℕ → Bool
is_in_groups groups block = list_any (is_of_group block) groups

-- the block is at a place of one of these journals
abbrev pub is_place : List JournalPlaces → ℕ → Bool
is_place journals block = list_any (λ (j : JournalPlaces). is_among j.blocks.items block) journals

-- a block of a group may be written, but for one of the system files and a place of a journal
abbrev pub first_mark : List Rindex → List JournalPlaces → List ℕ → ℕ → Mark
first_mark groups journals system block = if is_among system block then Barred else if is_place journals block then Barred else if is_in_groups groups block then Open else Barred
