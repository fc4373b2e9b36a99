-- What becomes of a block in which neighbouring pointers are set.
use Rattle.std.specs.Prelude.{ℕ, suc, ◌≡◌, ◌≢◌, ◌⊎◌, ◌+◌, ◌*◌, ◌/◌, ◌%◌, ◌<◌, ◌≤◌, ⊤, Contains, List, [], ◌∷◌, length}
use Rattle.std.specs.FinMap.{FinMap, get}
use Rattle.std.specs.Ordering.{nat_cmp}
use Rattle.drafts.specs.declared.fate.Fate.{Fate}
use Rattle.drafts.specs.Fates.{Drafted, seen_in}
use Rattle.gfs2_layout.specs.Bytes.{slice, u64_at}
use Rattle.gfs2_layout.specs.Device.{IsBlockSize}
use Rattle.gfs2_layout.specs.Holding.{Holding}
use Rattle.gfs2_layout.specs.Inode.{content_block, header_length, height_in, unit}
use Rattle.gfs2_layout.specs.Structures.{dinode_length}
use Rattle.glock_names.specs.Views.{Seen, HasBlock}
use Rattle.linear_dirs.specs.Shown.{holding_over}
use Rattle.table_files.specs.Tables.{DraftsDirectory, HasPointersSet}
use Rattle.table_files.specs.TreePointers.{IsTableOf}
use Rattle.table_changes.specs.declared.finding.Run.{Run}
use Rattle.table_files.specs.tree_table.TreeTable.{TreeTable}

-- so many neighbouring numbers of eight bytes from this place on are this one, and all else stays
pub record HasNumbersSet (old new : List ℕ) (start count number : ℕ) : Type 0 where
  pub length : length new ≡ length old
  pub here : (k : ℕ) → k < count → u64_at (start + 8 * k) new ≡ number
  pub elsewhere : (at n : ℕ) → (at + n ≤ start) ⊎ (start + 8 * count ≤ at) → slice at n new ≡ slice at n old

-- ---- where pointers stand

-- the pointers from this index on stand behind the dinode
pub record IsBehindDinode (h : Holding) (index : ℕ) (run : Run) : Type 0 where
  pub stuffed : height_in h ≡ 0
  pub block : run.block ≡ h.own
  pub start : run.start ≡ dinode_length + 8 * index

-- the pointers from this index on stand in a table block, and so many do
pub record IsInTable (h : Holding) (index : ℕ) (run : Run) : Type 0 where
  pub level : ℕ
  pub high : height_in h ≡ suc level
  pub there : run.block ≢ 0
  pub block : content_block h (8 * index / unit h) ≡ run.block
  pub start : run.start ≡ header_length + 8 * index % unit h
  pub within : 8 * index % unit h + 8 * run.count ≤ unit h

-- A run of neighbouring pointers of a directory's table, from this index on and at most so many: they stand in one block, behind the dinode or
-- in a table block.
pub record IsRun (h : Holding) (index most : ℕ) (run : Run) : Type 0 where
  pub some : 1 ≤ run.count
  pub few : run.count ≤ most
  pub fits : run.start + 8 * run.count ≤ h.size
  pub place : IsBehindDinode h index run ⊎ IsInTable h index run

-- a run of which the view has the block
pub record IsSeenRun (v : Seen) (run : Run) : Type 0 where
  pub there : HasBlock v run.block
  pub fits : run.start + 8 * run.count ≤ v.size
  pub size : IsBlockSize v.size

-- how many pointers these runs have together
abbrev pub counted : List Run → ℕ
counted [] = 0
counted (run ∷ runs) = run.count + counted runs

-- runs of the directory's pointers one behind another, from this index on
abbrev pub AreRuns : Holding → ℕ → List Run → Type 0
AreRuns h index [] = ⊤
AreRuns h index (run ∷ runs) = IsRun h index run.count run × AreRuns h (index + run.count) runs

-- ---- what becomes of a directory

-- so many neighbouring pointers of the directory lead to this leaf in the draft, and it is that of the table as before
abbrev pub IsSetIn : {V : Type 0} → (V → Seen) → Drafted V → Drafted V → TreeTable → Holding → ℕ → ℕ → ℕ → Type 0
IsSetIn seen old new t h from count leaf =
    let g = holding_over (seen_in seen new) h in
    IsTableOf t (seen_in seen new) g × HasPointersSet h g from count leaf × DraftsDirectory old.fates new.fates h g

-- nothing becomes of any block but those of these runs
abbrev pub PutsRuns : FinMap nat_cmp Fate → FinMap nat_cmp Fate → List Run → Type 0
PutsRuns old new runs = (b : ℕ) → (get new b ≡ get old b) ⊎ ((run : Run) × Contains runs run × (b ≡ run.block))
