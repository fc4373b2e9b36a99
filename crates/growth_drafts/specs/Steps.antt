-- A file as a draft shows it, after one step.
use Rattle.std.specs.Prelude.{ℕ, suc, ◌≡◌, ◌≢◌, ◌^◌, ◌<◌, Bool, List, Option, None, Some}
use Rattle.std.specs.Ordering.{nat_cmp}
use Rattle.std.specs.FinMap.{FinMap, insert}
use Rattle.drafts.specs.Fates.{seen_with}
use Rattle.drafts.specs.declared.fate.Fate.{Fate}
use Rattle.drafts.specs.declared.fate.Fate.TheVariants.{Put, Freed}
use Rattle.gfs2_layout.specs.Holding.{Part, Pointed, Cell, Holding, part_at, bytes_at}
use Rattle.gfs2_layout.specs.Inode.{header_length, fan, pointer, content_count, IsPointed}
use Rattle.glock_names.specs.Views.{Seen}
use Rattle.glock_names.specs.declared.LockName.{LockName}
use Rattle.dinode_tree.specs.Shown.{IsAsSeen, IsShown}
use Rattle.growth_laws.specs.Blocks.{start_in, with_pointer, IsNewBlock, rewritten_cells, filled_cells, freed_cells}
use Rattle.growth_laws.specs.Files.{IsFile, with_cells}

-- a file is shown by each view whose blocks hold what it holds
abbrev pub FilesAreShown : Type 0
FilesAreShown = (v : Seen) (h : Holding) → IsFile h → h.size ≡ v.size → IsAsSeen v h → IsShown v h.own h

-- a draft that puts a block holds what an inode does that has these bytes there, and else no block but those that it had, as they were
abbrev pub PutsAreSeen : Type 0
PutsAreSeen = (v : Seen) (fates : FinMap nat_cmp Fate) (h : Holding) (cell : ℕ → Option Cell) (x : ℕ) (lock : LockName) (plain : Bool) (bytes : List ℕ) → IsAsSeen (seen_with v fates) h
    → bytes_at (with_cells h cell) x ≡ bytes → ((y : ℕ) → y ≢ x → cell y ≡ h.cell y)
    → IsAsSeen (seen_with v (insert fates x (Put lock plain bytes))) (with_cells h cell)

-- ---- one step of a file that the draft shows

abbrev pub FillsAreShown : Type 0
FillsAreShown = (v : Seen) (fates : FinMap nat_cmp Fate) (h : Holding) (from k level first b : ℕ) (bytes new : List ℕ) (lock lock' : LockName) (plain plain' : Bool) → IsFile h
    → IsShown (seen_with v fates) h.own h → IsPointed h 0 from k level first → first < content_count h → h.cell b ≡ None → b ≢ 0 → b < h.count → b < 2 ^ 64
    → IsNewBlock h.size level new → bytes ≡ with_pointer (start_in h from) k b (bytes_at h from)
    → IsShown (seen_with v (insert (insert fates from (Put lock plain bytes)) b (Put lock' plain' new))) h.own (with_cells h (filled_cells h from k level first b new))

abbrev pub FreesAreShown : Type 0
FreesAreShown = (v : Seen) (fates : FinMap nat_cmp Fate) (h : Holding) (from k level first b : ℕ) (bytes : List ℕ) (lock : LockName) (plain : Bool) → IsFile h
    → IsShown (seen_with v fates) h.own h → part_at h b ≡ Some (Pointed from k level first) → b < h.count
    → ((below j : ℕ) → level ≡ suc below → j < fan h.size header_length → pointer h header_length b j ≡ 0)
    → bytes ≡ with_pointer (start_in h from) k 0 (bytes_at h from)
    → IsShown (seen_with v (insert (insert fates from (Put lock plain bytes)) b Freed)) h.own (with_cells h (freed_cells h from k b))

-- such bytes that it is a file again
abbrev pub RewritesAreShown : Type 0
RewritesAreShown = (v : Seen) (fates : FinMap nat_cmp Fate) (h : Holding) (x : ℕ) (p : Part) (bytes : List ℕ) (lock : LockName) (plain : Bool) → IsFile h
    → IsShown (seen_with v fates) h.own h → part_at h x ≡ Some p → IsFile (with_cells h (rewritten_cells h x bytes))
    → IsShown (seen_with v (insert fates x (Put lock plain bytes))) h.own (with_cells h (rewritten_cells h x bytes))
