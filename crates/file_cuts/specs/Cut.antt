-- What a cut makes of a file.
use Rattle.std.specs.Prelude.{ℕ, zero, suc, ◌≡◌, ◌≢◌, ◌⊎◌, ◌↔◌, ◌+◌, ◌-◌, ◌<◌, ◌≤◌, IsSome, List, [], length, take, drop, replicate, Contains, Some}
use Rattle.std.specs.FinMap.{FinMap}
use Rattle.std.specs.Ordering.{nat_cmp}
use Rattle.drafts.specs.Fates.{seen_with}
use Rattle.drafts.specs.declared.fate.Fate.{Fate}
use Rattle.gfs2_layout.specs.Holding.{Pointed, Holding, part_at, bytes_at}
use Rattle.gfs2_layout.specs.Inode.{content_of, dinode_in, head_of, height_in, pieces, span}
use Rattle.gfs2_layout.specs.Structures.{dinode_length}
use Rattle.glock_names.specs.Views.{Seen}
use Rattle.dinode_tree.specs.Below.{IsBelow}
use Rattle.dinode_tree.specs.Shown.{IsShown}
use Rattle.growth_laws.specs.Files.{IsPlaced}
use Rattle.growth_laws.specs.Steps.{IsClearFrom}
use Rattle.growth_drafts.specs.Taken.{DraftsFile, HasFreed, IsCounted, IsDistinct}
use Rattle.growth_drafts.specs.Touched.{Follows}
use Rattle.file_heights.specs.Keeping.{KeepsHeads}
use Rattle.file_fills.specs.Causes.{ChangesOnly, LeadsToOne}
use Rattle.file_heights.specs.Grown.{IsUnclear}
use Rattle.file_heights.specs.Sized.{dinode_as}

-- how many blocks of content stand before the end of so many bytes
abbrev pub end_of : Holding → ℕ → ℕ
end_of h size = pieces size h.size

-- Of a block so many levels above content, with content from this index on: neither it nor a block below it stands wholly before the end,
-- counted in blocks. So an indirect block is one whose pointers all lead past the end, also where its own range begins before it.
abbrev pub IsPastEnd : Holding → ℕ → ℕ → ℕ → Type 0
IsPastEnd h end level first = (b l f : ℕ) → IsPlaced h b l f → l ≤ level → first ≤ f → f < first + span h.size level → end < f + span h.size l

-- a file that can be cut to so many bytes: it is no smaller, and each of its blocks is one of the image's
pub record CanCut (h : Holding) (size : ℕ) : Type 0 where
  pub counted : IsCounted h
  pub larger : size ≤ (dinode_in h).size
  pub inside : (b : ℕ) → IsSome (h.cell b) → b < h.count

-- the height stays, but at size 0 it becomes 0
abbrev pub height_at : Holding → ℕ → ℕ
height_at h zero = 0
height_at h (suc size) = height_in h

-- a file whose content stands in the dinode's block has nothing but zeros there behind so many bytes of it
abbrev pub IsClearBehind : Holding → ℕ → Type 0
IsClearBehind g size = drop (dinode_length + size) (bytes_at g g.own) ≡ replicate (g.size - (dinode_length + size)) 0

-- The content was cut. Exactly the blocks that stand past the end, and those that lead past it alone, were freed, each once; every other one
-- stands where it stood, and keeps what is neither content nor a pointer nor a field of the dinode. Nothing but zeros stands behind the end: in a
-- file in blocks up to that of the last one, and else up to that of the dinode's.
pub record IsCut (h g : Holding) (size : ℕ) (freed : List ℕ) : Type 0 where
  pub sound : IsCounted g
  pub content : content_of g ≡ take size (content_of h)
  pub dinode : dinode_in g ≡ dinode_as (dinode_in h) size ((dinode_in h).blocks - length freed) (height_at h size)
  pub head : head_of g ≡ head_of h
  pub fewer : (dinode_in h).blocks ≡ (dinode_in g).blocks + length freed
  pub blocks : HasFreed h g freed
  pub once : IsDistinct freed
  pub exactly : (b from k level first : ℕ) → part_at h b ≡ Some (Pointed from k level first) → Contains freed b ↔ IsPastEnd h (end_of h size) level first
  pub places : (b level first : ℕ) → IsSome (g.cell b) → IsPlaced g b level first ↔ IsPlaced h b level first
  pub clear : height_in g ≢ 0 → IsClearFrom g size
  pub clear_behind : height_in g ≡ 0 → IsClearBehind g size
  pub heads : KeepsHeads h g

-- A block to which a cut does something: the dinode's; one that is freed, and one with a pointer to such a one; and the last block of content,
-- if something but zeros stood behind the new end.
abbrev pub IsCutBlock : Holding → ℕ → List ℕ → ℕ → Type 0
IsCutBlock h size freed b = (b ≡ h.own) ⊎ Contains freed b ⊎ LeadsToOne h freed b ⊎ IsUnclear h size b

-- over a draft that showed the file: afterwards it shows it cut, and nothing becomes of any block to which the cut does nothing
pub record HasCut (after : Seen) (old new : FinMap nat_cmp Fate) (h : Holding) (size : ℕ) (freed : List ℕ) : Type 0 where
  pub g : Holding
  pub shown : IsShown after h.own g
  pub is_cut : IsCut h g size freed
  pub drafted : DraftsFile old new h g freed
  pub changes : ChangesOnly old new (IsCutBlock h size freed)

-- at some time on the way from one draft to the other, pointers of the inode led to the block
pub record WasLedTo (v : Seen) (inode : ℕ) (old new : FinMap nat_cmp Fate) (b : ℕ) : Type 0 where
  pub between : FinMap nat_cmp Fate
  pub until : Follows v inode [] old between
  pub led : (h : Holding) → IsShown (seen_with v between) inode h → IsBelow h b
  pub from : Follows v inode [] between new
