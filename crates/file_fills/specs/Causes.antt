-- Which blocks a change of a file puts or frees, each with its cause.
use Rattle.std.specs.Prelude.{ℕ, ◌≡◌, ◌⊎◌, List, Contains, Some}
use Rattle.std.specs.FinMap.{FinMap, get}
use Rattle.std.specs.Ordering.{nat_cmp}
use Rattle.drafts.specs.declared.fate.Fate.{Fate}
use Rattle.gfs2_layout.specs.Holding.{Pointed, Holding, part_at}
use Rattle.growth_laws.specs.Files.{IsPlaced}
use Rattle.growth_drafts.specs.Taken.{HasBytes}

-- the draft does nothing to any block but these
abbrev pub ChangesOnly : FinMap nat_cmp Fate → FinMap nat_cmp Fate → (ℕ → Type 0) → Type 0
ChangesOnly old new IsOne = (b : ℕ) → (get new b ≡ get old b) ⊎ IsOne b

-- a pointer of the block leads to one of these
abbrev pub LeadsToOne : Holding → List ℕ → ℕ → Type 0
LeadsToOne h blocks b = (c k level first : ℕ) × Contains blocks c × (part_at h c ≡ Some (Pointed b k level first))

-- A block to which the writing of bytes into a file's content does something: one that is taken, one with a pointer to such a one, or content
-- with bytes of the write.
abbrev pub IsFilledAt : Holding → ℕ → ℕ → List ℕ → ℕ → Type 0
IsFilledAt g at end taken b = Contains taken b ⊎ LeadsToOne g taken b ⊎ ((i : ℕ) × HasBytes g.size at end i × IsPlaced g b 0 i)
