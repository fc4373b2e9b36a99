-- What is added to a list of blocks.
use Rattle.std.specs.Prelude.{ℕ, ◌≡◌, ◌⊎◌, Contains, List, Some}
use Rattle.gfs2_layout.specs.Holding.{Holding, InChain, Part, part_at}
use Rattle.gfs2_layout.specs.Records.{Record}
use Rattle.hash_dirs.specs.Shown.{IsInChain}
use Rattle.image_model.specs.Claims.{HasJournal}
use Rattle.image_model.specs.Image.{Image}
use Rattle.image_model.specs.Journals.{journal_name}

-- these blocks and no others are added to those that were there
pub record AreAdded (old new : List ℕ) (P : ℕ → Type 0) : Type 0 where
  pub stay : (x : ℕ) → Contains old x → Contains new x
  pub come : (x : ℕ) → P x → Contains new x
  pub only : (x : ℕ) → Contains new x → Contains old x ⊎ P x

-- a leaf of the chain of pointer i
abbrev pub IsOnChain : Holding → ℕ → ℕ → Type 0
IsOnChain h i x = (place : ℕ) × IsInChain h i place x

-- a leaf of the inode
abbrev pub IsLeafOf : Holding → ℕ → Type 0
IsLeafOf h x = (hash place : ℕ) × (part_at h x ≡ Some (InChain hash place))

-- a block of the inode
abbrev pub IsBlockOf : Holding → ℕ → Type 0
IsBlockOf h x = (p : Part) × (part_at h x ≡ Some p)

-- one of these records has the name of a journal, and leads to the block
abbrev pub IsNamedAmong : List Record → ℕ → Type 0
IsNamedAmong records x = (r : Record) × Contains records r × ((j : ℕ) × (r.name ≡ journal_name j)) × (r.address ≡ x)

-- the dinode of a journal, whether there is a gap before it or not
abbrev pub IsJournalFile : Image → ℕ → Type 0
IsJournalFile r d = (j : ℕ) × HasJournal r j d
