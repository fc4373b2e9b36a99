-- The journals that were found in an image.
use Rattle.std.specs.Prelude.{ℕ, ◌≡◌, List, length, slice_get, Some}
use Rattle.image_model.specs.Image.{Image}
use Rattle.image_model.specs.Stands.{IsJournalAt, Layout}
use Rattle.image_journals.specs.Shown.{AreItsBlocks}
use Rattle.image_journals.specs.declared.finding.JournalPlaces.{JournalPlaces}

-- these are the layout's journals, in order, each with the block at each of its places
pub record AreJournals (r : Image) (l : Layout) (journals : List JournalPlaces) : Type 0 where
  pub count : length journals ≡ length l.journals
  pub each : (j : ℕ) (found : JournalPlaces) → slice_get journals j ≡ Some found → IsJournalAt l j found.dinode
  pub blocks : (j : ℕ) (found : JournalPlaces) → slice_get journals j ≡ Some found → AreItsBlocks r found.dinode found.blocks.items
