-- What a replay of an image's journals leaves that was cut short.
use Rattle.std.specs.Prelude.{ℕ, ◌≡◌, ◌⊎◌, ◌<◌, List, length, Some}
use Rattle.file_tree.specs.Tree.{Tree}
use Rattle.gfs2_layout.specs.Inode.{content_block}
use Rattle.image_model.specs.Claims.{every}
use Rattle.image_model.specs.Image.{Image}
use Rattle.image_model.specs.Replays.{HasItsJournals, StandsReplayed, live_at}
use Rattle.image_model.specs.Stands.{IsJournalAt, Layout}
use Rattle.journal_outcomes.specs.Images.{IsPlaceIn, ring_at}
use Rattle.journal_outcomes.specs.Rings.{SaysAs}
use Rattle.log_layout.specs.Journal.{IsClean, Ring}
use Rattle.image_outcomes.specs.Outcomes.{IsLiveIn}

-- a journal of the image that is left, read in the blocks where the first image has its places
abbrev pub ring_left : Image → Image → ℕ → Ring
ring_left im left d = record { size = im.size; places = (ring_at im d).places; at = λ p. left.at (content_block (every im d) p) }

-- the journal is clean, and what was live in it is home
pub record IsThrough (im left : Image) (d : ℕ) : Type 0 where
  pub clean : IsClean (ring_left im left d)
  pub home : (b : ℕ) (bytes : List ℕ) → live_at im d b ≡ Some bytes → left.at b ≡ bytes

-- Of each journal a replay is through, or the journal says what it said; and nothing has changed but places of journals and what was live, which may have any
-- bytes while its journal says what it said.
pub record IsCutShort (im : Image) (l : Layout) (left : Image) : Type 0 where
  pub size : left.size ≡ im.size
  pub count : left.count ≡ im.count
  pub blocks : (b : ℕ) → (left.at b ≡ im.at b) ⊎ (IsPlaceIn im l b ⊎ IsLiveIn im l b)
  pub whole : (b : ℕ) → b < im.count → IsPlaceIn im l b → length (left.at b) ≡ im.size
  pub journals : (j d : ℕ) → IsJournalAt l j d → SaysAs (ring_left im left d) (ring_at im d) ⊎ IsThrough im left d

-- What a replay leaves that was cut short stands, replayed, for the tree for which the image did: so a replay may be begun anew.
abbrev pub CutReplaysStand : Type 0
CutReplaysStand = (im left : Image) (l : Layout) (t : Tree) → HasItsJournals im l → StandsReplayed im t → IsCutShort im l left → HasItsJournals left l × StandsReplayed left t
