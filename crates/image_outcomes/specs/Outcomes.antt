-- What an image says, once its journals are replayed, whatever became of the writes in flight to it.
use Rattle.std.specs.Prelude.{ℕ, ◌≡◌, ◌⊎◌, Bool, List, Some}
use Rattle.file_tree.specs.Tree.{Tree}
use Rattle.image_model.specs.Image.{Image}
use Rattle.image_model.specs.Replays.{HasItsJournals, Replayed, StandsReplayed, live_at}
use Rattle.image_model.specs.Stands.{IsJournalAt, Layout}
use Rattle.journal_outcomes.specs.Images.{IsChoice, IsImageOutcome, IsPlaceIn, MayBeInFlight, NoFalseHeader, chosen, ring_at}
use Rattle.journal_outcomes.specs.Rings.{InFlight, SaysAs}

-- two images of one size that have the same blocks beside the places of journals
pub record AreAlikeBeside (im : Image) (l : Layout) (a b : Image) : Type 0 where
  pub size : a.size ≡ b.size
  pub count : a.count ≡ b.count
  pub blocks : (c : ℕ) → (a.at c ≡ b.at c) ⊎ IsPlaceIn im l c

-- the block is live in one of the journals
pub record IsLiveIn (im : Image) (l : Layout) (b : ℕ) : Type 0 where
  pub journal : ℕ
  pub dinode : ℕ
  pub bytes : List ℕ
  pub at : IsJournalAt l journal dinode
  pub live : live_at im dinode b ≡ Some bytes

-- Once replayed, an image that is left says what the one of a choice does. It has the same journals, and each says what it says there; what else
-- became of a block is no matter, since it is live. So each has a replayed image where the other has, the two have the same blocks beside the
-- places of journals, and it stands, replayed, for each tree for which that one does.
pub record SaysAsChosen (im : Image) (l : Layout) (left chosen : Image) : Type 0 where
  pub journals : HasItsJournals left l
  pub says : (j d : ℕ) → IsJournalAt l j d → SaysAs (ring_at left d) (ring_at chosen d)
  pub blocks : (b : ℕ) → (left.at b ≡ chosen.at b) ⊎ (IsPlaceIn im l b ⊎ IsLiveIn left l b)
  pub replayed : (r : Image) → Replayed chosen l r → (r' : Image) × Replayed left l r' × AreAlikeBeside im l r' r
  pub only : (r' : Image) → Replayed left l r' → (r : Image) × Replayed chosen l r × AreAlikeBeside im l r' r
  pub stands : (t : Tree) → StandsReplayed chosen t → StandsReplayed left t

-- The law of outcomes: of an image that stands for a tree once its journals are replayed, and of what may be in flight to it, each outcome without
-- a false header says what one choice of the log headers in flight does.
abbrev pub OutcomesAreChosen : Type 0
OutcomesAreChosen = (im left : Image) (l : Layout) (flying : InFlight) (t : Tree) → HasItsJournals im l → StandsReplayed im t → MayBeInFlight im l flying → IsImageOutcome im flying left
    → NoFalseHeader im l flying left → (taken : ℕ → Bool) × IsChoice im l flying taken × SaysAsChosen im l left (chosen im flying taken)
