-- Writes in flight to an image, and what may become of them.
use Rattle.std.specs.Prelude.{ℕ, ◌≡◌, ◌⊎◌, ◌<◌, if◌then◌else◌, Bool, true, List, length, unwrap_or, None, Some}
use Rattle.gfs2_layout.specs.Inode.{content_block}
use Rattle.image_model.specs.Claims.{every}
use Rattle.image_model.specs.Image.{Image}
use Rattle.image_model.specs.Replays.{live_at}
use Rattle.image_model.specs.Stands.{IsJournalAt, Layout}
use Rattle.log_layout.specs.Journal.{Ring, ring_of}
use Rattle.log_layout.specs.Live.{IsReadable, live_in}
use Rattle.journal_outcomes.specs.Rings.{HeaderFlies, InFlight, MayFly, ReadsAsEither, landed}

-- ---- which writes are in flight

-- the journal with its dinode in block d
abbrev pub ring_at : Image → ℕ → Ring
ring_at im d = ring_of (every im d)

-- what is in flight to its places
abbrev pub to_journal : Image → ℕ → InFlight → InFlight
to_journal im d flying = λ p. flying (content_block (every im d) p)

-- the journal once that has landed
abbrev pub landed_at : Image → ℕ → InFlight → Ring
landed_at im d flying = landed (ring_at im d) (to_journal im d flying)

-- the block is a place of one of the journals
pub record IsPlaceIn (im : Image) (l : Layout) (b : ℕ) : Type 0 where
  pub journal : ℕ
  pub dinode : ℕ
  pub place : ℕ
  pub at : IsJournalAt l journal dinode
  pub low : place < (ring_at im dinode).places
  pub is : content_block (every im dinode) place ≡ b

-- a log header is in flight to the journal with its dinode in this block
abbrev pub HeaderFliesTo : Image → ℕ → InFlight → Type 0
HeaderFliesTo im d flying = (may : MayFly (ring_at im d) (to_journal im d flying)) × HeaderFlies (ring_at im d) may.head (to_journal im d flying)

-- The write puts home what is live: these bytes are live of this block in a journal, also with the log header in place that is in flight to it,
-- where one is.
pub record PutsHome (im : Image) (l : Layout) (flying : InFlight) (b : ℕ) (bytes : List ℕ) : Type 0 where
  pub journal : ℕ
  pub dinode : ℕ
  pub at : IsJournalAt l journal dinode
  pub live : live_at im dinode b ≡ Some bytes
  pub still_live : HeaderFliesTo im dinode flying → live_in (landed_at im dinode flying) b ≡ Some bytes

-- What may be in flight to an image, in whole blocks: to each journal what may be, where a log header in its place leaves the journal readable; and
-- beside the places of journals only what is put home.
pub record MayBeInFlight (im : Image) (l : Layout) (flying : InFlight) : Type 0 where
  pub journals : (j d : ℕ) → IsJournalAt l j d → MayFly (ring_at im d) (to_journal im d flying)
  pub readable : (j d : ℕ) → IsJournalAt l j d → HeaderFliesTo im d flying → IsReadable (landed_at im d flying)
  pub others : (b : ℕ) (bytes : List ℕ) → flying b ≡ Some bytes → IsPlaceIn im l b ⊎ PutsHome im l flying b bytes
  pub whole : (b : ℕ) (bytes : List ℕ) → flying b ≡ Some bytes → length bytes ≡ im.size

-- ---- what becomes of them

-- An outcome of an image with writes in flight: where one goes any whole block, each other block as it was.
pub record IsImageOutcome (im : Image) (flying : InFlight) (left : Image) : Type 0 where
  pub size : left.size ≡ im.size
  pub count : left.count ≡ im.count
  pub still : (b : ℕ) → flying b ≡ None → left.at b ≡ im.at b
  pub whole : (b : ℕ) (bytes : List ℕ) → flying b ≡ Some bytes → length (left.at b) ≡ im.size

-- at no place of a journal is there a false header
abbrev pub NoFalseHeader : Image → Layout → InFlight → Image → Type 0
NoFalseHeader im l flying left = (j d p : ℕ) (bytes : List ℕ) → IsJournalAt l j d → p < (ring_at im d).places → flying (content_block (every im d) p) ≡ Some bytes
    → ReadsAsEither p (im.at (content_block (every im d) p)) bytes (left.at (content_block (every im d) p))

-- ---- choices

-- the image with some of the writes in flight in their places
abbrev pub chosen : Image → InFlight → (ℕ → Bool) → Image
chosen im flying taken = record { size = im.size; count = im.count; at = λ b. if taken b then unwrap_or (flying b) (im.at b) else im.at b }

-- this block is the place of the log header that is in flight to a journal
pub record IsHeaderPlace (im : Image) (l : Layout) (flying : InFlight) (b : ℕ) : Type 0 where
  pub journal : ℕ
  pub dinode : ℕ
  pub at : IsJournalAt l journal dinode
  pub flies : HeaderFliesTo im dinode flying
  pub is : content_block (every im dinode) flies.1.place ≡ b

-- A choice takes log headers that are in flight to journals as new, each or not, and no other write.
abbrev pub IsChoice : Image → Layout → InFlight → (ℕ → Bool) → Type 0
IsChoice im l flying taken = (b : ℕ) → taken b ≡ true → IsHeaderPlace im l flying b
