-- What the plans of journals that were found answer.
use Rattle.std.specs.Prelude.{ℕ, ◌≡◌, ◌<◌, ◌&&◌, nat_lt, Bool, true, List, length, get_or, slice_get, None, Some}
use Rattle.std.specs.List.{All, list_all}
use Rattle.image_journals.specs.declared.finding.JournalPlaces.{JournalPlaces}
use Rattle.image_model.specs.Claims.{every}
use Rattle.image_model.specs.Image.{Image}
use Rattle.image_model.specs.Stands.{IsJournalAt, Layout}
use Rattle.image_replays.specs.Marking.{is_planned}
use Rattle.image_replays.specs.Replays.{Stops}
use Rattle.journal_plans.specs.Plans.{IsPlanOf}
use Rattle.log_layout.specs.Journal.{Ring, head_in, ring_of}
use Rattle.peer_replay.specs.declared.planned.Plan.{Plan}
use Rattle.replay_looks.specs.Looks.{Breaks}
use Rattle.replay_marks.specs.Marking.{mark_of}
use Rattle.replay_marks.specs.declared.marks.Mark.{Mark}
use Rattle.replay_marks.specs.declared.marks.Mark.TheVariants.{Live}

-- the dinode of each of these journals, and the block at each of its places, is a block of a device of so many
pub record AreInside (count : ℕ) (journals : List JournalPlaces) : Type 0 where
  pub dinodes : (j : ℕ) (found : JournalPlaces) → slice_get journals j ≡ Some found → found.dinode < count
  pub places : (j : ℕ) (found : JournalPlaces) → slice_get journals j ≡ Some found → All (λ b. b < count) found.blocks.items

-- What stops the replay of an image with this layout: a journal has no header (16, at its dinode), or what stops that of an image that was mounted.
pub data StopsReplay (im : Image) (l : Layout) : ℕ → ℕ → Type 0 where
  headless : (j d : ℕ) → IsJournalAt l j d → head_in (ring_of (every im d)) ≡ None → StopsReplay im l 16 d
  by_live : (rule b : ℕ) → Stops im l rule b → StopsReplay im l rule b

-- ---- of journals wherever they were found, in an image of any frame

-- the ring of what the image has at these blocks
abbrev pub ring_on : Image → List ℕ → Ring
ring_on im blocks = record { size = im.size; places = length blocks; at = λ p. im.at (get_or blocks p 0) }

-- plans of the first ones of these journals, one by one, of what the image has at their places
pub record ArePlansOf (im : Image) (journals : List JournalPlaces) (plans : List Plan) : Type 0 where
  pub inside : AreInside im.count journals
  pub each : (j : ℕ) (p : Plan) → slice_get plans j ≡ Some p → (found : JournalPlaces) × (slice_get journals j ≡ Some found) × IsPlanOf (ring_on im found.blocks.items) p

-- What stops the replay at the journal behind these plans: it has no header (16) or a bad chunk (17), or what is live in it may not be written (2) or is written by one of these plans (20).
pub record StopsNext (im : Image) (journals : List JournalPlaces) (plans : List Plan) (rule b : ℕ) : Type 0 where
  pub next : JournalPlaces
  pub there : slice_get journals (length plans) ≡ Some next
  pub marks : List Mark
  pub live : (block : ℕ) → mark_of marks block ≡ Live → is_planned plans block ≡ true
  pub breaks : Breaks (ring_on im next.blocks.items) next.dinode next.blocks.items marks rule b

-- ---- as the code has them

abbrev pub are_below : ℕ → List ℕ → Bool
are_below count blocks = list_all (λ b. nat_lt b count) blocks

abbrev pub is_inside : ℕ → JournalPlaces → Bool
is_inside count journal = nat_lt journal.dinode count && are_below count journal.blocks.items
