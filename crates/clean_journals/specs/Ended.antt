-- What a journal says once a clean header was written behind its head.
use Rattle.std.specs.Prelude.{ℕ, ◌≡◌, ◌≢◌, ◌+◌, ◌^◌, ◌<◌, List, Some, Ok}
use Rattle.log_layout.specs.Headers.{as_read, log_read}
use Rattle.log_layout.specs.Journal.{IsClean, Ring, head_in}
use Rattle.log_layout.specs.Laws.{HasNothingLive}
use Rattle.log_layout.specs.declared.log_header.LogHeader.{LogHeader}
use Rattle.peer_replay.specs.Plans.{clean_after}
use Rattle.journal_replays.specs.Headers.{clean_block, filled}

-- a ring with these bytes at this place, and at each other what another ring has there
pub record HasPut (ring after : Ring) (place : ℕ) (bytes : List ℕ) : Type 0 where
  pub size : after.size ≡ ring.size
  pub places : after.places ≡ ring.places
  pub there : after.at place ≡ bytes
  pub others : (p : ℕ) → p < ring.places → p ≢ place → after.at p ≡ ring.at p

-- the journal's head is this header, which is clean: it can be read, and nothing is live in it
pub record IsEndedBy (ring : Ring) (header : LogHeader) : Type 0 where
  pub headed : head_in ring ≡ Some header
  pub clean : IsClean ring
  pub nothing : HasNothingLive ring

-- The clean header behind a head whose sequence isn't the last one, written into its block, ends the journal, as it is read there.
abbrev pub CleanHeadersEnd : Type 0
CleanHeadersEnd =
    (ring after : Ring) (head : LogHeader) (block slot dinode time : ℕ) → head_in ring ≡ Some head → head.sequence + 1 < 2 ^ 64
    → let header = clean_after ring.places head in
    let bytes = (clean_block ring.size block slot dinode time header).bytes in
    log_read bytes ≡ Ok (as_read (filled block slot dinode time header) bytes) → HasPut ring after header.blkno bytes → IsEndedBy after (as_read (filled block slot dinode time header) bytes)
