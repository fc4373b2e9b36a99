-- What may be written to a journal.
use Rattle.std.specs.Prelude.{ℕ, ◌≡◌, ◌≢◌, ◌+◌, ◌^◌, ◌<◌, ◌≤◌, false, List, length, map, Contains, Ok}
use Rattle.std.specs.List.{All}
use Rattle.std.specs.List.Sorted.{IsStrictlyIncreasing}
use Rattle.gfs2_layout.specs.Bytes.{u32_at}
use Rattle.gfs2_layout.specs.Device.{IsBlockSize}
use Rattle.gfs2_layout.specs.Structures.{magic}
use Rattle.log_layout.specs.Chunks.{Logged, Transaction}
use Rattle.log_layout.specs.Headers.{as_read, log_read}
use Rattle.node_journal.specs.Encoding.{header_of, header_place, header_block, size_of}
use Rattle.node_journal.specs.declared.place.Place.{Place}
use Rattle.profile_limits.specs.Limits.{most_blocks}

-- ---- what may be written

-- each is a whole block
abbrev pub AreWhole : ℕ → List Logged → Type 0
AreWhole size es = All (λ (e : Logged). length e.bytes ≡ size) es

-- a block is whole; metadata begins with the magic and is no log header
pub record IsLoggable (size : ℕ) (e : Logged) : Type 0 where
  pub whole : length e.bytes ≡ size
  pub magic : e.plain ≡ false → u32_at 0 e.bytes ≡ magic
  pub other : e.plain ≡ false → u32_at 4 e.bytes ≢ 8

-- the blocks rise and so do the revokes, and no block is both logged and revoked
pub record IsLoggableAll (size : ℕ) (t : Transaction) : Type 0 where
  pub sized : IsBlockSize size
  pub rising : IsStrictlyIncreasing (map (λ (e : Logged). e.block) t.blocks)
  pub revokes : IsStrictlyIncreasing t.revokes
  pub apart : (b : ℕ) → Contains (map (λ (e : Logged). e.block) t.blocks) b → Contains t.revokes b → ⊥
  pub few : length t.blocks + length t.revokes ≤ most_blocks
  pub blocks : All (IsLoggable size) t.blocks

-- its numbers, and that of the journal, have the widths of their types
pub record AreNumbers (at : Place) (t : Transaction) : Type 0 where
  pub jid : at.jid < 2 ^ 32
  pub bytes : All (λ (e : Logged). All (λ byte. byte < 256) e.bytes) t.blocks
  pub blocks : All (λ (e : Logged). e.block < 2 ^ 64) t.blocks
  pub revokes : All (λ b. b < 2 ^ 64) t.revokes

-- it fits between its first place and that place again, and one place more
pub record IsPlaceFor (size : ℕ) (at : Place) (t : Transaction) : Type 0 where
  pub first : at.first < at.length
  pub tail : at.tail < at.length
  pub room : size_of size t < at.length

-- a header that reads as it was written, which each is that a program writes
abbrev pub IsHeaderRead : ℕ → Place → Transaction → Type 0
IsHeaderRead size at t = log_read (header_block size at t) ≡ Ok (as_read (header_of at (header_place size at t)) (header_block size at t))
