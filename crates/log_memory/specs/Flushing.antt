-- The steps of a flush, as the parts of a log take them.
use Rattle.std.specs.Prelude.{◌≡◌, ◌<◌, ◌⊎◌, ◌&&◌, ℕ, Bool, not, nat_le, nat_lt, length, Option, None, Some, if◌then◌else◌}
use Rattle.std.specs.Option.{option_map}
use Rattle.std.specs.Ordering.{nat_cmp}
use Rattle.std.specs.FinMap as table
use Rattle.log_layout.specs.Journal.{way}
use Rattle.log_layout.specs.Chunks.{Logged}
use Rattle.log_tables.specs.Kept.{is_home}
use Rattle.log_tables.specs.Versions.Way.{Home}
use Rattle.log_values.specs.Blocks as set
use Rattle.log_values.specs.Log.{Entry, Flush, LogValue, Stage, Version}
use Rattle.log_values.specs.Log.Stage.{Writing}
use Rattle.log_values.specs.Flushing.{AllAreHome, Begins, HasRoom, IsDue, NothingIsLive, behind_tail, flush_chunks, logged_over}
use Rattle.log_values.specs.Transactions.{due}
use Rattle.log_memory.specs.declared.beginning.Beginning.{Beginning}
use Rattle.log_memory.specs.declared.beginning.Beginning.TheVariants as beginning

-- an entry whose content isn't wanted at home any more, if it isn't
abbrev pub rested_if : Bool → Option Entry → Option Entry
rested_if gone o = if gone then option_map (λ (e : Entry). record e { way = Home }) o else o

-- a block stays live that isn't revoked, and whose transaction doesn't begin before the tail
abbrev pub stays : set.Blocks → ℕ → ℕ → ℕ → ℕ → ℕ → Bool
stays revoked length old_tail tail block first = not (set.contains revoked block) && not (nat_lt (way length old_tail first) (way length old_tail tail))

-- what is live of a block with all that the flush logs, and what it revokes at rest
abbrev pub with_flush : set.Blocks → table.FinMap nat_cmp Version → ℕ → table.FinMap nat_cmp Entry → ℕ → Option Entry
with_flush revoked versions first live b = logged_over (table.get versions b) first (rested_if (set.contains revoked b) (table.get live b))

-- a flush was begun
abbrev pub IsBegun : LogValue → Type 0
IsBegun log = (f : Flush) × (log.flush ≡ Some f)

-- and has come so far
pub record IsAt (log : LogValue) (stage : Stage) : Type 0 where
  pub flush : Flush
  pub begun : log.flush ≡ Some flush
  pub at : flush.stage ≡ stage

-- this is one of the blocks of its chunks
pub record IsChunk (log : LogValue) (index : ℕ) : Type 0 where
  pub flush : Flush
  pub begun : log.flush ≡ Some flush
  pub inside : index < length (flush_chunks log flush)

-- and all of these are written
pub record IsAllWritten (log : LogValue) : Type 0 where
  pub flush : Flush
  pub begun : log.flush ≡ Some flush
  pub at : flush.stage ≡ Writing (length (flush_chunks log flush))

-- ---- its tail

-- a live block, by its row, is needed behind the flush
abbrev pub is_needed : Flush → ℕ × Entry → Bool
is_needed f e = not (is_home e.1.way) && not (table.contains_key f.versions e.0) && not (set.contains f.revokes e.0)

-- of a place, if there is one, and another that which is less far behind the tail
abbrev pub older : LogValue → Option ℕ → ℕ → ℕ
older log None first = first
older log (Some place) first = if nat_le (behind_tail log place) (behind_tail log first) then place else first

-- ---- its lists

-- a block is content of a regular file, or isn't
abbrev pub is_of_kind : Bool → Logged → Bool
is_of_kind plain e = if plain then e.plain else not e.plain

-- ---- whether one begins

-- where no flush was begun: nothing is due; or there is no room for it, since some live block isn't home; or one begins
pub data Starts (log new : LogValue) : Beginning → Type 0 where
  nothing : (IsDue log → ⊥) → NothingIsLive log ⊎ (AllAreHome log → ⊥) → new ≡ log → Starts log new beginning.Nothing
  no_room : IsDue log → (HasRoom log (due log) → ⊥) → (AllAreHome log → ⊥) → new ≡ log → Starts log new beginning.NoRoom
  begins : Begins log new → Starts log new beginning.Begun
