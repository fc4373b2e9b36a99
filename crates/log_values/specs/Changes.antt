-- What a change of a call does to a log.
use Rattle.std.specs.Prelude.{◌≡◌, ℕ, ◌+◌, ◌≤◌, ◌||◌, Bool, false, List, [], ◌∷◌, length, Option, None, Some, if◌then◌else◌}
use Rattle.std.specs.Ordering.{nat_cmp}
use Rattle.std.specs.FinMap as map
use Rattle.log_values.specs.Blocks as set
use Rattle.drafts.specs.declared.change.Written.{Written}
use Rattle.drafts.specs.declared.change.Change.{Change}
use Rattle.glock_names.specs.declared.LockName.{LockName}
use Rattle.journal_scan.specs.Said.{says}
use Rattle.node_journal.specs.Encoding.{size_of}
use Rattle.node_journal.specs.Written.{IsLoggableAll}
use Rattle.log_values.specs.Log.{Flush, LogValue, Version}
use Rattle.log_tables.specs.Kept.{away_count}
use Rattle.log_values.specs.Transactions.{transaction}

-- ---- what is added

-- the version that a change has of a block
abbrev pub version_of : Written → LockName → Version
version_of w lock = record { lock = lock; plain = w.plain; bytes = w.bytes }

-- the blocks that a change writes, over those that were changed before
abbrev pub with_written : List Written → List LockName → map.FinMap nat_cmp Version → map.FinMap nat_cmp Version
with_written (w ∷ ws) (l ∷ ls) m = with_written ws ls (map.insert m w.block (version_of w l))
with_written ws ls m = m

abbrev pub without_all : List ℕ → map.FinMap nat_cmp Version → map.FinMap nat_cmp Version
without_all [] m = m
without_all (b ∷ bs) m = without_all bs (map.remove m b)

-- the flush that was begun logs the block
abbrev pub is_flushed : Option Flush → ℕ → Bool
is_flushed None b = false
is_flushed (Some f) b = map.contains_key f.versions b

-- the block has an entry in the journal that counts, or gets one by the flush that was begun
abbrev pub has_entry : LogValue → ℕ → Bool
has_entry log b = map.contains_key log.live b || is_flushed log.flush b

-- a freed block that has an entry is to be revoked
abbrev pub with_freed : (ℕ → Bool) → List ℕ → set.Blocks → set.Blocks
with_freed test [] s = s
with_freed test (b ∷ bs) s = with_freed test bs (if test b then set.insert s b else s)

-- and one that is written is not, so it isn't both logged and revoked
abbrev pub without_written : List Written → set.Blocks → set.Blocks
without_written [] s = s
without_written (w ∷ ws) s = without_written ws (set.remove s w.block)

abbrev pub with_change : LogValue → Change → LogValue
with_change log c = record log {
  fresh = with_written c.blocks.items c.locks.items (without_all c.freed.items log.fresh);
  gone = without_written c.blocks.items (with_freed (has_entry log) c.freed.items log.gone);
}

-- ---- whether there is room for it

abbrev pub flushed_count : Option Flush → ℕ
flushed_count None = 0
flushed_count (Some f) = map.len f.versions

-- A frame is taken by each block that was changed since the last flush began, by each of the flush that was begun, and by each flushed version that isn't home.
abbrev pub frames_taken : LogValue → ℕ
frames_taken log = map.len log.fresh + flushed_count log.flush + away_count log.live

-- how many blocks of a journal the part that isn't flushed may take, its header among them
abbrev pub most_unflushed : ℕ
most_unflushed = 400

-- the frames suffice, and so do the blocks of the part of the log that isn't flushed
pub record Suffices (log : LogValue) : Type 0 where
  pub frames : frames_taken log ≤ log.journal.frames
  pub blocks : size_of log.journal.size (transaction log.fresh log.gone) ≤ most_unflushed

-- ---- what a change is

-- What it writes and what it frees rise, and no block is both; each that is written is a whole block, metadata begins with the magic and is no log header; and there is a lock for each. Every change
-- that a call answers is so.
pub record CanBeAdded (size : ℕ) (c : Change) : Type 0 where
  pub locks : length c.locks.items ≡ length c.blocks.items
  pub whole : IsLoggableAll size (says (record { blocks = c.blocks; revokes = c.freed }))
