-- How much of a log isn't flushed, counted block by block.
use Rattle.std.specs.Prelude.{◌≡◌, ◌+◌, ◌-◌, ◌≤◌, ℕ, Bool, true, false, List, length, Option, None, Some, ⊤}
use Rattle.std.specs.FinMap as table
use Rattle.drafts.specs.declared.change.Written.{Written}
use Rattle.glock_names.specs.declared.LockName.{LockName}
use Rattle.node_journal.specs.Encoding.{content_of, metadata_of}
use Rattle.log_values.specs.Blocks as set
use Rattle.log_values.specs.Log.{LogValue}
use Rattle.log_values.specs.Changes.{has_entry, with_freed, with_written, without_all, without_written}
use Rattle.log_values.specs.Transactions.{due}
use Rattle.log_memory.specs.declared.adding.Counts.{Counts}

-- what isn't flushed, of each kind
abbrev pub counts_of : LogValue → Counts
counts_of log = record { content = length (content_of (due log)); metadata = length (metadata_of (due log)); revokes = length (due log).revokes }

-- ---- the two halves of a change

abbrev pub with_freed_all : LogValue → List ℕ → LogValue
with_freed_all log bs = record log { fresh = without_all bs log.fresh; gone = with_freed (has_entry log) bs log.gone }

abbrev pub with_written_all : LogValue → List Written → List LockName → LogValue
with_written_all log ws ls = record log { fresh = with_written ws ls log.fresh; gone = without_written ws log.gone }

-- ---- one block

-- two logs have the same of a block
pub record IsAlike (log m : LogValue) (b : ℕ) : Type 0 where
  pub fresh : table.get m.fresh b ≡ table.get log.fresh b
  pub gone : set.contains m.gone b ≡ set.contains log.gone b
  pub entry : has_entry m b ≡ has_entry log b

-- these are the counts of a log that has the same of the block
pub record CountsFor (log : LogValue) (b : ℕ) (n : Counts) : Type 0 where
  pub counted : LogValue
  pub alike : IsAlike log counted b
  pub counts : n ≡ counts_of counted

-- a block's change, if it has one, is counted: of content of a file, or of metadata
abbrev pub IsAmong : Option Bool → Counts → Type 0
IsAmong None n = ⊤
IsAmong (Some true) n = 1 ≤ n.content
IsAmong (Some false) n = 1 ≤ n.metadata

-- without it
abbrev pub less : Option Bool → Counts → Counts
less None n = n
less (Some true) n = record n { content = n.content - 1 }
less (Some false) n = record n { metadata = n.metadata - 1 }

-- with one more
abbrev pub more : Bool → Counts → Counts
more true n = record n { content = n.content + 1 }
more false n = record n { metadata = n.metadata + 1 }
