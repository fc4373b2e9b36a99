-- What of a log goes into one transaction.
use Rattle.std.specs.Prelude.{ℕ, map}
use Rattle.std.specs.Ordering.{nat_cmp}
use Rattle.std.specs.FinMap as table
use Rattle.log_values.specs.Blocks as set
use Rattle.log_layout.specs.Chunks.{Logged, Transaction}
use Rattle.log_values.specs.Log.{Entry, Flush, LogValue, Version}

abbrev pub logged_as : ℕ → Version → Logged
logged_as block v = record { block = block; plain = v.plain; bytes = v.bytes }

-- these versions and revokes as a transaction, each kind by rising number
abbrev pub transaction : table.FinMap nat_cmp Version → set.Blocks → Transaction
transaction versions revokes = record { blocks = map (λ e. logged_as (e.0) (e.1)) (table.entries versions); revokes = set.items revokes }

-- of what is to be revoked, what is live
abbrev pub live_among : table.FinMap nat_cmp Entry → set.Blocks → set.Blocks
live_among live s = set.retain s (table.contains_key live)

-- the transaction that is due: all that was changed since the last flush began, and a revoke for each block that was freed, or whose lock goes down, and has an entry
abbrev pub due : LogValue → Transaction
due log = transaction log.fresh log.gone

abbrev pub flushed_as : Flush → Transaction
flushed_as f = transaction f.versions f.revokes
