-- What is live in a journal: for each block the bytes that a replay puts in its place.
use Rattle.std.specs.Prelude.{ℕ, ◌≡◌, ◌==◌, ◌&&◌, nat_lt, if◌then◌else◌, Bool, List, [], filter, Option, None, Some, Result, Ok, Err}
use Rattle.std.specs.List.{flat_map, last_or, list_any}
use Rattle.std.specs.Option.{option_map}
use Rattle.log_layout.specs.Journal.{Ring, head_in}
use Rattle.log_layout.specs.Chunks.{Logged, Transaction}
use Rattle.log_layout.specs.Transactions.{Sequenced, transactions_of}
use Rattle.log_layout.specs.declared.log_header.LogHeader.{LogHeader}

-- a transaction of a higher sequence revokes the block
abbrev pub is_cancelled : List Sequenced → ℕ → ℕ → Bool
is_cancelled ts block sequence = list_any (λ (t : Sequenced). nat_lt sequence t.sequence && list_any (λ r. r == block) t.transaction.revokes) ts

-- what a transaction has of a block
abbrev pub entries_in : ℕ → Transaction → List Logged
entries_in block t = filter (λ (e : Logged). e.block == block) t.blocks

-- the entries of the block that count, in order: a later revoke drops what stands before it
abbrev pub counting : List Sequenced → ℕ → List Logged
counting ts block = flat_map (λ (t : Sequenced). if is_cancelled ts block t.sequence then [] else entries_in block t.transaction) ts

-- the last of them is live
abbrev pub live_entry : List Sequenced → ℕ → Option Logged
live_entry ts block = last_or None (counting ts block)

abbrev pub live_of : List Sequenced → ℕ → Option (List ℕ)
live_of ts block = option_map (λ (e : Logged). e.bytes) (live_entry ts block)

abbrev pub live_read : Result (List Sequenced) ℕ → ℕ → Option (List ℕ)
live_read (Ok ts) block = live_of ts block
live_read (Err place) block = None

abbrev pub live_under : Ring → Option LogHeader → ℕ → Option (List ℕ)
live_under ring None block = None
live_under ring (Some head) block = live_read (transactions_of ring head) block

-- what is live in a journal of each block; where its head is clean, and where the journal can't be read, nothing is
abbrev pub live_in : Ring → ℕ → Option (List ℕ)
live_in ring block = live_under ring (head_in ring) block

-- the journal can be read: it has a head, and from its tail to its head no chunk is bad
pub record IsReadable (ring : Ring) : Type 0 where
  pub head : LogHeader
  pub transactions : List Sequenced
  pub headed : head_in ring ≡ Some head
  pub read : transactions_of ring head ≡ Ok transactions
