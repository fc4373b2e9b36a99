-- Transactions as values of the program, and what they say.
use Rattle.std.specs.Prelude.{ℕ, ◌≡◌, ⊤, map, Result, Err}
use Rattle.drafts.specs.declared.change.Written.{Written}
use Rattle.drafts.specs.declared.change.Transaction.{Transaction as Held}
use Rattle.log_layout.specs.Chunks.{Logged, Transaction}
use Rattle.log_layout.specs.Transactions.{Sequenced}
use Rattle.journal_scan.specs.declared.fault.ScanFault.{ScanFault}
use Rattle.journal_scan.specs.declared.fault.ScanFault.TheVariants.{NoHeader, BadChunk, NoMemory}
use Rattle.journal_scan.specs.declared.scanning.Sequenced.{Sequenced as HeldSequenced}

abbrev pub logged : Written → Logged
logged w = record { block = w.block; plain = w.plain; bytes = w.bytes }

-- what a transaction says
abbrev pub says : Held → Transaction
says t = record { blocks = map logged t.blocks.items; revokes = t.revokes.items }

abbrev pub says_at : HeldSequenced → Sequenced
says_at t = record { sequence = t.sequence; transaction = says t.transaction }

-- a fault is the one that was met, or there was no memory
abbrev pub IsFaultOf : {A : Type 0} → ScanFault → Result A ℕ → Type 0
IsFaultOf NoHeader read = ⊥
IsFaultOf (BadChunk place) read = read ≡ Err place
IsFaultOf NoMemory read = ⊤
