-- What a replay does with a journal.
use Rattle.std.specs.Prelude.{ℕ, ◌≡◌, ◌==◌, ⊤, if◌then◌else◌, true, List, [], ◌∷◌, map, filter, find, Option, None, Some, Err}
use Rattle.std.specs.List.{AllByRecursion}
use Rattle.std.specs.Option.{option_map}
use Rattle.std.specs.Ordering.{nat_cmp}
use Rattle.std.specs.BTreeMap.{BTreeMap, get}
use Rattle.drafts.specs.declared.change.Written.{Written}
use Rattle.log_layout.specs.Chunks.{Logged}
use Rattle.log_layout.specs.Journal.{Ring, head_in, next}
use Rattle.log_layout.specs.Transactions.{after, transactions_of}
use Rattle.log_layout.specs.declared.log_header.LogHeader.{LogHeader}
use Rattle.revoke_table.specs.Revokes.{Greatest, is_cancelled}
use Rattle.journal_scan.specs.Said.{logged}
use Rattle.journal_scan.specs.declared.fault.ScanFault.{ScanFault}
use Rattle.journal_scan.specs.declared.fault.ScanFault.TheVariants.{NoHeader, BadChunk, NoMemory}

-- what is put in a block's place
abbrev pub put_home : List Written → ℕ → Option Logged
put_home ws block = option_map logged (find (λ (w : Written). w.block == block) ws)

-- the clean header that comes last: in the place behind the head, with the next sequence, its own place as tail
abbrev pub clean_after : ℕ → LogHeader → LogHeader
clean_after places head = record {
  jid = head.jid;
  sequence = after head.sequence;
  clean = true;
  tail = next places head.blkno;
  blkno = next places head.blkno;
  later = None;
}

-- of a journal whose head is clean there is none
abbrev pub clean_header : ℕ → LogHeader → Option LogHeader
clean_header places head = if head.clean then None else Some (clean_after places head)

-- why there is no plan: the journal has no header, or that place is bad; or there was no memory
abbrev pub IsWhyNot : Ring → ScanFault → Type 0
IsWhyNot ring NoHeader = head_in ring ≡ None
IsWhyNot ring (BadChunk place) = (head : LogHeader) × (head_in ring ≡ Some head) × (transactions_of ring head ≡ Err place)
IsWhyNot ring NoMemory = ⊤

-- ---- on the way

-- the entry that is kept of a block
abbrev pub entry_at : BTreeMap ℕ Written → ℕ → Option Logged
entry_at home block = option_map logged (get nat_cmp home block)

-- each entry is kept under its block's number
abbrev pub AreByBlock : BTreeMap ℕ Written → Type 0
AreByBlock home = AllByRecursion (λ (e : ℕ × Written). e.1.block ≡ e.0) home.entries

-- the entries of a block that count among these of one transaction
abbrev pub counted : Greatest → ℕ → ℕ → List Written → List Logged
counted table sequence block ws = if is_cancelled table block sequence then [] else filter (λ (e : Logged). e.block == block) (map logged ws)

-- the revokes of a transaction before these, the last first, each with the transaction's sequence
abbrev pub revokes_onto : ℕ → List ℕ → List (ℕ × ℕ) → List (ℕ × ℕ)
revokes_onto sequence [] rs = rs
revokes_onto sequence (b ∷ bs) rs = revokes_onto sequence bs ((b, sequence) ∷ rs)
