-- The transactions of a journal, between its tail and its head.
use Rattle.std.specs.Prelude.{ℕ, ◌+◌, ◌^◌, ◌%◌, ◌==◌, if◌then◌else◌, Bool, true, List, [], ◌∷◌, length, Option, None, Some, Result, Ok, Err}
use Rattle.log_layout.specs.Journal.{Ring, Placed, accepted, blocks_from, refuses_tail, way}
use Rattle.log_layout.specs.Chunks.{Transaction, nothing, joined, chunk_in, part_of}
use Rattle.log_layout.specs.declared.due.Due.{Due}
use Rattle.log_layout.specs.declared.log_header.LogHeader.{LogHeader}

-- a transaction with the sequence of the header that ends it
pub record Sequenced : Type 0 where
  pub sequence : ℕ
  pub transaction : Transaction

-- the sequence behind one
abbrev pub after : ℕ → ℕ
after sequence = (sequence + 1) % 2 ^ 64

-- a header may come behind the one before it, if there was one
abbrev pub may_follow : Option ℕ → ℕ → Bool
may_follow None sequence = true
may_follow (Some last) sequence = sequence == after last

abbrev pub and_then : Sequenced → Result (List Sequenced) ℕ → Result (List Sequenced) ℕ
and_then t (Ok ts) = Ok (t ∷ ts)
and_then t (Err place) = Err place

-- The transactions in these blocks, of which the last is the head, or the first place that is none that may stand there: where nothing
-- is due, a header that follows the one before it ends the transaction, or a descriptor begins a chunk, which ends before the head. What
-- the open transaction has so far is told.
unfoldable pub reading : ℕ → List Due → Option ℕ → Transaction → List Placed → Result (List Sequenced) ℕ
reading size due last begun [] = Ok []
reading size [] last begun (b ∷ bs) = elim (accepted b.place b.bytes) [
  | Some g ↦ if may_follow last g.sequence then and_then (record { sequence = g.sequence; transaction = begun }) (reading size [] (Some g.sequence) nothing bs) else Err b.place
  | None ↦ elim (chunk_in size (length bs) b.bytes) [
    | Some c ↦ reading size c.due last (joined begun (record { blocks = []; revokes = c.revokes })) bs
    | None ↦ Err b.place
  ]
]
reading size (d ∷ due) last begun (b ∷ bs) = elim (part_of d b.bytes) [
  | Some part ↦ reading size due last (joined begun part) bs
  | None ↦ Err b.place
]

-- those of a journal with this head, or the place that is bad. A clean head has none; a tail that can't be one is told first
abbrev pub transactions_of : Ring → LogHeader → Result (List Sequenced) ℕ
transactions_of ring head =
    if head.clean then Ok []
    else if refuses_tail ring.places head then Err head.blkno
    else reading ring.size [] None nothing (blocks_from ring head.tail (way ring.places head.tail head.blkno + 1))
