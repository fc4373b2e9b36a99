-- The headers of node 1's journal, as the items tell them.
use Rattle.std.specs.Prelude.{ℕ, ◌≡◌, ◌+◌, ◌==◌, ⊤, if◌then◌else◌, Bool, false, List, [], ◌∷◌, ◌++◌, Option, None, Some}
use Rattle.log_layout.specs.Transactions.{after}
use Rattle.log_values.specs.Flushing.{block_at, head_place}
use Rattle.log_values.specs.Log.{Flush, LogValue, Stage}
use Rattle.log_values.specs.Log.Stage.{Ending, Headed, Writing}
use Rattle.trace_text.specs.declared.item.TraceItem.{TraceItem}
use Rattle.trace_text.specs.declared.item.TraceItem.TheVariants as trace
use Rattle.logged_steps.specs.Points.{Point}

-- ---- headers

-- the block of a header, its sequence, and the number of the last call that it has
pub record HeadTold : Type 0 where
  pub block : ℕ
  pub sequence : ℕ
  pub upto : ℕ

-- those of node 1 that these items tell, in order
abbrev pub heads_told : List TraceItem → List HeadTold
heads_told [] = []
heads_told (trace.WriteHead node block sequence upto ∷ is) =
    if node == 1 then record { block = block; sequence = sequence; upto = upto } ∷ heads_told is else heads_told is
heads_told (_ ∷ is) = heads_told is

-- ---- of a log

-- its head, with the number of the last call in the journal
abbrev pub head_of_log : LogValue → ℕ → HeadTold
head_of_log log low = record { block = block_at log.journal log.head; sequence = log.sequence; upto = low }

-- the header of a flush, with the number of the last call in it
abbrev pub head_of_flush : LogValue → Flush → ℕ → HeadTold
head_of_flush log f begun = record { block = block_at log.journal (head_place log f); sequence = after log.sequence; upto = begun }

-- the header that is in flight, if one is
abbrev pub headed_by : LogValue → ℕ → Flush → Stage → List HeadTold
headed_by log begun f (Writing done) = []
headed_by log begun f Ending = []
headed_by log begun f (Headed tail) = head_of_flush log f begun ∷ []

abbrev pub flying_head : LogValue → ℕ → Option Flush → List HeadTold
flying_head log begun None = []
flying_head log begun (Some f) = headed_by log begun f f.stage

-- ---- one behind the other

-- the last of these, or the one before them
abbrev pub last_head : HeadTold → List HeadTold → HeadTold
last_head first [] = first
last_head first (h ∷ hs) = last_head h hs

-- each has the next sequence
abbrev pub AreNext : ℕ → List HeadTold → Type 0
AreNext sequence [] = ⊤
AreNext sequence (h ∷ hs) = (h.sequence ≡ sequence + 1) × AreNext h.sequence hs

-- a log whose head was clean or not has, with these headers in its journal since, a clean head or not
abbrev pub clean_behind : Bool → List HeadTold → Bool
clean_behind clean [] = clean
clean_behind clean (h ∷ hs) = false

-- ---- from one point to another

-- The headers that the items tell since a point: each has the next sequence. But for one in flight they are in the journal, and the last of them is the log's head, with the last
-- call in the journal; without one that is the head of then.
pub record TellsItsHeads (a p : Point) : Type 0 where
  pub more : List TraceItem
  pub items : p.items ≡ a.items ++ more
  pub landed : List HeadTold
  pub told : heads_told more ≡ landed ++ flying_head p.log p.numbers.begun p.log.flush
  pub next : AreNext a.log.sequence (heads_told more)
  pub last : head_of_log p.log p.numbers.low ≡ last_head (head_of_log a.log a.numbers.low) landed
  pub clean : p.log.clean ≡ clean_behind a.log.clean landed
  pub journal : p.log.journal ≡ a.log.journal
