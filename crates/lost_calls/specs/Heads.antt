-- The head of a journal that a stopped node left.
use Rattle.std.specs.Prelude.{ℕ, ◌≡◌, List}
use Rattle.run_rules.specs.Lives.{AcceptedHead, DiskHeads, Life, head_of, own_from}
use Rattle.trace_text.specs.declared.item.TraceItem.{TraceItem}
use Rattle.lost_calls.specs.declared.heads.LeftHead.{LeftHead}

-- the life of node 1 that begins with the first item
abbrev pub first_life : Life
first_life = record { node = 1; join = 0 }

abbrev pub accepted : LeftHead → AcceptedHead
accepted h = record { block = h.block; sequence = h.sequence; is_clean = h.is_clean }

-- The disks have this head behind the fence that ended that life; and where its own headers begin, they had one with this sequence.
pub record IsLeftBy (disks : DiskHeads) (items : List TraceItem) (h : LeftHead) (first : ℕ) : Type 0 where
  pub left : head_of disks first_life items ≡ accepted h
  pub begun : (disks.behind 1 (own_from first_life items)).sequence ≡ first
