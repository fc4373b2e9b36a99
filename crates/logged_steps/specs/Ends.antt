-- How a run ends: with a clean header in its journal.
use Rattle.std.specs.Prelude.{ℕ, ◌++◌, List, [], ◌∷◌, Option}
use Rattle.journal_outcomes.specs.Disks.{flown_by}
use Rattle.log_layout.specs.Transactions.{after}
use Rattle.log_values.specs.Flushing.{block_at, first_place}
use Rattle.lone_ends.specs.Ends.{FliesLast}
use Rattle.shared_disk.specs.Disk.{DiskState, Operation, after_barrier, after_write}
use Rattle.trace_text.specs.declared.item.TraceItem.{TraceItem}
use Rattle.trace_text.specs.declared.item.TraceItem.TheVariants as trace
use Rattle.logged_steps.specs.Points.{Point, state_of}

-- the block behind the journal's head
abbrev pub last_block : Point → ℕ
last_block p = block_at p.log.journal (first_place p.log)

-- the header's item: it has all calls
abbrev pub clean_item : Point → TraceItem
clean_item p = trace.WriteClean 1 (last_block p) (after p.log.sequence) p.numbers.answered

-- the disk with it in flight
abbrev pub with_clean : Point → List ℕ → DiskState
with_clean p bytes = after_write p.disk 1 (last_block p) bytes

-- these bytes are it, and nothing else is in flight then
abbrev pub FliesClean : Point → List ℕ → Type 0
FliesClean p bytes = FliesLast (state_of p) (flown_by (with_clean p bytes) 1)

-- The clean header is in flight, and nothing else: no item tells of it yet, or its item does; or a barrier is made, with which it is in its place.
pub data EndsTo (p : Point) : Point → Type 0 where
  Unsaid : (bytes : List ℕ) (list : Option (List Operation)) → FliesClean p bytes → EndsTo p (record p { disk = with_clean p bytes; list = list })
  Said : (bytes : List ℕ) (list : Option (List Operation)) → FliesClean p bytes → EndsTo p (record p { disk = with_clean p bytes; list = list; items = p.items ++ clean_item p ∷ [] })
  Landed : (bytes : List ℕ) (list : Option (List Operation)) → FliesClean p bytes
      → EndsTo p (record p { disk = after_barrier (with_clean p bytes) 1; list = list; items = p.items ++ clean_item p ∷ trace.Barrier 1 ∷ [] })
