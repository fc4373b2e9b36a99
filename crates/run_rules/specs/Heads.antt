-- Worked rows of lives, of the heads that they left and of what these have, and of recoveries. Items of locks, reads and views are left out.
use Rattle.std.specs.Prelude.{ℕ, ◌≡◌, ◌==◌, nat_lt, Bool, true, false, if◌then◌else◌, Some, codes, List, [], ◌∷◌, ◌++◌}
use Rattle.file_tree.specs.declared.call.Call.TheVariants as calls
use Rattle.file_tree.specs.declared.reply.Reply.TheVariants as replies
use Rattle.trace_text.specs.declared.item.TraceItem.{TraceItem}
use Rattle.trace_text.specs.declared.item.TraceItem.TheVariants as trace
use Rattle.run_rules.specs.Lives.{Life, AcceptedHead, DiskHeads, upto_of, lives_of, life_lost, TraceKeptRight}
use Rattle.run_rules.specs.Recoveries.{at_start, recoveries_are_told}

-- the client of node 1, and that of node 2
abbrev pub client_of : ℕ → List ℕ
client_of node = if node == 1 then codes "c" else codes "d"

-- the node's call of this number sets the size of a file, which has its client's name
abbrev pub resizes : ℕ → ℕ → TraceItem
resizes node number = trace.Call node (client_of node) number (calls.Truncate (client_of node ∷ []) number) replies.Ok

-- node 1 answers a call, and its first flush begins
abbrev pub begun : List TraceItem
begun = trace.Join 1 ∷ trace.Join 2 ∷ resizes 1 1 ∷ trace.WriteLog 1 40 ∷ trace.WriteLog 1 41 ∷ trace.Barrier 1 ∷ trace.WriteHead 1 42 9 1 ∷ []

-- it stops there
abbrev pub cut_short : List TraceItem
cut_short = begun ++ trace.Crash 1 ∷ trace.Fence 1 ∷ []

-- or the flush ends, the node answers two more calls, begins a second flush, and stops; node 2 goes on
abbrev pub run : List TraceItem
run = begun ++ trace.Barrier 1 ∷ trace.Commit 1 9 1 ∷ resizes 1 2 ∷ trace.WriteLog 1 43 ∷ resizes 1 3 ∷ trace.WriteLog 1 44 ∷ trace.Barrier 1 ∷ trace.WriteHead 1 45 10 2
    ∷ trace.Crash 1 ∷ resizes 2 1 ∷ trace.Fence 1 ∷ []

abbrev pub first : Life
first = record { node = 1; join = 0 }

abbrev pub head : ℕ → ℕ → AcceptedHead
head block sequence = record { block = block; sequence = sequence; is_clean = false }

abbrev pub clean_head : ℕ → ℕ → AcceptedHead
clean_head block sequence = record { block = block; sequence = sequence; is_clean = true }

-- the disk has this head, and from so many items on another
abbrev pub only : AcceptedHead → DiskHeads
only h = record { behind = λ node p. h; now = λ node. h }

abbrev pub then_from : DiskHeads → ℕ → AcceptedHead → DiskHeads
then_from disks n h = record { behind = λ node p. if nat_lt p n then disks.behind node p else h; now = λ node. h }

-- its journal had one head at the join, and has the first flush's behind the barrier
abbrev pub at_join : AcceptedHead
at_join = clean_head 39 8

abbrev pub flushed : DiskHeads
flushed = then_from (only at_join) 8 (head 42 9)

-- a withdraw behind a write to the log that has no header with an item
abbrev pub cut_off : List TraceItem
cut_off = begun ++ trace.Barrier 1 ∷ trace.Commit 1 9 1 ∷ resizes 1 2 ∷ trace.WriteLog 1 43 ∷ trace.WriteLog 1 44 ∷ resizes 1 3 ∷ trace.Barrier 1 ∷ trace.Withdraw 1 4 5 ∷ []

-- or at an unmount, with all home on the disk, behind a call that changed nothing
abbrev pub unmounted : List TraceItem
unmounted = begun ++ trace.Barrier 1 ∷ trace.Commit 1 9 1 ∷ trace.Call 1 (codes "c") 2 calls.Sync replies.Ok ∷ trace.WriteHome 1 7 ∷ trace.Barrier 1 ∷ trace.Withdraw 1 4 5 ∷ []

-- its own slot, which was dirty at the start, is replayed in a life, which then begins a flush and stops
abbrev pub replayed : List TraceItem
replayed = trace.Join 1 ∷ trace.WriteReplay 1 31 ∷ trace.Barrier 1 ∷ trace.Recovered 1 1 ∷ resizes 1 1 ∷ trace.WriteLog 1 32 ∷ trace.Crash 1 ∷ []

-- Node 2 stops while the clean header of its replay of node 1's journal is in flight, and node 1 joins before node 2 is fenced; the header is on the disk then.
abbrev pub joined_early : List TraceItem
joined_early = begun ++ trace.Barrier 1 ∷ trace.Commit 1 9 1 ∷ trace.Crash 1 ∷ trace.Fence 1 ∷ trace.WriteReplay 2 7 ∷ trace.Barrier 2 ∷ trace.WriteReplay 2 43 ∷ trace.Crash 2 ∷ trace.Join 1
    ∷ trace.Fence 2 ∷ trace.Recovered 1 1 ∷ trace.Lost 1 1 ∷ trace.Recovered 2 1 ∷ trace.Lost 2 0 ∷ resizes 1 2 ∷ trace.WriteLog 1 44 ∷ trace.Crash 1 ∷ []

-- From a dirty start: node 1's last write before its withdraw, which has no item, is the clean header of its replay of node 2's journal. Node 2's last write before its own
-- has none either.
abbrev pub without_item : List TraceItem
without_item = trace.Join 1 ∷ trace.Join 2 ∷ trace.WriteReplay 1 7 ∷ trace.Barrier 1 ∷ trace.Withdraw 1 4 5 ∷ trace.Fence 1 ∷ trace.Recovered 1 2 ∷ trace.Lost 1 0 ∷ trace.Recovered 2 2
    ∷ resizes 2 1 ∷ trace.WriteLog 2 44 ∷ trace.WriteLog 2 45 ∷ trace.Barrier 2 ∷ trace.Withdraw 2 6 7 ∷ []

abbrev pub recovered : DiskHeads
recovered = then_from (only (head 42 8)) 6 (clean_head 43 9)

-- a second life
abbrev pub twice : List TraceItem
twice = run ++ trace.WriteReplay 2 7 ∷ trace.Barrier 2 ∷ trace.WriteReplay 2 43 ∷ trace.Barrier 2 ∷ trace.Recovered 1 2 ∷ trace.Lost 1 1 ∷ trace.Join 1 ∷ []

abbrev pub second_life : Life
second_life = record { node = 1; join = 24 }

pub record RowsOfHeads : Type 0 where
  -- the second header is on the disk behind the fence, or it isn't; or the first isn't
  pub new : upto_of (then_from flushed 18 (head 45 10)) first run ≡ 2
  pub old : upto_of flushed first run ≡ 1
  pub base : upto_of (only at_join) first cut_short ≡ 0
  -- a head without an item has the calls before the first write to the log behind the last head; a clean one has all
  pub unnamed : upto_of (then_from flushed 15 (head 45 10)) first cut_off ≡ 2
  pub clean : upto_of (then_from flushed 13 (clean_head 43 10)) first unmounted ≡ 2
  -- the clean header of a replay in this life is none of its own
  pub replays : upto_of (then_from (only (head 30 8)) 3 (clean_head 31 9)) first replayed ≡ 0
  -- also where the node joined while it was in flight, or it has no item
  pub early : upto_of (then_from flushed 17 (clean_head 43 10)) (record { node = 1; join = 15 }) joined_early ≡ 1
  pub silent : upto_of recovered (record { node = 2; join = 1 }) without_item ≡ 0
  -- a header behind the recovery is the life's own
  pub behind : upto_of (then_from recovered 14 (head 46 10)) (record { node = 2; join = 1 }) without_item ≡ 1
  -- the base of a second life is the last number before it; the next loss of node 1 is that of this life
  pub second : upto_of (then_from flushed 22 (clean_head 43 10)) second_life twice ≡ 3
  pub lives : lives_of twice ≡ first ∷ record { node = 2; join = 1 } ∷ second_life ∷ []
  pub next : life_lost 1 twice ≡ Some second_life

-- a loss without a life is refused, whatever the disks say: one crash, and two losses
abbrev pub two_losses : List TraceItem
two_losses = trace.Join 1 ∷ trace.Join 2 ∷ trace.Crash 1 ∷ trace.Fence 1 ∷ trace.Recovered 1 2 ∷ trace.Lost 1 0 ∷ trace.Lost 1 0 ∷ []

abbrev pub EachLossHasALife : Type 0
EachLossHasALife = (behind : ℕ → ℕ → AcceptedHead) → ¬ (TraceKeptRight [] behind two_losses)

-- ---- recoveries

abbrev pub is_told : (ℕ → Bool) → List TraceItem → Bool
is_told dirty items = recoveries_are_told (at_start dirty) items

abbrev pub none : ℕ → Bool
none node = false

pub record RowsOfRecoveries : Type 0 where
  -- of a life, of two, of a slot that is dirty at the start, and of two nodes that stop
  pub once : is_told none run ≡ true
  pub twice : is_told none twice ≡ true
  pub dirty : is_told (λ node. node == 1) replayed ≡ true
  pub two : is_told none joined_early ≡ true
  pub second : is_told (λ node. node == 2) without_item ≡ true
  -- without an item, or by one more, or by a node that isn't the least member, it isn't told
  pub silent : is_told none (run ++ trace.Lost 1 1 ∷ trace.Join 1 ∷ []) ≡ false
  pub more : is_told none (run ++ trace.Recovered 1 2 ∷ trace.Recovered 1 2 ∷ []) ≡ false
  pub other : is_told none (run ++ trace.Recovered 1 1 ∷ []) ≡ false
  -- nor does a loss come behind something else, or anything behind a loss at the end
  pub late : is_told none (run ++ trace.Recovered 1 2 ∷ resizes 2 2 ∷ trace.Lost 1 1 ∷ []) ≡ false
  pub last : is_told none (run ++ trace.Lost 1 1 ∷ []) ≡ true
  pub over : is_told none (run ++ trace.Lost 1 1 ∷ resizes 2 2 ∷ []) ≡ false
