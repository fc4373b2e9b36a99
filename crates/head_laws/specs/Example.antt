-- That the events can be: two lives of node 1. In the first it flushes a call, and stops behind a second header that has no item and is on the disk; node 2
-- replays its journal, the life's loss keeps both calls, and the node joins again.
use Rattle.std.specs.Prelude.{ℕ, ◌≡◌, nat_lt, true, false, None, codes, List, [], ◌∷◌, take, if◌then◌else◌}
use Rattle.file_tree.specs.declared.call.Call.TheVariants as calls
use Rattle.file_tree.specs.declared.reply.Reply.TheVariants as replies
use Rattle.trace_text.specs.declared.item.TraceItem.{TraceItem}
use Rattle.trace_text.specs.declared.item.TraceItem.TheVariants as trace
use Rattle.run_rules.specs.Lives.{AcceptedHead, upto_of}
use Rattle.run_rules.specs.Recoveries.{at_start, recoveries_are_told}
use Rattle.head_laws.specs.Journals.{Journal, JournalEvents, IsNew}
use Rattle.head_laws.specs.Laws.{with_head}

abbrev pub head : ℕ → ℕ → AcceptedHead
head block sequence = record { block = block; sequence = sequence; is_clean = false }

abbrev pub clean : ℕ → ℕ → AcceptedHead
clean block sequence = record { block = block; sequence = sequence; is_clean = true }

abbrev pub new_journal : Journal
new_journal = record {
  runs = false;
  waits = false;
  fenced = false;
  unlost = 0;
  last = 0;
  cut = λ d. 0;
  name = λ d. clean 30 8;
  flies = None;
  silent = false;
}

-- the node's call of this number sets the size of a file
abbrev pub resizes : ℕ → TraceItem
resizes number = trace.Call 1 (codes "c") number (calls.Truncate (codes "f" ∷ []) number) replies.Ok

abbrev pub two_lives : List TraceItem
two_lives = trace.Join 1 ∷ trace.Join 2 ∷ resizes 1 ∷ trace.WriteLog 1 31 ∷ trace.WriteLog 1 32 ∷ trace.Barrier 1 ∷ trace.WriteHead 1 33 9 1 ∷ trace.Barrier 1 ∷ trace.Commit 1 9 1
    ∷ resizes 2 ∷ trace.WriteLog 1 34 ∷ trace.WriteLog 1 35 ∷ trace.Barrier 1 ∷ trace.Withdraw 1 4 5 ∷ trace.Fence 1
    ∷ trace.WriteReplay 2 7 ∷ trace.Barrier 2 ∷ trace.WriteReplay 2 37 ∷ trace.Barrier 2 ∷ trace.Recovered 1 2 ∷ trace.Lost 1 2 ∷ trace.Join 1 ∷ []

-- the accepted head behind so many items: at the first join, behind the fence, and behind the replay's last barrier
abbrev pub on_disk : ℕ → ℕ → AcceptedHead
on_disk node p = if nat_lt p 8 then clean 30 8 else if nat_lt p 15 then head 33 9 else if nat_lt p 19 then head 36 10 else clean 37 11

abbrev pub JournalCanLive : Type 0
JournalCanLive = (j : Journal) × IsNew new_journal × JournalEvents 1 (on_disk 1) new_journal [] j two_lives
    × (j.runs ≡ true) × (j.waits ≡ false) × (j.cut false ≡ 2)
    × (upto_of (with_head on_disk (clean 37 11)) (record { node = 1; join = 0 }) (take 20 two_lives) ≡ 2)
    × (upto_of (with_head on_disk (clean 37 11)) (record { node = 1; join = 21 }) two_lives ≡ 2)
    × (recoveries_are_told (at_start (λ i. false)) two_lives ≡ true)
