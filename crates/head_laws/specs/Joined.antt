-- That the events can be where a node joins while a replay's header of its journal is in flight, which has no item: its second life keeps what stood before its join.
use Rattle.std.specs.Prelude.{ℕ, ◌≡◌, nat_lt, true, false, codes, List, [], ◌∷◌, if◌then◌else◌}
use Rattle.file_tree.specs.declared.call.Call.TheVariants as calls
use Rattle.file_tree.specs.declared.reply.Reply.TheVariants as replies
use Rattle.trace_text.specs.declared.item.TraceItem.{TraceItem}
use Rattle.trace_text.specs.declared.item.TraceItem.TheVariants as trace
use Rattle.run_rules.specs.Lives.{AcceptedHead, upto_of}
use Rattle.run_rules.specs.Recoveries.{at_start, recoveries_are_told}
use Rattle.head_laws.specs.Journals.{Journal, JournalEvents, IsNew}
use Rattle.head_laws.specs.Laws.{with_head}
use Rattle.head_laws.specs.Example.{head, clean, new_journal, resizes}

-- node 2 stops behind this header, and is fenced behind the join
abbrev pub joined_early : List TraceItem
joined_early = trace.Join 1 ∷ trace.Join 2 ∷ resizes 1 ∷ trace.WriteLog 1 31 ∷ trace.WriteLog 1 32 ∷ trace.Barrier 1 ∷ trace.WriteHead 1 33 9 1 ∷ trace.Barrier 1 ∷ trace.Commit 1 9 1
    ∷ trace.Crash 1 ∷ trace.Fence 1 ∷ trace.WriteReplay 2 7 ∷ trace.Barrier 2 ∷ trace.Withdraw 2 4 5 ∷ trace.Join 1 ∷ trace.Fence 2 ∷ trace.Recovered 1 1 ∷ trace.Lost 1 1
    ∷ trace.Call 1 (codes "c") 2 calls.Sync replies.Ok ∷ []

-- the replay's header is on the disk behind that fence
abbrev pub early_disk : ℕ → ℕ → AcceptedHead
early_disk node p = if nat_lt p 8 then clean 30 8 else if nat_lt p 16 then head 33 9 else clean 34 10

abbrev pub JournalIsJoinedEarly : Type 0
JournalIsJoinedEarly = (j : Journal) × IsNew new_journal × JournalEvents 1 (early_disk 1) new_journal [] j joined_early × (j.runs ≡ true) × (j.waits ≡ false)
    × (upto_of (with_head early_disk (clean 34 10)) (record { node = 1; join = 14 }) joined_early ≡ 1)
    × (recoveries_are_told (at_start (λ i. false)) joined_early ≡ true)
