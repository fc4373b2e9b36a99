-- That the events can be where a node crashes while the clean header of the ring that it had at the start is in flight: until the fence both heads may be, with one number,
-- and from there on either is told.
use Rattle.std.specs.Prelude.{ℕ, ◌≡◌, ◌==◌, nat_lt, Bool, true, false, List, [], ◌∷◌, ◌++◌, if◌then◌else◌}
use Rattle.trace_text.specs.declared.item.TraceItem.{TraceItem}
use Rattle.trace_text.specs.declared.item.TraceItem.TheVariants as trace
use Rattle.run_rules.specs.Lives.{AcceptedHead, upto_of}
use Rattle.run_rules.specs.Recoveries.{at_start, recoveries_are_told}
use Rattle.head_laws.specs.Journals.{Journal, JournalEvents, IsNew}
use Rattle.head_laws.specs.Laws.{with_head, MayBe}
use Rattle.head_laws.specs.Example.{head, clean, new_journal}

abbrev pub dirty_journal : Journal
dirty_journal = record new_journal { waits = true; name = λ d. head 30 8 }

abbrev pub crashed : List TraceItem
crashed = trace.Join 1 ∷ trace.Join 2 ∷ trace.WriteReplay 1 5 ∷ trace.Barrier 1 ∷ trace.WriteReplay 1 31 ∷ trace.Crash 1 ∷ []

-- the header is on the disk behind the fence; or it never will be, and node 2 writes it
abbrev pub landed : List TraceItem
landed = crashed ++ trace.Fence 1 ∷ trace.Recovered 1 2 ∷ trace.Lost 1 0 ∷ []

abbrev pub written_anew : List TraceItem
written_anew = crashed ++ trace.Fence 1 ∷ trace.WriteReplay 2 31 ∷ trace.Barrier 2 ∷ trace.Recovered 1 2 ∷ trace.Lost 1 0 ∷ []

-- the disk has it from so many items on
abbrev pub clean_from : ℕ → ℕ → ℕ → AcceptedHead
clean_from n node p = if nat_lt p n then head 30 8 else clean 31 9

-- to such a state on this disk
abbrev pub IsThrough : (ℕ → AcceptedHead) → Journal → List TraceItem → Type 0
IsThrough behind j items = (k : Journal) × JournalEvents 1 behind j crashed k items × (k.waits ≡ false)

abbrev pub HeadIsUnsettled : Type 0
HeadIsUnsettled = (j : Journal) × IsNew dirty_journal × JournalEvents 1 (clean_from 7 1) dirty_journal [] j crashed × JournalEvents 1 (clean_from 9 1) dirty_journal [] j crashed
    × ((d : Bool) (h : AcceptedHead) → MayBe 1 j crashed d h)
    × IsThrough (clean_from 7 1) j landed × IsThrough (clean_from 9 1) j written_anew
    × (upto_of (with_head (clean_from 7) (clean 31 9)) (record { node = 1; join = 0 }) crashed ≡ 0)
    × (upto_of (with_head (clean_from 9) (head 30 8)) (record { node = 1; join = 0 }) crashed ≡ 0)
    × (recoveries_are_told (at_start (λ i. i == 1)) landed ≡ true) × (recoveries_are_told (at_start (λ i. i == 1)) written_anew ≡ true)
