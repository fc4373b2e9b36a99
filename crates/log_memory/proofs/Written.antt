-- A log with a change's blocks freed and the first so many written.
use Rattle.std.proofs.Common.{◌≡◌, ℕ, ◌+◌, ◌<◌, ◌≤◌, [], ◌∷◌, length, take, get_or, refl, sym, ap, ap₂, ◌∙◌, arith}
use Rattle.std.proofs.lemmas.List.{length-map, length-take}
use Rattle.std.proofs.lemmas.Option.{get_or_from_slice_get}
use Rattle.drafts.specs.declared.change.Change.{Change}
use Rattle.drafts.specs.declared.change.Written.{Written}
use Rattle.glock_names.specs.declared.LockName.{LockName}
use Rattle.journal_scan.specs.Said.{logged}
use Rattle.log_values.specs.Log.{LogValue}
use Rattle.log_values.specs.Changes.{CanBeAdded}
use Rattle.log_values.specs.Sound.{IsSoundLog}
use Rattle.log_memory.specs.Adding.{IsAlike, counts_of, with_freed_all, with_written_all}
use Rattle.log_memory.specs.declared.adding.Counts.{Counts}
use Rattle.log_memory.proofs.Halves.{alike_on, freed_alike, front_at, written_alike, written_more}
use Rattle.log_memory.proofs.Rises.{unfreed, unwritten_before}
use Rattle.log_memory.proofs.Room.{few_left, few_written}
use Rattle.log_memory.proofs.RowsRead.{entry_at}
use Rattle.log_memory.proofs.Tallies.{all_of, tally_is}

module _ (log : LogValue) (c : Change) (can : CanBeAdded log.journal.size c) where
  abbrev pub written_to : ℕ → LogValue
  written_to i = with_written_all (with_freed_all log c.freed.items) (take i c.blocks.items) (take i c.locks.items)

  module _ (i : ℕ) (w : Written) (less : i < length c.blocks.items) (at : w ≡ get_or c.blocks.items i w) where
    pub as_it_was : IsAlike log (written_to i) w.block
    as_it_was =
        alike_on log (with_freed_all log c.freed.items) (written_to i) w.block (freed_alike log c.freed.items w.block (unfreed log.journal.size c can i w less at))
        (written_alike (with_freed_all log c.freed.items) (take i c.blocks.items) (take i c.locks.items) w.block (unwritten_before log.journal.size c can i w less at))

    lock_inside : i < length c.locks.items
    lock_inside = let same = can.locks in omega arith

    pub one_more : (lock : LockName) × (with_written_all (written_to i) (w ∷ []) (lock ∷ []) ≡ written_to (i + 1))
    one_more =
        let here = entry_at c.locks.items i lock_inside in
        let lock = here.0 in
        let is = get_or_from_slice_get c.locks.items i lock lock here.1 in
        let blocks = length-take i c.blocks.items in
        let locks = length-take i c.locks.items in
        let even : length (take i c.locks.items) ≡ length (take i c.blocks.items) = (let same = can.locks in omega arith) in (
          lock,
          sym (written_more (with_freed_all log c.freed.items) (take i c.blocks.items) (take i c.locks.items) w lock even)
              ∙ ap₂ (with_written_all (with_freed_all log c.freed.items)) (sym (front_at c.blocks.items c.blocks.items i w refl less at)) (sym (front_at c.locks.items c.locks.items i lock refl lock_inside (sym is))),
        )

  blocks_few : length c.blocks.items ≤ 131072
  blocks_few = let few = can.whole.few in let same = length-map c.blocks.items logged in omega arith

  module _ (sound : IsSoundLog log) (i : ℕ) (n : Counts) (is : n ≡ counts_of (written_to i)) where
    pub few_versions : n.content + n.metadata < 2147483648
    few_versions =
        let content = ap (λ (k : Counts). k.content) (is ∙ tally_is (written_to i)) in
        let metadata = ap (λ (k : Counts). k.metadata) (is ∙ tally_is (written_to i)) in
        let all = all_of (written_to i).fresh in
        let few = few_written log sound c.freed.items (take i c.blocks.items) (take i c.locks.items) in
        let front = length-take i c.blocks.items in
        let most : length c.blocks.items ≤ 131072 = blocks_few in
        omega arith

    pub few_revokes : n.revokes ≤ 69632
    few_revokes =
        let revokes = ap (λ (k : Counts). k.revokes) (is ∙ tally_is (written_to i)) in
        let few = few_left log sound c.freed.items (take i c.blocks.items) (take i c.locks.items) in
        omega arith
