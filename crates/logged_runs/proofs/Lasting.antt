-- The number of the last call that the last header has, a clean one, or the log's head before it.
use Rattle.std.proofs.Common.{◌≡◌, ℕ, ◌+◌, List, [], ◌∷◌, ◌++◌, Option, None, Some, sym, ap, ◌∙◌, arith}
use Rattle.std.specs.Prelude.{Bool, true, ◌==◌, ◌&&◌}
use Rattle.std.specs.List.{AllByRecursion}
use Rattle.std.proofs.lemmas.Bool.{cond-true, cond-false}
use Rattle.log_values.specs.Flushing.{block_at, first_place}
use Rattle.run_rules.specs.Lives.{AcceptedHead, DiskHeads, head_of, items_of, last_number, named, own_from, upto_of}
use Rattle.trace_text.specs.declared.item.TraceItem.{TraceItem}
use Rattle.trace_text.specs.declared.item.TraceItem.TheVariants as trace
use Rattle.logged_steps.specs.Heads.{TellsItsHeads, flying_head}
use Rattle.logged_steps.specs.Points.{Point}
use Rattle.logged_steps.proofs.Heads.{none_begun}
use Rattle.logged_runs.specs.Starts.{IsOfReplay, only_life}
use Rattle.logged_runs.proofs.Staying.{NoneIsClean}
use Rattle.logged_runs.proofs.Naming.{is_itself, is_other, named_on, or_named}
use Rattle.logged_runs.proofs.Noting.{NotesItsCalls, last_is, note_after, note_on, note_still}
use Rattle.logged_runs.proofs.Upto.{LowIsTold, above_start, by_all, by_item, by_start, its_items, low_told, not_told, note, upto_low}
use Rattle.logged_runs.proofs.Upto.LowIsTold.{by_its_item, by_the_start}

-- ---- the head that is left at the end

pub data IsLastAs (p : Point) (h : AcceptedHead) (n : ℕ) : Type 0 where
  old : n ≡ p.numbers.low → h.block ≡ block_at p.log.journal p.log.head → h.sequence ≡ p.log.sequence → IsLastAs p h n
  last : n ≡ p.numbers.answered → h.block ≡ block_at p.log.journal (first_place p.log) → h.sequence ≡ p.log.sequence + 1 → h.is_clean ≡ true → IsLastAs p h n

module _ (a p : Point) (replays : List TraceItem) (of_replay : AllByRecursion IsOfReplay replays) (told : TellsItsHeads a p) (noted : NotesItsCalls note a p) (same_more : noted.more ≡ told.more)
    (stay : NoneIsClean (its_items a p replays of_replay told)) (idle : p.log.flush ≡ None) (disks : DiskHeads) (items : List TraceItem) (h : AcceptedHead) (there : head_of disks only_life items ≡ h)
    (first_at : (disks.behind 1 (own_from only_life items)).sequence ≡ a.log.sequence) (zero : a.numbers.low ≡ 0) (n : ℕ) where
  abbrev xs : List TraceItem
  xs = its_items a p replays of_replay told

  none_flies : flying_head p.log p.numbers.begun p.log.flush ≡ []
  none_flies = none_begun p.log p.numbers.begun idle

  -- ---- where no item tells of the clean header

  -- the last call has the last number
  answered_is : last_number 1 0 (trace.Join 1 ∷ xs) ≡ p.numbers.answered
  answered_is =
      last_is note xs
      ∙ ap (λ m. m.last) (note_on note replays told.more ∙ ap (λ m. note_after m told.more) (note_still note replays of_replay) ∙ ap (note_after note) (sym same_more)) ∙ noted.noted.last

  pub unsaid : last_number 1 0 items ≡ last_number 1 0 (trace.Join 1 ∷ xs) → items_of only_life items ≡ xs → IsLastAs p h n → upto_of disks only_life items ≡ n
  unsaid counted its (old is block sequence) = upto_low a p replays of_replay told stay disks items h its there first_at zero block sequence ∙ sym is
  unsaid counted its (last is block sequence clean) =
      by_all disks items xs h its there (not_told a p replays of_replay told stay h none_flies sequence)
      (let above = above_start a p replays of_replay told stay h none_flies sequence in let f = first_at in omega (arith, above, f)) clean
      ∙ counted ∙ answered_is ∙ sym is

  -- ---- where its item does

  module _ (block sequence : ℕ) (rest : List TraceItem) (its : items_of only_life items ≡ xs ++ trace.WriteClean 1 block sequence p.numbers.answered ∷ rest) (no_more : named 1 h rest ≡ None)
      (block_is : block ≡ block_at p.log.journal (first_place p.log)) (sequence_is : sequence ≡ p.log.sequence + 1) where
    abbrev clean_items : List TraceItem
    clean_items = trace.WriteClean 1 block sequence p.numbers.answered ∷ rest

    abbrev is_this : Bool
    is_this = (block == h.block) && (sequence == h.sequence)

    named_so : (o : Option ℕ) → named 1 h xs ≡ o → named 1 h (xs ++ clean_items) ≡ or_named o (named 1 h clean_items)
    named_so o is = named_on h xs clean_items ∙ ap (λ z. or_named z (named 1 h clean_items)) is

    -- the clean header isn't the log's head
    other : h.sequence ≡ p.log.sequence → named 1 h clean_items ≡ None
    other at = cond-false is_this (Some p.numbers.answered) (named 1 h rest)
        (is_other h.block h.sequence (record { block = block; sequence = sequence; upto = p.numbers.answered }) (λ e. absurd (omega (arith, e, at, sequence_is)))) ∙ no_more

    itself : h.block ≡ block_at p.log.journal (first_place p.log) → h.sequence ≡ p.log.sequence + 1 → named 1 h clean_items ≡ Some p.numbers.answered
    itself at_block at = cond-true is_this (Some p.numbers.answered) (named 1 h rest)
        ((λ i. ((block_is ∙ sym at_block) i == h.block) && ((sequence_is ∙ sym at) i == h.sequence)) ∙ is_itself (record { block = h.block; sequence = h.sequence; upto = 0 }))

    pub said : IsLastAs p h n → upto_of disks only_life items ≡ n
    said (old is at_block at) = by (low_told a p replays of_replay told stay h zero at_block at)
      where
        by : LowIsTold a p replays of_replay told h → upto_of disks only_life items ≡ n
        by (by_its_item names) = by_item disks items (xs ++ clean_items) h its there p.numbers.low (named_so (Some p.numbers.low) names) ∙ sym is
        by (by_the_start none start low) = by_start disks items (xs ++ clean_items) h its there (named_so None none ∙ other at) (let f = first_at in omega (arith, start, f)) ∙ sym low ∙ sym is
    said (last is at_block at clean) =
        by_item disks items (xs ++ clean_items) h its there p.numbers.answered
        (named_so None (not_told a p replays of_replay told stay h none_flies at) ∙ itself at_block at) ∙ sym is
