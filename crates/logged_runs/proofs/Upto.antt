-- The number of the last call that a head has, as the items tell it.
use Rattle.std.proofs.Common.{◌≡◌, ℕ, ◌+◌, ◌<◌, ◌≤◌, List, [], ◌∷◌, ◌++◌, None, Some, refl, sym, ap, subst, ◌∙◌, arith}
use Rattle.std.specs.Prelude.{true, false, nat_lt, if◌then◌else◌}
use Rattle.std.specs.List.{AllByRecursion}
use Rattle.std.proofs.lemmas.Bool.{cond-true, cond-false, lt-ltb, le-ltb}
use Rattle.trace_text.specs.declared.item.TraceItem.{TraceItem}
use Rattle.trace_text.specs.declared.item.TraceItem.TheVariants as trace
use Rattle.log_layout.specs.Transactions.{after}
use Rattle.run_rules.specs.Lives.{AcceptedHead, DiskHeads, Unnamed, head_of, items_of, last_number, named, or_else, own_from, recovered_behind, unnamed, upto_by, upto_of}
use Rattle.log_values.specs.Log.{Flush}
use Rattle.log_values.specs.Log.Stage.{Headed}
use Rattle.logged_steps.specs.Heads.{AreNext, HeadTold, TellsItsHeads, flying_head, head_of_flush, head_of_log, heads_told, last_head}
use Rattle.logged_steps.specs.Points.{IsOfRun, Point}
use Rattle.logged_steps.proofs.Heads.{at_stage_of, heads_on}
use Rattle.logged_steps.proofs.Telling.{append_assoc, append_nil}
use Rattle.logged_runs.specs.Starts.{IsOfReplay, only_life}
use Rattle.logged_runs.proofs.Staying.{NoneIsClean, none_recovered, recovered_on}
use Rattle.logged_runs.proofs.Naming.{IsLastOf, find_head, found, last_above, last_of, named_is, none_before, none_behind}
use Rattle.logged_runs.proofs.Naming.IsLastOf.{none_came, the_last}

-- ---- the three cases

-- what the life's items tell of a header without an item begins so
abbrev pub note : Unnamed
note = record { upto = 0; is_logged = false; last = 0 }

module _ (disks : DiskHeads) (items xs : List TraceItem) (h : AcceptedHead) (its : items_of only_life items ≡ xs) (there : head_of disks only_life items ≡ h) where
  named_so : upto_of disks only_life items ≡ upto_by (named 1 h xs) h disks only_life items
  named_so = λ i. upto_by (named 1 (there i) (its i)) (there i) disks only_life items

  pub by_item : (u : ℕ) → named 1 h xs ≡ Some u → upto_of disks only_life items ≡ u
  by_item u is = named_so ∙ ap (λ o. upto_by o h disks only_life items) is

  unsaid : named 1 h xs ≡ None → upto_of disks only_life items ≡ upto_by None h disks only_life items
  unsaid none = named_so ∙ ap (λ o. upto_by o h disks only_life items) none

  abbrev first : ℕ
  first = (disks.behind 1 (own_from only_life items)).sequence

  abbrev own_number : ℕ
  own_number = if h.is_clean then last_number 1 0 items else unnamed 1 note (items_of only_life items)

  pub by_start : named 1 h xs ≡ None → h.sequence ≤ first → upto_of disks only_life items ≡ 0
  by_start none low = unsaid none ∙ cond-false (nat_lt first h.sequence) own_number 0 (le-ltb first h.sequence low)

  pub by_note : named 1 h xs ≡ None → first < h.sequence → h.is_clean ≡ false → upto_of disks only_life items ≡ unnamed 1 note xs
  by_note none above dirty =
      unsaid none ∙ cond-true (nat_lt first h.sequence) own_number 0 (lt-ltb first h.sequence above)
      ∙ cond-false h.is_clean (last_number 1 0 items) (unnamed 1 note (items_of only_life items)) dirty ∙ ap (unnamed 1 note) its

  pub by_all : named 1 h xs ≡ None → first < h.sequence → h.is_clean ≡ true → upto_of disks only_life items ≡ last_number 1 0 items
  by_all none above clean =
      unsaid none ∙ cond-true (nat_lt first h.sequence) own_number 0 (lt-ltb first h.sequence above)
      ∙ cond-true h.is_clean (last_number 1 0 items) (unnamed 1 note (items_of only_life items)) clean

-- ---- of a run

no_heads : (xs : List TraceItem) → AllByRecursion IsOfReplay xs → heads_told xs ≡ []
no_heads [] all = refl
no_heads (trace.WriteHead node block sequence upto ∷ xs) all = absurd all.0
no_heads (x ∷ xs) all = no_heads xs all.1

module _ (a p : Point) (replays : List TraceItem) (of_replay : AllByRecursion IsOfReplay replays) (told : TellsItsHeads a p) where
  abbrev pub its_items : List TraceItem
  its_items = replays ++ told.more

  heads_are : heads_told its_items ≡ heads_told told.more
  heads_are = heads_on replays told.more ∙ ap (λ hs. hs ++ heads_told told.more) (no_heads replays of_replay)

  abbrev start : HeadTold
  start = head_of_log a.log a.numbers.low

  -- ---- what the items of the life say of a header

  -- the log's head has an item, which says what is in the journal; or it is that of the start, and nothing of the run is
  pub data LowIsTold (h : AcceptedHead) : Type 0 where
    by_its_item : named 1 h its_items ≡ Some p.numbers.low → LowIsTold h
    by_the_start : named 1 h its_items ≡ None → h.sequence ≡ a.log.sequence → p.numbers.low ≡ 0 → LowIsTold h

  module _ (stay : NoneIsClean its_items) (h : AcceptedHead) where
    named_told : named 1 h its_items ≡ find_head h.block h.sequence (heads_told told.more)
    named_told = named_is h its_items stay ∙ ap (find_head h.block h.sequence) heads_are

    pub named_at : (g : HeadTold) → h.block ≡ g.block → h.sequence ≡ g.sequence → (front back : List HeadTold) → heads_told told.more ≡ front ++ g ∷ back → named 1 h its_items ≡ Some g.upto
    named_at g block sequence front back are = named_told ∙ (λ i. find_head (block i) (sequence i) (are i)) ∙ found a.log.sequence front g back (subst (AreNext a.log.sequence) are told.next)

    pub low_told : a.numbers.low ≡ 0 → h.block ≡ (head_of_log p.log p.numbers.low).block → h.sequence ≡ p.log.sequence → LowIsTold h
    low_told zero block sequence = by (last_of start told.landed)
      where
        by : IsLastOf start told.landed → LowIsTold h
        by (none_came none) =
            let same : head_of_log p.log p.numbers.low ≡ start = told.last ∙ ap (last_head start) none in
            let at : h.sequence ≡ a.log.sequence = sequence ∙ ap (λ (g : HeadTold). g.sequence) same in
            by_the_start (named_told ∙ none_before a.log.sequence h.block h.sequence (heads_told told.more) (omega (arith, at)) told.next) at (ap (λ (g : HeadTold). g.upto) same ∙ zero)
        by (the_last front are) = by_its_item
            (named_at (head_of_log p.log p.numbers.low) block sequence front (flying_head p.log p.numbers.begun p.log.flush)
            (told.told ∙ ap (λ hs. hs ++ flying_head p.log p.numbers.begun p.log.flush) (are ∙ ap (λ g. front ++ g ∷ []) (sym told.last))
            ∙ append_assoc front (head_of_log p.log p.numbers.low ∷ []) (flying_head p.log p.numbers.begun p.log.flush)))

    -- a header behind the log's head has no item
    module _ (none : flying_head p.log p.numbers.begun p.log.flush ≡ []) (sequence : h.sequence ≡ p.log.sequence + 1) where
      landed : heads_told told.more ≡ told.landed
      landed = told.told ∙ ap (λ hs. told.landed ++ hs) none ∙ append_nil told.landed

      next : AreNext a.log.sequence told.landed
      next = subst (AreNext a.log.sequence) landed told.next

      last : p.log.sequence ≡ (last_head start told.landed).sequence
      last = ap (λ (g : HeadTold). g.sequence) told.last

      pub not_told : named 1 h its_items ≡ None
      not_told = named_told ∙ ap (find_head h.block h.sequence) landed ∙ none_behind start h.block h.sequence told.landed next (let l = last in omega (arith, sequence, l))

      pub above_start : a.log.sequence < h.sequence
      above_start = (let more = last_above start told.landed next in let l = last in omega (arith, more, sequence, l))

  -- ---- by the heads of disks

  -- the first head is where the life's own headers begin, whatever items without a recovery come behind the replays
  module _ (behind : ℕ → ℕ → AcceptedHead) (replays_only : or_else (recovered_behind 1 1 replays) 0 ≡ own_from only_life a.items) (begins : (behind 1 (own_from only_life a.items)).sequence ≡ a.log.sequence) where
    pub first_is : (items more : List TraceItem) → AllByRecursion IsOfRun told.more → ((n : ℕ) → recovered_behind 1 n more ≡ None) → items_of only_life items ≡ its_items ++ more
        → (behind 1 (own_from only_life items)).sequence ≡ a.log.sequence
    first_is items more of_run silent its =
        ap (λ is. (behind 1 (or_else (recovered_behind 1 1 is) 0)).sequence) its
        ∙ ap (λ o. (behind 1 (or_else o 0)).sequence) (recovered_on 1 1 its_items more silent ∙ recovered_on 1 1 replays told.more (λ n. none_recovered 1 n told.more of_run))
        ∙ ap (λ n. (behind 1 n).sequence) replays_only ∙ begins

  -- the life's items are these, and behind them the disks have this head
  module _ (stay : NoneIsClean its_items) (disks : DiskHeads) (items : List TraceItem) (h : AcceptedHead) (its : items_of only_life items ≡ its_items) (there : head_of disks only_life items ≡ h)
      (first_at : (disks.behind 1 (own_from only_life items)).sequence ≡ a.log.sequence) where
    -- the log's head has what is in the journal
    pub upto_low : a.numbers.low ≡ 0 → h.block ≡ (head_of_log p.log p.numbers.low).block → h.sequence ≡ p.log.sequence → upto_of disks only_life items ≡ p.numbers.low
    upto_low zero block sequence = by (low_told stay h zero block sequence)
      where
        by : LowIsTold h → upto_of disks only_life items ≡ p.numbers.low
        by (by_its_item is) = by_item disks items its_items h its there p.numbers.low is
        by (by_the_start none at low) = by_start disks items its_items h its there none (let f = first_at in omega (arith, at, f)) ∙ sym low

    -- the header that is in flight has the calls of its flush
    pub upto_begun : (f : Flush) (tail : ℕ) → p.log.flush ≡ Some f → f.stage ≡ Headed tail → h.block ≡ (head_of_flush p.log f p.numbers.begun).block → h.sequence ≡ after p.log.sequence
        → upto_of disks only_life items ≡ p.numbers.begun
    upto_begun f tail some stage block sequence = by_item disks items its_items h its there p.numbers.begun (named_at stay h (head_of_flush p.log f p.numbers.begun) block sequence told.landed []
        (told.told ∙ ap (λ hs. told.landed ++ hs) (at_stage_of p.log p.numbers.begun f (Headed tail) some stage)))

    -- one that has no item yet has what the items behind the last one tell
    pub upto_unsaid : flying_head p.log p.numbers.begun p.log.flush ≡ [] → h.sequence ≡ p.log.sequence + 1 → h.is_clean ≡ false → upto_of disks only_life items ≡ unnamed 1 note its_items
    upto_unsaid none sequence dirty = by_note disks items its_items h its there (not_told stay h none sequence) (let above = above_start stay h none sequence in let f = first_at in omega (arith, above, f)) dirty
