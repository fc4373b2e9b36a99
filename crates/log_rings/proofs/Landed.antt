-- A flush in its journal: the journal is that of the log behind the flush.
use Rattle.std.proofs.Common.{◌≡◌, ◌≢◌, ◌+◌, ◌-◌, ◌^◌, ◌%◌, ◌<◌, ◌≤◌, ◌++◌, ℕ, zero, suc, Bool, true, false, List, [], ◌∷◌, length, map, Option, None, Some, Result, Ok, Err, refl, sym, ap, subst, ◌∙◌, inl, inr, arith, append_assoc, true≢false}
use Rattle.std.specs.Prelude.{◌⊎◌, ◌==◌, find, if◌then◌else◌, nat_lt, slice_get}
use Rattle.std.specs.FinMap as table
use Rattle.std.specs.List.{AllByRecursion, list_any}
use Rattle.std.specs.List.Sorted.{IsStrictlyIncreasing}
use Rattle.std.specs.Option.{option_map}
use Rattle.std.proofs.lemmas.Bool.{cases_Bool, cond-true, cond-false}
use Rattle.std.proofs.Math.Nat.{mod-eq_of_lt}
use Rattle.log_layout.specs.Chunks.{Logged, Transaction, nothing}
use Rattle.log_layout.specs.Headers.{as_read}
use Rattle.log_layout.specs.Journal.{Ring, blocks_from, head_in, next, tail_of, way}
use Rattle.log_layout.specs.Laws.{SaysTheSame}
use Rattle.log_layout.specs.Live.{IsReadable, live_entry, live_in, live_of, live_read, live_under}
use Rattle.log_layout.specs.Transactions.{Sequenced, after, reading, transactions_of}
use Rattle.log_layout.specs.declared.log_header.LogHeader.{LogHeader}
use Rattle.node_journal.specs.Encoding.{chunks, encoded, header_block, header_of, header_place, size_of}
use Rattle.node_journal.specs.Places.{place_on}
use Rattle.node_journal.specs.Written.{AreNumbers, IsHeaderRead, IsLoggableAll, IsPlaceFor}
use Rattle.node_journal.specs.declared.place.Place.{Place}
use Rattle.written_journals.specs.Saying.{IsReady, IsWritten, WhatIsWrittenIsSaid, as_written, live_after, or_before, sequenced, with_blocks}
use Rattle.written_journals.proofs.Going.{last_of}
use Rattle.written_journals.proofs.HeadFound.{IsFrontOf}
use Rattle.written_journals.proofs.LiveAfter.{entries_written, live_behind}
use Rattle.written_journals.proofs.LowSequences.{IsLow, read_low, ring_low}
use Rattle.written_journals.proofs.RingsWritten.{blocks_further, next_of, on_apart, on_inside, place_further, way_back}
use Rattle.log_rings.specs.Laid.{AreLaid, IsEntryOf, Laid, SequencesRise, places_of, sequenced_all}
use Rattle.log_rings.proofs.Cancelling.{none_laid, rise_behind}
use Rattle.log_rings.proofs.Landing.{read_from_tail, rest_is}
use Rattle.log_rings.proofs.Pieces.{goes_on, laid_more, last_is, last_laid, places-append, sequenced-append}
use Rattle.log_rings.proofs.Splitting.{snoc}

-- ---- lists of them

pub no_snoc : {A : Type 0} (ts : List A) (t : A) → ◌≡◌ {A = List A} [] (ts ++ t ∷ []) → ⊥
no_snoc [] t e = cc
no_snoc (x ∷ ts) t e = cc

-- each of some has a low sequence, so has each of the last of them
pub lows_behind : (s : ℕ) (before ts : List Sequenced) → AllByRecursion (IsLow s) (before ++ ts) → AllByRecursion (IsLow s) ts
lows_behind s [] ts all = all
lows_behind s (t ∷ before) ts all = lows_behind s before ts all.1

pub each_below : (s : ℕ) (n : Laid) → n.sequenced.sequence ≡ s → (ts : List Laid) → AllByRecursion (IsLow s) (sequenced_all ts) → SequencesRise ts → SequencesRise (ts ++ n ∷ [])
each_below s n is [] low rise = (tt, tt)
each_below s n is (t ∷ ts) low rise = (more ts rise.0, each_below s n is ts low.1 rise.1)
  where
    more : (us : List Laid) → AllByRecursion (λ (u : Laid). t.sequenced.sequence < u.sequenced.sequence) us → AllByRecursion (λ (u : Laid). t.sequenced.sequence < u.sequenced.sequence) (us ++ n ∷ [])
    more [] all = (let l = low.0 in omega (arith, l, is), tt)
    more (u ∷ us) all = (all.0, more us all.1)

-- ---- one more transaction

-- What is live of a block behind one more transaction, whose sequence is above all others.
pub behind_one : (ts : List Sequenced) (s b : ℕ) (t : Transaction) → IsStrictlyIncreasing (map (λ (e : Logged). e.block) t.blocks) → AllByRecursion (IsLow s) ts
    → live_entry (ts ++ record { sequence = s; transaction = as_written t } ∷ []) b ≡ or_before (find (λ (e : Logged). e.block == b) t.blocks) (list_any (λ r. r == b) t.revokes) (live_entry ts b)
behind_one ts s b t rise low = live_behind ts (record { sequence = s; transaction = as_written t }) b (find (λ (e : Logged). e.block == b) t.blocks) low (entries_written t b rise)

-- The transaction itself, as it is read behind those that were kept.
pub piece_read : (ring : Ring) (tail count : ℕ) (kept : List Laid) (n : Sequenced) (more first : ℕ) → place_on ring.places tail count ≡ first
    → reading ring.size [] None nothing (blocks_from ring tail count) ≡ Ok (sequenced_all kept)
    → reading ring.size [] None nothing (blocks_from ring tail (count + more)) ≡ Ok (sequenced_all kept ++ n ∷ [])
    → reading ring.size [] (last_laid None kept) nothing (blocks_from ring first more) ≡ Ok (n ∷ [])
piece_read ring tail count kept n more first reaches before all =
    let rest = blocks_from ring (place_on ring.places tail count) more in
    let split = ap (reading ring.size [] None nothing) (sym (blocks_further ring tail count more)) ∙ all in
    let on = goes_on ring.size rest (blocks_from ring tail count) None (sequenced_all kept) before in
    let read = rest_is (sequenced_all kept) (n ∷ []) (reading ring.size [] (last_of None (sequenced_all kept)) nothing rest) (sym on ∙ split) in
    subst (λ p. reading ring.size [] (last_laid None kept) nothing (blocks_from ring p more) ≡ Ok (n ∷ [])) reaches
    (subst (λ l. reading ring.size [] l nothing rest ≡ Ok (n ∷ [])) (last_is None kept) read)
