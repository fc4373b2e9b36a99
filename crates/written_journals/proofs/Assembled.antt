-- A journal once a transaction was written to it.
use Rattle.std.proofs.Common.{◌≡◌, ◌≢◌, ◌+◌, ◌<◌, ◌++◌, ℕ, true, false, List, [], ◌∷◌, length, Option, None, Some, Result, Ok, Err, refl, sym, ap, subst, ◌∙◌, arith, length-append}
use Rattle.std.specs.Prelude.{◌==◌, ◌||◌, nat_le}
use Rattle.std.specs.List.{AllByRecursion}
use Rattle.std.proofs.lemmas.Bool.{cond-false, eq-eqb, ne_eqb}
use Rattle.std.proofs.lemmas.Bool.Decides.{nat_tests}
use Rattle.log_layout.specs.Chunks.{Transaction, nothing}
use Rattle.log_layout.specs.Headers.{as_read}
use Rattle.log_layout.specs.Journal.{Placed, Ring, accepted, blocks_from, next, refuses_tail, way}
use Rattle.log_layout.specs.Transactions.{Sequenced, after, and_then, may_follow, reading, transactions_of}
use Rattle.log_layout.specs.declared.log_header.LogHeader.{LogHeader}
use Rattle.journal_scan.specs.Course.{behind}
use Rattle.journal_scan.proofs.Steps.{behind_ok, read_end, read_header}
use Rattle.node_journal.specs.Encoding.{chunks, encoded, header_block, header_of, header_place, size_of}
use Rattle.node_journal.specs.Places.{place_on, placed_from}
use Rattle.node_journal.specs.Written.{AreNumbers, IsHeaderRead, IsLoggableAll, IsPlaceFor}
use Rattle.node_journal.specs.declared.place.Place.{Place}
use Rattle.node_journal.proofs.Lengths.{chunks_length}
use Rattle.node_journal.proofs.Placing.{placed_behind}
use Rattle.written_journals.specs.Saying.{IsReady, IsWritten, as_written, sequenced, with_blocks}
use Rattle.written_journals.proofs.AllRead.{chunks_read}
use Rattle.written_journals.proofs.Going.{going_on, last_of}
use Rattle.written_journals.proofs.HeadFound.{HasNewHead, IsFrontOf, has_new_head}
use Rattle.written_journals.proofs.LiveAfter.{entries_written, live_behind}
use Rattle.written_journals.proofs.LowSequences.{IsLow, read_low, ring_low}
use Rattle.written_journals.proofs.RingsWritten.{next_of, on_apart, on_inside, place_further, ring_written, way_back}
use Rattle.written_journals.proofs.Sorted.{sorted}

-- ---- small steps

ok_is : {A : Type 0} {x y : A} → ◌≡◌ {A = Result A ℕ} (Ok x) (Ok y) → x ≡ y
ok_is e = cc

some_is : {A : Type 0} {x y : A} → ◌≡◌ {A = Option A} (Some x) (Some y) → x ≡ y
some_is e = cc

-- what goes on from the start of the blocks, of which there may be none
from_start : (size : ℕ) (ys xs : List Placed) (before : List Sequenced) → reading size [] None nothing xs ≡ Ok before
    → reading size [] None nothing (xs ++ ys) ≡ behind before (reading size [] (last_of None before) nothing ys)
from_start size ys [] before is =
    let none : [] ≡ before = ok_is (sym (read_end size [] None nothing) ∙ is) in
    ap (λ ts. behind ts (reading size [] (last_of None ts) nothing ys)) none
from_start size ys (b ∷ bs) before is = going_on size ys (b ∷ bs) [] None nothing before (omega arith) is

-- the last of some
split_last : (o : Option ℕ) (t : Sequenced) (ts : List Sequenced) → (us : List Sequenced) × (l : Sequenced) × (t ∷ ts ≡ us ++ l ∷ []) × (last_of o (t ∷ ts) ≡ Some l.sequence)
split_last o t [] = ([], t, refl, refl)
split_last o t (u ∷ ts) = let rest = split_last (Some t.sequence) u ts in (t ∷ rest.0, rest.1, ap (λ (xs : List Sequenced). t ∷ xs) rest.2, rest.3)

may_come : (before : List Sequenced) (s : ℕ) → ((ts : List Sequenced) (last : Sequenced) → before ≡ ts ++ last ∷ [] → after last.sequence ≡ s) → may_follow (last_of None before) s ≡ true
may_come [] s follows = refl
may_come (t ∷ ts) s follows =
    let last = split_last None t ts in
    ap (λ (o : Option ℕ). may_follow o s) last.3 ∙ eq-eqb s (after last.1.sequence) (sym (follows last.0 last.1 last.2))

module _ (ring : Ring) (at : Place) (t : Transaction) (count : ℕ) (before : List Sequenced) (loggable : IsLoggableAll ring.size t) (numbers : AreNumbers at t) (fits : IsPlaceFor ring.size at t)
    (ready : IsReady ring at t count before) (header_read : IsHeaderRead ring.size at t) where
  abbrev size : ℕ
  size = ring.size

  abbrev places : ℕ
  places = ring.places

  abbrev parts : List (List ℕ)
  parts = chunks size at.jid t

  abbrev head_block : List ℕ
  head_block = header_block size at t

  abbrev blocks : List (List ℕ)
  blocks = parts ++ head_block ∷ []

  abbrev first : ℕ
  first = place_on places at.tail count

  abbrev new : Ring
  new = with_blocks ring (placed_from places first blocks)

  abbrev last_place : ℕ
  last_place = place_on places first (length parts)

  abbrev head : LogHeader
  head = as_read (header_of at (header_place size at t)) (header_block size at t)

  count_of : length blocks ≡ length parts + 1
  count_of = length-append parts (head_block ∷ [])

  sized : length parts + 1 ≡ size_of size t
  sized = chunks_length size at.jid t loggable.sized

  tail_in : at.tail < places
  tail_in = omega (arith, fits.tail, ready.places)

  room : count + length blocks < places
  room = omega (arith, ready.room, ready.places, count_of, sized)

  first_in : first < places
  first_in = on_inside places at.tail count tail_in (omega (arith, room))

  last_in : last_place < places
  last_in = on_inside places first (length parts) first_in (omega (arith, room, count_of))

  -- the place of the first, told by the ring
  first_is : at.first ≡ first
  first_is = sym ready.first ∙ ap (λ n. place_on n at.tail count) (sym ready.places)

  place_is : header_place size at t ≡ last_place
  place_is = (λ i. place_on (sym ready.places i) (first_is i) (length parts))

  encoded_is : encoded size at t ≡ placed_from places first blocks
  encoded_is = λ i. placed_from (sym ready.places i) (first_is i) blocks

  found : HasNewHead ring at t first
  found = has_new_head ring at t first loggable numbers header_read first_in (omega (arith, room, count_of)) place_is ready.older

  front : IsFrontOf head (header_of at (header_place size at t))
  front = found.front

  -- ---- what is read

  blocks_are : blocks_from new at.tail (count + length blocks) ≡ blocks_from ring at.tail count ++ placed_from places first blocks
  blocks_are = ring_written ring at.tail count blocks tail_in room

  ends : List Placed
  ends = record { place = last_place; bytes = head_block } ∷ []

  abbrev read_last : Sequenced
  read_last = record { sequence = head.sequence; transaction = as_written t }

  last_read : (last : Option ℕ) → may_follow last head.sequence ≡ true → reading size [] last nothing (placed_from places first blocks) ≡ Ok (read_last ∷ [])
  last_read last follows =
      let end : List Placed = record { place = last_place; bytes = head_block } ∷ [] in
      ap (reading size [] last nothing) (placed_behind places first parts (head_block ∷ []))
      ∙ chunks_read size at.jid places first last t end loggable.sized numbers.jid (sorted size at t loggable numbers) (omega arith)
      ∙ read_header size last (as_written t) (record { place = last_place; bytes = head_block }) [] head (ap (accepted last_place) (sym found.block) ∙ found.counts) follows
      ∙ ap (and_then read_last) (read_end size [] (Some head.sequence) nothing)

  follows : may_follow (last_of None before) head.sequence ≡ true
  follows = may_come before head.sequence (λ ts last e. ready.follows ts last e ∙ sym front.sequence)

  all_read : reading size [] None nothing (blocks_from new at.tail (count + length blocks)) ≡ Ok (before ++ read_last ∷ [])
  all_read =
      ap (reading size [] None nothing) blocks_are
      ∙ from_start size (placed_from places first blocks) (blocks_from ring at.tail count) before ready.read
      ∙ ap (behind before) (last_read (last_of None before) follows)
      ∙ behind_ok before (read_last ∷ [])

  whole_way : way places at.tail last_place + 1 ≡ count + length blocks
  whole_way =
      let there : last_place ≡ place_on places at.tail (count + length parts) = place_further places at.tail count (length parts) in
      let back : way places at.tail last_place ≡ count + length parts = ap (way places at.tail) there ∙ way_back places at.tail (count + length parts) tail_in (omega (arith, room, count_of)) in
      omega (arith, back, count_of)

  tail_stands : refuses_tail places head ≡ false
  tail_stands =
      let low : nat_le places at.tail ≡ false = grind (arith, nat_tests, tail_in) in
      let there : next places last_place ≡ place_on places at.tail (count + length blocks) =
      ap (next places) (place_further places at.tail count (length parts)) ∙ next_of places at.tail (count + length parts) ∙ ap (place_on places at.tail) (let e : (count + length parts) + 1 ≡ count + length blocks = omega (arith, count_of) in e) in
      let apart : at.tail ≢ next places last_place =
      (λ e. let same : 0 ≡ count + length blocks = on_apart places at.tail 0 (count + length blocks) tail_in (omega (arith, tail_in)) room (e ∙ there) in omega (arith, same, count_of)) in
      (λ i. nat_le places (front.tail i) || (front.tail i == next places ((front.blkno ∙ place_is) i)))
      ∙ (λ i. low i || ne_eqb at.tail (next places last_place) apart i)

  transactions_are : transactions_of new head ≡ Ok (before ++ read_last ∷ [])
  transactions_are =
      cond-false head.clean (Ok []) _ front.clean
      ∙ cond-false (refuses_tail places head) (Err head.blkno) _ tail_stands
      ∙ (λ i. reading size [] None nothing (blocks_from new (front.tail i) (way places (front.tail i) ((front.blkno ∙ place_is) i) + 1)))
      ∙ ap (λ n. reading size [] None nothing (blocks_from new at.tail n)) whole_way
      ∙ all_read

  last_is : read_last ≡ sequenced at t
  last_is = λ i. record { sequence = front.sequence i; transaction = as_written t }

  lows : AllByRecursion (IsLow at.sequence) before
  lows =
      read_low size at.sequence (blocks_from ring at.tail count) (ring_low ring at.sequence ready.older at.tail count (λ i less. on_inside places at.tail i tail_in (omega (arith, less, room)))) [] None nothing before ready.read

  new_is_written : IsWritten size new at t before
  new_is_written = record {
    headed = found.headed;
    read = λ h e.
        let same : h ≡ head = some_is (sym e ∙ found.headed) in
        ap (transactions_of new) same ∙ transactions_are ∙ ap (λ (s : Sequenced). Ok (before ++ s ∷ [])) last_is;
    live = λ b. live_behind before (sequenced at t) b _ lows (entries_written t b loggable.rising);
  }

  pub is_written : IsWritten size (with_blocks ring (encoded size at t)) at t before
  is_written = let P : List Placed → Type 0 = λ bs. IsWritten size (with_blocks ring bs) at t before in subst P (sym encoded_is) new_is_written
