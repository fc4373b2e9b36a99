-- A journal whose new header is its own tail.
use Rattle.std.proofs.Common.{◌≡◌, ◌≢◌, ◌+◌, ◌<◌, ◌++◌, ℕ, suc, Bool, true, false, if◌then◌else◌, List, [], ◌∷◌, length, Option, None, Some, Ok, Err, refl, sym, ap, subst, ◌∙◌, arith, length-append}
use Rattle.std.specs.Prelude.{◌==◌, ◌||◌, nat_le}
use Rattle.std.specs.List.{flat_map, last_or}
use Rattle.std.specs.Option.{option_map}
use Rattle.std.proofs.lemmas.Bool.{cond-false, ne_eqb}
use Rattle.std.proofs.lemmas.Bool.Decides.{nat_tests}
use Rattle.log_layout.specs.Chunks.{Logged, Transaction, nothing}
use Rattle.log_layout.specs.Journal.{Ring, blocks_from, next, refuses_tail, way}
use Rattle.log_layout.specs.Live.{entries_in, is_cancelled, live_read, live_under}
use Rattle.log_layout.specs.Transactions.{Sequenced, and_then, reading, transactions_of}
use Rattle.log_layout.specs.declared.log_header.LogHeader.{LogHeader}
use Rattle.journal_scan.proofs.Steps.{read_end, read_header}
use Rattle.node_journal.specs.Encoding.{chunks, encoded, header_block, header_place}
use Rattle.node_journal.specs.Places.{place_on, placed_from}
use Rattle.node_journal.specs.Written.{AreNumbers, IsHeaderRead, IsLoggableAll, IsPlaceFor}
use Rattle.node_journal.specs.declared.place.Place.{Place}
use Rattle.node_journal.proofs.Lengths.{chunks_length}
use Rattle.written_journals.specs.Saying.{IsBegunAnew, IsReadyAnew, SizeIsLength, with_blocks}
use Rattle.written_journals.proofs.HeadFound.{HasNewHead, has_new_head, last_place, new_head, new_ring}
use Rattle.written_journals.proofs.RingsWritten.{next_of, on_apart, on_inside, way_back}

some_is : {A : Type 0} {x y : A} → ◌≡◌ {A = Option A} (Some x) (Some y) → x ≡ y
some_is e = cc

-- a transaction of nothing, alone
abbrev only : ℕ → List Sequenced
only sequence = record { sequence = sequence; transaction = nothing } ∷ []

none_live : (sequence b : ℕ) → live_read (Ok (only sequence)) b ≡ None
none_live sequence b = either (is_cancelled (only sequence) b sequence)
  where
    either : (dropped : Bool) → option_map (λ (e : Logged). e.bytes) (last_or None (flat_map (λ (t : Sequenced). if dropped then [] else entries_in b t.transaction) (only sequence))) ≡ None
    either true = refl
    either false = refl

module _ (ring : Ring) (at : Place) (t : Transaction) (loggable : IsLoggableAll ring.size t) (numbers : AreNumbers at t) (fits : IsPlaceFor ring.size at t) (ready : IsReadyAnew ring at t)
    (header_read : IsHeaderRead ring.size at t) where
  abbrev places : ℕ
  places = ring.places

  abbrev new : Ring
  new = new_ring ring at t at.first

  abbrev end : ℕ
  end = last_place ring at t at.first

  abbrev head : LogHeader
  head = new_head ring.size at t

  first_in : at.first < places
  first_in = omega (arith, fits.first, ready.places)

  few : length (chunks ring.size at.jid t) + 1 < places
  few = omega (arith, fits.room, ready.places, chunks_length ring.size at.jid t loggable.sized)

  place_is : header_place ring.size at t ≡ end
  place_is = λ i. place_on (sym ready.places i) at.first (length (chunks ring.size at.jid t))

  end_in : end < places
  end_in = on_inside places at.first (length (chunks ring.size at.jid t)) first_in (omega (arith, few))

  found : HasNewHead ring at t at.first
  found = has_new_head ring at t at.first loggable numbers header_read first_in (omega (arith, few)) place_is ready.older

  tail_is : head.tail ≡ end
  tail_is = found.front.tail ∙ ready.own ∙ place_is

  tail_stands : refuses_tail places head ≡ false
  tail_stands =
      let low : nat_le places end ≡ false = grind (arith, nat_tests, end_in) in
      let apart : end ≢ next places end = (λ e. let same : 0 ≡ 1 = on_apart places end 0 1 end_in (omega (arith, few)) (omega (arith, few)) (e ∙ next_of places end 0) in omega (arith, same)) in
      (λ i. nat_le places (tail_is i) || (tail_is i == next places ((found.front.blkno ∙ place_is) i)))
      ∙ (λ i. low i || ne_eqb end (next places end) apart i)

  no_way : way places end end + 1 ≡ 1
  no_way = let back : way places end end ≡ 0 = way_back places end 0 end_in (omega (arith, few)) in omega (arith, back)

  abbrev alone : Sequenced
  alone = record { sequence = head.sequence; transaction = nothing }

  header_alone : reading ring.size [] None nothing (blocks_from new end 1) ≡ Ok (alone ∷ [])
  header_alone =
      read_header ring.size None nothing (record { place = end; bytes = new.at end }) [] head found.counts refl
      ∙ ap (and_then alone) (read_end ring.size [] (Some head.sequence) nothing)

  transactions_are : transactions_of new head ≡ Ok (alone ∷ [])
  transactions_are =
      cond-false head.clean (Ok []) _ found.front.clean
      ∙ cond-false (refuses_tail places head) (Err head.blkno) _ tail_stands
      ∙ (λ i. reading ring.size [] None nothing (blocks_from new (tail_is i) (way places (tail_is i) ((found.front.blkno ∙ place_is) i) + 1)))
      ∙ ap (λ n. reading ring.size [] None nothing (blocks_from new end n)) no_way
      ∙ header_alone

  new_is_begun : IsBegunAnew ring.size new at t
  new_is_begun = record {
    headed = found.headed;
    read = λ h e.
        let same : h ≡ head = some_is (sym e ∙ found.headed) in
        ap (transactions_of new) same ∙ transactions_are ∙ (λ i. Ok (record { sequence = found.front.sequence i; transaction = nothing } ∷ []));
    live = λ b. ap (λ (h : Option LogHeader). live_under new h b) found.headed ∙ ap (λ ts. live_read ts b) transactions_are ∙ none_live head.sequence b;
  }

  pub begins_anew : IsBegunAnew ring.size (with_blocks ring (encoded ring.size at t)) at t
  begins_anew = let P : ℕ → Type 0 = λ n. IsBegunAnew ring.size (with_blocks ring (placed_from n at.first (chunks ring.size at.jid t ++ header_block ring.size at t ∷ []))) at t in subst P ready.places new_is_begun

placed_length : (ring p : ℕ) (bs : List (List ℕ)) → length (placed_from ring p bs) ≡ length bs
placed_length ring p [] = refl
placed_length ring p (b ∷ bs) = ap suc (placed_length ring (next ring p) bs)

pub size_is_length : SizeIsLength
size_is_length size at t sized = placed_length at.length at.first (chunks size at.jid t ++ header_block size at t ∷ []) ∙ length-append (chunks size at.jid t) (header_block size at t ∷ []) ∙ chunks_length size at.jid t sized
