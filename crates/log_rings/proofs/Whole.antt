-- A flush in its journal, with its blocks and its header in their places.
use Rattle.std.proofs.Common.{◌≡◌, ◌≢◌, ◌+◌, ◌-◌, ◌^◌, ◌%◌, ◌<◌, ◌≤◌, ◌++◌, ℕ, zero, suc, Bool, true, false, List, [], ◌∷◌, length, map, Option, None, Some, Result, Ok, Err, refl, sym, ap, subst, ◌∙◌, inl, inr, arith, append_assoc}
use Rattle.std.specs.Prelude.{◌⊎◌, ◌==◌, find, if◌then◌else◌, nat_lt, slice_get}
use Rattle.std.specs.FinMap as table
use Rattle.std.specs.Ordering.{nat_cmp}
use Rattle.std.specs.List.{AllByRecursion, flat_map, last_or, list_any}
use Rattle.std.specs.Option.{option_map}
use Rattle.std.proofs.lemmas.Bool.{cases_Bool, cond-true, cond-false}
use Rattle.std.proofs.lemmas.Bool.Decides.{nat_tests}
use Rattle.std.proofs.Math.Nat.{mod-eq_of_lt}
use Rattle.log_layout.specs.Chunks.{Logged, Transaction, nothing}
use Rattle.log_layout.specs.Headers.{as_read}
use Rattle.log_layout.specs.Journal.{Ring, blocks_from, head_in, next, tail_of, way}
use Rattle.log_layout.specs.Laws.{PlacesSayAll, SaysTheSame}
use Rattle.log_layout.specs.Live.{IsReadable, entries_in, is_cancelled, live_entry, live_in, live_of, live_read, live_under}
use Rattle.log_layout.specs.Transactions.{Sequenced, after, reading, transactions_of}
use Rattle.log_layout.specs.declared.log_header.LogHeader.{LogHeader}
use Rattle.node_journal.specs.Encoding.{chunks, encoded, header_block, header_of, header_place, size_of}
use Rattle.node_journal.specs.Places.{place_on}
use Rattle.node_journal.specs.Written.{IsLoggableAll, IsPlaceFor}
use Rattle.node_journal.specs.declared.place.Place.{Place}
use Rattle.node_journal.proofs.Lengths.{chunks_length}
use Rattle.written_journals.specs.Saying.{IsReady, IsBegunAnew, IsReadyAnew, IsWritten, OwnTailBeginsAnew, WhatIsWrittenIsSaid, as_written, live_after, or_before, sequenced, with_blocks}
use Rattle.written_journals.proofs.HeadFound.{HasNewHead, has_new_head, new_head}
use Rattle.written_journals.proofs.LowSequences.{IsLow, read_low, ring_low}
use Rattle.written_journals.proofs.RingsWritten.{next_of, on_apart, on_inside, place_further, way_back}
use Rattle.log_values.specs.Blocks as set
use Rattle.log_values.specs.Log.{Entry, Flush, LogValue, Version}
use Rattle.log_values.specs.Flushing.{AllAreHome, HasRoom, IsTail, behind_tail, first_place, flush_chunks, head_place, header_bytes, left_from, live_behind, logged_over, place_of}
use Rattle.log_values.specs.Sound.{Fits, IsSoundLog, used}
use Rattle.log_values.specs.Sound.Fits.{alone, with_room}
use Rattle.log_values.specs.Transactions.{flushed_as, logged_as}
use Rattle.log_values.proofs.Landing.{alone_takes}
use Rattle.log_values.proofs.Ways.{way_on}
use Rattle.log_rings.specs.Flights.{AreWritten, left_live, live_with, logged_bytes}
use Rattle.log_rings.specs.Laid.{AreLaid, HasContent, IsEntryOf, IsLiveAs, IsRingOf, Laid, SequencesRise, places_of, sequenced_all}
use Rattle.log_rings.specs.Laws.{HasNumbers}
use Rattle.log_rings.proofs.Cancelling.{live_laid, none_laid, rise_behind}
use Rattle.log_rings.proofs.Flushed.{loggable, logs_of, revokes_of}
use Rattle.log_rings.proofs.Landed.{behind_one, each_below, lows_behind, no_snoc, piece_read}
use Rattle.log_rings.proofs.Landing.{laid_same, read_from_tail, stands}
use Rattle.log_rings.proofs.Pieces.{laid_more, laid_read, places-append, sequenced-append}
use Rattle.log_rings.proofs.Splitting.{snoc}
use Rattle.log_rings.proofs.Tails.{Keeps, TailKeeps, entry_of, live_is, none_of, own, some_kept, tail_keeps}

pub some_is : {A : Type 0} {x y : A} → ◌≡◌ {A = Option A} (Some x) (Some y) → x ≡ y
some_is e = cc

-- the journal of the log with these blocks
abbrev pub ring_with : LogValue → (ℕ → List ℕ) → Ring
ring_with log r = record { size = log.journal.size; places = log.journal.length; at = r }

-- how many places a flush takes, and that as many are free
module _ (log : LogValue) (f : Flush) (sound : IsSoundLog log) (is : log.flush ≡ Some f) where
  abbrev pub parts : List (List ℕ)
  parts = flush_chunks log f

  pub size_is : length parts + 1 ≡ size_of log.journal.size (flushed_as f)
  size_is = chunks_length log.journal.size log.journal.jid (flushed_as f) sound.size

  pub fits_in : used log + length parts + 2 ≤ log.journal.length
  fits_in = by (sound.fits f is)
    where
      by : Fits log f → used log + length parts + 2 ≤ log.journal.length
      by (with_room room) = let s = size_is in omega (arith, room, s)
      by (alone none gone home free) = let k = alone_takes log.journal.size log.journal.jid f sound.size none gone in omega (arith, free, k)

  -- with a place more, where it is no header alone
  pub fits_more : (AllAreHome log → f.versions ≡ table.empty → ⊥) → used log + length parts + 3 ≤ log.journal.length
  fits_more some = by (sound.fits f is)
    where
      by : Fits log f → used log + length parts + 3 ≤ log.journal.length
      by (with_room room) = let s = size_is in omega (arith, room, s)
      by (alone none gone home free) = absurd (some home none)

module _ (log : LogValue) (f : Flush) (laid : List Laid) (tail : ℕ) (r r' : ℕ → List ℕ) (law : WhatIsWrittenIsSaid) (anew : OwnTailBeginsAnew) (alike : PlacesSayAll) (sound : IsSoundLog log)
    (few_live : table.len log.live < log.journal.length) (of : IsRingOf (ring_with log r) log laid) (is : log.flush ≡ Some f) (numbers : HasNumbers log f) (tells : IsTail log f tail)
    (written : AreWritten (ring_with log r) log f (length (flush_chunks log f))) (there : r' (head_place log f) ≡ header_bytes log f tail)
    (others : (p : ℕ) → p < log.journal.length → p ≢ head_place log f → r' p ≡ r p) where
  abbrev n : ℕ
  n = log.journal.length

  abbrev size : ℕ
  size = log.journal.size

  abbrev ring : Ring
  ring = ring_with log r

  abbrev ring' : Ring
  ring' = ring_with log r'

  abbrev at : Place
  at = place_of log f tail

  abbrev t : Transaction
  t = flushed_as f

  abbrev chunk_list : List (List ℕ)
  chunk_list = flush_chunks log f

  abbrev first : ℕ
  first = first_place log

  abbrev hp : ℕ
  hp = head_place log f

  abbrev wring : Ring
  wring = with_blocks ring (encoded size at t)

  abbrev head : LogHeader
  head = new_head size at t

  abbrev n_seq : Sequenced
  n_seq = sequenced at t

  may_log : IsLoggableAll size t
  may_log = loggable log f sound is few_live

  room : used log + length chunk_list + 2 ≤ n
  room = fits_in log f sound is

  head_inside : log.head < n
  head_inside = sound.head

  first_in : first < n
  first_in = (let inside : place_on n log.head 1 < n = on_inside n log.head 1 head_inside (omega (arith, room)) in inside)

  few : length chunk_list < n
  few = omega (arith, room)

  hp_in : hp < n
  hp_in = on_inside n first (length chunk_list) first_in few

  sequence_is : after log.sequence ≡ log.sequence + 1
  sequence_is = mod-eq_of_lt numbers.sequence

  older : (h : LogHeader) → head_in ring ≡ Some h → h.sequence < at.sequence
  older h e = let same : h.sequence ≡ log.sequence = ap (λ (x : LogHeader). x.sequence) (some_is (sym e ∙ of.headed)) ∙ of.sequence in omega (arith, same, sequence_is)

  same_places : (p : ℕ) → p < n → r' p ≡ wring.at p
  same_places = stands n first r r' chunk_list (header_bytes log f tail) first_in few written there others

  says : SaysTheSame ring' wring
  says = alike ring' wring (record { size = refl; places = refl; blocks = same_places })

  found : HasNewHead ring at t first
  found = has_new_head ring at t first may_log (numbers.numbers tail) (numbers.read tail tells) first_in few refl older

  headed : head_in ring' ≡ Some head
  headed = says.head ∙ found.headed

  head_clean : head.clean ≡ false
  head_clean = found.front.clean

  head_tail : head.tail ≡ tail
  head_tail = found.front.tail

  head_at : head.blkno ≡ hp
  head_at = found.front.blkno

  -- what the journal says is what the header says
  under_head : (ts : List Sequenced) → transactions_of ring' head ≡ Ok ts → (b : ℕ) → live_in ring' b ≡ live_of ts b
  under_head ts read b = ap (λ (h : Option LogHeader). live_under ring' h b) headed ∙ ap (λ us. live_read us b) read

  -- the log behind the flush, with these blocks live
  abbrev pub landed_log : table.FinMap nat_cmp Entry → set.Blocks → LogValue
  landed_log live gone = record log { head = hp; tail = tail; sequence = after log.sequence; clean = false; gone = gone; flush = None; live = live }

  pub record IsLanded (live : table.FinMap nat_cmp Entry) (gone : set.Blocks) : Type 0 where
    pub laid' : List Laid
    pub ring_of : IsRingOf ring' (landed_log live gone) laid'
    pub readable : IsReadable ring'
    pub live_so : (b : ℕ) → live_in ring' b ≡ live_with ring log f tail b

  -- ---- with transactions that are kept

  module _ (dropped kept : List Laid) (keeps : Keeps ring log laid sound of tail dropped kept) (some : AllAreHome log → f.versions ≡ table.empty → ⊥) where
    roomy : used log + length chunk_list + 3 ≤ n
    roomy = fits_more log f sound is some

    sized : length chunk_list + 1 ≡ size_of size t
    sized = size_is log f sound is

    abbrev k : ℕ
    k = places_of kept

    k_most : k ≤ used log + 1
    k_most = keeps.most

    from_tail : (i : ℕ) → place_on n first i ≡ place_on n tail (k + i)
    from_tail i = ap (λ p. place_on n p i) (sym keeps.reaches) ∙ place_further n tail k i

    hp_from_tail : hp ≡ place_on n tail (k + length chunk_list)
    hp_from_tail = from_tail (length chunk_list)

    way_to_head : way n tail hp ≡ k + length chunk_list
    way_to_head = ap (way n tail) hp_from_tail ∙ way_back n tail (k + length chunk_list) keeps.inside (omega (arith, k_most, roomy))

    lows : AllByRecursion (IsLow at.sequence) (sequenced_all kept)
    lows = read_low size at.sequence (blocks_from ring tail k) (ring_low ring at.sequence older tail k (λ i less. on_inside n tail i keeps.inside (omega (arith, less, k_most, roomy)))) [] None nothing (sequenced_all kept) keeps.read

    follows : (ts : List Sequenced) (last : Sequenced) → sequenced_all kept ≡ ts ++ last ∷ [] → after last.sequence ≡ at.sequence
    follows ts last e = ap after (ends dropped kept keeps.parts ts e)
      where
        ends : (before ks : List Laid) → laid ≡ before ++ ks → (us : List Sequenced) → sequenced_all ks ≡ us ++ last ∷ [] → last.sequence ≡ log.sequence
        ends before [] parts us e = absurd (no_snoc us last e)
        ends before (x ∷ []) parts us e =
            let both = snoc [] us x.sequenced last e in
            ap (λ (s : Sequenced). s.sequence) (sym both.1) ∙ of.last before x parts
        ends before (x ∷ y ∷ ks) parts [] e = absurd (let bad : ◌≡◌ {A = List Sequenced} (x.sequenced ∷ y.sequenced ∷ sequenced_all ks) (last ∷ []) = e in cc)
        ends before (x ∷ y ∷ ks) parts (u ∷ us) e =
            ends (before ++ x ∷ []) (y ∷ ks) (parts ∙ sym (append_assoc before (x ∷ []) (y ∷ ks))) us (let rest : sequenced_all (y ∷ ks) ≡ us ++ last ∷ [] = cc in rest)

    fits : IsPlaceFor size at t
    fits = record { first = first_in; tail = keeps.inside; room = omega (arith, roomy, sized) }

    ready : IsReady ring at t k (sequenced_all kept)
    ready = record {
      places = refl;
      read = keeps.read;
      follows = follows;
      first = keeps.reaches;
      room = omega (arith, k_most, roomy, sized);
      older = older;
      sequence = (let s = sequence_is in let low = numbers.sequence in omega (arith, s, low));
    }

    is_written : IsWritten size wring at t (sequenced_all kept)
    is_written = law ring at t k (sequenced_all kept) may_log (numbers.numbers tail) fits ready (numbers.read tail tells)

    all_read : transactions_of ring' head ≡ Ok (sequenced_all kept ++ n_seq ∷ [])
    all_read = says.transactions head ∙ is_written.read head is_written.headed

    tail_off : head.tail ≢ next n head.blkno
    tail_off e =
        let at_next : place_on n tail (k + length chunk_list + 1) ≡ place_on n tail 0
        = sym (next_of n tail (k + length chunk_list)) ∙ ap (next n) (sym hp_from_tail ∙ sym head_at) ∙ sym e ∙ head_tail in
        let same : k + length chunk_list + 1 ≡ 0 = on_apart n tail (k + length chunk_list + 1) 0 keeps.inside (omega (arith, k_most, roomy)) (omega (arith, roomy)) at_next in
        omega (arith, same)

    read_so : reading size [] None nothing (blocks_from ring' tail (k + size_of size t)) ≡ Ok (sequenced_all kept ++ n_seq ∷ [])
    read_so =
        let whole = (read_from_tail ring' head (sequenced_all kept ++ n_seq ∷ []) head_clean (subst (λ p. p < n) (sym head_tail) keeps.inside) tail_off).0 all_read in
        let count : way n head.tail head.blkno + 1 ≡ k + size_of size t = (λ i. way n (head_tail i) (head_at i) + 1) ∙ (let w = way_to_head in omega (arith, w, sized)) in
        (λ i. reading size [] None nothing (blocks_from ring' (sym head_tail i) (sym count i))) ∙ whole

    off_head : (i : ℕ) → i < k → place_on n tail i ≢ hp
    off_head i less e = let same : i ≡ k + length chunk_list = on_apart n tail i (k + length chunk_list) keeps.inside (omega (arith, less, k_most, roomy)) (omega (arith, k_most, roomy)) (e ∙ hp_from_tail) in omega (arith, same, less)

    kept_there : AreLaid ring' tail None kept first
    kept_there = laid_same ring ring' tail None kept first refl refl (λ i low. sym (others (place_on n tail i) (on_inside n tail i keeps.inside (omega (arith, low, k_most, roomy))) (off_head i low))) keeps.are

    abbrev piece : Laid
    piece = record { first = first; count = size_of size t; sequenced = n_seq }

    abbrev laid_now : List Laid
    laid_now = kept ++ piece ∷ []

    ends_so : place_on n first (size_of size t) ≡ next n hp
    ends_so = ap (place_on n first) (sym sized) ∙ sym (next_of n first (length chunk_list))

    are_now : AreLaid ring' tail None laid_now (next n hp)
    are_now =
        subst (AreLaid ring' tail None laid_now) ends_so
        (laid_more ring' tail None kept first piece kept_there refl (omega (arith, sized)) (piece_read ring' tail k kept n_seq (size_of size t) first keeps.reaches (laid_read ring' tail None kept first kept_there) read_so))

    rise_now : SequencesRise laid_now
    rise_now = each_below at.sequence piece refl kept lows (rise_behind dropped kept (subst SequencesRise keeps.parts of.rise))

    -- what is live of a block behind some of those that are kept, and the flush
    behind_now : (ts : List Sequenced) → AllByRecursion (IsLow at.sequence) ts → (b : ℕ)
        → live_entry (ts ++ n_seq ∷ []) b ≡ or_before (option_map (logged_as b) (table.get f.versions b)) (set.contains f.revokes b) (live_entry ts b)
    behind_now ts low b = behind_one ts at.sequence b t may_log.rising low ∙ (λ i. or_before (logs_of f b i) (revokes_of f b i) (live_entry ts b))

    now_is : (b : ℕ) → live_entry (sequenced_all laid_now) b ≡ or_before (option_map (logged_as b) (table.get f.versions b)) (set.contains f.revokes b) (live_entry (sequenced_all kept) b)
    now_is b = ap (λ ts. live_entry ts b) (sequenced-append kept (piece ∷ [])) ∙ behind_now (sequenced_all kept) lows b

    -- a block without an entry has none in what is kept
    none_kept : (b : ℕ) → table.get log.live b ≡ None → live_entry (sequenced_all kept) b ≡ None
    none_kept b none =
        none_laid dropped kept b (subst SequencesRise keeps.parts of.rise) (subst (λ xs. live_entry (sequenced_all xs) b ≡ None) keeps.parts (none_of ring log laid sound of b none))

    module _ (b : ℕ) where
      -- of a block that the flush logs
      logged_now : (v : Version) → table.get f.versions b ≡ Some v → (e : Entry) → e.first ≡ first → HasContent e.way (logged_as b v) → IsEntryOf laid_now b e
      logged_now v has e begins content = record {
        copy = logged_as b v;
        before = kept;
        its = piece;
        behind = [];
        parts = refl;
        begins = sym begins;
        live = behind_now [] tt b ∙ ap (λ o. or_before (option_map (logged_as b) o) (set.contains f.revokes b) (live_entry [] b)) has;
        last = refl;
        content = content;
      }

      -- of another one, that it doesn't revoke
      still_now : (e : Entry) → table.get f.versions b ≡ None → set.contains f.revokes b ≡ false → IsEntryOf kept b e → IsEntryOf laid_now b e
      still_now e none off entry =
          let all_low : AllByRecursion (IsLow at.sequence) (sequenced_all (entry.its ∷ entry.behind))
          = lows_behind at.sequence (sequenced_all entry.before) (sequenced_all (entry.its ∷ entry.behind)) (subst (AllByRecursion (IsLow at.sequence)) (ap sequenced_all entry.parts ∙ sequenced-append entry.before (entry.its ∷ entry.behind)) lows) in
          let one : (ts : List Sequenced) → AllByRecursion (IsLow at.sequence) ts → live_entry (ts ++ n_seq ∷ []) b ≡ live_entry ts b
          = λ ts low. behind_now ts low b ∙ (λ i. or_before (option_map (logged_as b) (none i)) (off i) (live_entry ts b)) in record {
            copy = entry.copy;
            before = entry.before;
            its = entry.its;
            behind = entry.behind ++ piece ∷ [];
            parts = ap (λ xs. xs ++ piece ∷ []) entry.parts ∙ append_assoc entry.before (entry.its ∷ entry.behind) (piece ∷ []);
            begins = entry.begins;
            live = ap (λ ts. live_entry ts b) (sequenced-append (entry.its ∷ entry.behind) (piece ∷ [])) ∙ one (sequenced_all (entry.its ∷ entry.behind)) all_low ∙ entry.live;
            last = ap (λ ts. live_entry ts b) (sequenced-append entry.behind (piece ∷ [])) ∙ one (sequenced_all entry.behind) all_low.1 ∙ entry.last;
            content = entry.content;
          }

      -- what the log says of the block then
      said_now : (o : Option Version) → table.get f.versions b ≡ o → (c : Bool) → set.contains f.revokes b ≡ c → (x : Option Entry) → table.get log.live b ≡ x
          → IsLiveAs laid_now b (logged_over o first (if c then None else left_from log tail x))
      said_now (Some v) has c con x live = logged_now v has (record { lock = v.lock; first = first; way = Rattle.log_tables.specs.Versions.Way.Away v.bytes }) refl refl
      said_now None none true con x live = now_is b ∙ (λ i. or_before (option_map (logged_as b) (none i)) (con i) (live_entry (sequenced_all kept) b))
      said_now None none false con None live = now_is b ∙ (λ i. or_before (option_map (logged_as b) (none i)) (con i) (live_entry (sequenced_all kept) b)) ∙ none_kept b live
      said_now None none false con (Some e) live = elim (keeps.stays b e (entry_of ring log laid sound of b e live)) [
        | inl gone ↦
            subst (IsLiveAs laid_now b) (sym (cond-true _ None (Some e) gone.0))
            (now_is b ∙ (λ i. or_before (option_map (logged_as b) (none i)) (con i) (live_entry (sequenced_all kept) b)) ∙ gone.1)
        | inr stays ↦ subst (IsLiveAs laid_now b) (sym (cond-false _ None (Some e) stays.0)) (still_now e none con stays.1)
      ]

      -- what the journal has then
      has_now : (o : Option Version) → table.get f.versions b ≡ o → (c : Bool) → set.contains f.revokes b ≡ c → (x : Option Entry) → table.get log.live b ≡ x
          → live_of (sequenced_all kept ++ n_seq ∷ []) b ≡ logged_bytes o (if c then None else left_live (left_from log tail x) (live_in ring b))
      has_now o has c con x live = ap (option_map (λ (e : Logged). e.bytes)) (behind_now (sequenced_all kept) lows b ∙ (λ i. or_before (option_map (logged_as b) (has i)) (con i) (live_entry (sequenced_all kept) b))) ∙ by o c x live
        where
          by : (o : Option Version) (c : Bool) (x : Option Entry) → table.get log.live b ≡ x
              → option_map (λ (e : Logged). e.bytes) (or_before (option_map (logged_as b) o) c (live_entry (sequenced_all kept) b)) ≡ logged_bytes o (if c then None else left_live (left_from log tail x) (live_in ring b))
          by (Some v) c x live = refl
          by None true x live = refl
          by None false None live = ap (option_map (λ (e : Logged). e.bytes)) (none_kept b live)
          by None false (Some e) live = elim (keeps.stays b e (entry_of ring log laid sound of b e live)) [
            | inl gone ↦ ap (option_map (λ (x : Logged). x.bytes)) gone.1 ∙ sym (ap (λ y. left_live y (live_in ring b)) (cond-true _ None (Some e) gone.0))
            | inr stays ↦
                let entry = stays.1 in
                let rise : SequencesRise laid = of.rise in
                let kept_rise : SequencesRise kept = rise_behind dropped kept (subst SequencesRise keeps.parts rise) in
                let in_kept : live_entry (sequenced_all kept) b ≡ Some entry.copy
                = ap (λ xs. live_entry (sequenced_all xs) b) entry.parts ∙ live_laid entry.before (entry.its ∷ entry.behind) b entry.copy (subst SequencesRise entry.parts kept_rise) entry.live in
                let in_laid : live_entry (sequenced_all laid) b ≡ Some entry.copy
                = ap (λ xs. live_entry (sequenced_all xs) b) keeps.parts ∙ live_laid dropped kept b entry.copy (subst SequencesRise keeps.parts rise) in_kept in
                ap (option_map (λ (x : Logged). x.bytes)) (in_kept ∙ sym in_laid) ∙ sym (live_is ring log laid sound of b) ∙ sym (ap (λ y. left_live y (live_in ring b)) (cond-false _ None (Some e) stays.0))
          ]

    pub kept_landed : (live : table.FinMap nat_cmp Entry) (gone : set.Blocks) → ((b : ℕ) → table.get live b ≡ live_behind log f tail b) → IsLanded live gone
    kept_landed live gone behind = record {
      laid' = laid_now;
      ring_of = record {
        size = refl;
        places = refl;
        head = head;
        headed = headed;
        place = head_at;
        sequence = found.front.sequence;
        clean = head_clean;
        tail = cond-false head.clean head.blkno head.tail head_clean ∙ head_tail;
        none = λ bad. absurd (let no : true ≡ false = sym bad in cc);
        are = λ begun. are_now;
        whole = λ begun. places-append kept (piece ∷ []) ∙ (let w = way_to_head in omega (arith, w, sized));
        rise = rise_now;
        last = λ ts t0 e. ap (λ (x : Laid). x.sequenced.sequence) (sym (snoc kept ts piece t0 e).1);
        live = λ b. subst (IsLiveAs laid_now b) (sym (behind b)) (said_now b (table.get f.versions b) refl (set.contains f.revokes b) refl (table.get log.live b) refl);
      };
      readable = record { head = head; transactions = sequenced_all kept ++ n_seq ∷ []; headed = headed; read = all_read };
      live_so = λ b. under_head (sequenced_all kept ++ n_seq ∷ []) all_read b ∙ has_now b (table.get f.versions b) refl (set.contains f.revokes b) refl (table.get log.live b) refl;
    }

  -- ---- with a header that is its own tail

  module _ (near : (b : ℕ) (e : Entry) → table.get log.live b ≡ Some e → behind_tail log e.first < used log) (empty : f.versions ≡ table.empty) (at_head : tail ≡ hp) where
    size_too : length chunk_list + 1 ≡ size_of size t
    size_too = size_is log f sound is

    its_fits : IsPlaceFor size at t
    its_fits = record { first = first_in; tail = subst (λ p. p < n) (sym at_head) hp_in; room = omega (arith, room, size_too) }

    its_ready : IsReadyAnew ring at t
    its_ready = record { places = refl; own = at_head; older = older; sequence = (let s = sequence_is in let low = numbers.sequence in omega (arith, s, low)) }

    begun_anew : IsBegunAnew size wring at t
    begun_anew = anew ring at t may_log (numbers.numbers tail) its_fits its_ready (numbers.read tail tells)

    abbrev only : Sequenced
    only = record { sequence = at.sequence; transaction = nothing }

    its_read : transactions_of ring' head ≡ Ok (only ∷ [])
    its_read = says.transactions head ∙ begun_anew.read head begun_anew.headed

    its_tail_off : head.tail ≢ next n head.blkno
    its_tail_off e =
        let at_next : place_on n hp 0 ≡ place_on n hp 1 = sym (head_tail ∙ at_head) ∙ e ∙ ap (next n) head_at in
        let same : 0 ≡ 1 = on_apart n hp 0 1 hp_in (omega (arith, room)) (omega (arith, room)) at_next in
        omega (arith, same)

    alone_read : reading size [] None nothing (blocks_from ring' tail 1) ≡ Ok (only ∷ [])
    alone_read =
        let whole = (read_from_tail ring' head (only ∷ []) head_clean (subst (λ p. p < n) (sym (head_tail ∙ at_head)) hp_in) its_tail_off).0 its_read in
        let none : way n hp hp ≡ 0 = way_back n hp 0 hp_in (omega (arith, room)) in
        let count : way n head.tail head.blkno + 1 ≡ 1 = (λ i. way n ((head_tail ∙ at_head) i) (head_at i) + 1) ∙ omega (arith, none) in
        (λ i. reading size [] None nothing (blocks_from ring' (sym head_tail i) (sym count i))) ∙ whole

    abbrev its_piece : Laid
    its_piece = record { first = hp; count = 1; sequenced = only }

    none_live : (b : ℕ) → live_entry (only ∷ []) b ≡ None
    none_live b = either (is_cancelled (only ∷ []) b at.sequence)
      where
        either : (dropped : Bool) → last_or None (flat_map (λ (s : Sequenced). if dropped then [] else entries_in b s.transaction) (only ∷ [])) ≡ None
        either true = refl
        either false = refl

    no_version : (b : ℕ) → table.get f.versions b ≡ None
    no_version b = ap (λ (m : table.FinMap nat_cmp Version). table.get m b) empty ∙ table.get-empty nat_cmp b

    far : behind_tail log tail ≡ used log + (length chunk_list + 1)
    far = ap (behind_tail log) at_head ∙ way_on n log.tail log.head (suc (length chunk_list)) sound.tail sound.head (omega (arith, room)) ∙ (let e : used log + suc (length chunk_list) ≡ used log + (length chunk_list + 1) = omega arith in e)

    none_left : (b : ℕ) (x : Option Entry) → table.get log.live b ≡ x → left_from log tail x ≡ None
    none_left b None live = refl
    none_left b (Some e) live = cond-true _ None (Some e) (let less : behind_tail log e.first < behind_tail log tail = (let c = near b e live in let g = far in omega (arith, c, g)) in grind (arith, nat_tests, less))

    pub anew_landed : (live : table.FinMap nat_cmp Entry) (gone : set.Blocks) → ((b : ℕ) → table.get live b ≡ live_behind log f tail b) → IsLanded live gone
    anew_landed live gone behind = record {
      laid' = its_piece ∷ [];
      ring_of = record {
        size = refl;
        places = refl;
        head = head;
        headed = headed;
        place = head_at;
        sequence = found.front.sequence;
        clean = head_clean;
        tail = cond-false head.clean head.blkno head.tail head_clean ∙ head_tail;
        none = λ bad. absurd (let no : true ≡ false = sym bad in cc);
        are = λ begun. (sym at_head, omega arith, alone_read, ap (next n) at_head);
        whole = λ begun. (let none : way n hp hp ≡ 0 = way_back n hp 0 hp_in (omega (arith, room)) in let same : way n tail hp ≡ way n hp hp = ap (λ p. way n p hp) at_head in omega (arith, none, same));
        rise = (tt, tt);
        last = λ ts t0 e. ap (λ (x : Laid). x.sequenced.sequence) (sym (snoc [] ts its_piece t0 e).1);
        live = λ b. subst (IsLiveAs (its_piece ∷ []) b) (sym (behind b ∙ is_none b)) (none_live b);
      };
      readable = record { head = head; transactions = only ∷ []; headed = headed; read = its_read };
      live_so = λ b. under_head (only ∷ []) its_read b ∙ ap (option_map (λ (e : Logged). e.bytes)) (none_live b) ∙ sym (has_none b);
    }
      where
        is_none : (b : ℕ) → live_behind log f tail b ≡ None
        is_none b = (λ i. logged_over (no_version b i) first (if set.contains f.revokes b then None else none_left b (table.get log.live b) refl i)) ∙ by (set.contains f.revokes b)
          where
            by : (c : Bool) → logged_over None first (if c then None else None) ≡ None
            by true = refl
            by false = refl

        has_none : (b : ℕ) → live_with ring log f tail b ≡ None
        has_none b =
            (λ i. logged_bytes (no_version b i) (if set.contains f.revokes b then None else left_live (none_left b (table.get log.live b) refl i) (live_in ring b))) ∙ by (set.contains f.revokes b)
          where
            by : (c : Bool) → logged_bytes None (if c then None else None) ≡ None
            by true = refl
            by false = refl

  -- ---- either way

  pub landed_so : (live : table.FinMap nat_cmp Entry) (gone : set.Blocks) → ((b : ℕ) → table.get live b ≡ live_behind log f tail b) → IsLanded live gone
  landed_so live gone behind = elim (tail_keeps ring log laid sound of f tail tells) [
    | some_kept dropped kept keeps some ↦ kept_landed dropped kept keeps some live gone behind
    | own near empty at_head ↦ anew_landed near empty at_head live gone behind
  ]
