-- The laws of a node's log and its journal.
use Rattle.std.proofs.Common.{◌≡◌, ◌≢◌, ◌+◌, ◌-◌, ◌^◌, ◌<◌, ◌≤◌, ◌++◌, ℕ, zero, suc, Bool, true, false, List, [], ◌∷◌, length, get_or, Option, None, Some, refl, sym, ap, subst, ◌∙◌, inl, inr, arith}
use Rattle.std.specs.Prelude.{◌⊎◌, slice_get}
use Rattle.std.specs.FinMap as table
use Rattle.std.specs.Ordering.{nat_cmp}
use Rattle.std.specs.List.{AllByRecursion}
use Rattle.std.proofs.lemmas.Bool.{cases_Bool, cases_eq, cond-true}
use Rattle.std.proofs.lemmas.Option.{get_or_from_slice_get, slice_get_within}
use Rattle.std.proofs.Math.Nat.{mod-eq_of_lt}
use Rattle.journal_outcomes.specs.Rings.{IsFree}
use Rattle.journal_outcomes.proofs.Heads.{behind_head, head_is_first}
use Rattle.log_layout.specs.Journal.{Ring, accepted, head_in, next, tail_of, way}
use Rattle.log_layout.specs.Laws.{PlacesSayAll}
use Rattle.log_layout.specs.Live.{IsReadable, live_in}
use Rattle.log_layout.specs.Transactions.{after}
use Rattle.log_layout.specs.declared.log_header.LogHeader.{LogHeader}
use Rattle.log_layout.proofs.BestHeaders.{head_there}
use Rattle.node_journal.specs.Places.{place_on}
use Rattle.written_journals.specs.Saying.{OwnTailBeginsAnew, WhatIsWrittenIsSaid}
use Rattle.written_journals.proofs.Blocks.{not_accepted}
use Rattle.written_journals.proofs.HeadFound.{has_new_head}
use Rattle.written_journals.proofs.NoHeads.{IsNoHead, chunks_no_heads}
use Rattle.written_journals.proofs.RingsWritten.{on_apart, on_inside, way_back}
use Rattle.written_journals.proofs.Sorted.{of_other_kind, sorted}
use Rattle.log_values.specs.Log.{Flush, LogValue}
use Rattle.log_values.specs.Log.Stage.{Headed}
use Rattle.log_values.specs.Flushing.{FlushStep, IsTail, first_place, flush_chunks, head_place, header_bytes, live_behind, place_of}
use Rattle.log_values.specs.Flushing.FlushStep.{a_barrier, the_last}
use Rattle.log_values.specs.Laws.{IsJournal, LiveFits, empty_log}
use Rattle.log_values.specs.Sound.{IsSoundLog, used}
use Rattle.log_values.specs.Transactions.{flushed_as, live_among}
use Rattle.log_values.specs.declared.steps.LogStep.TheVariants as step
use Rattle.log_values.proofs.Ways.{way_on}
use Rattle.log_rings.specs.Flights.{HasLanded, HasPut, MayFlyTo, chunk_place, live_with}
use Rattle.log_rings.specs.Laid.{AreLaid, IsLiveAs, IsRingOf, Laid, places_of}
use Rattle.log_rings.specs.Laws.{AreBlocksOf, BlocksSayNothing, CleanRingsBegin, FlushesFly, FlushesLand, HasNumbers, HeadersFly, RingsOfLogsAreReadable, SaysStill}
use Rattle.log_rings.proofs.Flushed.{loggable}
use Rattle.log_rings.proofs.Landed.{no_snoc}
use Rattle.log_rings.proofs.Landing.{laid_same}
use Rattle.log_rings.proofs.Tails.{live_is, readable}
use Rattle.log_rings.proofs.Whole.{fits_in, landed_so, ring_with, some_is}

as_with : (ring : Ring) (log : LogValue) → ring.size ≡ log.journal.size → ring.places ≡ log.journal.length → ring ≡ ring_with log ring.at
as_with ring log size places = λ i. record { size = size i; places = places i; at = ring.at }

-- ---- a journal with a clean head

pub clean_rings_begin : CleanRingsBegin
clean_rings_begin ring journal head is size places headed clean = record {
  size = size;
  places = places;
  head = head;
  headed = headed;
  place = refl;
  sequence = refl;
  clean = clean;
  tail = cond-true head.clean head.blkno head.tail clean;
  none = λ yes. refl;
  are = λ no. absurd (let bad : true ≡ false = no in cc);
  whole = λ no. absurd (let bad : true ≡ false = no in cc);
  rise = tt;
  last = λ ts t e. absurd (no_snoc ts t e);
  live = λ b. subst (IsLiveAs [] b) (sym (table.get-empty nat_cmp b)) refl;
}

pub rings_are_readable : RingsOfLogsAreReadable
rings_are_readable ring log laid sound of = readable ring log laid sound of

-- ---- blocks of a flush

no_head_at : (xs : List (List ℕ)) (i : ℕ) (d : List ℕ) → i < length xs → AllByRecursion IsNoHead xs → IsNoHead (get_or xs i d)
no_head_at [] i d less all = absurd (omega (arith, less))
no_head_at (x ∷ xs) zero d less all = all.0
no_head_at (x ∷ xs) (suc i) d less all = no_head_at xs i d (omega (arith, less)) all.1

-- how far the head is from the tail, and a place behind it
module _ (ring : Ring) (log : LogValue) (laid : List Laid) (sound : IsSoundLog log) (of : IsRingOf ring log laid) (head : LogHeader) (headed : head_in ring ≡ Some head) where
  head_is : of.head ≡ head
  head_is = some_is (sym of.headed ∙ headed)

  tail_is : tail_of head ≡ log.tail
  tail_is = ap tail_of (sym head_is) ∙ of.tail

  place_is : head.blkno ≡ log.head
  place_is = ap (λ (h : LogHeader). h.blkno) (sym head_is) ∙ of.place

  sequence_is : head.sequence ≡ log.sequence
  sequence_is = ap (λ (h : LogHeader). h.sequence) (sym head_is) ∙ of.sequence

  to_head : way ring.places (tail_of head) head.blkno ≡ used log
  to_head = λ i. way (of.places i) (tail_is i) (place_is i)

  -- a place so many behind the head is free, while it isn't round the ring
  pub free_at : (i : ℕ) → used log + suc i < log.journal.length → (place_on log.journal.length (first_place log) i < ring.places) × IsFree ring.places head (place_on log.journal.length (first_place log) i)
  free_at i room =
      let p = place_on log.journal.length (first_place log) i in
      let far : way log.journal.length log.tail p ≡ used log + suc i = way_on log.journal.length log.tail log.head (suc i) sound.tail sound.head room in
      let there : way ring.places (tail_of head) p ≡ used log + suc i = (λ j. way (of.places j) (tail_is j) p) ∙ far in
      let inside : p < log.journal.length = on_inside log.journal.length log.head (suc i) sound.head (omega (arith, room)) in
      (subst (λ m. p < m) (sym of.places) inside, (let near = to_head in omega (arith, near, there)))

module _ (ring : Ring) (log : LogValue) (f : Flush) (laid : List Laid) (head : LogHeader) (sound : IsSoundLog log) (few_live : table.len log.live < log.journal.length) (of : IsRingOf ring log laid) (is : log.flush ≡ Some f)
    (numbers : HasNumbers log f) (headed : head_in ring ≡ Some head) where
  abbrev n : ℕ
  n = log.journal.length

  room : used log + length (flush_chunks log f) + 2 ≤ n
  room = fits_in log f sound is

  first_in : first_place log < n
  first_in = (let inside : place_on n log.head 1 < n = on_inside n log.head 1 sound.head (omega (arith, room)) in inside)

  no_heads : AllByRecursion IsNoHead (flush_chunks log f)
  no_heads =
      let all = loggable log f sound is few_live in
      let its = numbers.numbers 0 in
      chunks_no_heads log.journal.size log.journal.jid (flushed_as f) all.sized its.jid (sorted log.journal.size (place_of log f 0) (flushed_as f) all its) (of_other_kind log.journal.size (place_of log f 0) (flushed_as f) all its)

  pub blocks_fly : AreBlocksOf ring head log f
  blocks_fly = record {
    fly = λ k bytes at.
        let low : k < length (flush_chunks log f) = slice_get_within (flush_chunks log f) k bytes at in
        let free = free_at ring log laid sound of head headed k (omega (arith, low, room)) in record {
          inside = free.0;
          free = free.1;
          no_header = not_accepted (chunk_place log k) bytes (subst IsNoHead (get_or_from_slice_get (flush_chunks log f) k bytes bytes at) (no_head_at (flush_chunks log f) k bytes low no_heads));
        };
    apart = λ k m low less off e. off (on_apart n (first_place log) k m first_in (omega (arith, low, room)) (omega (arith, less, room)) e);
    before = λ k low e. (let same : k ≡ length (flush_chunks log f) = on_apart n (first_place log) k (length (flush_chunks log f)) first_in (omega (arith, low, room)) (omega (arith, room)) e in omega (arith, same, low));
  }

pub flushes_fly : LiveFits → FlushesFly
flushes_fly fits ring log f laid head sound of is numbers headed = blocks_fly ring log f laid head sound (fits log sound) of is numbers headed

-- ---- its header

pub headers_fly : LiveFits → HeadersFly
headers_fly fits ring log f laid tail head sound of is numbers tells headed =
    let room : used log + length (flush_chunks log f) + 2 ≤ log.journal.length = fits_in log f sound is in
    let free = free_at ring log laid sound of head headed (length (flush_chunks log f)) (omega (arith, room)) in
    let sequence : after log.sequence ≡ log.sequence + 1 = mod-eq_of_lt numbers.sequence in
    let with_is = as_with ring log of.size of.places in
    let older : (h : LogHeader) → head_in (ring_with log ring.at) ≡ Some h → h.sequence < after log.sequence
    = λ h e. (let same : h.sequence ≡ log.sequence = ap (λ (x : LogHeader). x.sequence) (some_is (sym e ∙ ap head_in (sym with_is) ∙ headed)) ∙ sequence_is ring log laid sound of head headed in omega (arith, same, sequence)) in
    let first_in : first_place log < log.journal.length = (let inside : place_on log.journal.length log.head 1 < log.journal.length = on_inside log.journal.length log.head 1 sound.head (omega (arith, room)) in inside) in
    let found = has_new_head (ring_with log ring.at) (place_of log f tail) (flushed_as f) (first_place log) (loggable log f sound is (fits log sound)) (numbers.numbers tail) (numbers.read tail tells) first_in (omega (arith, room)) refl older in record {
      inside = free.0;
      free = free.1;
      header = _;
      reads = ap (accepted (head_place log f)) (sym found.block) ∙ found.counts;
      next = found.front.sequence ∙ sequence ∙ ap (λ s. s + 1) (sym (sequence_is ring log laid sound of head headed));
    }

-- ---- a block in its place

module _ (ring ring' : Ring) (log : LogValue) (laid : List Laid) (head : LogHeader) (p : ℕ) (bytes : List ℕ) (sound : IsSoundLog log) (of : IsRingOf ring log laid) (headed : head_in ring ≡ Some head)
    (may : MayFlyTo ring head p bytes) (put : HasPut ring ring' p bytes) where
  abbrev m : ℕ
  m = ring.places

  tail_in : log.tail < m
  tail_in = subst (λ x. log.tail < x) (sym of.places) sound.tail

  used_few : used log + 2 ≤ m
  used_few = (let some = sound.free in let same = of.places in omega (arith, some, same))

  far : used log < way m log.tail p
  far = (let near = to_head ring log laid sound of head headed in let free = may.free in let at : way m (tail_of head) p ≡ way m log.tail p = ap (λ t. way m t p) (tail_is ring log laid sound of head headed) in omega (arith, near, free, at))

  -- no place from the tail to the head is this one
  off : (i : ℕ) → i ≤ used log → place_on m log.tail i ≢ p
  off i low e = (let back : way m log.tail p ≡ i = ap (way m log.tail) (sym e) ∙ way_back m log.tail i tail_in (omega (arith, low, used_few)) in let f = far in omega (arith, back, low, f))

  head_stays : head_in ring' ≡ Some head
  head_stays =
      let there = head_there ring head headed in
      let same_place : head.blkno ≢ p = (λ e. (let near = to_head ring log laid sound of head headed in let free = may.free in let at : way m (tail_of head) head.blkno ≡ way m (tail_of head) p = ap (way m (tail_of head)) e in omega (arith, near, free, at))) in
      head_is_first ring' head (subst (λ x. head.blkno < x) (sym put.places) there.0) (ap (accepted head.blkno) (put.others head.blkno there.0 same_place) ∙ there.1)
      (λ q h inside accepts. elim (cases_eq q p) [
        | inl same ↦ (let none : accepted q (ring'.at q) ≡ None = (λ i. accepted (same i) (ring'.at (same i))) ∙ ap (accepted p) put.there ∙ may.no_header in let bad : None ≡ Some h = sym none ∙ accepts in absurd cc)
        | inr other ↦
            let within : q < m = subst (λ x. q < x) put.places inside in
            behind_head ring head headed q h within (ap (accepted q) (sym (put.others q within other)) ∙ accepts)
      ])

  stays : IsRingOf ring' log laid
  stays = record {
    size = put.size ∙ of.size;
    places = put.places ∙ of.places;
    head = of.head;
    headed = head_stays ∙ ap Some (sym (head_is ring log laid sound of head headed));
    place = of.place;
    sequence = of.sequence;
    clean = of.clean;
    tail = of.tail;
    none = of.none;
    are = λ begun.
        let few : places_of laid ≡ used log + 1 = of.whole begun ∙ ap (λ x. way x log.tail log.head + 1) of.places in
        subst (λ x. AreLaid ring' log.tail None laid (next x log.head)) (sym put.places)
        (laid_same ring ring' log.tail None laid (next m log.head) (sym put.size) (sym put.places)
        (λ i low. sym (put.others (place_on m log.tail i) (on_inside m log.tail i tail_in (omega (arith, low, few, used_few))) (off i (omega (arith, low, few))))) (of.are begun));
    whole = λ begun. of.whole begun ∙ ap (λ x. way x log.tail log.head + 1) (sym put.places);
    rise = of.rise;
    last = of.last;
    live = of.live;
  }

  pub says_still : SaysStill ring ring' log laid
  says_still = record {
    is = stays;
    headed = head_stays ∙ sym headed;
    live = λ b. live_is ring' log laid sound stays b ∙ sym (live_is ring log laid sound of b);
  }

pub blocks_say_nothing : BlocksSayNothing
blocks_say_nothing ring ring' log laid head p bytes sound of headed may put = says_still ring ring' log laid head p bytes sound of headed may put

-- ---- the flush in its journal

pub flushes_land : WhatIsWrittenIsSaid → OwnTailBeginsAnew → PlacesSayAll → LiveFits → FlushesLand
flushes_land law anew alike fits ring ring' log new f laid tail bytes sound of is numbers stage written put last = by last
  where
    ring_is : ring ≡ ring_with log ring.at
    ring_is = as_with ring log of.size of.places

    ring'_is : ring' ≡ ring_with log ring'.at
    ring'_is = as_with ring' log (put.size ∙ of.size) (put.places ∙ of.places)

    told : IsTail log f tail
    told = sound.told f tail is stage

    by : FlushStep log new f bytes step.Barrier → HasLanded ring ring' log new f tail
    by (a_barrier other is_new live) = absurd (let bad = sym stage ∙ other in cc)
    by (the_last tail' same is_new live) =
        let tails : tail' ≡ tail = (let e = sym same ∙ stage in cc) in
        let gone = live_among new.live log.gone in
        let landed
        = landed_so log f laid tail ring.at ring'.at law anew alike sound (fits log sound) (subst (λ x. IsRingOf x log laid) ring_is of) is numbers told written put.there
        (λ p low off. put.others p (subst (λ x. p < x) (sym of.places) low) off) new.live gone (λ b. live b ∙ ap (λ x. live_behind log f x b) tails) in
        let new_is : new ≡ (record log { head = head_place log f; tail = tail; sequence = after log.sequence; clean = false; gone = gone; flush = None; live = new.live })
        = is_new ∙ (λ i. record log { head = head_place log f; tail = tails i; sequence = after log.sequence; clean = false; gone = gone; flush = None; live = new.live }) in record {
          laid = landed.laid';
          is = subst (λ x. IsRingOf x new landed.laid') (sym ring'_is) (subst (λ l. IsRingOf (ring_with log ring'.at) l landed.laid') (sym new_is) landed.ring_of);
          readable = subst IsReadable (sym ring'_is) landed.readable;
          live = λ b. ap (λ x. live_in x b) ring'_is ∙ landed.live_so b ∙ sym (ap (λ x. live_with x log f tail b) ring_is);
        }
