-- A step of a flush, carried out on the disk.
use Rattle.std.proofs.Common.{◌≡◌, ◌<◌, ℕ, zero, suc, List, [], ◌∷◌, length, Option, None, Some, refl, sym, ap, subst, subst₂, ◌∙◌, arith}
use Rattle.std.specs.Prelude.{slice_get}
use Rattle.log_layout.specs.Transactions.{after}
use Rattle.log_rings.specs.Flights.{chunk_place}
use Rattle.log_values.specs.Flushing.{FlushStep, block_at, first_place, flush_chunks, head_place}
use Rattle.log_values.specs.Flushing as steps
use Rattle.log_values.specs.Log.{Flush, LogValue}
use Rattle.log_values.specs.Log.Stage.{Ending, Writing}
use Rattle.log_values.specs.Sound.{Fits, IsSoundLog, alone, with_room}
use Rattle.log_values.specs.declared.steps.LogStep.{LogStep}
use Rattle.log_values.specs.declared.steps.LogStep.TheVariants as step
use Rattle.log_values.proofs.Landing.{alone_takes}
use Rattle.log_values.proofs.Ways.{on_below, way_on}
use Rattle.node_journal.proofs.Lengths.{chunks_length}
use Rattle.node_journal.specs.Places.{place_on}
use Rattle.log_layout.specs.Journal.{way}
use Rattle.std.proofs.lemmas.Bool.Decides.{nat_tests}
use Rattle.log_values.specs.Transactions.{flushed_as}
use Rattle.shared_disk.specs.Disk.{DiskState, flight_to}
use Rattle.log_values.specs.Flushing.{Begins, FlushAnswer, a_step, no_room, nothing}
use Rattle.logged_node.specs.Flushing.{IsFlownBlock, IsFlushing, MayCarry, how_many_fly}
use Rattle.logged_node.specs.declared.node.Node.{Node}
use Rattle.logged_node.proofs.Blocks.{none_some, some_same}

pub slice_get_low : {A : Type 0} (xs : List A) (k : ℕ) (a : A) → slice_get xs k ≡ Some a → k < length xs
slice_get_low [] k a is = absurd (let e : None ≡ Some a = is in cc)
slice_get_low (x ∷ xs) zero a is = omega arith
slice_get_low (x ∷ xs) (suc k) a is = (let low = slice_get_low xs k a is in omega (arith, low))

-- it is no way to where one is
pub way_here : (n p : ℕ) → way n p p ≡ 0
way_here n p = grind (arith, nat_tests)

-- the place behind the head is one
pub first_inside : (log : LogValue) → IsSoundLog log → first_place log < log.journal.length
first_inside log sound = place_next
  where
    place_next : place_on log.journal.length log.head 1 < log.journal.length
    place_next = on_below log.journal.length log.head 1 sound.head (let least = sound.least in omega (arith, least))

module _ (log : LogValue) (f : Flush) (sound : IsSoundLog log) (is : log.flush ≡ Some f) where
  abbrev n : ℕ
  n = log.journal.length

  first_in : first_place log < n
  first_in = first_inside log sound

  -- a flush has fewer chunks than the journal has places
  chunks_few : length (flush_chunks log f) < n
  chunks_few = by (sound.fits f is)
    where
      by : Fits log f → length (flush_chunks log f) < n
      by (with_room room) = (let long = chunks_length log.journal.size log.journal.jid (flushed_as f) sound.size in omega (arith, room, long))
      by (alone versions revokes home free) = (let none = alone_takes log.journal.size log.journal.jid f sound.size versions revokes in let least = sound.least in omega (arith, none, least))

  chunk_in : (k : ℕ) → k < length (flush_chunks log f) → chunk_place log k < n
  chunk_in k low = on_below n (first_place log) k first_in (let few = chunks_few in omega (arith, low, few))

  head_in : head_place log f < n
  head_in = on_below n (first_place log) (length (flush_chunks log f)) first_in chunks_few

  -- chunks have places of their own
  apart : (k m : ℕ) → k < n → m < n → chunk_place log k ≡ chunk_place log m → k ≡ m
  apart k m a b same =
      let here = way_here n (first_place log) in
      let one = way_on n (first_place log) (first_place log) k first_in first_in (omega (arith, here, a)) in
      let other = way_on n (first_place log) (first_place log) m first_in first_in (omega (arith, here, b)) in
      let ways = ap (way n (first_place log)) same in
      omega (arith, one, other, ways)

-- ---- a step of the flush that is under way

-- none begins where one is under way
begun_still : (log m : LogValue) (f : Flush) → log.flush ≡ Some f → Begins log m → m ≡ log
begun_still log _ f is (steps.with_all none due room) = absurd (none_some (sym none ∙ is))
begun_still log _ f is (steps.alone none home some no_more) = absurd (none_some (sym none ∙ is))
begun_still log _ f is (steps.goes_on h there) = refl

pub step_of : (log new : LogValue) (bytes : List ℕ) (s : LogStep) (f : Flush) → log.flush ≡ Some f → FlushAnswer log new bytes (Some s) → FlushStep log new f bytes s
step_of log new bytes _ f is (no_room none due room home same) = absurd (none_some (sym none ∙ is))
step_of log new bytes s f is (a_step m g _ begins flush made) =
    let still = begun_still log m f is begins in
    subst₂ (λ (l : LogValue) (x : Flush). FlushStep l new x bytes s) still (some_same (sym flush ∙ ap (λ (l : LogValue). l.flush) still ∙ is)) made

pub no_answer : (log new : LogValue) (bytes : List ℕ) (f : Flush) → log.flush ≡ Some f → FlushAnswer log new bytes None → ⊥
no_answer log new bytes f is (nothing none due live same) = none_some (sym none ∙ is)

module _ (start : Node) (d : DiskState) (n : Node) (f : Flush) (at : IsFlushing start d n f) where
  sound : IsSoundLog n.log
  sound = at.on.sound

  free_block : (b : ℕ) → ((bytes : List ℕ) → flight_to (d.in_flight 1) b ≡ Some bytes → ⊥) → flight_to (d.in_flight 1) b ≡ None
  free_block b not = by (flight_to (d.in_flight 1) b) refl
    where
      by : (o : Option (List ℕ)) → flight_to (d.in_flight 1) b ≡ o → o ≡ None
      by None e = refl
      by (Some bytes) e = absurd (not bytes e)

  chunk_block : (k : ℕ) → f.stage ≡ Writing k → k < length (flush_chunks n.log f) → MayCarry d (step.Write (block_at n.log.journal (chunk_place n.log k)))
  chunk_block k stage low = (
    at.on.places (chunk_place n.log k) (chunk_in n.log f sound at.is k low),
    free_block (block_at n.log.journal (chunk_place n.log k)) taken,
    (let few = subst (λ s. length (d.in_flight 1) ≡ how_many_fly s) stage at.many in let small = at.small in omega (arith, few, small, low)),
  )
    where
      chunks_low : length (flush_chunks n.log f) < n.log.journal.length
      chunks_low = chunks_few n.log f sound at.is

      taken : (bytes : List ℕ) → flight_to (d.in_flight 1) (block_at n.log.journal (chunk_place n.log k)) ≡ Some bytes → ⊥
      taken bytes flies =
          let flown = subst (λ s. IsFlownBlock n.log f s (block_at n.log.journal (chunk_place n.log k))) stage (at.flies (block_at n.log.journal (chunk_place n.log k)) bytes flies) in
          let place = at.on.apart (chunk_place n.log k) (chunk_place n.log flown.0) (chunk_in n.log f sound at.is k low) (chunk_in n.log f sound at.is flown.0 flown.2) flown.3 in
          let same = apart n.log f sound at.is k flown.0 (let c = chunks_low in omega (arith, c, low)) (let c = chunks_low in let l = flown.2 in omega (arith, c, l)) place in
          let less = flown.1 in omega (arith, same, less)

  head_block : (sequence : ℕ) → f.stage ≡ Ending → MayCarry d (step.Head (block_at n.log.journal (head_place n.log f)) sequence)
  head_block sequence stage = (
    at.on.places (head_place n.log f) (head_in n.log f sound at.is),
    free_block (block_at n.log.journal (head_place n.log f)) (λ bytes flies. subst (λ s. IsFlownBlock n.log f s (block_at n.log.journal (head_place n.log f))) stage (at.flies (block_at n.log.journal (head_place n.log f)) bytes flies)),
    (let few = subst (λ s. length (d.in_flight 1) ≡ how_many_fly s) stage at.many in omega (arith, few)),
  )

  pub may_carry : (new : LogValue) (bytes : List ℕ) (s : LogStep) → FlushStep n.log new f bytes s → MayCarry d s
  may_carry new bytes _ (steps.a_block k stage block new_is) = chunk_block k stage (slice_get_low (flush_chunks n.log f) k bytes block)
  may_carry new bytes _ (steps.a_barrier stage new_is live) = tt
  may_carry new bytes _ (steps.a_header tail stage tells bytes_are new_is) = head_block (after n.log.sequence) stage
  may_carry new bytes _ (steps.the_last tail stage new_is live) = tt
