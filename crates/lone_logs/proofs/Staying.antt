-- A journal with other bytes at places outside tail to head is still that of the log.
use Rattle.std.proofs.Common.{◌≡◌, ◌⊎◌, ◌+◌, ◌<◌, ◌≤◌, ℕ, inl, inr, List, None, Some, sym, ap, subst, ◌∙◌, arith}
use Rattle.journal_outcomes.proofs.Heads.{behind_head, head_is_first}
use Rattle.log_layout.specs.Journal.{Ring, accepted, head_in, next, tail_of, way}
use Rattle.log_layout.specs.Live.{live_in}
use Rattle.log_layout.proofs.BestHeaders.{head_there}
use Rattle.image_model.proofs.Held.{none_some}
use Rattle.node_journal.specs.Places.{place_on}
use Rattle.written_journals.proofs.RingsWritten.{on_inside, way_back}
use Rattle.log_values.specs.Log.{LogValue}
use Rattle.log_values.specs.Sound.{IsSoundLog, used}
use Rattle.log_rings.specs.Flights.{MayFlyTo}
use Rattle.log_rings.specs.Laid.{AreLaid, IsRingOf, Laid, places_of}
use Rattle.log_rings.proofs.Landing.{laid_same}
use Rattle.log_rings.proofs.Tails.{live_is}

module _ (ring ring' : Ring) (log : LogValue) (laid : List Laid) (sound : IsSoundLog log) (of : IsRingOf ring log laid) (size : ring'.size ≡ ring.size) (places : ring'.places ≡ ring.places)
    (each : (p : ℕ) → p < ring.places → (ring'.at p ≡ ring.at p) ⊎ MayFlyTo ring of.head p (ring'.at p)) where
  abbrev m : ℕ
  m = ring.places

  to_head : way m (tail_of of.head) of.head.blkno ≡ used log
  to_head = λ i. way (of.places i) (of.tail i) (of.place i)

  tail_in : log.tail < m
  tail_in = subst (λ x. log.tail < x) (sym of.places) sound.tail

  used_few : used log + 2 ≤ m
  used_few = (let some = sound.free in let same = of.places in omega (arith, some, same))

  -- nothing is another thing from the tail to the head
  same_at : (i : ℕ) → i ≤ used log → ring'.at (place_on m log.tail i) ≡ ring.at (place_on m log.tail i)
  same_at i low = elim (each (place_on m log.tail i) (on_inside m log.tail i tail_in (omega (arith, low, used_few)))) [
    | inl e ↦ e
    | inr may ↦
        let back : way m log.tail (place_on m log.tail i) ≡ i = way_back m log.tail i tail_in (omega (arith, low, used_few)) in
        let from : way m (tail_of of.head) (place_on m log.tail i) ≡ way m log.tail (place_on m log.tail i) = ap (λ t. way m t (place_on m log.tail i)) of.tail in
        let near = to_head in let free = may.free in absurd (omega (arith, back, from, near, free, low))
  ]

  head_inside : of.head.blkno < m
  head_inside = (head_there ring of.head of.headed).0

  head_same : ring'.at of.head.blkno ≡ ring.at of.head.blkno
  head_same = elim (each of.head.blkno head_inside) [
    | inl e ↦ e
    | inr may ↦ (let free = may.free in absurd (omega (arith, free)))
  ]

  head_stays : head_in ring' ≡ Some of.head
  head_stays =
      let there = head_there ring of.head of.headed in
      head_is_first ring' of.head (subst (λ x. of.head.blkno < x) (sym places) there.0) (ap (accepted of.head.blkno) head_same ∙ there.1)
      (λ q h inside accepts. (let within : q < m = subst (λ x. q < x) places inside in elim (each q within) [
        | inl e ↦ behind_head ring of.head of.headed q h within (ap (accepted q) (sym e) ∙ accepts)
        | inr may ↦ absurd (none_some (sym may.no_header ∙ accepts))
      ]))

  pub stays : IsRingOf ring' log laid
  stays = record {
    size = size ∙ of.size;
    places = places ∙ of.places;
    head = of.head;
    headed = head_stays;
    place = of.place;
    sequence = of.sequence;
    clean = of.clean;
    tail = of.tail;
    none = of.none;
    are = λ begun.
        let few : places_of laid ≡ used log + 1 = of.whole begun ∙ ap (λ x. way x log.tail log.head + 1) of.places in
        subst (λ x. AreLaid ring' log.tail None laid (next x log.head)) (sym places)
        (laid_same ring ring' log.tail None laid (next m log.head) (sym size) (sym places) (λ i low. sym (same_at i (omega (arith, low, few)))) (of.are begun));
    whole = λ begun. of.whole begun ∙ ap (λ x. way x log.tail log.head + 1) (sym places);
    rise = of.rise;
    last = of.last;
    live = of.live;
  }

  pub live_stays : (b : ℕ) → live_in ring' b ≡ live_in ring b
  live_stays b = live_is ring' log laid sound stays b ∙ sym (live_is ring log laid sound of b)
