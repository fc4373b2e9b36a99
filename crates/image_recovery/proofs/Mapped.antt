-- The journals of a mounted image and their plans: what a replay by these plans asks for.
use Rattle.std.proofs.Common.{◌≡◌, ℕ, ◌^◌, ◌<◌, List, length, get_or, Option, None, Some, refl, sym, subst, ◌∙◌, arith}
use Rattle.std.specs.Prelude.{slice_get}
use Rattle.std.proofs.lemmas.Option.{slice_get_within}
use Rattle.image_model.specs.Claims.{every}
use Rattle.image_model.specs.Image.{Image, image_of}
use Rattle.image_model.specs.Replays.{live_at}
use Rattle.image_model.specs.Stands.{IsJournalAt}
use Rattle.image_mount.specs.Looks.{IsPlaceOf}
use Rattle.image_mount.specs.Mounted.{IsJournalOf, IsMounted, Journal, MountedValue}
use Rattle.image_replays.specs.Replays.{ArePlans}
use Rattle.image_replays.proofs.Replay.{plan_of}
use Rattle.image_replays.proofs.System.{block_at_place, same_ring, some_at}
use Rattle.journal_plans.specs.Plans.{bytes_put}
use Rattle.journal_reads.specs.Reading.{ring_read}
use Rattle.log_layout.specs.Journal.{Ring, ring_of}
use Rattle.log_layout.specs.Laws.{HasSamePlaces}
use Rattle.log_layout.proofs.SamePlaces.{says_the_same}
use Rattle.peer_replay.specs.declared.planned.Plan.{Plan}
use Rattle.shared_disk.specs.Disk.{DiskState, IsIdle}
use Rattle.image_recovery.specs.Ended.{AreApart, AreOnce, AreTheirs}

none_or : (o : Option (List ℕ)) → ((bytes : List ℕ) → o ≡ Some bytes → ⊥) → o ≡ None
none_or None never = refl
none_or (Some bytes) never = absurd (never bytes refl)

back : (r t : Ring) → HasSamePlaces r t → HasSamePlaces t r
back r t same = record { size = sym same.size; places = sym same.places; blocks = λ p low. sym (same.blocks p (subst (λ n. p < n) (sym same.places) low)) }

module _ (s : DiskState) (node : ℕ) (idle : IsIdle s) (m : MountedValue) (is : IsMounted (image_of s) m) where
  abbrev im : Image
  im = image_of s

  -- a journal that was mounted is one of the layout
  pub dinode_at : (i : ℕ) (j : Journal) → slice_get m.journals i ≡ Some j → (d : ℕ) × IsJournalAt is.layout i d × IsJournalOf im d j
  dinode_at i j at =
      let d = some_at is.layout.journals i (subst (λ n. i < n) is.count (slice_get_within m.journals i j at)) in
      (d.0, d.1, is.journals i d.0 j d.1 at)

  -- its blocks are at its places
  pub place_at : (i : ℕ) (j : Journal) → slice_get m.journals i ≡ Some j → (p : ℕ) → p < length j.blocks → IsPlaceOf im is.layout i p (get_or j.blocks p 0)
  place_at i j at p low =
      let d = dinode_at i j at in
      let inside : p < (ring_of (every im d.0)).places = subst (λ n. p < n) (same_ring s node idle d.0 j d.2).places low in
      record { dinode = d.0; at = d.1; low = inside; is = sym (block_at_place s node idle d.0 j d.2 p inside) }

  module _ (plans : List Plan) (are : ArePlans im is.layout plans) where
    -- what goes home is live in the journal
    put_live : (k : ℕ) (q : Plan) (b : ℕ) (bytes : List ℕ) → slice_get plans k ≡ Some q → bytes_put q b ≡ Some bytes → (d : ℕ) × IsJournalAt is.layout k d × (live_at im d b ≡ Some bytes)
    put_live k q b bytes at put =
        let many : length plans ≡ length is.layout.journals = are.count in
        let d = some_at is.layout.journals k (subst (λ n. k < n) many (slice_get_within plans k q at)) in
        (d.0, d.1, sym ((are.each k d.0 q d.1 at).live b) ∙ put)

    pub apart : AreApart m.journals plans
    apart = record {
      own = λ i p q j at low low' same. (is.looked.apart i i p q (get_or j.blocks p 0) (place_at i j at p low) (subst (IsPlaceOf im is.layout i q) (sym same) (place_at i j at q low'))).1;
      others = λ i k p q j l off at_j at_l low low' same.
          off (is.looked.apart i k p q (get_or j.blocks p 0) (place_at i j at_j p low) (subst (IsPlaceOf im is.layout k q) (sym same) (place_at k l at_l q low'))).0;
      homes = λ i k p j plan at_j at_p low. none_or (bytes_put plan (get_or j.blocks p 0)) (λ bytes put.
          let live = put_live k plan (get_or j.blocks p 0) bytes at_p put in
          let place = place_at i j at_j p low in
          (are.replayed.replayable.inside k live.0 (get_or j.blocks p 0) bytes live.1 live.2).no_place i place.dinode p place.at place.low place.is);
    }

    pub theirs : AreTheirs s node m.journals plans
    theirs = record {
      plan = λ i j p at_j at_p.
          let d = dinode_at i j at_j in
          plan_of (ring_of (every im d.0)) (ring_read s node j.blocks) (back (ring_read s node j.blocks) (ring_of (every im d.0)) (same_ring s node idle d.0 j d.2)) p (are.each i d.0 p d.1 at_p);
      low = λ i j head at_j headed.
          let d = dinode_at i j at_j in
          let says = says_the_same (ring_read s node j.blocks) (ring_of (every im d.0)) (same_ring s node idle d.0 j d.2) in
          let low : head.sequence < 2 ^ 63 = is.profile.sequence i d.0 head d.1 (sym says.head ∙ headed) in
          omega (arith, low);
    }

    pub once : AreOnce plans
    once i k b p q bytes off at_p at_q put = none_or (bytes_put q b) (λ other put'.
        let one = put_live i p b bytes at_p put in
        let two = put_live k q b other at_q put' in
        off (are.replayed.replayable.once i k b (record {
          first = one.0;
          second = two.0;
          first_at = one.1;
          second_at = two.1;
          one = bytes;
          other = other;
          one_live = one.2;
          other_live = two.2;
        })))
