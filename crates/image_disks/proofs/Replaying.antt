-- An image in which each journal has what one of its two heads has, once it is replayed, against the machine's disk.
use Rattle.std.proofs.Common.{◌≡◌, ◌⊎◌, ℕ, ◌<◌, inl, inr, Bool, List, length, None, Some, refl, sym, ap, subst, ◌∙◌}
use Rattle.cluster_laws.specs.Mirror.{Disk}
use Rattle.cluster_laws.specs.Rings.{IsReplayOfRings, Rings}
use Rattle.gfs2_layout.specs.Inode.{content_block}
use Rattle.image_model.specs.Claims.{every}
use Rattle.image_model.specs.Image.{Image}
use Rattle.image_model.specs.Replays.{HasItsJournals, IsReplayable, MayChange, Replayed, live_at}
use Rattle.image_model.specs.Stands.{IsJournalAt}
use Rattle.image_model.proofs.Replaying.{replayed_is_there}
use Rattle.journal_outcomes.specs.Images.{ring_at}
use Rattle.journal_outcomes.specs.Rings.{InFlight}
use Rattle.log_layout.specs.Laws.{HasSamePlaces}
use Rattle.log_layout.specs.Live.{IsReadable}
use Rattle.log_layout.proofs.SamePlaces.{says_the_same}
use Rattle.tree_histories.specs.Trees.{Trees}
use Rattle.image_machine.specs.Laws.{HasBlocksFor}
use Rattle.image_machine.specs.Volumes.{IsPlace, RingsCanBeRead, Volume, images_of, ring_in}
use Rattle.image_machine.proofs.Fitting.{image_is}
use Rattle.image_disks.specs.Disks.{IsDiskOf}
use Rattle.image_disks.proofs.Finding.{pick, place_or_not, some_or_none}

module _ (v : Volume) (d : Disk (Trees (images_of v))) (rings : Rings (Trees (images_of v)) d) (im : Image) (flying : InFlight) (is : IsDiskOf v d rings im flying)
    (x : Image) (choice : ℕ → Bool) (has : HasBlocksFor v x) (journals : HasItsJournals x v.layout)
    (many : (j k : ℕ) → IsJournalAt v.layout j k → (ring_at x k).places ≡ v.places k)
    (there : (j k p : ℕ) → IsJournalAt v.layout j k → p < v.places k → content_block (every x k) p ≡ v.place k p)
    (readable : (j k : ℕ) → IsJournalAt v.layout j k → IsReadable (ring_at x k))
    (live : (j k b : ℕ) → IsJournalAt v.layout j k → live_at x k b ≡ rings.live j (choice j) b)
    (change : (b : ℕ) → MayChange im v.layout b → MayChange x v.layout b) where
  -- some journal has the block live, or none
  its : (b : ℕ) → ((j k : ℕ) × (bytes : List ℕ) × IsJournalAt v.layout j k × (rings.live j (choice j) b ≡ Some bytes)) ⊎ ((j : ℕ) → rings.live j (choice j) b ≡ None)
  its b = some_or_none v.layout.journals (λ j. rings.live j (choice j) b) (λ j none. is.none j b (choice j) none)

  replayable : IsReplayable x v.layout
  replayable = record {
    journals = journals;
    readable = readable;
    once = λ i j b both.
        rings.apart i j (choice i) (choice j) b both.one both.other (sym (live i both.first b both.first_at) ∙ both.one_live) (sym (live j both.second b both.second_at) ∙ both.other_live);
    inside = λ j k b bytes at e. change b (is.inside j b (choice j) bytes (sym (live j k b at) ∙ e));
  }

  replay_is : (r : Image) × Replayed x v.layout r
  replay_is = replayed_is_there x v.layout replayable

  pub full : Image
  full = replay_is.0

  pub full_is : Replayed x v.layout full
  unfolding full
  full_is = replay_is.1

  live_full : (j k b : ℕ) (bytes : List ℕ) → IsJournalAt v.layout j k → rings.live j (choice j) b ≡ Some bytes → full.at b ≡ bytes
  live_full j k b bytes at e = full_is.live j k b bytes at (live j k b at ∙ e)

  rest_full : (b : ℕ) → ((j : ℕ) → rings.live j (choice j) b ≡ None) → full.at b ≡ x.at b
  rest_full b none = full_is.others b (λ j k at. live j k b at ∙ none j)

  pub full_has : HasBlocksFor v full
  full_has = record {
    size = full_is.size ∙ has.size;
    count = full_is.count ∙ has.count;
    whole = λ b low. elim (its b) [
      | inl f ↦ ap length (live_full f.0 f.1 b f.2 f.3 f.4) ∙ is.whole f.0 b (choice f.0) f.2 f.4 ∙ sym (full_is.size ∙ has.size)
      | inr none ↦ ap length (rest_full b none) ∙ has.whole b (subst (λ n. b < n) full_is.count low) ∙ sym full_is.size
    ];
  }

  -- at a place of a ring nothing is live
  place_rest : (b : ℕ) → IsPlace v b → (j : ℕ) → rings.live j (choice j) b ≡ None
  place_rest b place j = elim (its b) [
    | inr none ↦ none j
    | inl f ↦ absurd (
        (change b (is.inside f.0 b (choice f.0) f.2 f.4)).no_place place.journal place.dinode place.place place.at (subst (λ n. place.place < n) (sym (many place.journal place.dinode place.at)) place.low)
        (there place.journal place.dinode place.place place.at place.low ∙ place.is)
        )
  ]

  ring_full : (j k : ℕ) → IsJournalAt v.layout j k → HasSamePlaces (ring_at x k) (ring_in v full.at k)
  ring_full j k at = record {
    size = has.size;
    places = many j k at;
    blocks = λ p low.
        let low' : p < v.places k = subst (λ n. p < n) (many j k at) low in
        ap x.at (there j k p at low')
        ∙ sym (rest_full (v.place k p) (place_rest (v.place k p) (record { journal = j; dinode = k; place = p; at = at; low = low'; is = refl })))
        ∙ sym (ap (λ (z : Image). z.at (v.place k p)) (image_is v full full_has));
  }

  pub full_readable : RingsCanBeRead v full.at
  full_readable j k at = (says_the_same (ring_at x k) (ring_in v full.at k) (ring_full j k at)).readable (readable j k at)

  -- ---- the machine's outcome, and its replay

  abbrev pub became : ℕ → List ℕ
  became b = pick (place_or_not v b) (d.blocks b) (x.at b)

  abbrev pub replayed : ℕ → List ℕ
  replayed b = pick (place_or_not v b) (d.blocks b) (full.at b)

  pub replay : IsReplayOfRings (Trees (images_of v)) d rings choice became replayed
  replay b = by (place_or_not v b)
    where
      by : (q : IsPlace v b ⊎ (IsPlace v b → ⊥)) → ((k : ℕ) × (w : List ℕ) × (rings.live k (choice k) b ≡ Some w) × (pick q (d.blocks b) (full.at b) ≡ w))
          ⊎ (((k : ℕ) → rings.live k (choice k) b ≡ None) × (pick q (d.blocks b) (full.at b) ≡ pick q (d.blocks b) (x.at b)))
      by (inl place) = inr (place_rest b place, refl)
      by (inr off) = elim (its b) [
        | inl f ↦ inl (f.0, f.2, f.4, live_full f.0 f.1 b f.2 f.3 f.4)
        | inr none ↦ inr (none, rest_full b none)
      ]

  pub near : (b : ℕ) → (replayed b ≡ full.at b) ⊎ IsPlace v b
  near b = by (place_or_not v b)
    where
      by : (q : IsPlace v b ⊎ (IsPlace v b → ⊥)) → (pick q (d.blocks b) (full.at b) ≡ full.at b) ⊎ IsPlace v b
      by (inl place) = inr place
      by (inr off) = inl refl
