-- A log header is in flight to the node's journal, and nothing else: the machine's disk then.
use Rattle.std.proofs.Common.{◌≡◌, ◌≢◌, ◌⊎◌, ℕ, suc, ◌<◌, inl, inr, Bool, true, false, List, length, None, Some, refl, sym, ap, subst, ◌∙◌, arith}
use Rattle.std.specs.Prelude.{unwrap_or}
use Rattle.std.proofs.lemmas.Bool.{cases_eq}
use Rattle.cluster_laws.specs.Mirror.{Head}
use Rattle.cluster_laws.specs.Rings.{Rings}
use Rattle.cluster_laws.specs.World.{World}
use Rattle.cluster_laws.proofs.Cells.{at-other, at-same}
use Rattle.image_disks.specs.Disks.{IsDiskOf}
use Rattle.image_disks.proofs.Finding.{place_or_not}
use Rattle.image_machine.specs.Volumes.{IsPlace, Volume}
use Rattle.image_model.specs.Replays.{MayChange}
use Rattle.image_model.specs.Stands.{IsJournalAt}
use Rattle.image_model.proofs.Held.{none_some, some_same}
use Rattle.journal_outcomes.specs.Images.{HeaderFliesTo, IsPlaceIn, PutsHome, landed_at, ring_at, to_journal}
use Rattle.journal_outcomes.specs.Rings.{HeaderFlies, InFlight, MayFly}
use Rattle.journal_outcomes.proofs.Outcomes.{landed_header}
use Rattle.log_layout.specs.Journal.{Ring, head_in}
use Rattle.log_layout.specs.Live.{IsReadable, live_in}
use Rattle.log_rings.specs.Flights.{HasPut, MayHeadAt}
use Rattle.log_values.specs.Flushing.{block_at}
use Rattle.lone_machine.specs.Alone.{Begun, IsAlone, begins_header}
use Rattle.lone_machine.specs.Laws.{AreOwnRings}
use Rattle.lone_machine.proofs.Remaining.{rings_alone}
use Rattle.lone_logs.specs.States.{FliesBesides, IsLoggedNode, NodeState, trees_on}
use Rattle.lone_logs.proofs.Flying.{blocks_may_fly, none_are_blocks, place_in}
use Rattle.lone_logs.proofs.Places.{flies_here, flies_still, off_places, still_elsewhere}

module _ (v : Volume) (s : Begun (trees_on v)) (w : World (trees_on v)) (d : ℕ) (st : NodeState) (is : IsLoggedNode v s w d st) (place : ℕ) (bytes : List ℕ) (flying : InFlight)
    (its_head : MayHeadAt (ring_at st.image d) is.ring.head place bytes) (besides : FliesBesides st.image st.flying flying (block_at st.log.journal place) bytes)
    (idle : (p : ℕ) → p < (ring_at st.image d).places → to_journal st.image d st.flying p ≡ None) where
  abbrev ring : Ring
  ring = ring_at st.image d

  pub here : to_journal st.image d flying place ≡ Some bytes
  here = flies_here v s w d st is place its_head.inside bytes flying besides

  pub none_else : (p : ℕ) → p < ring.places → p ≢ place → to_journal st.image d flying p ≡ None
  none_else p low other = flies_still v s w d st is place its_head.inside bytes flying besides p low other ∙ idle p low

  pub off : (b : ℕ) → (IsPlace v b → ⊥) → flying b ≡ st.flying b
  off = off_places v s w d st is place its_head.inside bytes flying besides

  pub none_elsewhere : (j k q : ℕ) → IsJournalAt v.layout j k → k ≢ d → q < v.places k → flying (v.place k q) ≡ None
  none_elsewhere = still_elsewhere v s w d st is place its_head.inside bytes flying besides

  pub none_to : (j k p : ℕ) → IsJournalAt v.layout j k → k ≢ d → p < (ring_at st.image k).places → to_journal st.image k flying p ≡ None
  none_to j k p at other low = (let low' : p < v.places k = subst (λ n. p < n) (is.disk.many j k at) low in ap flying (is.disk.there j k p at low') ∙ none_elsewhere j k p at other low')

  -- the journal with the header in its place
  pub new_ring : HasPut ring (landed_at st.image d flying) place bytes
  new_ring = record {
    size = refl;
    places = refl;
    there = ap (λ o. unwrap_or o (ring.at place)) here;
    others = λ p low other. ap (λ o. unwrap_or o (ring.at p)) (none_else p low other);
  }

  abbrev pub header_flies : HeaderFlies ring is.ring.head (to_journal st.image d flying)
  header_flies = record {
    place = place;
    bytes = bytes;
    header = its_head.header;
    inside = its_head.inside;
    free = its_head.free;
    flies = here;
    reads = its_head.reads;
    next = its_head.next;
    alone = none_else;
  }

  abbrev pub may_fly_here : MayFly ring (to_journal st.image d flying)
  may_fly_here = record { head = is.ring.head; headed = is.ring.headed; writes = inr header_flies }

  abbrev pub flies_there : HeaderFliesTo st.image d flying
  flies_there = (may_fly_here, header_flies)

  -- in its place it is the head
  pub landed_is : head_in (landed_at st.image d flying) ≡ Some its_head.header
  landed_is = landed_header ring (to_journal st.image d flying) may_fly_here header_flies

  may_fly : (j k : ℕ) → IsJournalAt v.layout j k → MayFly (ring_at st.image k) (to_journal st.image k flying)
  may_fly j k at = elim (cases_eq k d) [
    | inl same ↦ subst (λ n. MayFly (ring_at st.image n) (to_journal st.image n flying)) (sym same) may_fly_here
    | inr other ↦ (let r = is.disk.readable j k at in
        blocks_may_fly (ring_at st.image k) r.head (to_journal st.image k flying) r.headed (none_are_blocks (ring_at st.image k) r.head (to_journal st.image k flying) (λ p low. none_to j k p at other low)))
  ]

  -- it flies to its journal alone
  flies_to : (j k : ℕ) → IsJournalAt v.layout j k → HeaderFliesTo st.image k flying → (j ≡ 0) × (k ≡ d)
  flies_to j k at flies = elim (cases_eq k d) [
    | inr other ↦ absurd (none_some (sym (none_to j k flies.1.place at other flies.1.inside) ∙ flies.1.flies))
    | inl same ↦ (
      (is.apart j k 0 0 d 0 at is.journal.is (subst (λ n. 0 < v.places n) (sym same) some_place) some_place (ap (λ n. v.place n 0) same)).0,
      same,
    )
  ]
    where
      some_place : 0 < v.places d
      some_place = (let least = is.sound.least in let n = is.journal.places in omega (arith, least, n))

  whole : (b : ℕ) (x : List ℕ) → flying b ≡ Some x → length x ≡ st.image.size
  whole b x e = elim (cases_eq b (block_at st.log.journal place)) [
    | inl same ↦ ap length (some_same (sym e ∙ ap flying same ∙ besides.there)) ∙ besides.whole
    | inr other ↦ is.disk.may.whole b x (sym (besides.others b other) ∙ e)
  ]

  -- ---- in the machine the header has these calls, and makes these blocks live

  module _ (h : Head (trees_on v)) (alone : IsAlone (trees_on v) s (begins_header (trees_on v) s w h)) (still : (b : ℕ) → (IsPlace v b → ⊥) → st.flying b ≡ None)
      (readable : IsReadable (landed_at st.image d flying)) (lives : (b : ℕ) → live_in (landed_at st.image d flying) b ≡ h.live b)
      (may : (b : ℕ) (x : List ℕ) → h.live b ≡ Some x → MayChange st.image v.layout b × (length x ≡ v.size)) where
    abbrev pub headed_world : World (trees_on v)
    headed_world = begins_header (trees_on v) s w h

    pub rings' : (rings : Rings (trees_on v) headed_world.disk) × AreOwnRings (trees_on v) headed_world rings
    rings' = rings_alone (trees_on v) s headed_world 0 alone is.node

    heads_old : (j : ℕ) → headed_world.disk.heads j false ≡ w.disk.heads j false
    heads_old j = elim (cases_eq j s.node) [
      | inl same ↦ ap (λ n. headed_world.disk.heads n false) same ∙ ap (λ g. g false) (at-same w.disk.heads s.node _) ∙ sym (ap (λ n. w.disk.heads n false) same)
      | inr other ↦ ap (λ g. g false) (at-other w.disk.heads s.node _ j other)
    ]

    pub head_new : headed_world.disk.heads s.node true ≡ h
    head_new = ap (λ g. g true) (at-same w.disk.heads s.node _)

    heads_other : (j : ℕ) (c : Bool) → (j ≡ s.node → ⊥) → headed_world.disk.heads j c ≡ w.disk.heads j c
    heads_other j c other = ap (λ g. g c) (at-other w.disk.heads s.node _ j other)

    -- journals that aren't the node's, and its own by the old head, are as they were
    old_rings : (j b : ℕ) → rings'.0.live j false b ≡ is.rings.live j false b
    old_rings j b = rings'.1.live j b false ∙ ap (λ (x : Head (trees_on v)). x.live b) (heads_old (suc j)) ∙ sym (is.own.live j b false)

    other_rings : (j b : ℕ) (c : Bool) → (suc j ≡ s.node → ⊥) → rings'.0.live j c b ≡ is.rings.live j c b
    other_rings j b c other = rings'.1.live j b c ∙ ap (λ (x : Head (trees_on v)). x.live b) (heads_other (suc j) c other) ∙ sym (is.own.live j b c)

    its_ring : (b : ℕ) → rings'.0.live 0 true b ≡ h.live b
    its_ring b = rings'.1.live 0 b true ∙ ap (λ n. (headed_world.disk.heads n true).live b) (sym is.node) ∙ ap (λ (x : Head (trees_on v)). x.live b) head_new

    first : (j : ℕ) → suc j ≡ s.node → j ≡ 0
    first j same = (let n = is.node in omega (arith, same, n))

    ring_inside : (j b : ℕ) (c : Bool) (x : List ℕ) → rings'.0.live j c b ≡ Some x → MayChange st.image v.layout b × (length x ≡ v.size)
    ring_inside j b false x e = (is.disk.inside j b false x (sym (old_rings j b) ∙ e), is.disk.whole j b false x (sym (old_rings j b) ∙ e))
    ring_inside j b true x e = elim (cases_eq (suc j) s.node) [
      | inr other ↦ (is.disk.inside j b true x (sym (other_rings j b true other) ∙ e), is.disk.whole j b true x (sym (other_rings j b true other) ∙ e))
      | inl same ↦ may b x (sym (its_ring b) ∙ ap (λ k. rings'.0.live k true b) (sym (first j same)) ∙ e)
    ]

    others : (b : ℕ) (x : List ℕ) → flying b ≡ Some x → IsPlaceIn st.image v.layout b ⊎ PutsHome st.image v.layout flying b x
    others b x e = elim (place_or_not v b) [
      | inl at ↦ inl (place_in v w.disk is.rings st.image st.flying is.disk b at)
      | inr not ↦ absurd (none_some (sym (off b not ∙ still b not) ∙ e))
    ]

    pub disk' : IsDiskOf v headed_world.disk rings'.0 st.image flying
    disk' = record {
      has = is.disk.has;
      journals = is.disk.journals;
      many = is.disk.many;
      there = is.disk.there;
      readable = is.disk.readable;
      may = record {
        journals = may_fly;
        readable = λ j k at flies. subst (λ n. IsReadable (landed_at st.image n flying)) (sym (flies_to j k at flies).1) readable;
        others = others;
        whole = whole;
      };
      blocks = is.disk.blocks;
      flights = λ b x not e. absurd (none_some (sym (off b not ∙ still b not) ∙ e));
      old = λ j k b at. old_rings j b ∙ is.disk.old j k b at;
      new = λ j k b at flies.
          let its = flies_to j k at flies in
          ap (λ i. rings'.0.live i true b) its.0 ∙ its_ring b ∙ sym (lives b) ∙ ap (λ n. live_in (landed_at st.image n flying) b) (sym its.1);
      none = λ j b c not. elim (cases_eq (suc j) s.node) [
        | inl same ↦ absurd (not d (subst (λ i. IsJournalAt v.layout i d) (sym (first j same)) is.journal.is))
        | inr other ↦ other_rings j b c other ∙ is.disk.none j b c not
      ];
      inside = λ j b c x e. (ring_inside j b c x e).0;
      whole = λ j b c x e. (ring_inside j b c x e).1;
    }
