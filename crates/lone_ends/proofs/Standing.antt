-- A node has ended: all its calls are in its journal, in which nothing is live, so that its image stands as it lies.
use Rattle.std.proofs.Common.{◌≡◌, ◌⊎◌, ℕ, zero, suc, ◌<◌, ◌≤◌, inl, inr, Bool, true, false, List, [], ◌∷◌, Option, None, Some, slice_get, refl, sym, ap, subst, ◌∙◌, arith}
use Rattle.std.proofs.lemmas.Bool.{cases_eq}
use Rattle.cluster_history.specs.History.{tree_of}
use Rattle.cluster_history.specs.Changes as changes
use Rattle.cluster_history.specs.declared.Item.TheVariants as item
use Rattle.cluster_laws.specs.History.{Called, Each, Gone, Item}
use Rattle.cluster_laws.specs.Laws.{head_cuts}
use Rattle.cluster_laws.specs.Mirror.{Head}
use Rattle.cluster_laws.specs.Rings.{Rings}
use Rattle.cluster_laws.specs.World.{World}
use Rattle.cluster_laws.proofs.Cells.{at-same}
use Rattle.file_tree.specs.declared.call.Call.{Call}
use Rattle.file_tree.specs.declared.reply.Reply.{Reply}
use Rattle.image_changes.specs.Instances.{StandsBy}
use Rattle.lone_logs.specs.Disks.{IsDiskOf, IsOutcomeOf, KeepsHeads}
use Rattle.lone_logs.proofs.Finding.{place_or_not}
use Rattle.image_machine.specs.Volumes.{HasItsPlaces, IsPlace, RingsCanBeRead, Volume, images_of, ring_in, volume_of}
use Rattle.image_machine.proofs.Fitting.{image_is}
use Rattle.image_machine.proofs.Headlines.{every_image_run}
use Rattle.image_model.specs.Claims.{every}
use Rattle.image_model.specs.Image.{Image}
use Rattle.image_model.specs.Owners.{Owners}
use Rattle.image_model.specs.Replays.{StandsReplayed}
use Rattle.image_model.specs.Stands.{IsJournalAt}
use Rattle.image_model.proofs.Held.{none_some, some_same}
use Rattle.journal_outcomes.specs.Images.{IsImageOutcome, NoFalseHeader, ring_at}
use Rattle.journal_outcomes.specs.Rings.{InFlight}
use Rattle.log_layout.specs.Journal.{IsClean, head_in}
use Rattle.log_layout.specs.Laws.{HasSamePlaces}
use Rattle.log_layout.specs.Transactions.{after}
use Rattle.log_layout.specs.declared.log_header.LogHeader.{LogHeader}
use Rattle.log_layout.proofs.SamePlaces.{nothing_live, says_the_same}
use Rattle.lone_machine.specs.Alone.{Begun, IsAlone, begun, ends_header}
use Rattle.lone_machine.specs.Laws.{AreOwnRings, StaysAlone}
use Rattle.lone_machine.proofs.Going.{sound}
use Rattle.lone_machine.proofs.Logging.{header_ends}
use Rattle.lone_machine.proofs.Remaining.{rings_alone}
use Rattle.log_values.specs.Flushing.{first_place}
use Rattle.lone_logs.specs.Laws.{IsHeadAt}
use Rattle.lone_logs.specs.States.{ArePlacesApart, HasLandedAs, IsLoggedNode, NodeState, trees_on}
use Rattle.lone_logs.proofs.Landed.{landed_outcome, landed_true, none_of_others}
use Rattle.lone_logs.proofs.Living.{live_head}
use Rattle.lone_logs.specs.Outcomes.{OutcomesAreTheMachines}
use Rattle.tree_histories.specs.Trees.{Told, history_of}
use Rattle.lone_ends.specs.Ends.{CleanNodesHaveEnded, FliesLast, HasEnded, IsDone, ItsEndsLand}
use Rattle.lone_ends.proofs.Ending.{begins, clean_head, ending_world, flies_here, its_disk, its_rings, last_at, none_by, none_off, of, others, says_so}

-- ---- the numbers of calls in a history are at most those that hold of each call

number_of : (v : Volume) (published : ℕ → ℕ) (told : ℕ → ℕ → Told) (items : List (Item (trees_on v))) → Each (trees_on v) (λ k. (k.number ≤ published k.node) × (k.said ≡ told k.node k.number)) items
    → (p node client number : ℕ) (call : Call) (reply : Reply) → slice_get (history_of (images_of v) items) p ≡ Some (item.Call node client number call reply) → number ≤ published node
number_of v published told [] each p node client number call reply e = absurd (none_some e)
number_of v published told (Gone i upto kept ∷ items) each zero node client number call reply e = absurd (lost_call (some_same e))
  where
    lost_call : item.Lost i kept ≡ item.Call node client number call reply → ⊥
    lost_call e = cc
number_of v published told (Called k ∷ items) each zero node client number call reply e =
    (let same = both (some_same e) in subst (λ n. n ≤ published node) same.1 (subst (λ n. k.number ≤ published n) same.0 each.0.0))
  where
    both : item.Call k.node k.said.client k.number k.said.call k.said.reply ≡ item.Call node client number call reply → (k.node ≡ node) × (k.number ≡ number)
    both e = (cc, cc)
number_of v published told (Gone i upto kept ∷ items) each (suc p) node client number call reply e = number_of v published told items each p node client number call reply e
number_of v published told (Called k ∷ items) each (suc p) node client number call reply e = number_of v published told items each.1 p node client number call reply e

-- ---- the head that its journal then has

pub record HasCleanHead (left : Image) (d place sequence : ℕ) : Type 0 where
  pub head : LogHeader
  pub headed : head_in (ring_at left d) ≡ Some head
  pub is : IsHeadAt head place sequence true

-- ---- a world in which all calls are in the journal, and nothing is live

module _ (v : Volume) (s : Begun (trees_on v)) (w : World (trees_on v)) (d : ℕ) (left : Image) (alone : IsAlone (trees_on v) s w) (start : w.book.start ≡ s.tree) (rings : Rings (trees_on v) w.disk)
    (disk : IsDiskOf v w.disk rings left (λ b. None)) (cut : (w.disk.heads s.node false).cut ≡ w.book.answered s.node) (none : (j b : ℕ) → (w.disk.heads j false).live b ≡ None)
    (apart : ArePlacesApart v) (clean : (j k : ℕ) → IsJournalAt v.layout j k → IsClean (ring_at left k)) where
  abbrev old : ℕ → Bool
  old j = false

  -- no call is behind the number of its node's head
  all_there : (j : ℕ) → w.book.published j ≤ head_cuts (trees_on v) w.disk old j
  all_there j = elim (cases_eq j s.node) [
    | inl same ↦ subst (λ n. w.book.published n ≤ (w.disk.heads n false).cut) (sym same) (let t = alone.told in omega (arith, t, cut))
    | inr other ↦ (let z = alone.silent j other in let p = (sound (trees_on v) s w alone).whole.published_answered j in omega (arith, z, p))
  ]

  flushed : (p node client number : ℕ) (call : Call) (reply : Reply) → slice_get (history_of (images_of v) w.items) p ≡ Some (item.Call node client number call reply)
      → head_cuts (trees_on v) w.disk old node < number → changes.Changes (record { call = call; reply = reply }) ≡ false
  flushed p node client number call reply e above =
      (let low = number_of v w.book.published w.book.told w.items (sound (trees_on v) s w alone).heard p node client number call reply e in let all = all_there node in absurd (omega (arith, low, all, above)))

  same_places : (j k : ℕ) → IsJournalAt v.layout j k → HasSamePlaces (ring_at left k) (ring_in v left.at k)
  same_places j k at = record {
    size = disk.has.size;
    places = disk.many j k at;
    blocks = λ p low.
        ap left.at (disk.there j k p at (subst (λ n. p < n) (disk.many j k at) low)) ∙ sym (ap (λ (z : Image). z.at (v.place k p)) (image_is v left disk.has));
  }

  readable : RingsCanBeRead v left.at
  readable j k at = (says_the_same (ring_at left k) (ring_in v left.at k) (same_places j k at)).readable (disk.readable j k at)

  near : (b : ℕ) → (w.disk.blocks b ≡ left.at b) ⊎ IsPlace v b
  near b = elim (place_or_not v b) [ inl place ↦ inr place | inr off ↦ inl (disk.blocks b off) ]

  stands : (o : Owners) × StandsBy left o v.layout (tree_of (history_of (images_of v) w.items) w.book.start)
  stands = (every_image_run v (begun (trees_on v) s) w alone.begins alone.run).at_the_end old w.disk.blocks w.disk.blocks left flushed (λ b. inl refl) (λ b. inr ((λ i. none i b), refl)) disk.has readable near

  stands_so : (o : Owners) × StandsBy left o v.layout (tree_of (history_of (images_of v) w.items) s.tree)
  stands_so = subst (λ t. (o : Owners) × StandsBy left o v.layout (tree_of (history_of (images_of v) w.items) t)) start stands

  replayed : StandsReplayed left (tree_of (history_of (images_of v) w.items) s.tree)
  replayed = record {
    layout = v.layout;
    replayed = left;
    is = record {
      replayable = record {
        journals = disk.journals;
        readable = disk.readable;
        once = λ i j b both. absurd (none_some (sym ((nothing_live (ring_at left both.first) (clean i both.first both.first_at)).none b) ∙ both.one_live));
        inside = λ j k b bytes at e. absurd (none_some (sym ((nothing_live (ring_at left k) (clean j k at)).none b) ∙ e));
      };
      size = refl;
      count = refl;
      live = λ j k b bytes at e. absurd (none_some (sym ((nothing_live (ring_at left k) (clean j k at)).none b) ∙ e));
      others = λ b not. refl;
    };
    stands = record { owners = stands_so.0; layout = v.layout; laid = stands_so.1.laid; reads = stands_so.1.reads };
  }

  its_places : (j k : ℕ) → IsJournalAt v.layout j k → HasItsPlaces v k (every left k)
  its_places j k at = record { as_many = disk.many j k at; there = λ p low. disk.there j k p at low }

  apart_there : ArePlacesApart (volume_of left v.layout)
  apart_there j k p i m q at at' low low' e =
      let within : p < v.places k = subst (λ n. p < n) (disk.many j k at) low in
      let within' : q < v.places m = subst (λ n. q < n) (disk.many i m at') low' in
      apart j k p i m q at at' within within' (sym (disk.there j k p at within) ∙ e ∙ disk.there i m q at' within')

  pub has_ended : (place sequence : ℕ) → HasCleanHead left d place sequence → HasEnded v s w d left place sequence
  has_ended place sequence own = record {
    owners = stands_so.0;
    stands = stands_so.1;
    replayed = replayed;
    clean = clean;
    has = disk.has;
    places = its_places;
    apart = apart_there;
    head = own.head;
    headed = own.headed;
    is = own.is;
  }

-- ---- the header of the node has ended

module _ (v : Volume) (s : Begun (trees_on v)) (w : World (trees_on v)) (d : ℕ) (st : NodeState) (is : IsLoggedNode v s w d st) (done : IsDone st) where
  abbrev w1 : World (trees_on v)
  w1 = ending_world v s w d st is done

  abbrev pub ended_world : World (trees_on v)
  ended_world = ends_header (trees_on v) s w1 true

  stays : StaysAlone (trees_on v) s w1 ended_world
  stays = header_ends (trees_on v) s w1 true (begins v s w d st is done).alone

  pub ended_rings : (rings : Rings (trees_on v) ended_world.disk) × AreOwnRings (trees_on v) ended_world rings
  ended_rings = rings_alone (trees_on v) s ended_world 0 stays.alone is.node

  head_is : ended_world.disk.heads s.node false ≡ clean_head v s w d st is done
  head_is = ap (λ g. g false) (at-same w1.disk.heads s.node _) ∙ ap (λ g. g true) (at-same w.disk.heads s.node _)

  head_true : ended_world.disk.heads s.node true ≡ clean_head v s w d st is done
  head_true = ap (λ g. g true) (at-same w1.disk.heads s.node _) ∙ ap (λ g. g true) (at-same w.disk.heads s.node _)

  cut_is : (ended_world.disk.heads s.node false).cut ≡ ended_world.book.answered s.node
  cut_is = ap (λ (h : Head (trees_on v)). h.cut) head_is ∙ sym is.numbers.answered

  none_mine : (b : ℕ) (c : Bool) → (ended_world.disk.heads s.node c).live b ≡ None
  none_mine b true = ap (λ (h : Head (trees_on v)). h.live b) head_true
  none_mine b false = ap (λ (h : Head (trees_on v)). h.live b) head_is

  pub none_after : (j b : ℕ) (c : Bool) → (ended_world.disk.heads j c).live b ≡ None
  none_after j b c = by ((ended_world.disk.heads j c).live b) refl
    where
      by : (o : Option (List ℕ)) → (ended_world.disk.heads j c).live b ≡ o → (ended_world.disk.heads j c).live b ≡ None
      by None e = e
      by (Some bytes) e =
          let mine : j ≡ s.node = stays.alone.owners b j ((sound (trees_on v) s ended_world stays.alone).mirror.lives j c b bytes e) in
          absurd (none_some (sym (none_mine b c) ∙ ap (λ n. (ended_world.disk.heads n c).live b) (sym mine) ∙ e))

  pub none_of_rings : (j b : ℕ) (c : Bool) → ended_rings.0.live j c b ≡ None
  none_of_rings j b c = ended_rings.1.live j b c ∙ none_after (suc j) b c

  module _ (left : Image) (disk : IsDiskOf v ended_world.disk ended_rings.0 left (λ b. None)) (clean : (j k : ℕ) → IsJournalAt v.layout j k → IsClean (ring_at left k)) (place sequence : ℕ)
      (own : HasCleanHead left d place sequence) where
    there : HasEnded v s ended_world d left place sequence
    there = has_ended v s ended_world d left stays.alone is.start ended_rings.0 disk cut_is (λ j b. none_after j b false) is.apart clean place sequence own

    pub ended_so : HasEnded v s w d left place sequence
    ended_so = (let e = there in record {
      owners = e.owners;
      stands = e.stands;
      replayed = e.replayed;
      clean = e.clean;
      has = e.has;
      places = e.places;
      apart = e.apart;
      head = e.head;
      headed = e.headed;
      is = e.is;
    })

-- ---- its block is in its place

module _ (they_are : OutcomesAreTheMachines) (v : Volume) (s : Begun (trees_on v)) (w : World (trees_on v)) (d : ℕ) (st : NodeState) (flying : InFlight) (left : Image) (is : IsLoggedNode v s w d st)
    (flies : FliesLast st flying) (landed : HasLandedAs st.image flying left) where
  outcome : IsImageOutcome st.image flying left
  outcome = landed_outcome st.image left flying (its_disk v s w d st flying is flies).may.whole landed

  no_false : NoFalseHeader st.image v.layout flying left
  no_false = landed_true st.image left flying landed v.layout

  abbrev its_outcome : IsOutcomeOf v (ending_world v s w d st is flies.done).disk (its_rings v s w d st flying is flies).0 st.image flying left
  its_outcome = of v s w d st flying is flies they_are left outcome no_false

  counts : its_outcome.choice 0 ≡ true
  counts = its_outcome.landed 0 d is.journal.is (flies_here v s w d st flying is flies) (λ p bytes low e. landed.new _ bytes e)

  own_head : HasCleanHead left d (first_place st.log) (after st.log.sequence)
  own_head =
      let says = subst (λ c. says_so v s w d st flying is flies they_are left outcome no_false c) counts (its_outcome.says 0 d is.journal.is) in
      record { head = says.head; headed = says.headed; is = last_at v s w d st flying is flies they_are left outcome no_false says }

  clean : (j k : ℕ) → IsJournalAt v.layout j k → IsClean (ring_at left k)
  clean j k at = elim (cases_eq k d) [
    | inr other ↦ others v s w d st flying is flies they_are left outcome no_false j k at other
    | inl same ↦ subst (λ m. IsClean (ring_at left m)) (sym same) (own_head.head, own_head.headed, own_head.is.clean)
  ]

  settled : (b : ℕ) → (IsPlace v b → ⊥) → (ended_world v s w d st is flies.done).disk.blocks b ≡ left.at b
  settled b off = is.disk.blocks b off ∙ sym (landed.still b (none_off v s w d st flying is flies b off))

  keeps : KeepsHeads v (its_rings v s w d st flying is flies).0 its_outcome.choice (ended_rings v s w d st is flies.done).0
  keeps j b c = none_of_rings v s w d st is flies.done j b c ∙ sym (none_by v s w d st flying is flies j b (its_outcome.choice j) (λ e. ap its_outcome.choice e ∙ counts))

  disk_then : IsDiskOf v (ended_world v s w d st is flies.done).disk (ended_rings v s w d st is flies.done).0 left (λ b. None)
  disk_then = its_outcome.rests (ended_world v s w d st is flies.done).disk (ended_rings v s w d st is flies.done).0 settled keeps

  pub landed_so : HasEnded v s w d left (first_place st.log) (after st.log.sequence)
  landed_so = ended_so v s w d st is flies.done left disk_then clean (first_place st.log) (after st.log.sequence) own_head

pub its_ends_land : OutcomesAreTheMachines → ItsEndsLand
its_ends_land they_are v s w d st flying left is flies landed = landed_so they_are v s w d st flying left is flies landed

-- ---- nothing was ever written to its journal

module _ (they_are : OutcomesAreTheMachines) (v : Volume) (s : Begun (trees_on v)) (w : World (trees_on v)) (d : ℕ) (st : NodeState) (is : IsLoggedNode v s w d st) (done : IsDone st)
    (never : st.log.clean ≡ true) where
  its_head : HasCleanHead st.image d st.log.head st.log.sequence
  its_head = record { head = is.ring.head; headed = is.ring.headed; is = record { place = is.ring.place; sequence = is.ring.sequence; clean = is.ring.clean ∙ never } }

  own_clean : IsClean (ring_at st.image d)
  own_clean = (its_head.head, its_head.headed, its_head.is.clean)

  clean_all : (j k : ℕ) → IsJournalAt v.layout j k → IsClean (ring_at st.image k)
  clean_all j k at = elim (cases_eq k d) [
    | inr other ↦ is.others j k at other
    | inl same ↦ subst (λ m. IsClean (ring_at st.image m)) (sym same) own_clean
  ]

  -- the image is its own outcome
  itself : IsOutcomeOf v w.disk is.rings st.image st.flying st.image
  itself = they_are v (begun (trees_on v) s) w is.rings st.image st.image st.flying is.alone.begins is.alone.run is.disk
      (record { size = refl; count = refl; still = λ b e. refl; whole = λ b bytes e. absurd (none_some (sym (done.still b) ∙ e)) })
      (λ j k p bytes at low e. absurd (none_some (sym (done.still _) ∙ e)))

  all_old : (j : ℕ) → itself.choice j ≡ false
  all_old j = by (itself.choice j) refl
    where
      by : (c : Bool) → itself.choice j ≡ c → itself.choice j ≡ false
      by false e = e
      by true e = (let taken = itself.taken j e in absurd (none_some (sym (done.still _) ∙ taken.2.1.flies)))

  nothing_before : (j b : ℕ) → is.rings.live j false b ≡ None
  nothing_before j b = is.own.live j b false ∙ elim (cases_eq (suc j) s.node) [
    | inl same ↦ ap (λ n. (w.disk.heads n false).live b) same ∙ live_head v s w d st is b ∙ (nothing_live (ring_at st.image d) own_clean).none b
    | inr other ↦ none_of_others v s w is.alone j b false other
  ]

  keeps_so : KeepsHeads v is.rings itself.choice (ended_rings v s w d st is done).0
  keeps_so j b c = none_of_rings v s w d st is done j b c ∙ sym (ap (λ k. is.rings.live j k b) (all_old j) ∙ nothing_before j b)

  at_rest : IsDiskOf v (ended_world v s w d st is done).disk (ended_rings v s w d st is done).0 st.image (λ b. None)
  at_rest = itself.rests (ended_world v s w d st is done).disk (ended_rings v s w d st is done).0 is.disk.blocks keeps_so

  pub clean_so : HasEnded v s w d st.image st.log.head st.log.sequence
  clean_so = ended_so v s w d st is done st.image at_rest clean_all st.log.head st.log.sequence its_head

pub clean_nodes_have_ended : OutcomesAreTheMachines → CleanNodesHaveEnded
clean_nodes_have_ended they_are v s w d st is done never = clean_so they_are v s w d st is done never
