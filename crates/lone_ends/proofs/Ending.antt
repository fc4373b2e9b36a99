-- The last header of a node is in flight: the machine then, and what its outcomes have.
use Rattle.std.proofs.Common.{◌≡◌, ◌≢◌, ℕ, suc, ◌<◌, ◌+◌, inl, inr, Bool, true, false, List, [], ◌∷◌, map, length, Option, None, Some, refl, sym, ap, subst, ◌∙◌, arith}
use Rattle.std.specs.Prelude.{if◌then◌else◌}
use Rattle.std.specs.FinMap as table
use Rattle.std.specs.Option.{option_map}
use Rattle.std.specs.Ordering.{nat_cmp}
use Rattle.std.proofs.Math.Nat.{mod-eq_of_lt}
use Rattle.std.proofs.lemmas.Bool.{cases_eq}
use Rattle.cluster_laws.specs.Mirror.{Head}
use Rattle.cluster_laws.specs.Rings.{Rings}
use Rattle.cluster_laws.specs.World.{World}
use Rattle.lone_logs.specs.Disks.{IsDiskOf, IsOutcomeOf}
use Rattle.lone_logs.specs.Lone.{LoneOutcomesStand}
use Rattle.image_machine.specs.Volumes.{IsPlace, Volume}
use Rattle.image_model.specs.Image.{Image}
use Rattle.image_model.specs.Replays.{MayChange}
use Rattle.image_model.specs.Stands.{IsJournalAt}
use Rattle.image_model.proofs.Held.{none_some, some_same}
use Rattle.journal_outcomes.specs.Images.{HeaderFliesTo, IsImageOutcome, NoFalseHeader, landed_at, ring_at, to_journal}
use Rattle.journal_outcomes.specs.Rings.{InFlight, IsFree, SaysAs}
use Rattle.log_layout.specs.Journal.{IsClean, Ring, head_in}
use Rattle.log_layout.specs.Laws.{HasNothingLive}
use Rattle.log_layout.specs.Live.{live_in}
use Rattle.log_layout.specs.Transactions.{after}
use Rattle.log_layout.proofs.BestHeaders.{accepted_tells}
use Rattle.log_layout.proofs.SamePlaces.{nothing_live}
use Rattle.log_rings.specs.Flights.{MayHeadAt}
use Rattle.log_rings.proofs.Laws.{free_at}
use Rattle.log_values.specs.Blocks as set
use Rattle.log_values.specs.Flushing.{IsDue, first_place}
use Rattle.log_values.specs.Log.{Entry, LogValue, Version}
use Rattle.log_values.specs.Transactions.{logged_as}
use Rattle.lone_machine.specs.Alone.{Begun, begins_header, begun, head_of}
use Rattle.lone_machine.specs.Laws.{AreOwnRings, StaysAlone}
use Rattle.lone_machine.specs.Versions.{AreVersions, IsLiveAfter}
use Rattle.lone_machine.proofs.Going.{sound}
use Rattle.lone_machine.proofs.Logging.{header_begins}
use Rattle.lone_logs.specs.Laws.{IsHeadAt, Remains}
use Rattle.lone_logs.specs.States.{IsLoggedNode, NodeState, bytes_of, trees_on}
use Rattle.lone_logs.proofs.Beginning.{fresh_is, idle, unheaded}
use Rattle.lone_logs.proofs.Headers.{disk', flies_there, head_new, landed_is, none_to, off, rings'}
use Rattle.lone_logs.proofs.Landed.{none_of_others}
use Rattle.lone_logs.proofs.Living.{at_sea, live_head, live_none, off_entry}
use Rattle.lone_logs.proofs.Others.{stay_clean}
use Rattle.lone_logs.proofs.Remaining.{reads_at, remains_so}
use Rattle.lone_logs.specs.Outcomes.{OutcomesAreTheMachines}
use Rattle.lone_ends.specs.Ends.{FliesLast, IsDone, IsHeadAtEnd, ItsEndsStand}
use Rattle.lone_ends.specs.Ends.IsHeadAtEnd.{last, old}

-- ---- nothing is due

none_in : {A B : Type 0} (f : A → B) (xs : List A) → ((map f xs ≡ [] → ⊥) → ⊥) → xs ≡ []
none_in f [] not = refl
none_in f (x ∷ xs) not = absurd (not (λ e. cc))

nothing_fresh : (log : LogValue) → (IsDue log → ⊥) → (b : ℕ) → bytes_of log.fresh b ≡ None
nothing_fresh log not_due b = ap (option_map (λ (x : Version). x.bytes)) (table.get-entries log.fresh b ∙ ap (table.find nat_cmp b) empty)
  where
    empty : table.entries log.fresh ≡ []
    empty = none_in (λ (e : ℕ × Version). logged_as e.0 e.1) (table.entries log.fresh) (λ some. not_due (inl some))

-- ---- a clean header begins, with all calls

module _ (v : Volume) (s : Begun (trees_on v)) (w : World (trees_on v)) (d : ℕ) (st : NodeState) (is : IsLoggedNode v s w d st) (done : IsDone st) where
  -- it has all calls, and makes nothing live
  abbrev pub clean_head : Head (trees_on v)
  clean_head = record { cut = st.numbers.answered; live = λ b. None }

  abbrev pub ending_world : World (trees_on v)
  ending_world = begins_header (trees_on v) s w clean_head

  versions : AreVersions (trees_on v) w.book s.node (w.book.low s.node) st.numbers.answered (λ b. None) (set.contains st.log.gone)
  versions = subst (λ (f : ℕ → Option (List ℕ)). AreVersions (trees_on v) w.book s.node (w.book.low s.node) st.numbers.answered f (set.contains st.log.gone)) (λ i b. nothing_fresh st.log done.due b i)
      (subst (λ n. AreVersions (trees_on v) w.book s.node n st.numbers.answered (bytes_of st.log.fresh) (set.contains st.log.gone)) (sym is.numbers.low) (fresh_is v s w d st is done.flush))

  -- what was live is home
  home : (b : ℕ) (bytes : List ℕ) → (head_of (trees_on v) s w false).live b ≡ Some bytes → w.disk.blocks b ≡ bytes
  home b bytes lives = by (table.get st.log.live b) refl
    where
      its : live_in (ring_at st.image d) b ≡ Some bytes
      its = sym (live_head v s w d st is b) ∙ lives

      by : (o : Option Entry) → table.get st.log.live b ≡ o → w.disk.blocks b ≡ bytes
      by None e = absurd (none_some (sym (live_none v s w d st is b e) ∙ its))
      by (Some x) e = is.disk.blocks b (off_entry v s w d st is b x e) ∙ some_same (sym (is.home b x e (done.home b x e)) ∙ its)

  live_after : IsLiveAfter (trees_on v) w.disk s.node (λ b. None) (set.contains st.log.gone) (clean_head.live)
  live_after b = inr (refl, inr (refl, inl (home b)))

  pub begins : StaysAlone (trees_on v) s w ending_world
  begins = header_begins (trees_on v) s w clean_head (λ b. None) (set.contains st.log.gone) is.alone (is.heads.one (unheaded v s w d st is done.flush)) (at_sea v s w d st is (λ b off. done.still b))
      (let b = is.numbers.begun in let l = is.numbers.low in omega (arith, b.0, b.1, l)) (let a = is.numbers.answered in omega (arith, a)) versions live_after

-- ---- its block is in flight

module _ (v : Volume) (s : Begun (trees_on v)) (w : World (trees_on v)) (d : ℕ) (st : NodeState) (flying : InFlight) (is : IsLoggedNode v s w d st) (flies : FliesLast st flying) where
  abbrev ring : Ring
  ring = ring_at st.image d

  abbrev place : ℕ
  place = first_place st.log

  abbrev w' : World (trees_on v)
  w' = ending_world v s w d st is flies.done

  stays : StaysAlone (trees_on v) s w w'
  stays = begins v s w d st is flies.done

  is_free : (place < ring.places) × IsFree ring.places is.ring.head place
  is_free = free_at ring st.log is.laid is.sound is.ring is.ring.head is.ring.headed 0 (let few = is.sound.free in omega (arith, few))

  is_next : flies.is.header.sequence ≡ is.ring.head.sequence + 1
  is_next = (let sequence : after st.log.sequence ≡ st.log.sequence + 1 = mod-eq_of_lt flies.is.more in flies.is.sequence ∙ sequence ∙ ap (λ n. n + 1) (sym is.ring.sequence))

  abbrev its_head : MayHeadAt ring is.ring.head place flies.bytes
  its_head = record { inside = is_free.0; free = is_free.1; header = flies.is.header; reads = flies.is.reads; next = is_next }

  none_flies : (p : ℕ) → p < ring.places → to_journal st.image d st.flying p ≡ None
  none_flies = idle v s w d st is flies.done.flush

  still : (b : ℕ) → (IsPlace v b → ⊥) → st.flying b ≡ None
  still b off = flies.done.still b

  pub flies_here : HeaderFliesTo st.image d flying
  flies_here = flies_there v s w d st is place flies.bytes flying its_head flies.flies none_flies

  -- ---- the journal with it in its place

  header_is : head_in (landed_at st.image d flying) ≡ Some flies.is.header
  header_is = landed_is v s w d st is place flies.bytes flying its_head flies.flies none_flies

  nothing : HasNothingLive (landed_at st.image d flying)
  nothing = nothing_live (landed_at st.image d flying) (flies.is.header, header_is, flies.is.clean)

  none_may : (b : ℕ) (x : List ℕ) → (clean_head v s w d st is flies.done).live b ≡ Some x → MayChange st.image v.layout b × (length x ≡ v.size)
  none_may b x e = absurd (none_some e)

  -- ---- the machine's disk

  pub its_rings : (rings : Rings (trees_on v) w'.disk) × AreOwnRings (trees_on v) w' rings
  its_rings = rings' v s w d st is place flies.bytes flying its_head flies.flies none_flies (clean_head v s w d st is flies.done) stays.alone still nothing.readable nothing.none none_may

  pub its_disk : IsDiskOf v w'.disk its_rings.0 st.image flying
  unfolding its_rings
  its_disk = disk' v s w d st is place flies.bytes flying its_head flies.flies none_flies (clean_head v s w d st is flies.done) stays.alone still nothing.readable nothing.none none_may

  head_is : w'.disk.heads s.node true ≡ clean_head v s w d st is flies.done
  head_is = head_new v s w d st is place flies.bytes flying its_head flies.flies none_flies (clean_head v s w d st is flies.done) stays.alone still nothing.readable nothing.none none_may

  -- by it nothing is live, nor in another journal
  pub none_by : (j b : ℕ) (c : Bool) → (j ≡ 0 → c ≡ true) → its_rings.0.live j c b ≡ None
  none_by j b c counts = its_rings.1.live j b c ∙ elim (cases_eq (suc j) s.node) [
    | inl same ↦
        let its : c ≡ true = counts (let n = is.node in omega (arith, same, n)) in
        (λ i. (w'.disk.heads (same i) (its i)).live b) ∙ ap (λ (h : Head (trees_on v)). h.live b) head_is
    | inr other ↦ none_of_others v s w' stays.alone j b c other
  ]

  -- beside places of journals nothing flies
  pub none_off : (b : ℕ) → (IsPlace v b → ⊥) → flying b ≡ None
  none_off b not = off v s w d st is place flies.bytes flying its_head flies.flies none_flies b not ∙ flies.done.still b

  -- ---- an outcome

  module _ (they_are : OutcomesAreTheMachines) (left : Image) (outcome : IsImageOutcome st.image flying left) (no_false : NoFalseHeader st.image v.layout flying left) where
    pub of : IsOutcomeOf v w'.disk its_rings.0 st.image flying left
    of = they_are v (begun (trees_on v) s) w' its_rings.0 st.image left flying stays.alone.begins stays.alone.run its_disk outcome no_false

    pub others : (j k : ℕ) → IsJournalAt v.layout j k → k ≢ d → IsClean (ring_at left k)
    others = stay_clean v w'.disk its_rings.0 st.image left flying of d (none_to v s w d st is place flies.bytes flying its_head flies.flies none_flies) is.others

    low_is : (head_of (trees_on v) s w' false).cut ≡ st.numbers.low
    low_is = (sound (trees_on v) s w' stays.alone).mirror.alone s.node ∙ is.numbers.low

    answered_is : (head_of (trees_on v) s w' true).cut ≡ st.numbers.answered
    answered_is = ap (λ (h : Head (trees_on v)). h.cut) head_is

    abbrev pub says_so : Bool → Type 0
    says_so c = SaysAs (ring_at left d) (if c then landed_at st.image d flying else ring_at st.image d)

    -- where the new head counts it is the clean header
    pub last_at : (says : says_so true) → IsHeadAt says.head place (after st.log.sequence) true
    last_at says = reads_at says.head says.other place (after st.log.sequence) true says.reads
        (subst (λ h. IsHeadAt h place (after st.log.sequence) true) (some_same (sym header_is ∙ says.headed_other))
        (record { place = accepted_tells place flies.bytes flies.is.header flies.is.reads; sequence = flies.is.sequence; clean = flies.is.clean }))

    head_left : (c : Bool) (says : says_so c) → IsHeadAtEnd st says.head (head_of (trees_on v) s w' c).cut
    head_left true says = last answered_is (last_at says)
    head_left false says = old low_is (reads_at says.head says.other st.log.head st.log.sequence st.log.clean says.reads
        (subst (λ h. IsHeadAt h st.log.head st.log.sequence st.log.clean) (some_same (sym is.ring.headed ∙ says.headed_other))
        (record { place = is.ring.place; sequence = is.ring.sequence; clean = is.ring.clean })))

    module _ (stand : LoneOutcomesStand) where
      in_ending_world : Remains v s w' d st.numbers.answered left (IsHeadAtEnd st)
      in_ending_world = remains_so stand v s w' d st.numbers.answered st.image left flying its_rings.0 stays.alone is.node is.start its_rings.1 its_disk of is.journal.is is.numbers.answered (IsHeadAtEnd st)
          (head_left (of.choice 0) (of.says 0 d is.journal.is)) others

      pub remains_at_end : Remains v s w d st.numbers.answered left (IsHeadAtEnd st)
      remains_at_end = (let r = in_ending_world in record { head = r.head; number = r.number; headed = r.headed; blocks = r.blocks; is = r.is; stands = r.stands; others = r.others })

pub its_ends_stand : OutcomesAreTheMachines → LoneOutcomesStand → ItsEndsStand
its_ends_stand they_are stand v s w d st flying left is flies outcome no_false = remains_at_end v s w d st flying is flies they_are left outcome no_false stand
