-- A barrier while no header is in flight.
use Rattle.std.proofs.Common.{◌≡◌, ◌⊎◌, ℕ, suc, ◌<◌, inl, inr, Bool, true, false, List, length, Option, None, Some, refl, sym, ap, subst, ◌∙◌, arith}
use Rattle.std.specs.FinMap as table
use Rattle.std.specs.Ordering.{nat_cmp}
use Rattle.std.proofs.lemmas.Bool.{cases_eq}
use Rattle.std.proofs.lemmas.Option.{slice_get_within}
use Rattle.cluster_laws.specs.Mirror.{Head}
use Rattle.cluster_laws.specs.World.{World}
use Rattle.cluster_laws.proofs.Cells.{at-same}
use Rattle.image_machine.specs.Volumes.{Volume}
use Rattle.image_model.specs.Image.{Image}
use Rattle.image_model.proofs.Held.{none_some, some_same}
use Rattle.journal_outcomes.specs.Images.{ring_at, to_journal}
use Rattle.journal_outcomes.specs.Rings.{ChunksFly, HeaderFlies, InFlight, MayFly}
use Rattle.log_layout.specs.Journal.{Ring}
use Rattle.log_layout.specs.Chunks.{Logged}
use Rattle.log_layout.specs.Live.{live_in}
use Rattle.log_layout.specs.declared.log_header.LogHeader.{LogHeader}
use Rattle.log_rings.specs.Flights.{MayFlyTo, chunk_place}
use Rattle.log_rings.proofs.Whole.{fits_in}
use Rattle.log_rings.specs.Laid.{HasContent, IsLiveAs, IsRingOf, Laid}
use Rattle.log_tables.specs.Kept.{is_home}
use Rattle.log_tables.specs.Versions.{Way}
use Rattle.log_tables.specs.Versions.Way.{Home, Away, Flying}
use Rattle.node_journal.specs.Places.{place_on}
use Rattle.written_journals.proofs.RingsWritten.{on_inside}
use Rattle.log_values.specs.Changes.{is_flushed}
use Rattle.log_values.specs.Flushing.{FlushStep, first_place, flush_chunks, settled, settled_way}
use Rattle.log_values.specs.Flushing.FlushStep.{a_barrier, the_last}
use Rattle.log_values.specs.Homing.{Settles}
use Rattle.log_values.specs.Log.{Entry, Flush, LogValue, Stage}
use Rattle.log_values.specs.Log.Stage.{Ending, Headed}
use Rattle.log_values.specs.Sound.{IsSoundLog}
use Rattle.log_values.specs.declared.steps.LogStep.TheVariants as step
use Rattle.log_values.proofs.Going.{settling_sound, step_sound}
use Rattle.lone_machine.specs.Alone.{Begun, head_of, settles}
use Rattle.lone_machine.specs.Laws.{StaysAlone}
use Rattle.lone_machine.proofs.Logging.{settles_alone}
use Rattle.machine_outcomes.specs.Outcomes.{OutcomesAreTheMachines}
use Rattle.lone_logs.specs.Laws.{BarriersSettle, FirstBarriersSettle, StaysLogged, landed_node}
use Rattle.lone_logs.specs.States.{HasUnlogged, FliesAs, FliesToJournal, HasLandedAs, HasVersions, IsHeaded, IsLoggedNode, IsSent, NodeState, flies_home, trees_on}
use Rattle.lone_logs.specs.States.FliesAs.{ends, headed, writes}
use Rattle.lone_logs.proofs.Booking.{has_versions}
use Rattle.lone_logs.proofs.Landed.{blocks_then, disk_then, flown_there, may_settle, of, others_none, places_then, rings_then, settled_to, still_there}
use Rattle.lone_logs.proofs.Living.{live_away, off_entry}
use Rattle.lone_logs.proofs.Others.{others_clean}
use Rattle.lone_logs.proofs.Stages.{ending_headed, same_flush, writing_headed}
use Rattle.lone_logs.proofs.Staying.{live_stays, stays}
use Rattle.lone_logs.proofs.Writing.{AreSent, are_sent}
use Rattle.lone_logs.proofs.Rings.{ring_still}

-- ---- an entry that has settled

pub settled_content : (w : Way) (l : Logged) → HasContent w l → HasContent (settled_way w) l
settled_content Home l c = c
settled_content (Away bytes) l c = c
settled_content (Flying bytes) l c = tt

pub settled_live : (laid : List Laid) (b : ℕ) (o : Option Entry) → IsLiveAs laid b o → IsLiveAs laid b (settled o)
settled_live laid b None live = live
settled_live laid b (Some e) live = record {
  copy = live.copy;
  before = live.before;
  its = live.its;
  behind = live.behind;
  parts = live.parts;
  begins = live.begins;
  live = live.live;
  last = live.last;
  content = settled_content e.way live.copy live.content;
}

pub settled_rests : (o : Option Entry) → flies_home (settled o) ≡ None
settled_rests None = refl
settled_rests (Some e) = by e.way
  where
    by : (w : Way) → flies_home (Some (record e { way = settled_way w })) ≡ None
    by Home = refl
    by (Away bytes) = refl
    by (Flying bytes) = refl

pub settled_entry : (o : Option Entry) (e : Entry) → settled o ≡ Some e → (x : Entry) × (o ≡ Some x) × (settled_way x.way ≡ e.way)
settled_entry None e same = absurd (none_some same)
settled_entry (Some x) e same = (x, refl, ap (λ (y : Entry). y.way) (some_same same))

pub away_before : (w : Way) → is_home (settled_way w) ≡ false → is_home w ≡ false
away_before Home e = e
away_before (Away bytes) e = refl
away_before (Flying bytes) e = refl

away_home : (bytes : List ℕ) → Away bytes ≡ Home → ⊥
away_home bytes e = cc

module _ (they_are : OutcomesAreTheMachines) (v : Volume) (s : Begun (trees_on v)) (w : World (trees_on v)) (d : ℕ) (st : NodeState) (is : IsLoggedNode v s w d st) (left : Image)
    (landed : HasLandedAs st.image st.flying left) (unheaded : IsHeaded st.log.flush → ⊥) where
  abbrev w' : World (trees_on v)
  w' = settles (trees_on v) s w (blocks_then they_are v s w d st is left landed)

  alone : StaysAlone (trees_on v) s w w'
  alone = settles_alone (trees_on v) s w (blocks_then they_are v s w d st is left landed) is.alone (may_settle they_are v s w d st is left landed)

  one : head_of (trees_on v) s w true ≡ head_of (trees_on v) s w false
  one = is.heads.one unheaded

  either_head : (c e : Bool) → head_of (trees_on v) s w c ≡ head_of (trees_on v) s w e
  either_head true true = refl
  either_head true false = one
  either_head false true = sym one
  either_head false false = refl

  heads : (j b : ℕ) (c : Bool) → (w'.disk.heads (suc j) c).live b ≡ (w.disk.heads (suc j) ((of they_are v s w d st is left landed).choice j)).live b
  heads j b c = elim (cases_eq (suc j) s.node) [
    | inl same ↦
        ap (λ n. (w.disk.heads n c).live b) same ∙ ap (λ (h : Head (trees_on v)). h.live b) (either_head c ((of they_are v s w d st is left landed).choice j))
        ∙ sym (ap (λ n. (w.disk.heads n ((of they_are v s w d st is left landed).choice j)).live b) same)
    | inr other ↦ others_none they_are v s w d st is left landed j b c other ∙ sym (others_none they_are v s w d st is left landed j b ((of they_are v s w d st is left landed).choice j) other)
  ]

  abbrev ring : Ring
  ring = ring_at st.image d

  abbrev ring' : Ring
  ring' = ring_at left d

  abbrev was : InFlight
  was = to_journal st.image d st.flying

  there : (p : ℕ) (bytes : List ℕ) → p < ring.places → was p ≡ Some bytes → ring'.at p ≡ bytes
  there = flown_there they_are v s w d st is left landed w' alone.alone (settled_to they_are v s w d st is left landed) heads

  still : (p : ℕ) → p < ring.places → was p ≡ None → ring'.at p ≡ ring.at p
  still = still_there they_are v s w d st is left landed w' alone.alone (settled_to they_are v s w d st is left landed) heads

  -- what was in flight to the journal were blocks of a transaction
  each : (p : ℕ) → p < ring.places → (ring'.at p ≡ ring.at p) ⊎ MayFlyTo ring is.ring.head p (ring'.at p)
  each p low = by (was p) refl (is.disk.may.journals 0 d is.journal.is)
    where
      of_writes : (bytes : List ℕ) → was p ≡ Some bytes → (may : MayFly ring was) → ChunksFly ring may.head was ⊎ HeaderFlies ring may.head was → MayFlyTo ring is.ring.head p (ring'.at p)
      of_writes bytes e may (inl chunks) =
          let same : may.head ≡ is.ring.head = some_same (sym may.headed ∙ is.ring.headed) in
          subst (MayFlyTo ring is.ring.head p) (sym (there p bytes low e))
          (subst (λ (h : LogHeader). MayFlyTo ring h p bytes) same (record { inside = low; free = chunks.free p bytes low e; no_header = chunks.no_header p bytes low e }))
      of_writes bytes e may (inr header) = absurd (unheaded (is.only_headed (may, header)))

      by : (o : Option (List ℕ)) → was p ≡ o → MayFly ring was → (ring'.at p ≡ ring.at p) ⊎ MayFlyTo ring is.ring.head p (ring'.at p)
      by None e may = inl (still p low e)
      by (Some bytes) e may = inr (of_writes bytes e may may.writes)

  places' : ring'.places ≡ ring.places
  places' = places_then they_are v s w d st is left landed w' alone.alone (settled_to they_are v s w d st is left landed) heads

  size' : ring'.size ≡ ring.size
  size' = landed.size

  ring_stays : IsRingOf ring' st.log is.laid
  ring_stays = stays ring ring' st.log is.laid is.sound is.ring size' places' each

  live_still : (b : ℕ) → live_in ring' b ≡ live_in ring b
  live_still b = live_stays ring ring' st.log is.laid is.sound is.ring size' places' each b

  -- ---- with this log

  module _ (live : table.FinMap nat_cmp Entry) (flush : Option Flush) (lives : (b : ℕ) → table.get live b ≡ settled (table.get st.log.live b)) where
    abbrev log' : LogValue
    log' = record st.log { live = live; flush = flush }

    home : (b : ℕ) (e : Entry) → table.get live b ≡ Some e → e.way ≡ Home → live_in ring' b ≡ Some (left.at b)
    home b e at at_home = by (settled_entry (table.get st.log.live b) e (sym (lives b) ∙ at))
      where
        by : (x : Entry) × (table.get st.log.live b ≡ Some x) × (settled_way x.way ≡ e.way) → live_in ring' b ≡ Some (left.at b)
        by (x, old, way) = by_way x.way refl
          where
            flies : st.flying b ≡ flies_home (Some x)
            flies = is.homeward b (off_entry v s w d st is b x old) ∙ ap flies_home old

            by_way : (k : Way) → x.way ≡ k → live_in ring' b ≡ Some (left.at b)
            by_way Home e' = live_still b ∙ is.home b x old e' ∙ ap Some (sym (landed.still b (flies ∙ ap (λ k. flies_home (Some (record x { way = k }))) e')))
            by_way (Away bytes) e' = absurd (away_home bytes (ap settled_way (sym e') ∙ way ∙ at_home))
            by_way (Flying bytes) e' =
                live_still b ∙ live_away v s w d st is b x bytes old (inr e') ∙ ap Some (sym (landed.new b bytes (flies ∙ ap (λ k. flies_home (Some (record x { way = k }))) e')))

    pub settled_node : IsSoundLog log' → FliesToJournal ring' (λ p. None) log' flush → (IsHeaded flush → ⊥) → HasVersions v s w log' st.numbers flush → ((b : ℕ) → HasUnlogged log' b → HasUnlogged st.log b) → StaysLogged v s w d (landed_node st left log')
    settled_node sound flies not versions unlogged = record {
      world = w';
      now = refl;
      items = refl;
      is = record {
        alone = alone.alone;
        node = is.node;
        held = is.held;
        start = is.start;
        rings = (rings_then they_are v s w d st is left landed w' alone.alone (settled_to they_are v s w d st is left landed) heads).0;
        own = (rings_then they_are v s w d st is left landed w' alone.alone (settled_to they_are v s w d st is left landed) heads).1;
        disk = disk_then they_are v s w d st is left landed w' alone.alone (settled_to they_are v s w d st is left landed) heads;
        flights = λ b off. ap (λ f. f b) (at-same w.disk.flight s.node (λ b. None));
        apart = is.apart;
        journal = is.journal;
        sound = sound;
        laid = is.laid;
        ring = ring_still ring' st.log is.laid st.log.fresh st.log.gone flush live ring_stays (λ b. subst (IsLiveAs is.laid b) (sym (lives b)) (settled_live is.laid b (table.get st.log.live b) (is.ring.live b)));
        home = home;
        others = others_clean v s w d st left is (of they_are v s w d st is left landed);
        flies = flies;
        homeward = λ b off. sym (ap flies_home (lives b) ∙ settled_rests (table.get st.log.live b));
        elsewhere = λ j k p at other low. refl;
        only_headed = λ h. absurd (none_some h.1.flies);
        read = λ g t its at. absurd (not (g, t, its, at));
        heads = record { headed = λ h. absurd (not h); one = λ unheaded. one };
        numbers = record { answered = is.numbers.answered; low = is.numbers.low; begun = is.numbers.begun; changed = is.numbers.changed; calm = is.numbers.calm };
        may = λ b its. (of they_are v s w d st is left landed).change b (is.may b (unlogged b its));
        versions = has_versions v s w w' log' st.numbers flush is.numbers.begun.1 (λ m b less. refl) versions;
        cached = alone.cached is.cached;
        keeps = is.keeps;
        away = λ b e at off_home used. (let old = settled_entry (table.get st.log.live b) e (sym (lives b) ∙ at) in
            is.away b old.0 old.1 (away_before old.0.way (ap is_home old.2 ∙ off_home)) used);
      };
    }

  -- ---- what stands of a flush

  module _ (f : Flush) (some : st.log.flush ≡ Some f) where
    chunk_low : (k : ℕ) → k < length (flush_chunks st.log f) → chunk_place st.log k < ring.places
    chunk_low k less =
        let room = fits_in st.log f is.sound some in
        let first : first_place st.log < st.log.journal.length = (let inside : place_on st.log.journal.length st.log.head 1 < st.log.journal.length = on_inside st.log.journal.length st.log.head 1 is.sound.head (omega (arith, room)) in inside) in
        subst (λ n. chunk_place st.log k < n) (sym is.ring.places) (on_inside st.log.journal.length (first_place st.log) k first (omega (arith, less, room)))

    sent_there : (k : ℕ) (bytes : List ℕ) → k < length (flush_chunks st.log f) → IsSent ring was (chunk_place st.log k) bytes → ring'.at (chunk_place st.log k) ≡ bytes
    sent_there k bytes less (inl flies) = there (chunk_place st.log k) bytes (chunk_low k less) flies
    sent_there k bytes less (inr stands) = still (chunk_place st.log k) (chunk_low k less) stands.0 ∙ stands.1

    -- with another table of live blocks
    module _ (live : table.FinMap nat_cmp Entry) where
      stage_settled : (stage : Stage) → ((t : ℕ) → stage ≡ Headed t → ⊥) → FliesAs ring was st.log f stage → FliesAs ring' (λ p. None) (record st.log { live = live }) f stage
      stage_settled _ early (writes done sent only) =
          writes done (λ k bytes less at. inr (refl, sent_there k bytes (slice_get_within (flush_chunks st.log f) k bytes at) (sent k bytes less at))) (λ p bytes low e. absurd (none_some e))
      stage_settled _ early (ends written none) = ends (λ k bytes less at. still (chunk_place st.log k) (chunk_low k less) (none (chunk_place st.log k) (chunk_low k less)) ∙ written k bytes less at) (λ p low. refl)
      stage_settled _ early (headed tail written flies none) = absurd (early tail refl)

  flies_settled : (live : table.FinMap nat_cmp Entry) (o : Option Flush) → st.log.flush ≡ o → FliesToJournal ring was st.log o → FliesToJournal ring' (λ p. None) (record st.log { live = live }) o
  flies_settled live None same flies = λ p low. refl
  flies_settled live (Some f) same flies = stage_settled f same live f.stage (λ t e. unheaded (f, t, same, e)) flies

  pub settles_so : (new : LogValue) → Settles st.log new → StaysLogged v s w d (landed_node st left new)
  settles_so new so = subst (λ l. StaysLogged v s w d (landed_node st left l)) (sym so.same)
      (settled_node new.live st.log.flush so.settles (subst IsSoundLog so.same (settling_sound st.log new is.sound so)) (flies_settled new.live st.log.flush refl is.flies) unheaded
      (has_versions_with new.live st.log.flush is.versions) (λ b its. its))
    where
      has_versions_with : (live : table.FinMap nat_cmp Entry) (o : Option Flush) → HasVersions v s w st.log st.numbers o → HasVersions v s w (record st.log { live = live }) st.numbers o
      has_versions_with live None are = are
      has_versions_with live (Some f) are = are

pub barriers_settle : OutcomesAreTheMachines → BarriersSettle
barriers_settle they_are v s w d st new left is unheaded so landed = settles_so they_are v s w d st is left landed unheaded new so

pub first_barriers_settle : OutcomesAreTheMachines → FirstBarriersSettle
first_barriers_settle they_are v s w d st new f done bytes left is some stage wrote landed = by wrote
  where
    unheaded : IsHeaded st.log.flush → ⊥
    unheaded h = writing_headed done h.1 (sym stage ∙ ap (λ (x : Flush). x.stage) (same_flush (sym some ∙ h.2)) ∙ h.3)

    by : FlushStep st.log new f bytes step.Barrier → StaysLogged v s w d (landed_node st left new)
    by (the_last tail at same lives) = absurd (writing_headed done tail (sym stage ∙ at))
    by (a_barrier all same lives) = subst (λ l. StaysLogged v s w d (landed_node st left l)) (sym same)
        (settled_node they_are v s w d st is left landed unheaded new.live (Some (record f { stage = Ending })) lives
        (subst IsSoundLog same (step_sound st.log new f bytes step.Barrier is.sound some (a_barrier all same lives)))
        (ends (λ k x less at. sent_there they_are v s w d st is left landed unheaded f some k x less (before.sent k x less at)) (λ p low. refl))
        (λ h. ending_headed h.1 (ap (λ (x : Flush). x.stage) (same_flush h.2) ∙ h.3))
        (subst (HasVersions v s w st.log st.numbers) some is.versions) unlogged)
      where
        unlogged : (b : ℕ) → (table.contains_key st.log.fresh b ≡ true) ⊎ (table.contains_key f.versions b ≡ true) → HasUnlogged st.log b
        unlogged b (inl e) = inl e
        unlogged b (inr e) = inr (ap (λ (o : Option Flush). is_flushed o b) some ∙ e)

        before : AreSent (ring_at st.image d) (to_journal st.image d st.flying) st.log f (length (flush_chunks st.log f))
        before = are_sent (ring_at st.image d) (to_journal st.image d st.flying) st.log f (length (flush_chunks st.log f))
            (subst (FliesAs (ring_at st.image d) (to_journal st.image d st.flying) st.log f) all (subst (FliesToJournal (ring_at st.image d) (to_journal st.image d st.flying) st.log) some is.flies))
