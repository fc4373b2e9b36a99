-- A block of a flush is in flight to its place.
use Rattle.std.proofs.Common.{◌≡◌, ◌≢◌, ℕ, ◌<◌, ◌+◌, inl, inr, List, length, Some, refl, sym, ap, subst, ◌∙◌, arith, Option}
use Rattle.std.specs.Prelude.{slice_get, get_or}
use Rattle.std.proofs.lemmas.Bool.{cases_eq}
use Rattle.std.proofs.lemmas.Option.{slice_get-get_or, slice_get_within}
use Rattle.cluster_laws.specs.World.{World}
use Rattle.image_machine.specs.Volumes.{Volume}
use Rattle.image_model.specs.Stands.{IsJournalAt}
use Rattle.image_model.specs.Replays.{MayChange}
use Rattle.log_values.specs.Changes.{is_flushed}
use Rattle.image_model.proofs.Held.{none_some, some_same}
use Rattle.journal_outcomes.specs.Images.{ring_at, to_journal}
use Rattle.journal_outcomes.specs.Rings.{InFlight}
use Rattle.log_layout.specs.Journal.{Ring, head_in}
use Rattle.log_layout.specs.declared.log_header.LogHeader.{LogHeader}
use Rattle.log_rings.specs.Flights.{MayFlyTo, chunk_place}
use Rattle.log_rings.specs.Laws.{AreBlocksOf, FlushesFly, HasNumbers}
use Rattle.log_values.specs.Flushing.{FlushStep, at_stage, block_at, flush_chunks}
use Rattle.log_values.specs.Flushing.FlushStep.{a_block}
use Rattle.log_values.specs.Log.{Flush, LogValue}
use Rattle.log_values.specs.Log.Stage.{Writing}
use Rattle.log_values.specs.Sound.{IsSoundLog}
use Rattle.log_values.specs.declared.steps.LogStep.TheVariants as step
use Rattle.log_values.proofs.Going.{step_sound}
use Rattle.lone_machine.specs.Alone.{Begun}
use Rattle.lone_logs.specs.Laws.{BlocksAreWritten, StaysLogged}
use Rattle.lone_logs.specs.States.{HasUnlogged, FliesAs, FliesBesides, FliesToJournal, HasVersions, IsHeaded, IsLoggedNode, IsSent, NodeState, trees_on}
use Rattle.lone_logs.specs.States.FliesAs.{writes}
use Rattle.lone_logs.proofs.Flying.{OnlyBlocksFly, no_header, none_are_blocks, still_disk}
use Rattle.lone_logs.proofs.Places.{flies_here, flies_still, off_places, still_elsewhere}
use Rattle.lone_logs.proofs.Stages.{same_flush, writing_headed}
use Rattle.lone_logs.proofs.Rings.{ring_still}

-- of a flush whose blocks are being written
pub record AreSent (ring : Ring) (flying : InFlight) (log : LogValue) (f : Flush) (done : ℕ) : Type 0 where
  pub sent : (k : ℕ) (bytes : List ℕ) → k < done → slice_get (flush_chunks log f) k ≡ Some bytes → IsSent ring flying (chunk_place log k) bytes
  pub only : (p : ℕ) (bytes : List ℕ) → p < ring.places → flying p ≡ Some bytes → (k : ℕ) × (k < done) × (p ≡ chunk_place log k)

pub are_sent : (ring : Ring) (flying : InFlight) (log : LogValue) (f : Flush) (done : ℕ) → FliesAs ring flying log f (Writing done) → AreSent ring flying log f done
are_sent ring flying log f done (writes _ sent only) = record { sent = sent; only = only }

-- what is in flight of it are its blocks, each of which may be
pub blocks_alone : (ring : Ring) (flying : InFlight) (log : LogValue) (f : Flush) (done : ℕ) (head : LogHeader) → done < length (flush_chunks log f) + 1 → AreBlocksOf ring head log f
    → AreSent ring flying log f done → OnlyBlocksFly ring head flying
blocks_alone ring flying log f done head reached blocks sent p bytes low e = by (sent.only p bytes low e)
  where
    by : (k : ℕ) × (k < done) × (p ≡ chunk_place log k) → MayFlyTo ring head p bytes
    by (k, less, here) =
        let chunk : slice_get (flush_chunks log f) k ≡ Some (get_or (flush_chunks log f) k bytes) = slice_get-get_or (flush_chunks log f) k bytes (omega (arith, less, reached)) in
        subst (λ q. MayFlyTo ring head q bytes) (sym here) (elim (sent.sent k (get_or (flush_chunks log f) k bytes) less chunk) [
          | inl flies ↦ subst (MayFlyTo ring head (chunk_place log k)) (some_same (sym flies ∙ ap flying (sym here) ∙ e)) (blocks.fly k (get_or (flush_chunks log f) k bytes) chunk)
          | inr there ↦ absurd (none_some (sym there.0 ∙ ap flying (sym here) ∙ e))
        ])

module _ (fly : FlushesFly) (v : Volume) (s : Begun (trees_on v)) (w : World (trees_on v)) (d : ℕ) (st : NodeState) (f : Flush) (bytes : List ℕ) (flying : InFlight)
    (is : IsLoggedNode v s w d st) (some : st.log.flush ≡ Some f) (numbers : HasNumbers st.log f) (k : ℕ) (stage : f.stage ≡ Writing k) (chunk : slice_get (flush_chunks st.log f) k ≡ Some bytes)
    (besides : FliesBesides st.image st.flying flying (block_at st.log.journal (chunk_place st.log k)) bytes) where
  abbrev ring : Ring
  ring = ring_at st.image d

  abbrev was : InFlight
  was = to_journal st.image d st.flying

  abbrev now_flies : InFlight
  now_flies = to_journal st.image d flying

  blocks : AreBlocksOf ring is.ring.head st.log f
  blocks = fly ring st.log f is.laid is.ring.head is.sound is.ring some numbers is.ring.headed

  place_low : chunk_place st.log k < ring.places
  place_low = (blocks.fly k bytes chunk).inside

  before : AreSent ring was st.log f k
  before = are_sent ring was st.log f k (subst (FliesAs ring was st.log f) stage (subst (FliesToJournal ring was st.log) some is.flies))

  inside : k < length (flush_chunks st.log f)
  inside = slice_get_within (flush_chunks st.log f) k bytes chunk

  here : now_flies (chunk_place st.log k) ≡ Some bytes
  here = flies_here v s w d st is (chunk_place st.log k) place_low bytes flying besides

  still : (q : ℕ) → q < ring.places → q ≢ chunk_place st.log k → now_flies q ≡ was q
  still = flies_still v s w d st is (chunk_place st.log k) place_low bytes flying besides

  after : AreSent ring now_flies st.log f (k + 1)
  after = record {
    sent = λ m x less at. elim (cases_eq m k) [
      | inl same ↦ inl (ap (λ n. now_flies (chunk_place st.log n)) same ∙ here ∙ sym chunk ∙ ap (slice_get (flush_chunks st.log f)) (sym same) ∙ at)
      | inr other ↦
          let apart = blocks.apart m k (slice_get_within (flush_chunks st.log f) m x at) inside other in
          let same : now_flies (chunk_place st.log m) ≡ was (chunk_place st.log m) = still (chunk_place st.log m) (blocks.fly m x at).inside apart in
          elim (before.sent m x (omega (arith, less, other)) at) [
            | inl flies ↦ inl (same ∙ flies)
            | inr there ↦ inr (same ∙ there.0, there.1)
          ]
    ];
    only = λ p x low e. elim (cases_eq p (chunk_place st.log k)) [
      | inl same ↦ (k, omega arith, same)
      | inr other ↦ (let one = before.only p x low (sym (still p low other) ∙ e) in (one.0, omega (arith, one.1), one.2))
    ];
  }

  journals : (j m : ℕ) → IsJournalAt v.layout j m → (head : LogHeader) × (head_in (ring_at st.image m) ≡ Some head) × OnlyBlocksFly (ring_at st.image m) head (to_journal st.image m flying)
  journals j m at = elim (cases_eq m d) [
    | inl same ↦ subst (λ n. (head : LogHeader) × (head_in (ring_at st.image n) ≡ Some head) × OnlyBlocksFly (ring_at st.image n) head (to_journal st.image n flying)) (sym same)
        (is.ring.head, is.ring.headed, blocks_alone ring now_flies st.log f (k + 1) is.ring.head (omega (arith, inside)) blocks after)
    | inr other ↦
        let r = is.disk.readable j m at in (
          r.head,
          r.headed,
          none_are_blocks (ring_at st.image m) r.head (to_journal st.image m flying)
              (λ p low.
              let low' : p < v.places m = subst (λ n. p < n) (is.disk.many j m at) low in
              ap flying (is.disk.there j m p at low') ∙ still_elsewhere v s w d st is (chunk_place st.log k) place_low bytes flying besides j m p at other low'),
        )
  ]

  whole : (b : ℕ) (x : List ℕ) → flying b ≡ Some x → length x ≡ st.image.size
  whole b x e = elim (cases_eq b (block_at st.log.journal (chunk_place st.log k))) [
    | inl same ↦ ap length (some_same (sym e ∙ ap flying same ∙ besides.there)) ∙ besides.whole
    | inr other ↦ is.disk.may.whole b x (sym (besides.others b other) ∙ e)
  ]

  abbrev log' : LogValue
  log' = at_stage st.log f (Writing (k + 1))

  same_as : st.log ≡ (record st.log { flush = Some f })
  same_as = λ i. record st.log { flush = some i }

  unheaded : IsHeaded st.log.flush → ⊥
  unheaded h = writing_headed k h.1 (sym stage ∙ ap (λ (x : Flush). x.stage) (same_flush (sym some ∙ h.2)) ∙ h.3)

  may : (b : ℕ) → HasUnlogged log' b → MayChange st.image v.layout b
  may b (inl e) = is.may b (inl e)
  may b (inr e) = is.may b (inr (ap (λ (o : Option Flush). is_flushed o b) some ∙ e))

  written : IsSoundLog log' → StaysLogged v s w d (record st { log = log'; flying = flying })
  written sound = record {
    world = w;
    now = refl;
    items = refl;
    is = record {
      alone = is.alone;
      node = is.node;
      held = is.held;
      start = is.start;
      rings = is.rings;
      own = is.own;
      disk = still_disk v w.disk is.rings st.image st.flying flying is.disk (off_places v s w d st is (chunk_place st.log k) place_low bytes flying besides) journals whole;
      flights = λ b not. is.flights b not ∙ sym (off_places v s w d st is (chunk_place st.log k) place_low bytes flying besides b not);
      apart = is.apart;
      journal = is.journal;
      sound = sound;
      laid = is.laid;
      ring = ring_still ring st.log is.laid st.log.fresh st.log.gone (Some (record f { stage = Writing (k + 1) })) st.log.live is.ring is.ring.live;
      home = is.home;
      others = is.others;
      flies = writes (k + 1) after.sent after.only;
      homeward = λ b not. off_places v s w d st is (chunk_place st.log k) place_low bytes flying besides b not ∙ is.homeward b not;
      elsewhere = still_elsewhere v s w d st is (chunk_place st.log k) place_low bytes flying besides;
      only_headed = λ h. absurd (no_header v w.disk is.rings st.image st.flying flying is.disk (off_places v s w d st is (chunk_place st.log k) place_low bytes flying besides) journals whole 0 d is.journal.is h);
      read = λ g t its at. absurd (writing_headed (k + 1) t (ap (λ (x : Flush). x.stage) (same_flush its) ∙ at));
      heads = record {
        headed = λ h. absurd (writing_headed (k + 1) h.1 (ap (λ (x : Flush). x.stage) (same_flush h.2) ∙ h.3));
        one = λ not. is.heads.one unheaded;
      };
      numbers = is.numbers;
      may = may;
      versions = subst (HasVersions v s w st.log st.numbers) some is.versions;
      cached = is.cached;
      keeps = is.keeps;
      away = is.away;
    };
  }

pub blocks_are_written : FlushesFly → BlocksAreWritten
blocks_are_written fly v s w d st new f b bytes flying is some numbers wrote besides = by b wrote besides
  where
    by : (b : ℕ) → FlushStep st.log new f bytes (step.Write b) → FliesBesides st.image st.flying flying b bytes → StaysLogged v s w d (record st { log = new; flying = flying })
    by b (a_block k stage chunk same) besides =
        subst (λ l. StaysLogged v s w d (record st { log = l; flying = flying })) (sym same)
        (written fly v s w d st f bytes flying is some numbers k stage chunk besides (subst IsSoundLog same (step_sound st.log new f bytes (step.Write b) is.sound some (a_block k stage chunk same))))
