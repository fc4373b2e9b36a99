-- A flush begins.
use Rattle.std.proofs.Common.{◌≡◌, ℕ, ◌<◌, ◌≤◌, None, Some, refl, sym, ap, subst, ◌∙◌, length, arith, ◌⊎◌, inl, inr, true, true≢false, is_some}
use Rattle.std.specs.FinMap as table
use Rattle.std.specs.Ordering.{nat_cmp}
use Rattle.std.specs.Option.{option_map}
use Rattle.cluster_laws.specs.Book.{Book}
use Rattle.cluster_laws.specs.World.{World}
use Rattle.image_machine.specs.Volumes.{Volume}
use Rattle.image_model.proofs.Held.{none_some}
use Rattle.journal_outcomes.specs.Images.{ring_at, to_journal}
use Rattle.log_values.specs.Blocks as set
use Rattle.log_values.specs.Flushing.{begun, begun_alone, flush_chunks}
use Rattle.log_values.specs.Flushing.Begins.{with_all, alone as begins_alone}
use Rattle.log_values.specs.Log.{Flush, LogValue, Version}
use Rattle.log_values.specs.Log.Stage.{Ending, Headed, Writing}
use Rattle.log_values.specs.Sound.{IsSoundLog}
use Rattle.log_values.proofs.BlocksHad.{contains-empty}
use Rattle.log_values.proofs.Going.{begins_sound}
use Rattle.log_values.proofs.Landing.{alone_takes}
use Rattle.log_rings.specs.Flights.{AreWritten}
use Rattle.lone_machine.specs.Alone.{Begun}
use Rattle.lone_machine.specs.Versions.{AreVersions, IsVersion}
use Rattle.lone_machine.proofs.Logging.{no_versions}
use Rattle.lone_logs.specs.Laws.{FlushesBegin, HeadersBegin, StaysLogged}
use Rattle.lone_logs.specs.States.{HasUnlogged, FliesAs, FliesToJournal, HasVersions, IsHeaded, IsLoggedNode, NodeState, bytes_of, trees_on}
use Rattle.lone_logs.specs.States.FliesAs.{writes, ends}
use Rattle.lone_logs.proofs.Stages.{ending_headed, no_flush, same_flush, writing_headed}
use Rattle.lone_logs.proofs.Rings.{ring_still}

-- no call leaves no version, and no block has gone
pub nothing_logged : (v : Volume) (B : Book (trees_on v)) (i lo : ℕ) → AreVersions (trees_on v) B i lo lo (bytes_of table.empty) (set.contains set.empty)
nothing_logged v B i lo b =
    subst (λ o. IsVersion (trees_on v) B i lo lo b o (set.contains set.empty b)) (sym (ap (option_map (λ (x : Version). x.bytes)) (table.get-empty nat_cmp b)))
    (subst (λ g. IsVersion (trees_on v) B i lo lo b None g) (sym (contains-empty b)) (no_versions (trees_on v) B i lo b))

module _ (v : Volume) (s : Begun (trees_on v)) (w : World (trees_on v)) (d : ℕ) (st : NodeState) (is : IsLoggedNode v s w d st) (none : st.log.flush ≡ None) where
  -- nothing is in flight to the journal
  pub idle : (p : ℕ) → p < (ring_at st.image d).places → to_journal st.image d st.flying p ≡ None
  idle = subst (FliesToJournal (ring_at st.image d) (to_journal st.image d st.flying) st.log) none is.flies

  pub unheaded : IsHeaded st.log.flush → ⊥
  unheaded h = no_flush h.0 (sym none ∙ h.2)

  pub fresh_is : AreVersions (trees_on v) w.book s.node st.numbers.low st.numbers.answered (bytes_of st.log.fresh) (set.contains st.log.gone)
  fresh_is = subst (HasVersions v s w st.log st.numbers) none is.versions

  -- with this flush, and this of what was changed, begun at this call
  module _ (fresh : table.FinMap nat_cmp Version) (gone : set.Blocks) (f : Flush) (at : ℕ) where
    abbrev with_flush : LogValue
    with_flush = record st.log { fresh = fresh; gone = gone; flush = Some f }

    pub begins_with : IsSoundLog with_flush → FliesAs (ring_at st.image d) (to_journal st.image d st.flying) with_flush f f.stage → ((t : ℕ) → f.stage ≡ Headed t → ⊥)
        → (st.numbers.low ≤ at) × (at ≤ st.numbers.answered) → HasVersions v s w with_flush (record st.numbers { begun = at }) (Some f)
        → ((b : ℕ) → HasUnlogged with_flush b → HasUnlogged st.log b) → StaysLogged v s w d (record st { log = with_flush; numbers = record st.numbers { begun = at } })
    begins_with sound flies early between versions unlogged = record {
      world = w;
      now = refl;
      items = refl;
      is = record {
        alone = is.alone;
        node = is.node;
        held = is.held;
        start = is.start;
        rings = is.rings;
        own = is.own;
        disk = is.disk;
        flights = is.flights;
        apart = is.apart;
        journal = is.journal;
        sound = sound;
        laid = is.laid;
        ring = ring_still (ring_at st.image d) st.log is.laid fresh gone (Some f) st.log.live is.ring is.ring.live;
        home = is.home;
        others = is.others;
        flies = flies;
        homeward = is.homeward;
        elsewhere = is.elsewhere;
        only_headed = λ h. absurd (unheaded (is.only_headed h));
        read = λ g t its at. absurd (early t (ap (λ (x : Flush). x.stage) (same_flush its) ∙ at));
        heads = record {
          headed = λ h. absurd (early h.1 (ap (λ (x : Flush). x.stage) (same_flush h.2) ∙ h.3));
          one = λ not. is.heads.one unheaded;
        };
        numbers = record {
          answered = is.numbers.answered;
          low = is.numbers.low;
          begun = between;
          changed = is.numbers.changed;
          calm = is.numbers.calm;
        };
        versions = versions;
        may = λ b its. is.may b (unlogged b its);
        cached = is.cached;
        keeps = is.keeps;
        away = is.away;
      };
    }

pub flushes_begin : FlushesBegin
flushes_begin v s w d st is none due room =
    begins_with v s w d st is none table.empty set.empty (record { versions = st.log.fresh; revokes = st.log.gone; stage = Writing 0 }) st.numbers.answered
    (begins_sound st.log (begun st.log) is.sound (with_all none due room))
    (writes 0 (λ k bytes low e. absurd (omega (arith, low))) (λ p bytes low e. absurd (none_some (sym (idle v s w d st is none p low) ∙ e))))
    (λ t e. writing_headed 0 t e) ((let b = is.numbers.begun in omega (arith, b.0, b.1)), omega arith)
    (fresh_is v s w d st is none, nothing_logged v w.book s.node st.numbers.answered) unlogged
  where
    unlogged : (b : ℕ) → (table.contains_key (table.empty {X = Version} {R = nat_cmp}) b ≡ true) ⊎ (table.contains_key st.log.fresh b ≡ true) → HasUnlogged st.log b
    unlogged b (inl e) = absurd (true≢false (sym e ∙ ap is_some (table.get-empty nat_cmp b)))
    unlogged b (inr e) = inl e

-- a header alone
abbrev bare : Flush
bare = record { versions = table.empty; revokes = set.empty; stage = Ending }

pub headers_begin : HeadersBegin
headers_begin v s w d st is none home some less =
    begins_with v s w d st is none st.log.fresh st.log.gone bare st.numbers.low (begins_sound st.log (begun_alone st.log) is.sound (begins_alone none home some less))
    (ends no_chunks (idle v s w d st is none))
    (λ t e. ending_headed t e) (omega arith, (let b = is.numbers.begun in omega (arith, b.0, b.1)))
    (nothing_logged v w.book s.node st.numbers.low, fresh_is v s w d st is none) unlogged
  where
    unlogged : (b : ℕ) → (table.contains_key st.log.fresh b ≡ true) ⊎ (table.contains_key (table.empty {X = Version} {R = nat_cmp}) b ≡ true) → HasUnlogged st.log b
    unlogged b (inl e) = inl e
    unlogged b (inr e) = absurd (true≢false (sym e ∙ ap is_some (table.get-empty nat_cmp b)))

    no_chunks : AreWritten (ring_at st.image d) (begun_alone st.log) bare (length (flush_chunks (begun_alone st.log) bare))
    no_chunks k bytes low e = absurd (let none = alone_takes st.log.journal.size st.log.journal.jid bare is.sound.size refl refl in omega (arith, low, none))
