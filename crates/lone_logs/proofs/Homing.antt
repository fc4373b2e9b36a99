-- A live block of a node is on its way home.
use Rattle.std.proofs.Common.{◌≡◌, ◌⊎◌, ℕ, ◌<◌, inl, inr, Bool, true, false, List, length, Option, None, Some, refl, sym, ap, subst, ◌∙◌}
use Rattle.std.specs.FinMap as table
use Rattle.std.specs.Ordering.{nat_cmp}
use Rattle.std.proofs.lemmas.Bool.{cases_eq}
use Rattle.cluster_laws.specs.Book.{at}
use Rattle.cluster_laws.specs.Mirror.{Head}
use Rattle.cluster_laws.specs.Rings.{Rings}
use Rattle.cluster_laws.specs.World.{World}
use Rattle.cluster_laws.proofs.Cells.{at-other, at-same}
use Rattle.gfs2_layout.specs.Inode.{content_block}
use Rattle.image_disks.specs.Disks.{IsDiskOf}
use Rattle.image_machine.specs.Volumes.{IsPlace, Volume}
use Rattle.image_model.specs.Claims.{every}
use Rattle.image_model.specs.Stands.{IsJournalAt}
use Rattle.image_model.proofs.Held.{none_some, some_same}
use Rattle.journal_outcomes.specs.Images.{HeaderFliesTo, IsPlaceIn, PutsHome, ring_at, to_journal}
use Rattle.journal_outcomes.specs.Rings.{InFlight}
use Rattle.log_layout.specs.Journal.{Ring}
use Rattle.log_layout.specs.Live.{live_in}
use Rattle.log_rings.specs.Laid.{HasContent, IsEntryOf, IsLiveAs}
use Rattle.log_tables.specs.Kept.{is_home}
use Rattle.log_tables.specs.Versions.Way.{Home, Away, Flying}
use Rattle.log_tables.proofs.Counting.{apart, at_key}
use Rattle.log_values.specs.Homing.{HomeAnswer}
use Rattle.log_values.specs.Homing.HomeAnswer.{goes_home}
use Rattle.log_values.specs.Log.{Entry, Flush, LogValue}
use Rattle.log_values.specs.Sound.{IsSoundLog}
use Rattle.log_values.specs.declared.steps.LogStep.TheVariants as step
use Rattle.log_values.proofs.Homing.{homing_sound}
use Rattle.lone_machine.specs.Alone.{Begun, head_of, now, writes_home}
use Rattle.lone_machine.specs.Laws.{AreOwnRings, StaysAlone}
use Rattle.lone_machine.proofs.Logging.{writes_alone}
use Rattle.lone_machine.proofs.Remaining.{rings_alone}
use Rattle.lone_logs.specs.Laws.{BlocksGoHome, StaysLogged}
use Rattle.lone_logs.specs.States.{FliesBesides, FliesToJournal, HasVersions, IsLoggedNode, NodeState, Numbers, flies_home, trees_on}
use Rattle.lone_logs.proofs.Beginning.{idle, unheaded}
use Rattle.lone_logs.proofs.Booking.{has_versions}
use Rattle.lone_logs.proofs.Flying.{blocks_may_fly, none_are_blocks}
use Rattle.lone_logs.proofs.Living.{entry_at, live_away, live_head, off_entry}
use Rattle.lone_logs.proofs.Places.{none_elsewhere}
use Rattle.lone_logs.proofs.Rings.{ring_still}

flying_home : (bytes : List ℕ) → Flying bytes ≡ Home → ⊥
flying_home bytes e = cc

versions_with : (v : Volume) (s : Begun (trees_on v)) (w : World (trees_on v)) (log : LogValue) (live : table.FinMap nat_cmp Entry) (n : Numbers) (o : Option Flush)
    → HasVersions v s w log n o → HasVersions v s w (record log { live = live }) n o
versions_with v s w log live n None are = are
versions_with v s w log live n (Some f) are = are

module _ (v : Volume) (s : Begun (trees_on v)) (w : World (trees_on v)) (d : ℕ) (st : NodeState) (b : ℕ) (bytes : List ℕ) (flying : InFlight) (is : IsLoggedNode v s w d st) (none : st.log.flush ≡ None)
    (e : Entry) (old_live : table.get st.log.live b ≡ Some e) (way : e.way ≡ Away bytes) (besides : FliesBesides st.image st.flying flying b bytes) where
  abbrev w' : World (trees_on v)
  w' = writes_home (trees_on v) s w b bytes

  abbrev sent : Entry
  sent = record e { way = Flying bytes }

  abbrev log' : LogValue
  log' = record st.log { live = table.insert st.log.live b sent }

  abbrev ring : Ring
  ring = ring_at st.image d

  off : IsPlace v b → ⊥
  off = off_entry v s w d st is b e old_live

  lives : live_in ring b ≡ Some bytes
  lives = live_away v s w d st is b e bytes old_live (inl way)

  not_home : is_home e.way ≡ false
  not_home = ap is_home way

  both : (c : Bool) → (head_of (trees_on v) s w c).live b ≡ Some bytes
  both false = live_head v s w d st is b ∙ lives
  both true = ap (λ (h : Head (trees_on v)). h.live b) (is.heads.one (unheaded v s w d st is none)) ∙ live_head v s w d st is b ∙ lives

  stays : StaysAlone (trees_on v) s w w'
  stays = writes_alone (trees_on v) s w b bytes is.alone both (λ used. is.away b e old_live not_home used)

  -- ---- what is in flight

  flight_is : (c : ℕ) → (IsPlace v c → ⊥) → w'.disk.flight s.node c ≡ flying c
  flight_is c not = ap (λ g. g c) (at-same w.disk.flight s.node (at (w.disk.flight s.node) b (Some bytes))) ∙ elim (cases_eq c b) [
    | inl same ↦ ap (at (w.disk.flight s.node) b (Some bytes)) same ∙ at-same (w.disk.flight s.node) b (Some bytes) ∙ sym (ap flying same ∙ besides.there)
    | inr other ↦ at-other (w.disk.flight s.node) b (Some bytes) c other ∙ is.flights c not ∙ sym (besides.others c other)
  ]

  none_flies : (j k p : ℕ) → IsJournalAt v.layout j k → p < (ring_at st.image k).places → to_journal st.image k flying p ≡ None
  none_flies j k p listed low = besides.others (content_block (every st.image k) p) (λ same. off (record { journal = j; dinode = k; place = p; at = listed; low = low'; is = sym (is.disk.there j k p listed low') ∙ same })) ∙ before
    where
      low' : p < v.places k
      low' = subst (λ n. p < n) (is.disk.many j k listed) low

      before : to_journal st.image k st.flying p ≡ None
      before = elim (cases_eq k d) [
        | inl same ↦ subst (λ n. p < (ring_at st.image n).places → to_journal st.image n st.flying p ≡ None) (sym same) (idle v s w d st is none p) low
        | inr other ↦ none_elsewhere v s w d st is j k p listed other low
      ]

  no_header : (j k : ℕ) → IsJournalAt v.layout j k → HeaderFliesTo st.image k flying → ⊥
  no_header j k listed flies = none_some (sym (none_flies j k flies.1.place listed flies.1.inside) ∙ flies.1.flies)

  -- ---- the machine's disk

  rings' : (rings : Rings (trees_on v) w'.disk) × AreOwnRings (trees_on v) w' rings
  rings' = rings_alone (trees_on v) s w' 0 stays.alone is.node

  same_rings : (j c : ℕ) (k : Bool) → rings'.0.live j k c ≡ is.rings.live j k c
  same_rings j c k = rings'.1.live j c k ∙ sym (is.own.live j c k)

  others : (c : ℕ) (x : List ℕ) → flying c ≡ Some x → IsPlaceIn st.image v.layout c ⊎ PutsHome st.image v.layout flying c x
  others c x f = elim (cases_eq c b) [
    | inl same ↦ inr (record {
      journal = 0;
      dinode = d;
      at = is.journal.is;
      live = ap (live_in ring) same ∙ lives ∙ sym (ap flying same ∙ besides.there) ∙ f;
      still_live = λ flies. absurd (no_header 0 d is.journal.is flies);
    })
    | inr other ↦ elim (is.disk.may.others c x (sym (besides.others c other) ∙ f)) [
      | inl place ↦ inl place
      | inr home ↦ inr (record { journal = home.journal; dinode = home.dinode; at = home.at; live = home.live; still_live = λ flies. absurd (no_header home.journal home.dinode home.at flies) })
    ]
  ]

  whole : (c : ℕ) (x : List ℕ) → flying c ≡ Some x → length x ≡ st.image.size
  whole c x f = elim (cases_eq c b) [
    | inl same ↦ ap length (some_same (sym f ∙ ap flying same ∙ besides.there)) ∙ besides.whole
    | inr other ↦ is.disk.may.whole c x (sym (besides.others c other) ∙ f)
  ]

  disk' : IsDiskOf v w'.disk rings'.0 st.image flying
  disk' = record {
    has = is.disk.has;
    journals = is.disk.journals;
    many = is.disk.many;
    there = is.disk.there;
    readable = is.disk.readable;
    may = record {
      journals = λ j k listed. (let r = is.disk.readable j k listed in
          blocks_may_fly (ring_at st.image k) r.head (to_journal st.image k flying) r.headed (none_are_blocks (ring_at st.image k) r.head (to_journal st.image k flying) (λ p low. none_flies j k p listed low)));
      readable = λ j k listed flies. absurd (no_header j k listed flies);
      others = others;
      whole = whole;
    };
    blocks = is.disk.blocks;
    flights = λ c x not f. (s.node, flight_is c not ∙ f);
    old = λ j k c listed. same_rings j c false ∙ is.disk.old j k c listed;
    new = λ j k c listed flies. absurd (no_header j k listed flies);
    none = λ j c k not. same_rings j c k ∙ is.disk.none j c k not;
    inside = λ j c k x f. is.disk.inside j c k x (sym (same_rings j c k) ∙ f);
    whole = λ j c k x f. is.disk.whole j c k x (sym (same_rings j c k) ∙ f);
  }

  -- ---- the log

  here : table.get log'.live b ≡ Some sent
  here = at_key st.log.live b sent

  there : (c : ℕ) → (c ≡ b → ⊥) → table.get log'.live c ≡ table.get st.log.live c
  there c other = apart st.log.live b sent c other

  live_as : (c : ℕ) → IsLiveAs is.laid c (table.get log'.live c)
  live_as c = elim (cases_eq c b) [
    | inl same ↦ subst (λ n. IsLiveAs is.laid n (table.get log'.live n)) (sym same) (subst (IsLiveAs is.laid b) (sym here) its)
    | inr other ↦ subst (IsLiveAs is.laid c) (sym (there c other)) (is.ring.live c)
  ]
    where
      its : IsEntryOf is.laid b sent
      its = (let entry = entry_at v s w d st is b e old_live in record {
        copy = entry.copy;
        before = entry.before;
        its = entry.its;
        behind = entry.behind;
        parts = entry.parts;
        begins = entry.begins;
        live = entry.live;
        last = entry.last;
        content = subst (λ k. HasContent k entry.copy) way entry.content;
      })

  -- a block's entry is the one that was, or this one
  its_entry : (c : ℕ) (x : Entry) → table.get log'.live c ≡ Some x → ((c ≡ b) × (sent ≡ x)) ⊎ ((c ≡ b → ⊥) × (table.get st.log.live c ≡ Some x))
  its_entry c x f = elim (cases_eq c b) [
    | inl same ↦ inl (same, some_same (sym here ∙ ap (table.get log'.live) (sym same) ∙ f))
    | inr other ↦ inr (other, sym (there c other) ∙ f)
  ]

  pub homeward_bound : IsSoundLog log' → StaysLogged v s w d (record st { log = log'; flying = flying })
  homeward_bound sound = record {
    world = w';
    now = refl;
    items = refl;
    is = record {
      alone = stays.alone;
      node = is.node;
      held = is.held;
      start = is.start;
      rings = rings'.0;
      own = rings'.1;
      disk = disk';
      flights = flight_is;
      apart = is.apart;
      journal = is.journal;
      sound = sound;
      laid = is.laid;
      ring = ring_still ring st.log is.laid st.log.fresh st.log.gone st.log.flush log'.live is.ring live_as;
      home = λ c x f at_home. elim (its_entry c x f) [
        | inl it ↦ absurd (flying_home bytes (ap (λ (y : Entry). y.way) it.1 ∙ at_home))
        | inr old ↦ is.home c x old.1 at_home
      ];
      others = is.others;
      flies = subst (FliesToJournal ring (to_journal st.image d flying) log') (sym none) (λ p low. none_flies 0 d p is.journal.is low);
      homeward = λ c not. elim (cases_eq c b) [
        | inl same ↦ ap flying same ∙ besides.there ∙ sym (ap (λ n. flies_home (table.get log'.live n)) same ∙ ap flies_home here)
        | inr other ↦ besides.others c other ∙ is.homeward c not ∙ sym (ap flies_home (there c other))
      ];
      elsewhere = λ j k p listed other low.
          besides.others (v.place k p) (λ same. off (record { journal = j; dinode = k; place = p; at = listed; low = low; is = same })) ∙ is.elsewhere j k p listed other low;
      only_headed = λ h. absurd (no_header 0 d is.journal.is h);
      read = is.read;
      heads = record { headed = is.heads.headed; one = is.heads.one };
      numbers = record { answered = is.numbers.answered; low = is.numbers.low; begun = is.numbers.begun; changed = is.numbers.changed; calm = is.numbers.calm };
      may = is.may;
      versions = has_versions v s w w' log' st.numbers st.log.flush is.numbers.begun.1 (λ m c less. refl) (versions_with v s w st.log (table.insert st.log.live b sent) st.numbers st.log.flush is.versions);
      cached = stays.cached is.cached;
      keeps = is.keeps;
      away = λ c x f not_there used. elim (its_entry c x f) [
        | inl it ↦ subst (λ n. (((now (trees_on v) w n).place).free ≡ true → ⊥) → w.book.cache s.node n ≡ Some (now (trees_on v) w n)) (sym it.0) (is.away b e old_live not_home) used
        | inr old ↦ is.away c x old.1 not_there used
      ];
    };
  }

pub blocks_go_home : BlocksGoHome
blocks_go_home v s w d st new lock b bytes flying is answer besides = by b answer besides
  where
    by : (b : ℕ) → HomeAnswer st.log new lock bytes (Some (step.Write b)) → FliesBesides st.image st.flying flying b bytes → StaysLogged v s w d (record st { log = new; flying = flying })
    by b (goes_home _ away none least same) besides = subst (λ l. StaysLogged v s w d (record st { log = l; flying = flying })) (sym same)
        (homeward_bound v s w d st b bytes flying is none away.entry away.live away.away besides
        (subst IsSoundLog same (homing_sound st.log new lock bytes (Some (step.Write b)) is.sound (goes_home b away none least same))))
