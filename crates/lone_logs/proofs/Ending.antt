-- The last barrier of a flush: it is in the journal.
use Rattle.std.proofs.Common.{◌≡◌, ◌⊎◌, ℕ, suc, ◌<◌, ◌≤◌, ◌&&◌, inl, inr, Bool, true, false, List, length, Option, None, Some, refl, sym, ap, subst, ◌∙◌, arith, true≢false}
use Rattle.std.specs.Prelude.{if◌then◌else◌, nat_lt}
use Rattle.std.specs.FinMap as table
use Rattle.std.specs.Option.{option_map}
use Rattle.std.specs.Ordering.{nat_cmp}
use Rattle.std.proofs.lemmas.Bool.{cases_eq}
use Rattle.cluster_laws.specs.Book.{Book}
use Rattle.cluster_laws.specs.Files.{Files}
use Rattle.cluster_laws.specs.Log.{Last}
use Rattle.cluster_laws.specs.Mirror.{Head}
use Rattle.cluster_laws.specs.World.{World}
use Rattle.cluster_laws.proofs.Cells.{at-other, at-same}
use Rattle.image_machine.specs.Volumes.{Volume}
use Rattle.image_model.specs.Image.{Image}
use Rattle.image_model.specs.Replays.{MayChange}
use Rattle.image_model.proofs.Held.{none_some, some_same}
use Rattle.journal_outcomes.specs.Images.{HeaderFliesTo, ring_at, to_journal}
use Rattle.journal_outcomes.specs.Rings.{ChunksFly, HeaderFlies, InFlight, MayFly}
use Rattle.log_layout.specs.Journal.{Ring}
use Rattle.log_layout.specs.Live.{live_in}
use Rattle.log_layout.specs.Transactions.{after}
use Rattle.log_rings.specs.Flights.{HasLanded, HasPut, MayHeadAt, left_live, live_with, logged_bytes}
use Rattle.log_rings.specs.Laws.{FlushesLand, HasNumbers, HeadersFly}
use Rattle.log_tables.specs.Kept.{is_home}
use Rattle.log_tables.specs.Versions.Way.{Home, Away}
use Rattle.log_values.specs.Blocks as set
use Rattle.log_values.specs.Flushing.{FlushStep, behind_tail, first_place, flush_chunks, head_place, header_bytes, left_from, live_behind, logged_over}
use Rattle.log_values.specs.Flushing.FlushStep.{a_barrier, the_last}
use Rattle.log_values.specs.Log.{Entry, Flush, LogValue, Version}
use Rattle.log_values.specs.Log.Stage.{Headed}
use Rattle.log_values.specs.Sound.{IsBehindBarrier}
use Rattle.log_values.specs.Transactions.{live_among}
use Rattle.log_values.specs.declared.steps.LogStep.TheVariants as step
use Rattle.log_values.proofs.BlocksHad.{contains-retain}
use Rattle.log_values.proofs.Going.{step_sound}
use Rattle.lone_machine.specs.Alone.{Begun, ends_header, now, settles}
use Rattle.lone_machine.specs.Laws.{StaysAlone}
use Rattle.lone_machine.specs.Versions.{AreVersions, IsVersion}
use Rattle.lone_machine.proofs.Going.{sound}
use Rattle.lone_machine.proofs.Logging.{header_ends, settles_alone}
use Rattle.machine_outcomes.specs.Outcomes.{OutcomesAreTheMachines}
use Rattle.lone_logs.specs.Laws.{LastBarriersLand, StaysLogged, landed_node}
use Rattle.lone_logs.specs.States.{HasUnlogged, FliesAs, FliesToJournal, HasLandedAs, HasVersions, IsLoggedNode, NodeState, bytes_of, flies_home, trees_on}
use Rattle.lone_logs.proofs.Booking.{versions_still}
use Rattle.lone_logs.proofs.Heading.{rests_home}
use Rattle.lone_logs.proofs.Landed.{blocks_then, disk_then, flown_there, may_settle, of, others_none, places_then, rings_then, settled_to, still_there}
use Rattle.lone_logs.proofs.Living.{off_entry}
use Rattle.lone_logs.proofs.Others.{others_clean}
use Rattle.lone_logs.proofs.Stages.{FliesHeaded, flies_headed, no_flush, writing_headed}

-- with less to be revoked the versions are the same
fewer_gone : (F : Files) (B : Book F) (i lo hi : ℕ) (versions : ℕ → Option F.Content) (gone gone' : ℕ → Bool) → ((b : ℕ) → gone b ≡ false → gone' b ≡ false)
    → AreVersions F B i lo hi versions gone → AreVersions F B i lo hi versions gone'
fewer_gone F B i lo hi versions gone gone' fewer are b = by (are b)
  where
    by : IsVersion F B i lo hi b (versions b) (gone b) → IsVersion F B i lo hi b (versions b) (gone' b)
    by (inl old) = inl (old.0, old.1, fewer b old.2)
    by (inr (l, inl free)) = inr (l, inl free)
    by (inr (l, inr used)) = inr (l, inr (used.0, used.1, fewer b used.2))

away_home : (bytes : List ℕ) → Away bytes ≡ Home → ⊥
away_home bytes e = cc

module _ (they_are : OutcomesAreTheMachines) (fly : HeadersFly) (land : FlushesLand) (v : Volume) (s : Begun (trees_on v)) (w : World (trees_on v)) (d : ℕ) (st : NodeState) (f : Flush) (left : Image)
    (is : IsLoggedNode v s w d st) (some : st.log.flush ≡ Some f) (numbers : HasNumbers st.log f) (tail : ℕ) (stage : f.stage ≡ Headed tail) (landed : HasLandedAs st.image st.flying left)
    (live : table.FinMap nat_cmp Entry) (lives : (b : ℕ) → table.get live b ≡ live_behind st.log f tail b) where
  abbrev ring : Ring
  ring = ring_at st.image d

  abbrev ring' : Ring
  ring' = ring_at left d

  abbrev was : InFlight
  was = to_journal st.image d st.flying

  abbrev hp : ℕ
  hp = head_place st.log f

  abbrev log' : LogValue
  log' = record st.log { head = head_place st.log f; tail = tail; sequence = after st.log.sequence; clean = false; gone = live_among live st.log.gone; flush = None; live = live }

  flies : FliesHeaded ring was st.log f tail
  flies = flies_headed ring was st.log f tail (subst (FliesAs ring was st.log f) stage (subst (FliesToJournal ring was st.log) some is.flies))

  its_head : MayHeadAt ring is.ring.head hp (header_bytes st.log f tail)
  its_head = fly ring st.log f is.laid tail is.ring.head is.sound is.ring some numbers (is.sound.told f tail some stage) is.ring.headed

  header_flies : HeaderFliesTo st.image d st.flying
  header_flies = by (is.disk.may.journals 0 d is.journal.is)
    where
      of_writes : (may : MayFly ring was) → ChunksFly ring may.head was ⊎ HeaderFlies ring may.head was → HeaderFliesTo st.image d st.flying
      of_writes may (inl chunks) = absurd (none_some (sym (chunks.no_header hp (header_bytes st.log f tail) its_head.inside flies.here) ∙ its_head.reads))
      of_writes may (inr header) = (may, header)

      by : MayFly ring was → HeaderFliesTo st.image d st.flying
      by may = of_writes may may.writes

  chosen : (of they_are v s w d st is left landed).choice 0 ≡ true
  chosen = (of they_are v s w d st is left landed).landed 0 d is.journal.is header_flies (λ p bytes low e. landed.new _ bytes e)

  -- ---- the machine

  abbrev w1 : World (trees_on v)
  w1 = ends_header (trees_on v) s w true

  abbrev w' : World (trees_on v)
  w' = settles (trees_on v) s w1 (blocks_then they_are v s w d st is left landed)

  ends_so : StaysAlone (trees_on v) s w w1
  ends_so = header_ends (trees_on v) s w true is.alone

  settles_so : StaysAlone (trees_on v) s w1 w'
  settles_so = settles_alone (trees_on v) s w1 (blocks_then they_are v s w d st is left landed) ends_so.alone (may_settle they_are v s w d st is left landed)

  head_is : (c : Bool) → w'.disk.heads s.node c ≡ w.disk.heads s.node true
  head_is true = ap (λ g. g true) (at-same w.disk.heads s.node _)
  head_is false = ap (λ g. g false) (at-same w.disk.heads s.node _)

  head_other : (j : ℕ) (c : Bool) → (j ≡ s.node → ⊥) → w'.disk.heads j c ≡ w.disk.heads j c
  head_other j c other = ap (λ g. g c) (at-other w.disk.heads s.node _ j other)

  heads : (j b : ℕ) (c : Bool) → (w'.disk.heads (suc j) c).live b ≡ (w.disk.heads (suc j) ((of they_are v s w d st is left landed).choice j)).live b
  heads j b c = elim (cases_eq (suc j) s.node) [
    | inl same ↦
        let first : j ≡ 0 = (let n = is.node in omega (arith, same, n)) in
        let counts : (of they_are v s w d st is left landed).choice j ≡ true = ap (of they_are v s w d st is left landed).choice first ∙ chosen in
        ap (λ n. (w'.disk.heads n c).live b) same ∙ ap (λ (h : Head (trees_on v)). h.live b) (head_is c) ∙ (λ i. (w.disk.heads (sym same i) (sym counts i)).live b)
    | inr other ↦
        ap (λ (h : Head (trees_on v)). h.live b) (head_other (suc j) c other) ∙ others_none they_are v s w d st is left landed j b c other
        ∙ sym (others_none they_are v s w d st is left landed j b ((of they_are v s w d st is left landed).choice j) other)
  ]

  -- ---- the journal

  put : HasPut ring ring' hp (header_bytes st.log f tail)
  put = record {
    size = landed.size;
    places = places_then they_are v s w d st is left landed w' settles_so.alone (settled_to they_are v s w d st is left landed) heads;
    there = flown_there they_are v s w d st is left landed w' settles_so.alone (settled_to they_are v s w d st is left landed) heads hp (header_bytes st.log f tail) its_head.inside flies.here;
    others = λ p low other. still_there they_are v s w d st is left landed w' settles_so.alone (settled_to they_are v s w d st is left landed) heads p low (flies.alone p low other);
  }

  last : (bytes : List ℕ) → FlushStep st.log log' f bytes step.Barrier
  last bytes = the_last tail stage refl lives

  lands : HasLanded ring ring' st.log log' f tail
  lands = land ring ring' st.log log' f is.laid tail (header_bytes st.log f tail) is.sound is.ring some numbers stage flies.written put (last (header_bytes st.log f tail))

  -- ---- what is live then: what the flush logs, or what was

  pub data IsBehind (b : ℕ) (e : Entry) : Type 0 where
    logged : (x : Version) → table.get f.versions b ≡ Some x → e.way ≡ Away x.bytes → IsBehind b e
    was_live : table.get st.log.live b ≡ Some e → live_with ring st.log f tail b ≡ live_in ring b → IsBehind b e

  behind_is : (b : ℕ) (e : Entry) → table.get live b ≡ Some e → IsBehind b e
  behind_is b e at = by (table.get f.versions b) refl (set.contains f.revokes b) refl (table.get st.log.live b) refl (sym (lives b) ∙ at)
    where
      bytes_so : Option Version → Bool → Option Entry → Option (List ℕ)
      bytes_so o c x = logged_bytes o (if c then None else left_live (left_from st.log tail x) (live_in ring b))

      entry_so : Option Version → Bool → Option Entry → Option Entry
      entry_so o c x = logged_over o (first_place st.log) (if c then None else left_from st.log tail x)

      left_or : (x : Entry) → table.get f.versions b ≡ None → set.contains f.revokes b ≡ false → table.get st.log.live b ≡ Some x → (t : Bool) → nat_lt (behind_tail st.log x.first) (behind_tail st.log tail) ≡ t
          → (if t then None else Some x) ≡ Some e → IsBehind b e
      left_or x none kept old true less same = absurd (none_some same)
      left_or x none kept old false less same = was_live (old ∙ same)
          ((λ i. bytes_so (none i) (kept i) (old i)) ∙ ap (λ t. left_live (if t then None else Some x) (live_in ring b)) less)

      by : (o : Option Version) → table.get f.versions b ≡ o → (c : Bool) → set.contains f.revokes b ≡ c → (x : Option Entry) → table.get st.log.live b ≡ x → live_behind st.log f tail b ≡ Some e → IsBehind b e
      by (Some x) g c h y k same = logged x g (sym (ap (λ (z : Entry). z.way) (some_same (sym (ap (λ o. entry_so o (set.contains f.revokes b) (table.get st.log.live b)) g) ∙ same))))
      by None g true h y k same = absurd (none_some (sym (λ i. entry_so (g i) (h i) (table.get st.log.live b)) ∙ same))
      by None g false h None k same = absurd (none_some (sym (λ i. entry_so (g i) (h i) (k i)) ∙ same))
      by None g false h (Some y) k same = left_or y g h k (nat_lt (behind_tail st.log y.first) (behind_tail st.log tail)) refl (sym (λ i. entry_so (g i) (h i) (k i)) ∙ same)

  rests : (b : ℕ) (e : Entry) → table.get st.log.live b ≡ Some e → flies_home (Some e) ≡ None
  rests b e at = rests_home e (is.sound.rests f b e some (subst IsBehindBarrier (sym stage) tt) at)

  home : (b : ℕ) (e : Entry) → table.get live b ≡ Some e → e.way ≡ Home → live_in ring' b ≡ Some (left.at b)
  home b e at there = by (behind_is b e at)
    where
      by : IsBehind b e → live_in ring' b ≡ Some (left.at b)
      by (logged x g way) = absurd (away_home x.bytes (sym way ∙ there))
      by (was_live old same) =
          lands.live b ∙ same ∙ is.home b e old there
          ∙ ap Some (sym (landed.still b (is.homeward b (off_entry v s w d st is b e old) ∙ ap flies_home old ∙ rests b e old)))

  none_homeward : (b : ℕ) → None ≡ flies_home (table.get live b)
  none_homeward b = by (table.get live b) refl
    where
      by_entry : (e : Entry) → IsBehind b e → flies_home (Some e) ≡ None
      by_entry e (logged x g way) = ap (λ k. flies_home (Some (record e { way = k }))) way
      by_entry e (was_live old same) = rests b e old

      by : (o : Option Entry) → table.get live b ≡ o → None ≡ flies_home o
      by None e = refl
      by (Some x) e = sym (by_entry x (behind_is b x e))

  -- ---- what isn't home is cached

  its_versions : HasVersions v s w st.log st.numbers (Some f)
  its_versions = subst (HasVersions v s w st.log st.numbers) some is.versions

  version_cached : (b : ℕ) (x : Version) → table.get f.versions b ≡ Some x → (((now (trees_on v) w b).place).free ≡ true → ⊥) → w.book.cache s.node b ≡ Some (now (trees_on v) w b)
  version_cached b x g used = by (its_versions.0 b)
    where
      logged_so : bytes_of f.versions b ≡ Some x.bytes
      logged_so = ap (option_map (λ (y : Version). y.bytes)) g

      by_last : (l : Last (trees_on v) w.book s.node st.numbers.low st.numbers.begun b) → w.book.cache s.node b ≡ Some (now (trees_on v) w b)
      by_last l =
          let above : w.book.low s.node ≤ l.call = (let a = l.above in let e = is.numbers.low in omega (arith, a, e)) in
          let below : l.call < w.book.answered s.node = (let a = l.below in let b' = is.numbers.begun.1 in let e = is.numbers.answered in omega (arith, a, b', e)) in
          let own : w.book.owner b ≡ Some s.node = ((sound (trees_on v) s w is.alone).whole.logged s.node l.call above below).touched b l.cell l.changes in
          elim (is.cached b own used) [
            | inl kept ↦ kept
            | inr at_home ↦ absurd (none_some (sym (at_home.untouched l.call above below) ∙ l.changes))
          ]

      by : IsVersion (trees_on v) w.book s.node st.numbers.low st.numbers.begun b (bytes_of f.versions b) (set.contains f.revokes b) → w.book.cache s.node b ≡ Some (now (trees_on v) w b)
      by (inl old) = absurd (none_some (sym old.1 ∙ logged_so))
      by (inr (l, inl free)) = absurd (none_some (sym free.1 ∙ logged_so))
      by (inr (l, inr kept)) = by_last l

  away : (b : ℕ) (e : Entry) → table.get live b ≡ Some e → is_home e.way ≡ false → (((now (trees_on v) w b).place).free ≡ true → ⊥) → w.book.cache s.node b ≡ Some (now (trees_on v) w b)
  away b e at off_home used = by (behind_is b e at)
    where
      by : IsBehind b e → w.book.cache s.node b ≡ Some (now (trees_on v) w b)
      by (logged x g way) = version_cached b x g used
      by (was_live old same) = is.away b e old off_home used

  fewer : (b : ℕ) → set.contains st.log.gone b ≡ false → set.contains (live_among live st.log.gone) b ≡ false
  fewer b none = contains-retain st.log.gone (table.contains_key live) b ∙ ap (λ t. t && table.contains_key live b) none

  may : (b : ℕ) → HasUnlogged log' b → MayChange left v.layout b
  may b (inl e) = (of they_are v s w d st is left landed).change b (is.may b (inl e))
  may b (inr e) = absurd (true≢false (sym e))

  pub landed_so : StaysLogged v s w d (record (landed_node st left log') { numbers = record st.numbers { low = st.numbers.begun } })
  landed_so = record {
    world = w';
    now = refl;
    items = refl;
    is = record {
      alone = settles_so.alone;
      node = is.node;
      held = is.held;
      start = is.start;
      rings = (rings_then they_are v s w d st is left landed w' settles_so.alone (settled_to they_are v s w d st is left landed) heads).0;
      own = (rings_then they_are v s w d st is left landed w' settles_so.alone (settled_to they_are v s w d st is left landed) heads).1;
      disk = disk_then they_are v s w d st is left landed w' settles_so.alone (settled_to they_are v s w d st is left landed) heads;
      flights = λ b off. ap (λ g. g b) (at-same w.disk.flight s.node (λ c. None));
      apart = is.apart;
      journal = is.journal;
      sound = step_sound st.log log' f (header_bytes st.log f tail) step.Barrier is.sound some (last (header_bytes st.log f tail));
      laid = lands.laid;
      ring = lands.is;
      home = home;
      others = others_clean v s w d st left is (of they_are v s w d st is left landed);
      flies = λ p low. refl;
      homeward = λ b off. none_homeward b;
      elsewhere = λ j k p at other low. refl;
      only_headed = λ h. absurd (none_some h.1.flies);
      read = λ g t its at. absurd (no_flush g its);
      heads = record { headed = λ h. absurd (no_flush h.0 h.2); one = λ not. head_is true ∙ sym (head_is false) };
      numbers = record {
        answered = is.numbers.answered;
        low = at-same w.book.low s.node _ ∙ is.heads.headed (f, tail, some, stage);
        begun = (omega arith, is.numbers.begun.1);
        changed = is.numbers.changed;
        calm = is.numbers.calm;
      };
      may = may;
      versions = versions_still (trees_on v) w.book w'.book s.node st.numbers.begun st.numbers.answered (λ m b less. refl) (bytes_of st.log.fresh) (set.contains (live_among live st.log.gone))
          (fewer_gone (trees_on v) w.book s.node st.numbers.begun st.numbers.answered (bytes_of st.log.fresh) (set.contains st.log.gone) (set.contains (live_among live st.log.gone)) fewer its_versions.1);
      cached = settles_so.cached (ends_so.cached is.cached);
      keeps = is.keeps;
      away = away;
    };
  }

pub last_barriers_land : OutcomesAreTheMachines → HeadersFly → FlushesLand → LastBarriersLand
last_barriers_land they_are fly land v s w d st new f tail bytes left is some numbers stage wrote landed = by wrote
  where
    by : FlushStep st.log new f bytes step.Barrier → StaysLogged v s w d (record (landed_node st left new) { numbers = record st.numbers { low = st.numbers.begun } })
    by (a_barrier all same lives) = absurd (writing_headed (length (flush_chunks st.log f)) tail (sym all ∙ stage))
    by (the_last tail' at same lives) = subst (λ l. StaysLogged v s w d (record (landed_node st left l) { numbers = record st.numbers { low = st.numbers.begun } })) (sym same)
        (landed_so they_are fly land v s w d st f left is some numbers tail' at landed new.live lives)
