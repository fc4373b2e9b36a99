-- The node behind the write of a header.
use Rattle.std.proofs.Common.{◌≡◌, ◌⊎◌, ℕ, ◌<◌, inl, inr, Bool, true, false, List, [], length, Option, None, Some, refl, sym, ap, subst, ◌∙◌, is_some}
use Rattle.std.specs.Prelude.{if◌then◌else◌}
use Rattle.std.specs.FinMap as table
use Rattle.cluster_laws.specs.Mirror.{Head}
use Rattle.cluster_laws.specs.Rings.{Rings}
use Rattle.cluster_laws.specs.World.{World}
use Rattle.image_disks.specs.Disks.{IsDiskOf}
use Rattle.image_machine.specs.Volumes.{IsPlace, Volume}
use Rattle.image_model.specs.Replays.{MayChange}
use Rattle.image_model.proofs.Held.{none_some, some_same}
use Rattle.journal_outcomes.specs.Images.{landed_at, ring_at, to_journal}
use Rattle.journal_outcomes.specs.Rings.{InFlight}
use Rattle.log_layout.specs.Journal.{Ring}
use Rattle.log_layout.specs.Transactions.{after}
use Rattle.log_layout.specs.Live.{live_in}
use Rattle.log_rings.specs.Flights.{HasLanded, MayHeadAt, left_live, live_with, logged_bytes}
use Rattle.log_rings.specs.Laid.{IsRingOf}
use Rattle.log_rings.specs.Laws.{FlushesLand, HasNumbers, HeadersFly}
use Rattle.log_values.specs.Blocks as set
use Rattle.log_values.specs.Changes.{is_flushed}
use Rattle.log_values.specs.Flushing.{FlushStep, IsTail, at_stage, block_at, head_place, header_bytes, left_from, place_of}
use Rattle.log_values.specs.Flushing.FlushStep.{a_header, the_last}
use Rattle.log_values.specs.Log.{Entry, Flush, LogValue, Version}
use Rattle.log_values.specs.Log.Stage.{Ending, Headed}
use Rattle.log_values.specs.Sound.{IsSoundLog}
use Rattle.log_values.specs.Transactions.{flushed_as, live_among}
use Rattle.node_journal.specs.Written.{IsHeaderRead}
use Rattle.log_values.specs.declared.steps.LogStep.TheVariants as step
use Rattle.log_values.proofs.Going.{step_sound}
use Rattle.lone_machine.specs.Alone.{Begun, begins_header}
use Rattle.lone_machine.specs.Laws.{AreOwnRings, StaysAlone}
use Rattle.lone_logs.specs.Laws.{HeadersAreWritten, StaysLogged}
use Rattle.lone_logs.specs.States.{HasUnlogged, FliesBesides, HasVersions, IsLoggedNode, NodeState, trees_on}
use Rattle.lone_logs.specs.States.FliesAs.{headed}
use Rattle.lone_logs.proofs.Booking.{has_versions}
use Rattle.lone_logs.proofs.Heading.{begins, chunks_stand, new_head, none_flies, none_homeward, tail_back}
use Rattle.lone_logs.proofs.Living.{changes_at}
use Rattle.lone_logs.proofs.Headers.{disk', head_new, here, new_ring, none_else, none_elsewhere, off, rings'}
use Rattle.lone_logs.proofs.Tables.{live_table}
use Rattle.lone_logs.proofs.Rings.{ring_still}
use Rattle.lone_logs.proofs.Stages.{headed_tells, same_flush}

module _ (fly : HeadersFly) (land : FlushesLand) (v : Volume) (s : Begun (trees_on v)) (w : World (trees_on v)) (d : ℕ) (st : NodeState) (f : Flush) (flying : InFlight) (is : IsLoggedNode v s w d st)
    (some : st.log.flush ≡ Some f) (tail : ℕ) (stage : f.stage ≡ Ending) (tells : IsTail st.log f tail) (numbers : HasNumbers st.log f)
    (besides : FliesBesides st.image st.flying flying (block_at st.log.journal (head_place st.log f)) (header_bytes st.log f tail))
    (sound : IsSoundLog (at_stage st.log f (Headed tail))) where
  abbrev ring : Ring
  ring = ring_at st.image d

  abbrev hp : ℕ
  hp = head_place st.log f

  abbrev log' : LogValue
  log' = at_stage st.log f (Headed tail)

  abbrev f' : Flush
  f' = record f { stage = Headed tail }

  abbrev w' : World (trees_on v)
  w' = begins_header (trees_on v) s w (new_head v s w d st f is some tail stage tells)

  stays : StaysAlone (trees_on v) s w w'
  stays = begins v s w d st f is some tail stage tells

  its_head : MayHeadAt ring is.ring.head hp (header_bytes st.log f tail)
  its_head = fly ring st.log f is.laid tail is.ring.head is.sound is.ring some numbers tells is.ring.headed

  idle : (p : ℕ) → p < ring.places → to_journal st.image d st.flying p ≡ None
  idle = none_flies v s w d st f is some tail stage tells

  still : (b : ℕ) → (IsPlace v b → ⊥) → st.flying b ≡ None
  still = none_homeward v s w d st f is some tail stage tells

  -- what the flush logs may be changed by a replay
  may : (c : ℕ) → table.contains_key f.versions c ≡ true → MayChange st.image v.layout c
  may c e = is.may c (inr (ap (λ (o : Option Flush). is_flushed o c) some ∙ e))

  -- ---- the journal with the header in its place

  ring_of : IsRingOf ring log' is.laid
  ring_of = ring_still ring st.log is.laid st.log.fresh st.log.gone (Some f') st.log.live is.ring is.ring.live

  abbrev behind : LogValue
  behind = record log' {
    head = head_place log' f';
    tail = tail;
    sequence = after log'.sequence;
    clean = false;
    gone = live_among (live_table log' f' tail).0 log'.gone;
    flush = None;
    live = (live_table log' f' tail).0;
  }

  lands : HasLanded ring (landed_at st.image d flying) log' behind f' tail
  lands = land ring (landed_at st.image d flying) log' behind f' is.laid tail [] sound ring_of refl
      (record { numbers = numbers.numbers; read = λ t told. numbers.read t (tail_back st.log f (Headed tail) t told); sequence = numbers.sequence }) refl
      (chunks_stand v s w d st f is some tail stage tells) (new_ring v s w d st is hp (header_bytes st.log f tail) flying its_head besides idle) (the_last tail refl refl (live_table log' f' tail).1)

  -- ---- the machine's disk

  -- what it makes live is what the flush logs, or was live
  made_live : (b : ℕ) (bytes : List ℕ) → live_with ring st.log f tail b ≡ Some bytes
      → ((x : Version) × (table.get f.versions b ≡ Some x) × (x.bytes ≡ bytes)) ⊎ (live_in ring b ≡ Some bytes)
  made_live b bytes = by (table.get f.versions b) (set.contains f.revokes b) (left_from st.log tail (table.get st.log.live b))
    where
      by : (o : Option Version) (c : Bool) (e : Option Entry) → logged_bytes o (if c then None else left_live e (live_in ring b)) ≡ Some bytes
          → ((x : Version) × (o ≡ Some x) × (x.bytes ≡ bytes)) ⊎ (live_in ring b ≡ Some bytes)
      by (Some x) c e same = inl (x, refl, some_same same)
      by None true e same = absurd (none_some same)
      by None false None same = absurd (none_some same)
      by None false (Some y) same = inr same

  may_live : (b : ℕ) (bytes : List ℕ) → (new_head v s w d st f is some tail stage tells).live b ≡ Some bytes → MayChange st.image v.layout b × (length bytes ≡ v.size)
  may_live b bytes e = elim (made_live b bytes e) [
    | inl its ↦ (may b (ap is_some its.1), ap length (sym its.2) ∙ (is.sound.flushed f b its.0 some its.1).whole ∙ is.journal.size)
    | inr was ↦ (changes_at v s w d st is b bytes was, is.disk.whole 0 b false bytes (is.disk.old 0 d b is.journal.is ∙ was))
  ]

  abbrev its_rings : (rings : Rings (trees_on v) w'.disk) × AreOwnRings (trees_on v) w' rings
  its_rings = rings' v s w d st is hp (header_bytes st.log f tail) flying its_head besides idle (new_head v s w d st f is some tail stage tells) stays.alone still lands.readable lands.live may_live

  its_disk : IsDiskOf v w'.disk its_rings.0 st.image flying
  its_disk = disk' v s w d st is hp (header_bytes st.log f tail) flying its_head besides idle (new_head v s w d st f is some tail stage tells) stays.alone still lands.readable lands.live may_live

  head_is : w'.disk.heads s.node true ≡ new_head v s w d st f is some tail stage tells
  head_is = head_new v s w d st is hp (header_bytes st.log f tail) flying its_head besides idle (new_head v s w d st f is some tail stage tells) stays.alone still lands.readable lands.live may_live

  may_still : (b : ℕ) → HasUnlogged log' b → MayChange st.image v.layout b
  may_still b (inl e) = is.may b (inl e)
  may_still b (inr e) = may b e

  read_so : (g : Flush) (t : ℕ) → f' ≡ g → g.stage ≡ Headed t → IsHeaderRead st.log.journal.size (place_of log' g t) (flushed_as g)
  read_so g t same at =
      let told : tail ≡ t = headed_tells tail t (ap (λ (x : Flush). x.stage) same ∙ at) in
      subst (λ x. IsHeaderRead st.log.journal.size (place_of log' x t) (flushed_as x)) same (subst (λ x. IsHeaderRead st.log.journal.size (place_of log' f' x) (flushed_as f')) told (numbers.read tail tells))

  pub header_written : StaysLogged v s w d (record st { log = log'; flying = flying })
  header_written = record {
    world = w';
    now = refl;
    items = refl;
    is = record {
      alone = stays.alone;
      node = is.node;
      held = is.held;
      start = is.start;
      rings = its_rings.0;
      own = its_rings.1;
      disk = its_disk;
      flights = λ b not. is.flights b not ∙ sym (off v s w d st is hp (header_bytes st.log f tail) flying its_head besides idle b not);
      apart = is.apart;
      journal = is.journal;
      sound = sound;
      laid = is.laid;
      ring = ring_of;
      home = is.home;
      others = is.others;
      flies = headed tail (chunks_stand v s w d st f is some tail stage tells) (here v s w d st is hp (header_bytes st.log f tail) flying its_head besides idle)
          (none_else v s w d st is hp (header_bytes st.log f tail) flying its_head besides idle);
      homeward = λ b not. off v s w d st is hp (header_bytes st.log f tail) flying its_head besides idle b not ∙ is.homeward b not;
      elsewhere = none_elsewhere v s w d st is hp (header_bytes st.log f tail) flying its_head besides idle;
      only_headed = λ h. (f', tail, refl, refl);
      read = λ g t its at. read_so g t (same_flush its) at;
      heads = record { headed = λ h. ap (λ (x : Head (trees_on v)). x.cut) head_is; one = λ not. absurd (not (f', tail, refl, refl)) };
      numbers = record { answered = is.numbers.answered; low = is.numbers.low; begun = is.numbers.begun; changed = is.numbers.changed; calm = is.numbers.calm };
      may = may_still;
      versions = has_versions v s w w' log' st.numbers (Some f') is.numbers.begun.1 (λ m b less. refl) (subst (HasVersions v s w st.log st.numbers) some is.versions);
      cached = stays.cached is.cached;
      keeps = is.keeps;
      away = is.away;
    };
  }

pub headers_are_written : HeadersFly → FlushesLand → HeadersAreWritten
headers_are_written fly land v s w d st new f b sequence bytes flying is some numbers wrote besides = by b sequence wrote besides
  where
    by : (b sequence : ℕ) → FlushStep st.log new f bytes (step.Head b sequence) → FliesBesides st.image st.flying flying b bytes → StaysLogged v s w d (record st { log = new; flying = flying })
    by b sequence (a_header tail stage tells header same) besides =
        subst (λ l. StaysLogged v s w d (record st { log = l; flying = flying })) (sym same)
        (header_written fly land v s w d st f flying is some tail stage tells numbers (subst (FliesBesides st.image st.flying flying b) header besides)
        (subst IsSoundLog same (step_sound st.log new f bytes (step.Head b sequence) is.sound some (a_header tail stage tells header same))))
