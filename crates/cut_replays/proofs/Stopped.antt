-- The image that is on a disk once some of its journals are replayed.
use Rattle.std.proofs.Common.{◌≡◌, ◌⊎◌, ℕ, zero, suc, ◌+◌, ◌<◌, ◌≤◌, List, [], ◌∷◌, length, take, get_or, Option, None, Some, refl, sym, ap, subst, ◌∙◌, inl, inr, arith}
use Rattle.std.specs.Prelude.{IsTrue, slice_get, unwrap_or}
use Rattle.std.proofs.lemmas.Bool.{cases_lt}
use Rattle.std.proofs.lemmas.Option.{slice_get_within}
use Rattle.disk_turns.specs.Turns.{Moment}
use Rattle.gfs2_layout.specs.Device.{IsBlockSize}
use Rattle.gfs2_layout.specs.Inode.{content_block}
use Rattle.image_model.specs.Claims.{every}
use Rattle.image_model.specs.Image.{Image, image_of}
use Rattle.image_model.specs.Replays.{live_at}
use Rattle.image_model.specs.Stands.{IsJournalAt}
use Rattle.image_model.proofs.Held.{none_some, some_same}
use Rattle.image_model.proofs.Lengths.{size_large}
use Rattle.image_mount.specs.Mounted.{IsJournalOf, IsMounted, Journal, MountedValue}
use Rattle.image_replays.specs.Replays.{ArePlans, first_of_both, put_by}
use Rattle.image_replays.proofs.System.{block_at_place, its_journals, mounted_at, same_ring, some_at}
use Rattle.journal_outcomes.specs.Images.{IsPlaceIn, ring_at}
use Rattle.journal_outcomes.specs.Rings.{SaysAs}
use Rattle.journal_plans.specs.Plans.{bytes_put}
use Rattle.journal_reads.specs.Reading.{ring_read}
use Rattle.journal_replays.specs.Replays.{IsReplayWith}
use Rattle.drafts.specs.declared.change.Written.{Written}
use Rattle.log_layout.specs.Journal.{IsClean, Ring}
use Rattle.log_layout.specs.Laws.{HasSamePlaces, HeadersReadBack}
use Rattle.log_layout.specs.Live.{IsReadable}
use Rattle.log_layout.specs.declared.log_header.LogHeader.{LogHeader}
use Rattle.log_layout.proofs.SamePlaces.{says_the_same}
use Rattle.peer_replay.specs.declared.planned.Plan.{Plan}
use Rattle.shared_disk.specs.Disk.{DiskState, IsIdle}
use Rattle.trace_text.specs.declared.item.TraceItem.{TraceItem}
use Rattle.image_recovery.specs.Ended.{AreApart, AreOnce, AreTheirs, HasEnded, IsNoHeader}
use Rattle.image_recovery.specs.Recoveries.{AreHeadersRead, AreReplays, CanReplayAll}
use Rattle.image_recovery.proofs.Ending.{HaveOwnPlaces, leaves_place, read_is, replayed_have_ended, rests_all, stays_all, tells_one}
use Rattle.image_recovery.proofs.Headers.{IsHeaderIn, header_all, header_long, header_or_not, places_one}
use Rattle.image_recovery.proofs.Left.{replayed_is_left}
use Rattle.image_recovery.proofs.Mapped.{apart, once, place_at, theirs}
use Rattle.image_recovery.proofs.Recovered.{can_at}
use Rattle.image_outcomes.specs.CutShort.{IsCutShort, IsThrough, ring_left}
use Rattle.image_outcomes.specs.Outcomes.{IsLiveIn}
use Rattle.cut_replays.specs.Stopped.{StoppedReplaysStand}
use Rattle.image_model.proofs.Replaying.{replayed_by_any}
use Rattle.image_outcomes.proofs.CutShort.{cut_replays_stand}
use Rattle.image_outcomes.proofs.Found.{place_whole}

-- ---- the first ones of a list

pub take_at : {A : Type 0} (n : ℕ) (xs : List A) (i : ℕ) (x : A) → slice_get (take n xs) i ≡ Some x → slice_get xs i ≡ Some x
take_at zero xs i x at = absurd (none_some at)
take_at (suc n) [] i x at = absurd (none_some at)
take_at (suc n) (y ∷ ys) zero x at = at
take_at (suc n) (y ∷ ys) (suc i) x at = take_at n ys i x at

pub take_low : {A : Type 0} (n : ℕ) (xs : List A) (i : ℕ) (x : A) → slice_get (take n xs) i ≡ Some x → i < n
take_low zero xs i x at = absurd (none_some at)
take_low (suc n) [] i x at = absurd (none_some at)
take_low (suc n) (y ∷ ys) zero x at = omega arith
take_low (suc n) (y ∷ ys) (suc i) x at = (let low = take_low n ys i x at in omega (arith, low))

at_take : {A : Type 0} (n : ℕ) (xs : List A) (i : ℕ) (x : A) → slice_get xs i ≡ Some x → i < n → slice_get (take n xs) i ≡ Some x
at_take zero xs i x at low = absurd (omega (arith, low))
at_take (suc n) [] i x at low = absurd (none_some at)
at_take (suc n) (y ∷ ys) zero x at low = at
at_take (suc n) (y ∷ ys) (suc i) x at low = at_take n ys i x at (omega (arith, low))

can_take : (d : DiskState) (n : ℕ) (js : List Journal) (ps : List Plan) → CanReplayAll d js ps → CanReplayAll d (take n js) (take n ps)
can_take d zero js ps can = tt
can_take d (suc n) [] [] can = tt
can_take d (suc n) [] (p ∷ ps) can = absurd can
can_take d (suc n) (j ∷ js) [] can = absurd can
can_take d (suc n) (j ∷ js) (p ∷ ps) can = (can.0, can_take d n js ps can.1)

read_take : (size slot time n : ℕ) (js : List Journal) (ps : List Plan) → AreHeadersRead size slot time js ps → AreHeadersRead size slot time (take n js) (take n ps)
read_take size slot time zero js ps read = tt
read_take size slot time (suc n) [] ps read = tt
read_take size slot time (suc n) (j ∷ js) [] read = tt
read_take size slot time (suc n) (j ∷ js) (p ∷ ps) read = (read.0, read_take size (slot + 1) time n js ps read.1)

-- ---- the disk has as many blocks

count_one : (node slot dinode : ℕ) (blocks : List ℕ) (time : ℕ) (before after : Moment) (home : List Written) (c : Option LogHeader) (items : List TraceItem) → IsReplayWith node slot dinode blocks time before after home c items
    → after.disk.count ≡ before.disk.count
count_one node slot dinode blocks time before after home None items is = ap (λ (m : Moment). m.disk.count) is.0
count_one node slot dinode blocks time before after home (Some h) items is = is.headed.written.count ∙ is.homes.written.count

pub count_all : (node slot time : ℕ) (before after : Moment) (js : List Journal) (ps : List Plan) (items : List TraceItem) → AreReplays node slot time before js ps after items → after.disk.count ≡ before.disk.count
count_all node slot time before after [] [] items (same, none) = ap (λ (m : Moment). m.disk.count) same
count_all node slot time before after [] (p ∷ ps) items so = absurd so
count_all node slot time before after (j ∷ js) [] items so = absurd so
count_all node slot time before after (j ∷ js) (p ∷ ps) items (mid, first, later, are, one, rest) =
    count_all node (slot + 1) time mid after js ps later rest ∙ count_one node slot j.dinode j.blocks time before mid p.home.items p.clean first one

-- ---- what is put

record IsPut (ps : List Plan) (b : ℕ) (bytes : List ℕ) : Type 0 where
  index : ℕ
  plan : Plan
  at : slice_get ps index ≡ Some plan
  puts : bytes_put plan b ≡ Some bytes

put_from : (ps : List Plan) (b : ℕ) (bytes : List ℕ) → put_by ps b ≡ Some bytes → IsPut ps b bytes
put_from [] b bytes is = absurd (none_some is)
put_from (p ∷ ps) b bytes is = each (λ e. put_from ps b bytes e) (bytes_put p b) refl is
  where
    each : (put_by ps b ≡ Some bytes → IsPut ps b bytes) → (o : Option (List ℕ)) → bytes_put p b ≡ o → first_of_both o (put_by ps b) ≡ Some bytes → IsPut (p ∷ ps) b bytes
    each more (Some its) e same = record { index = 0; plan = p; at = refl; puts = e ∙ same }
    each more None e later = let is = more later in record { index = suc is.index; plan = is.plan; at = is.at; puts = is.puts }

put_is : (ps : List Plan) (j : ℕ) (p : Plan) (b : ℕ) (bytes : List ℕ) → slice_get ps j ≡ Some p → bytes_put p b ≡ Some bytes → ((i : ℕ) (q : Plan) → i < j → slice_get ps i ≡ Some q → bytes_put q b ≡ None)
    → put_by ps b ≡ Some bytes
put_is [] j p b bytes at is before = absurd (none_some at)
put_is (q ∷ ps) zero p b bytes at is before = ap (λ (r : Plan). first_of_both (bytes_put r b) (put_by ps b)) (some_same at) ∙ ap (λ o. first_of_both o (put_by ps b)) is
put_is (q ∷ ps) (suc j) p b bytes at is before =
    ap (λ o. first_of_both o (put_by ps b)) (before 0 q (omega arith) refl) ∙ put_is ps j p b bytes at is (λ i r less there. before (suc i) r (omega (arith, less)) there)

pub says_itself : (r s : Ring) → HasSamePlaces r s → IsReadable s → SaysAs r s
says_itself r s same is =
    let to = says_the_same r s same in
    record {
      head = is.head;
      other = is.head;
      headed = to.head ∙ is.headed;
      headed_other = is.headed;
      reads = record { front = refl; later = λ fields e. e };
      transactions = to.transactions is.head;
      live = to.live;
      readable = (λ x. is, λ x. record { head = is.head; transactions = is.transactions; headed = to.head ∙ is.headed; read = to.transactions is.head ∙ is.read });
    }

pub clean_same : (r t : Ring) → HasSamePlaces r t → IsClean r → IsClean t
clean_same r t same clean = (clean.0, sym (says_the_same r t same).head ∙ clean.1, clean.2)

-- ---- the image

module _ (given : HeadersReadBack) (node time n : ℕ) (before after : Moment) (m : MountedValue) (plans : List Plan) (added : List TraceItem) (tells : IsTrue before.disk.tells) (idle : IsIdle before.disk)
    (sized : IsBlockSize before.disk.size) (is : IsMounted (image_of before.disk) m) (are : ArePlans (image_of before.disk) is.layout plans) (can : CanReplayAll before.disk m.journals plans)
    (read : AreHeadersRead before.disk.size 1 time m.journals plans) (so : AreReplays node 1 time before (take n m.journals) (take n plans) after added) where
  abbrev pub im : Image
  im = image_of before.disk

  abbrev pub js : List Journal
  js = take n m.journals

  abbrev pub ps : List Plan
  ps = take n plans

  pub rests : (after.disk.size ≡ before.disk.size) × (after.disk.in_flight node ≡ [])
  rests = rests_all node 1 time before after js ps added (idle.none_in_flight node) so

  pub theirs' : AreTheirs before.disk node js ps
  theirs' =
      let all = theirs before.disk node idle m is plans are in
      record {
        plan = λ i j p at_j at_p. all.plan i j p (take_at n m.journals i j at_j) (take_at n plans i p at_p);
        low = λ i j head at_j headed. all.low i j head (take_at n m.journals i j at_j) headed;
      }

  pub apart' : AreApart js ps
  apart' =
      let all = apart before.disk node idle m is plans are in
      record {
        own = λ i p q j at low low' same. all.own i p q j (take_at n m.journals i j at) low low' same;
        others = λ i k p q j l off at_j at_l low low'. all.others i k p q j l off (take_at n m.journals i j at_j) (take_at n m.journals k l at_l) low low';
        homes = λ i k p j plan at_j at_p low. all.homes i k p j plan (take_at n m.journals i j at_j) (take_at n plans k plan at_p) low;
      }

  pub once' : AreOnce ps
  once' i k b p q bytes off at_p at_q = once before.disk node idle m is plans are i k b p q bytes off (take_at n plans i p at_p) (take_at n plans k q at_q)

  can' : CanReplayAll before.disk js ps
  can' = can_take before.disk n m.journals plans can

  places : HaveOwnPlaces js ps
  places i j p at_j at_p = (can_at before.disk js ps i j p can' at_j at_p).place

  pub places_all : HaveOwnPlaces m.journals plans
  places_all i j p at_j at_p = (can_at before.disk m.journals plans i j p can at_j at_p).place

  ended : (i : ℕ) (j : Journal) (p : Plan) → slice_get js i ≡ Some j → slice_get ps i ≡ Some p → HasEnded before.disk after.disk node (i + 1) time j p
  ended = replayed_have_ended node time before after js ps added tells (idle.none_in_flight node) can' theirs' apart' (read_take before.disk.size 1 time n m.journals plans read) so

  left_is : (b : ℕ) → IsNoHeader b js ps → after.disk.block_at b ≡ unwrap_or (put_by ps b) (before.disk.block_at b)
  left_is = replayed_is_left node time before after js ps added tells theirs' once' so

  -- the block of a header is a place
  header_place : (b : ℕ) → IsHeaderIn js ps b → IsPlaceIn im is.layout b
  header_place b h =
      let inside = places_one h.journal.blocks h.plan.clean h.header h.is (places h.index h.journal h.plan h.at_journal h.at_plan) in
      let place = place_at before.disk node idle m is h.index h.journal (take_at n m.journals h.index h.journal h.at_journal) h.header.blkno inside in
      record { journal = h.index; dinode = place.dinode; place = h.header.blkno; at = place.at; low = place.low; is = place.is ∙ h.block }

  put_live : (b : ℕ) (bytes : List ℕ) → put_by ps b ≡ Some bytes → (its : IsLiveIn im is.layout b) × (its.bytes ≡ bytes)
  put_live b bytes put =
      let one = put_from ps b bytes put in
      let at = take_at n plans one.index one.plan one.at in
      let many : length plans ≡ length is.layout.journals = are.count in
      let d = some_at is.layout.journals one.index (subst (λ k. one.index < k) many (slice_get_within plans one.index one.plan at)) in
      (record { journal = one.index; dinode = d.0; bytes = bytes; at = d.1; live = sym ((are.each one.index d.0 one.plan d.1 at).live b) ∙ one.puts }, refl)

  pub blocks : (b : ℕ) → (after.disk.block_at b ≡ before.disk.block_at b) ⊎ (IsPlaceIn im is.layout b ⊎ IsLiveIn im is.layout b)
  blocks b = elim (header_or_not js ps b) [
    | inl h ↦ inr (inl (header_place b h))
    | inr off ↦ by off (put_by ps b) refl
  ]
    where
      by : IsNoHeader b js ps → (o : Option (List ℕ)) → put_by ps b ≡ o → (after.disk.block_at b ≡ before.disk.block_at b) ⊎ (IsPlaceIn im is.layout b ⊎ IsLiveIn im is.layout b)
      by off None e = inl (left_is b off ∙ ap (λ x. unwrap_or x (before.disk.block_at b)) e)
      by off (Some bytes) e = inr (inr (put_live b bytes e).0)

  -- ---- a journal

  module _ (j d : ℕ) (at : IsJournalAt is.layout j d) where
    pub mounted : (y : Journal) × (slice_get m.journals j ≡ Some y) × IsJournalOf im d y
    mounted = mounted_at im m is j d at

    pub planned : (p : Plan) × (slice_get plans j ≡ Some p)
    planned = let many : length plans ≡ length is.layout.journals = are.count in some_at plans j (subst (λ k. j < k) (sym many) (slice_get_within is.layout.journals j d at))

    pub first_ring : HasSamePlaces (ring_read before.disk node mounted.0.blocks) (ring_at im d)
    first_ring = same_ring before.disk node idle d mounted.0 mounted.2

    pub block_is : (p : ℕ) → p < (ring_at im d).places → get_or mounted.0.blocks p 0 ≡ content_block (every im d) p
    block_is p low = block_at_place before.disk node idle d mounted.0 mounted.2 p low

    read_ring : HasSamePlaces (ring_read after.disk node mounted.0.blocks) (ring_left im (image_of after.disk) d)
    read_ring = record {
      size = rests.0;
      places = first_ring.places;
      blocks = λ p low. read_is after.disk node (get_or mounted.0.blocks p 0) rests.1 ∙ ap after.disk.block_at (block_is p (subst (λ k. p < k) first_ring.places low));
    }

    pub through : j < n → IsThrough im (image_of after.disk) d
    through low =
        let at_j = at_take n m.journals j mounted.0 mounted.1 low in
        let at_p = at_take n plans j planned.0 planned.1 low in
        record {
          clean = clean_same (ring_read after.disk node mounted.0.blocks) (ring_left im (image_of after.disk) d) read_ring (ended j mounted.0 planned.0 at_j at_p).clean;
          home = λ b bytes live. home b bytes live at_p (header_or_not js ps b);
        }
      where
        home : (b : ℕ) (bytes : List ℕ) → live_at im d b ≡ Some bytes → slice_get ps j ≡ Some planned.0 → IsHeaderIn js ps b ⊎ IsNoHeader b js ps → after.disk.block_at b ≡ bytes
        home b bytes live at_p (inl h) =
            let place = header_place b h in
            absurd ((are.replayed.replayable.inside j d b bytes at live).no_place place.journal place.dinode place.place place.at place.low place.is)
        home b bytes live at_p (inr off) =
            let puts : bytes_put planned.0 b ≡ Some bytes = (are.each j d planned.0 at planned.1).live b ∙ live in
            let all = put_is ps j planned.0 b bytes at_p puts (λ i q less there. once' j i b planned.0 q bytes (λ e. omega (arith, e, less)) at_p there puts) in
            left_is b off ∙ ap (λ x. unwrap_or x (before.disk.block_at b)) all

    pub as_it_was : n ≤ j → HasSamePlaces (ring_left im (image_of after.disk) d) (ring_at im d)
    as_it_was high = record {
      size = refl;
      places = refl;
      blocks = λ p low.
          let inside : p < length mounted.0.blocks = subst (λ k. p < k) (sym first_ring.places) low in
          let same = stays_all node 1 time before after js ps added (get_or mounted.0.blocks p 0) tells
          (λ k l q at_l at_q.
          let low' = take_low n m.journals k l at_l in
          leaves_place m.journals plans (apart before.disk node idle m is plans are) places_all j k p mounted.0 l q (λ e. omega (arith, e, low', high)) mounted.1 (take_at n m.journals k l at_l) (take_at n plans k q at_q) inside) so in
          ap after.disk.block_at (sym (block_is p low)) ∙ same ∙ ap before.disk.block_at (block_is p low);
    }

    says_or_through : SaysAs (ring_left im (image_of after.disk) d) (ring_at im d) ⊎ IsThrough im (image_of after.disk) d
    says_or_through = elim (cases_lt j n) [
      | inl low ↦ inr (through low)
      | inr high ↦ inl (says_itself (ring_left im (image_of after.disk) d) (ring_at im d) (as_it_was (omega (arith, high))) (are.replayed.replayable.readable j d at))
    ]

  -- ---- a place has a whole block

  pub whole : ((b : ℕ) → b < im.count → IsPlaceIn im is.layout b → length (im.at b) ≡ im.size) → (b : ℕ) → b < im.count → IsPlaceIn im is.layout b → length (after.disk.block_at b) ≡ before.disk.size
  whole first b low place = elim (header_or_not js ps b) [
    | inl h ↦
        let large : 512 ≤ before.disk.size = size_large before.disk.size sized in
        ap (λ c. length (after.disk.block_at c)) (sym h.block)
        ∙ ap length (header_all node time 1 before after js ps added tells places apart' so h.index h.journal h.plan h.header h.at_journal h.at_plan h.is)
        ∙ header_long given before.disk.size (get_or h.journal.blocks h.header.blkno 0) (1 + h.index) h.journal.dinode time h.header (omega (arith, large))
    | inr off ↦ by off (put_by ps b) refl
  ]
    where
      by : IsNoHeader b js ps → (o : Option (List ℕ)) → put_by ps b ≡ o → length (after.disk.block_at b) ≡ before.disk.size
      by off None e = ap length (left_is b off ∙ ap (λ x. unwrap_or x (before.disk.block_at b)) e) ∙ first b low place
      by off (Some bytes) e =
          let its = (put_live b bytes e).0 in
          absurd ((are.replayed.replayable.inside its.journal its.dinode b its.bytes its.at its.live).no_place place.journal place.dinode place.place place.at place.low place.is)

  pub cut_short : ((b : ℕ) → b < im.count → IsPlaceIn im is.layout b → length (im.at b) ≡ im.size) → IsCutShort im is.layout (image_of after.disk)
  cut_short first = record {
    size = rests.0;
    count = count_all node 1 time before after js ps added so;
    blocks = blocks;
    whole = whole first;
    journals = says_or_through;
  }

pub tells_all : (node slot time : ℕ) (before after : Moment) (js : List Journal) (ps : List Plan) (items : List TraceItem) → AreReplays node slot time before js ps after items → after.disk.tells ≡ before.disk.tells
tells_all node slot time before after [] [] items (same, none) = ap (λ (m : Moment). m.disk.tells) same
tells_all node slot time before after [] (p ∷ ps) items so = absurd so
tells_all node slot time before after (j ∷ js) [] items so = absurd so
tells_all node slot time before after (j ∷ js) (p ∷ ps) items (mid, first, later, are, one, rest) =
    tells_all node (slot + 1) time mid after js ps later rest ∙ tells_one node slot j.dinode j.blocks time before mid p.home.items p.clean first one

pub stopped_replays_stand : HeadersReadBack → StoppedReplaysStand
stopped_replays_stand given node time before after m plans items items' t tells idle sized is are can read some stands =
    let im = image_of before.disk in
    let journals = its_journals im m is in
    let whole = place_whole im is.layout journals stands.replayed (replayed_by_any im stands.replayed is.layout stands.layout journals stands.is) stands.stands.owners stands.stands.layout t
    (record { laid = stands.stands.laid; reads = stands.stands.reads }) in (
      subst IsTrue (sym (tells_all node 1 time before after (take some.count m.journals) (take some.count plans) some.replayed.added some.replayed.replays)) tells,
      (cut_replays_stand im (image_of after.disk) is.layout t journals stands (cut_short given node time some.count before after m plans some.replayed.added tells idle sized is are can read some.replayed.replays whole)).1,
    )
