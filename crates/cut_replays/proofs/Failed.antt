-- The image that is left where the disk failed in the replay of a journal: what is common to all cases.
use Rattle.std.proofs.Common.{◌≡◌, ◌≢◌, ◌⊎◌, ℕ, zero, suc, ◌+◌, ◌<◌, false, true, List, [], ◌∷◌, length, take, get_or, Bool, Option, None, Some, refl, sym, ap, subst, subst₂, ◌∙◌, inl, inr, arith}
use Rattle.std.specs.Prelude.{◌^◌, if◌then◌else◌, IsTrue, IfSome, slice_get, unwrap_or}
use Rattle.std.proofs.lemmas.Bool.{cases_lt}
use Rattle.disk_turns.specs.Turns.{Moment}
use Rattle.gfs2_layout.specs.Device.{IsBlockSize}
use Rattle.gfs2_layout.specs.Inode.{content_block}
use Rattle.image_model.specs.Claims.{every}
use Rattle.image_model.specs.Image.{Image, image_of}
use Rattle.image_model.specs.Replays.{live_at}
use Rattle.image_model.specs.Stands.{IsJournalAt}
use Rattle.image_model.proofs.Held.{none_some, some_same}
use Rattle.image_mount.specs.Mounted.{IsMounted, Journal, MountedValue}
use Rattle.image_replays.specs.Replays.{ArePlans}
use Rattle.image_replays.proofs.System.{some_at}
use Rattle.journal_outcomes.specs.Images.{IsPlaceIn, ring_at}
use Rattle.journal_outcomes.specs.Rings.{ReadsAsEither, SaysAs}
use Rattle.journal_plans.specs.Plans.{bytes_put}
use Rattle.journal_replays.specs.Headers.{IsHeaderRead, clean_block}
use Rattle.log_layout.specs.Journal.{head_in}
use Rattle.log_layout.specs.Laws.{HasSamePlaces, HeadersReadBack}
use Rattle.log_layout.specs.declared.log_header.LogHeader.{LogHeader}
use Rattle.peer_replay.specs.Plans.{clean_after, clean_header}
use Rattle.peer_replay.specs.declared.planned.Plan.{Plan}
use Rattle.shared_disk.specs.Disk.{IsIdle}
use Rattle.trace_text.specs.declared.item.TraceItem.{TraceItem}
use Rattle.image_recovery.specs.Recoveries.{AreHeadersRead, AreReplays, CanReplayAll}
use Rattle.image_recovery.proofs.Mapped.{apart, place_at}
use Rattle.std.proofs.lemmas.Option.{slice_get_within}
use Rattle.image_outcomes.specs.CutShort.{IsCutShort, IsThrough, ring_left}
use Rattle.image_outcomes.specs.Outcomes.{IsLiveIn}
use Rattle.cut_replays.proofs.Ending.{ends_or_stays}
use Rattle.cut_replays.proofs.Stopped

read_at : (size slot time : ℕ) (js : List Journal) (ps : List Plan) (i : ℕ) (j : Journal) (p : Plan) → AreHeadersRead size slot time js ps → slice_get js i ≡ Some j → slice_get ps i ≡ Some p
    → IsHeaderRead size (slot + i) j.dinode j.blocks time p.clean
read_at size slot time [] ps i j p read at_j at_p = absurd (none_some at_j)
read_at size slot time (k ∷ js) [] i j p read at_j at_p = absurd (none_some at_p)
read_at size slot time (k ∷ js) (q ∷ ps) zero j p read at_j at_p =
    subst₂ (λ (n : ℕ) (x : Journal). IsHeaderRead size n x.dinode x.blocks time p.clean) (let same : slot ≡ slot + 0 = omega arith in same) (some_same at_j)
    (subst (λ (x : Plan). IsHeaderRead size slot k.dinode k.blocks time x.clean) (some_same at_p) read.0)
read_at size slot time (k ∷ js) (q ∷ ps) (suc i) j p read at_j at_p =
    subst (λ n. IsHeaderRead size n j.dinode j.blocks time p.clean) (let same : (slot + 1) + i ≡ slot + suc i = omega arith in same) (read_at size (slot + 1) time js ps i j p read.1 at_j at_p)

module _ (given : HeadersReadBack) (node time n : ℕ) (before between : Moment) (m : MountedValue) (plans : List Plan) (added : List TraceItem) (tells : IsTrue before.disk.tells) (idle : IsIdle before.disk)
    (sized : IsBlockSize before.disk.size) (is : IsMounted (image_of before.disk) m) (are : ArePlans (image_of before.disk) is.layout plans) (can : CanReplayAll before.disk m.journals plans)
    (read : AreHeadersRead before.disk.size 1 time m.journals plans) (so : AreReplays node 1 time before (take n m.journals) (take n plans) between added) (journal : Journal) (plan : Plan)
    (at_journal : slice_get m.journals n ≡ Some journal) (at_plan : slice_get plans n ≡ Some plan) where
  abbrev pub im : Image
  im = image_of before.disk

  abbrev pub IsPut : ℕ → Type 0
  IsPut b = (bytes : List ℕ) × (bytes_put plan b ≡ Some bytes)

  -- the block of the clean header of this journal
  abbrev pub IsOfHeader : ℕ → Type 0
  IsOfHeader b = (h : LogHeader) × (plan.clean ≡ Some h) × (get_or journal.blocks h.blkno 0 ≡ b)

  -- the journal's dinode in the layout
  pub its : (d : ℕ) × IsJournalAt is.layout n d
  its = some_at is.layout.journals n (let many : length plans ≡ length is.layout.journals = are.count in subst (λ k. n < k) many (slice_get_within plans n plan at_plan))

  abbrev put_live : (b : ℕ) → IsPut b → IsLiveIn im is.layout b
  put_live b put = record { journal = n; dinode = its.0; bytes = put.0; at = its.1; live = sym ((are.each n its.0 plan its.1 at_plan).live b) ∙ put.1 }

  pub put_no_place : (b : ℕ) → IsPut b → IsPlaceIn im is.layout b → ⊥
  put_no_place b put place =
      let live = put_live b put in
      (are.replayed.replayable.inside live.journal live.dinode b live.bytes live.at live.live).no_place place.journal place.dinode place.place place.at place.low place.is

  pub header_low : (h : LogHeader) → plan.clean ≡ Some h → h.blkno < length journal.blocks
  header_low h clean = subst (λ (o : Option LogHeader). IfSome o (λ (g : LogHeader). g.blkno < length journal.blocks)) clean (Stopped.places_all given node time n before between m plans added tells idle sized is are can read so n journal plan at_journal at_plan)

  pub header_place : (b : ℕ) → IsOfHeader b → IsPlaceIn im is.layout b
  header_place b h =
      let place = place_at before.disk node idle m is n journal at_journal h.0.blkno (header_low h.0 h.1) in
      record { journal = n; dinode = place.dinode; place = h.0.blkno; at = place.at; low = place.low; is = place.is ∙ h.2 }

  -- ---- an image near that of the disk

  module _ (x : Image) (size : x.size ≡ before.disk.size) (count : x.count ≡ before.disk.count) (near : (b : ℕ) → (x.at b ≡ between.disk.block_at b) ⊎ (IsPut b ⊎ IsOfHeader b))
      (header_whole : (b : ℕ) → b < im.count → IsPlaceIn im is.layout b → IsOfHeader b → length (x.at b) ≡ before.disk.size) (first_whole : (b : ℕ) → b < im.count → IsPlaceIn im is.layout b → length (im.at b) ≡ im.size)
      (last : SaysAs (ring_left im x its.0) (ring_at im its.0) ⊎ IsThrough im x its.0) where
    blocks : (b : ℕ) → (x.at b ≡ im.at b) ⊎ (IsPlaceIn im is.layout b ⊎ IsLiveIn im is.layout b)
    blocks b = elim (near b) [
      | inr (inl put) ↦ inr (inr (put_live b put))
      | inr (inr h) ↦ inr (inl (header_place b h))
      | inl same ↦ elim (Stopped.blocks given node time n before between m plans added tells idle sized is are can read so b) [
        | inl was ↦ inl (same ∙ was)
        | inr other ↦ inr other
      ]
    ]

    whole : (b : ℕ) → b < im.count → IsPlaceIn im is.layout b → length (x.at b) ≡ im.size
    whole b low place = elim (near b) [
      | inl same ↦ ap length same ∙ Stopped.whole given node time n before between m plans added tells idle sized is are can read so first_whole b low place
      | inr (inl put) ↦ absurd (put_no_place b put place)
      | inr (inr h) ↦ header_whole b low place h
    ]

    -- a place of another journal has what it has on the disk
    place_same : (j d p : ℕ) → IsJournalAt is.layout j d → j ≢ n → p < (ring_at im d).places → x.at (content_block (every im d) p) ≡ between.disk.block_at (content_block (every im d) p)
    place_same j d p at off low = elim (near (content_block (every im d) p)) [
      | inl same ↦ same
      | inr (inl put) ↦ absurd (put_no_place (content_block (every im d) p) put (record { journal = j; dinode = d; place = p; at = at; low = low; is = refl }))
      | inr (inr h) ↦
          let mounted = Stopped.mounted given node time n before between m plans added tells idle sized is are can read so j d at in
          let inside : p < length mounted.0.blocks = subst (λ k. p < k) (sym (Stopped.first_ring given node time n before between m plans added tells idle sized is are can read so j d at).places) low in
          absurd ((apart before.disk node idle m is plans are).others j n p h.0.blkno mounted.0 journal off mounted.1 at_journal inside (header_low h.0 h.1)
          (Stopped.block_is given node time n before between m plans added tells idle sized is are can read so j d at p low ∙ sym h.2))
    ]

    ring_same : (j d : ℕ) → IsJournalAt is.layout j d → j ≢ n → HasSamePlaces (ring_left im x d) (ring_left im (image_of between.disk) d)
    ring_same j d at off = record { size = refl; places = refl; blocks = λ p low. place_same j d p at off low }

    through : (j d : ℕ) → IsJournalAt is.layout j d → j < n → IsThrough im x d
    through j d at low =
        let was = Stopped.through given node time n before between m plans added tells idle sized is are can read so j d at low in
        let off : j ≢ n = λ e. omega (arith, e, low) in
        record {
          clean = Stopped.clean_same (ring_left im (image_of between.disk) d) (ring_left im x d) (back off) was.clean;
          home = λ b bytes live. elim (near b) [
            | inl same ↦ same ∙ was.home b bytes live
            | inr (inl put) ↦
                let its_live = put_live b put in
                absurd (off (are.replayed.replayable.once j n b (record { first = d; second = its.0; first_at = at; second_at = its.1; one = bytes; other = put.0; one_live = live; other_live = its_live.live })))
            | inr (inr h) ↦
                let place = header_place b h in
                absurd ((are.replayed.replayable.inside j d b bytes at live).no_place place.journal place.dinode place.place place.at place.low place.is)
          ];
        }
      where
        back : j ≢ n → HasSamePlaces (ring_left im (image_of between.disk) d) (ring_left im x d)
        back off = let e = ring_same j d at off in record { size = refl; places = refl; blocks = λ p low. sym (e.blocks p low) }

    as_it_was : (j d : ℕ) → IsJournalAt is.layout j d → n < j → SaysAs (ring_left im x d) (ring_at im d)
    as_it_was j d at high =
        let off : j ≢ n = λ e. omega (arith, e, high) in
        let one = ring_same j d at off in
        let two = Stopped.as_it_was given node time n before between m plans added tells idle sized is are can read so j d at (omega (arith, high)) in
        Stopped.says_itself (ring_left im x d) (ring_at im d) (record { size = refl; places = refl; blocks = λ p low. one.blocks p low ∙ two.blocks p low }) (are.replayed.replayable.readable j d at)

    pub near_is_cut_short : IsCutShort im is.layout x
    near_is_cut_short = record { size = size; count = count; blocks = blocks; whole = whole; journals = each }
      where
        each : (j d : ℕ) → IsJournalAt is.layout j d → SaysAs (ring_left im x d) (ring_at im d) ⊎ IsThrough im x d
        each j d at = elim (cases_lt j n) [
          | inl low ↦ inr (through j d at low)
          | inr not ↦ elim (cases_lt n j) [
            | inl high ↦ inl (as_it_was j d at high)
            | inr not' ↦
                let same : j ≡ n = omega (arith, not, not') in
                let one : its.0 ≡ d = some_same (sym its.1 ∙ sym (ap (slice_get is.layout.journals) same) ∙ at) in
                subst (λ e. SaysAs (ring_left im x e) (ring_at im e) ⊎ IsThrough im x e) one last
          ]
        ]

  -- ---- the journal in whose replay the disk failed

  -- its places as they are on the disk before its replay
  pub place_first : (p : ℕ) → p < (ring_at im its.0).places → between.disk.block_at (content_block (every im its.0) p) ≡ im.at (content_block (every im its.0) p)
  place_first p low = (Stopped.as_it_was given node time n before between m plans added tells idle sized is are can read so n its.0 its.1 (omega arith)).blocks p low

  -- where only blocks were put home, it says what it said
  pub last_at_home : (x : Image) → ((b : ℕ) → (x.at b ≡ between.disk.block_at b) ⊎ IsPut b) → SaysAs (ring_left im x its.0) (ring_at im its.0)
  last_at_home x near =
      Stopped.says_itself (ring_left im x its.0) (ring_at im its.0) (record {
        size = refl;
        places = refl;
        blocks = λ p low. elim (near (content_block (every im its.0) p)) [
          | inl same ↦ same ∙ place_first p low
          | inr put ↦ absurd (put_no_place (content_block (every im its.0) p) put (record { journal = n; dinode = its.0; place = p; at = its.1; low = low; is = refl }))
        ];
      }) (are.replayed.replayable.readable n its.0 its.1)

  mounted_is : (Stopped.mounted given node time n before between m plans added tells idle sized is are can read so n its.0 its.1).0 ≡ journal
  mounted_is = some_same (sym (Stopped.mounted given node time n before between m plans added tells idle sized is are can read so n its.0 its.1).1 ∙ at_journal)

  pub block_there : (p : ℕ) → p < (ring_at im its.0).places → get_or journal.blocks p 0 ≡ content_block (every im its.0) p
  block_there p low = ap (λ (y : Journal). get_or y.blocks p 0) (sym mounted_is) ∙ Stopped.block_is given node time n before between m plans added tells idle sized is are can read so n its.0 its.1 p low

  long : (p : ℕ) → p < (ring_at im its.0).places → p < length journal.blocks
  long p low = subst (λ (y : Journal). p < length y.blocks) mounted_is (subst (λ k. p < k) (sym (Stopped.first_ring given node time n before between m plans added tells idle sized is are can read so n its.0 its.1).places) low)

  pub place_low : (h : LogHeader) → plan.clean ≡ Some h → h.blkno < (ring_at im its.0).places
  place_low h clean =
      subst (λ k. h.blkno < k) (Stopped.first_ring given node time n before between m plans added tells idle sized is are can read so n its.0 its.1).places
      (subst (λ (y : Journal). h.blkno < length y.blocks) (sym mounted_is) (header_low h clean))

  -- what is known of the block of its clean header, and of all others, once all is home
  pub record IsAtHeader (x : Image) (h : LogHeader) : Type 0 where
    pub clean : plan.clean ≡ Some h
    pub others : (b : ℕ) → b ≢ get_or journal.blocks h.blkno 0 → x.at b ≡ unwrap_or (bytes_put plan b) (between.disk.block_at b)
    pub whole : length (x.at (get_or journal.blocks h.blkno 0)) ≡ before.disk.size
    pub either : ReadsAsEither h.blkno (im.at (get_or journal.blocks h.blkno 0)) (clean_block before.disk.size (get_or journal.blocks h.blkno 0) (n + 1) journal.dinode time h).bytes
        (x.at (get_or journal.blocks h.blkno 0))

  head_of : (head : LogHeader) × (head_in (ring_at im its.0) ≡ Some head) × (plan.clean ≡ clean_header (ring_at im its.0).places head)
  head_of = (are.each n its.0 plan its.1 at_plan).clean

  header_is : (h : LogHeader) → plan.clean ≡ Some h → (head_of.0.clean ≡ false) × (clean_after (ring_at im its.0).places head_of.0 ≡ h)
  header_is h clean = by head_of.0.clean refl (sym head_of.2 ∙ clean)
    where
      by : (c : Bool) → head_of.0.clean ≡ c → (if c then None else Some (clean_after (ring_at im its.0).places head_of.0)) ≡ Some h → (head_of.0.clean ≡ false) × (clean_after (ring_at im its.0).places head_of.0 ≡ h)
      by true e some = absurd (none_some some)
      by false e some = (e, some_same some)

  header_read : (h : LogHeader) → plan.clean ≡ Some h → IsHeaderRead before.disk.size (n + 1) journal.dinode journal.blocks time (Some h)
  header_read h clean = subst (IsHeaderRead before.disk.size (n + 1) journal.dinode journal.blocks time) clean
      (subst (λ k. IsHeaderRead before.disk.size k journal.dinode journal.blocks time plan.clean) (let same : 1 + n ≡ n + 1 = omega arith in same) (read_at before.disk.size 1 time m.journals plans n journal plan read at_journal at_plan))

  module _ (x : Image) (atp : IsAtHeader x (clean_after (ring_at im its.0).places head_of.0)) where
    abbrev H : LogHeader
    H = clean_after (ring_at im its.0).places head_of.0

    abbrev hb : ℕ
    hb = get_or journal.blocks H.blkno 0

    hb_is : hb ≡ content_block (every im its.0) H.blkno
    hb_is = block_there H.blkno (place_low H atp.clean)

    home_there : (b : ℕ) (bytes : List ℕ) → live_at im its.0 b ≡ Some bytes → x.at b ≡ bytes
    home_there b bytes live =
        let off : b ≢ hb = λ e. (let place = header_place b (H, atp.clean, sym e) in
        (are.replayed.replayable.inside n its.0 b bytes its.1 live).no_place place.journal place.dinode place.place place.at place.low place.is) in
        atp.others b off ∙ ap (λ o. unwrap_or o (between.disk.block_at b)) ((are.each n its.0 plan its.1 at_plan).live b ∙ live)

    other_place : (p : ℕ) → p < (ring_at im its.0).places → p ≢ H.blkno → x.at (content_block (every im its.0) p) ≡ im.at (content_block (every im its.0) p)
    other_place p low off =
        let c = content_block (every im its.0) p in
        let all = apart before.disk node idle m is plans are in
        let apart_here : c ≢ hb = λ e. off (all.own n p H.blkno journal at_journal (long p low) (header_low H atp.clean) (block_there p low ∙ e)) in
        let none : bytes_put plan c ≡ None = ap (bytes_put plan) (sym (block_there p low)) ∙ all.homes n n p journal plan at_journal at_plan (long p low) in
        atp.others c apart_here ∙ ap (λ o. unwrap_or o (between.disk.block_at c)) none ∙ place_first p low

    last_of_clean : SaysAs (ring_left im x its.0) (ring_at im its.0) ⊎ IsThrough im x its.0
    last_of_clean =
        let low : head_of.0.sequence < 2 ^ 63 = is.profile.sequence n its.0 head_of.0 its.1 head_of.1 in
        elim (ends_or_stays (ring_at im its.0) head_of.0 hb (n + 1) journal.dinode time head_of.1 (omega (arith, low)) (header_is H atp.clean).0 (are.replayed.replayable.readable n its.0 its.1) (header_read H atp.clean)
        (λ p. x.at (content_block (every im its.0) p)) other_place (ap (λ c. length (x.at c)) (sym hb_is) ∙ atp.whole)
        (subst (λ c. ReadsAsEither H.blkno (im.at c) (clean_block before.disk.size hb (n + 1) journal.dinode time H).bytes (x.at c)) hb_is atp.either)) [
          | inl says ↦ inl says
          | inr clean ↦ inr (record { clean = clean; home = home_there })
        ]

  pub last_at_header : (x : Image) (h : LogHeader) → IsAtHeader x h → SaysAs (ring_left im x its.0) (ring_at im its.0) ⊎ IsThrough im x its.0
  last_at_header x h atp = last_of_clean x (subst (IsAtHeader x) (sym (header_is h atp.clean).1) atp)
