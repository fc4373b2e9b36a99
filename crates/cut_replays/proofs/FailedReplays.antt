-- Where the disk failed in a replay, whatever became of what was in flight is what a replay leaves that was cut short.
use Rattle.std.proofs.Common.{◌≡◌, ◌≢◌, ◌⊎◌, ℕ, zero, suc, ◌+◌, ◌<◌, ◌≤◌, List, [], ◌∷◌, ◌++◌, length, take, get_or, Option, None, Some, refl, sym, ap, subst, ◌∙◌, inl, inr, arith}
use Rattle.std.specs.Prelude.{◌==◌, IfSome, IsTrue, MatchOption, slice_get, unwrap_or}
use Rattle.std.proofs.lemmas.Bool.{cases_Bool, cases_eq, cond-true, cond-false, eqb-true}
use Rattle.disk_turns.specs.Turns.{BringsTo, HasStopped, Moment, StopsAt, before_it, behind_it, at_barrier}
use Rattle.disk_turns.specs.Writing.{flights_of}
use Rattle.drafts.specs.declared.change.Written.{Written}
use Rattle.file_tree.specs.Tree.{Tree}
use Rattle.gfs2_layout.specs.Device.{IsBlockSize}
use Rattle.gfs2_layout.specs.Inode.{content_block}
use Rattle.image_model.specs.Claims.{every}
use Rattle.image_model.specs.Image.{Image, image_of}
use Rattle.image_model.specs.Replays.{StandsReplayed}
use Rattle.image_model.specs.Stands.{IsJournalAt}
use Rattle.image_model.proofs.Held.{none_some, some_same}
use Rattle.image_model.proofs.Lengths.{size_large}
use Rattle.image_model.proofs.Replaying.{replayed_by_any}
use Rattle.image_mount.specs.Mounted.{IsMounted, Journal, MountedValue}
use Rattle.image_replays.specs.Replays.{ArePlans}
use Rattle.image_replays.proofs.System.{its_journals}
use Rattle.journal_outcomes.specs.Disks.{flown_by}
use Rattle.journal_outcomes.specs.Images.{IsImageOutcome, IsPlaceIn, NoFalseHeader, ring_at}
use Rattle.journal_outcomes.specs.Rings.{ReadsAsEither}
use Rattle.journal_plans.specs.Plans.{bytes_put}
use Rattle.journal_replays.specs.Headers.{clean_block}
use Rattle.journal_replays.specs.Replays.{StopsBringing, StopsReplay, at_home, at_header}
use Rattle.log_layout.specs.Journal.{accepted}
use Rattle.log_layout.specs.Laws.{HeadersReadBack}
use Rattle.log_layout.specs.declared.log_header.LogHeader.{LogHeader}
use Rattle.peer_replay.specs.declared.planned.Plan.{Plan}
use Rattle.shared_disk.specs.Disk.{Flight, IsIdle, flight_to}
use Rattle.trace_text.specs.declared.item.TraceItem.{TraceItem}
use Rattle.image_recovery.specs.Recoveries.{AreHeadersRead, AreReplays, CanReplayAll, HaveFailed}
use Rattle.image_recovery.proofs.Ending.{flies_put}
use Rattle.image_recovery.proofs.Headers.{header_long}
use Rattle.image_recovery.proofs.Recovered.{can_at}
use Rattle.image_outcomes.specs.CutShort.{IsCutShort}
use Rattle.cut_replays.specs.Failed.{FailedReplaysStand}
use Rattle.image_outcomes.proofs.CutShort.{cut_replays_stand}
use Rattle.image_outcomes.proofs.CutShort as cuts
use Rattle.cut_replays.proofs.Failed
use Rattle.image_outcomes.proofs.Found.{place_whole}
use Rattle.cut_replays.proofs.Stopped
use Rattle.cut_replays.proofs.Stopped.{tells_all}

-- ---- writes of some of these blocks

flight_front : (xs ys : List Written) (b : ℕ) (bytes : List ℕ) → flight_to (flights_of xs) b ≡ Some bytes → flight_to (flights_of (xs ++ ys)) b ≡ Some bytes
flight_front [] ys b bytes e = absurd (none_some e)
flight_front (x ∷ xs) ys b bytes e = elim (cases_Bool (x.block == b)) [
  | inl is ↦ cond-true _ (Some x.bytes) _ is ∙ sym (cond-true _ (Some x.bytes) (flight_to (flights_of xs) b) is) ∙ e
  | inr off ↦ cond-false _ (Some x.bytes) _ off ∙ flight_front xs ys b bytes (sym (cond-false _ (Some x.bytes) (flight_to (flights_of xs) b) off) ∙ e)
]

flight_rear : (xs ys : List Written) (b : ℕ) (bytes : List ℕ) → flight_to (flights_of ys) b ≡ Some bytes → (its : List ℕ) × (flight_to (flights_of (xs ++ ys)) b ≡ Some its)
flight_rear [] ys b bytes e = (bytes, e)
flight_rear (x ∷ xs) ys b bytes e = elim (cases_Bool (x.block == b)) [
  | inl is ↦ (x.bytes, cond-true _ (Some x.bytes) _ is)
  | inr off ↦ let rest = flight_rear xs ys b bytes e in (rest.0, cond-false _ (Some x.bytes) _ off ∙ rest.1)
]

flight_take : (k : ℕ) (xs : List Written) (b : ℕ) (bytes : List ℕ) → flight_to (flights_of (take k xs)) b ≡ Some bytes → flight_to (flights_of xs) b ≡ Some bytes
flight_take zero xs b bytes e = absurd (none_some e)
flight_take (suc k) [] b bytes e = absurd (none_some e)
flight_take (suc k) (x ∷ xs) b bytes e = elim (cases_Bool (x.block == b)) [
  | inl is ↦ cond-true _ (Some x.bytes) _ is ∙ sym (cond-true _ (Some x.bytes) (flight_to (flights_of (take k xs)) b) is) ∙ e
  | inr off ↦ cond-false _ (Some x.bytes) _ off ∙ flight_take k xs b bytes (sym (cond-false _ (Some x.bytes) (flight_to (flights_of (take k xs)) b) off) ∙ e)
]

flying_in : (some : List Written) (block : Option ℕ) (wrote flying : List Written) → StopsAt some block wrote flying → (b : ℕ) (bytes : List ℕ) → flight_to (flights_of flying) b ≡ Some bytes
    → flight_to (flights_of some) b ≡ Some bytes
flying_in some _ _ _ (before_it i w at) b bytes e = flight_take i some b bytes e
flying_in some _ _ _ (behind_it i w at) b bytes e = flight_take (i + 1) some b bytes e
flying_in some _ _ _ at_barrier b bytes e = e

-- what stands in a block where the disk failed, and what flies to it: of these blocks
module _ (node : ℕ) (before after : Moment) (blocks : List Written) (block : Option ℕ) (tells : IsTrue before.disk.tells) (s : HasStopped node before after blocks block) where
  pub stopped_size : after.disk.size ≡ before.disk.size
  stopped_size = s.stopped.disk.size ∙ s.brought.written.size

  pub stopped_count : after.disk.count ≡ before.disk.count
  stopped_count = s.stopped.disk.count ∙ s.brought.written.count

  stopped_is : (b : ℕ) → after.disk.block_at b ≡ unwrap_or (flight_to (flights_of s.done) b) (before.disk.block_at b)
  stopped_is b = ap (λ (f : ℕ → List ℕ). f b) s.stopped.disk.blocks ∙ s.brought.written.blocks_are tells b

  -- one of the blocks has come to its place, or it is as it was
  pub stopped_at : (b : ℕ) → (after.disk.block_at b ≡ before.disk.block_at b) ⊎ ((bytes : List ℕ) × (flight_to (flights_of blocks) b ≡ Some bytes) × (after.disk.block_at b ≡ bytes))
  stopped_at b = by (flight_to (flights_of s.done) b) refl
    where
      by : (o : Option (List ℕ)) → flight_to (flights_of s.done) b ≡ o → (after.disk.block_at b ≡ before.disk.block_at b) ⊎ ((bytes : List ℕ) × (flight_to (flights_of blocks) b ≡ Some bytes) × (after.disk.block_at b ≡ bytes))
      by None e = inl (stopped_is b ∙ ap (λ o. unwrap_or o (before.disk.block_at b)) e)
      by (Some bytes) e = inr (
        bytes,
        ap (λ ws. flight_to (flights_of ws) b) s.parts ∙ flight_front s.done (s.some ++ s.later) b bytes e,
        stopped_is b ∙ ap (λ o. unwrap_or o (before.disk.block_at b)) e,
      )

  -- what flies is of them
  pub flown : (b : ℕ) (bytes : List ℕ) → flown_by after.disk node b ≡ Some bytes → (its : List ℕ) × (flight_to (flights_of blocks) b ≡ Some its)
  flown b bytes e =
      let one = flying_in s.some block s.stopped.wrote s.stopped.flying s.stopped.stops b bytes (ap (λ (fs : List Flight). flight_to fs b) (sym s.stopped.disk.own) ∙ e) in
      let rest = flight_rear s.done (s.some ++ s.later) b bytes (flight_front s.some s.later b bytes one) in
      (rest.0, ap (λ ws. flight_to (flights_of ws) b) s.parts ∙ rest.1)

  -- and has its bytes, where there is only one
  pub flown_is : (w : Written) → blocks ≡ w ∷ [] → (b : ℕ) (bytes : List ℕ) → flown_by after.disk node b ≡ Some bytes → (b ≡ w.block) × (bytes ≡ w.bytes)
  flown_is w one b bytes e =
      let in_some = flying_in s.some block s.stopped.wrote s.stopped.flying s.stopped.stops b bytes (ap (λ (fs : List Flight). flight_to fs b) (sym s.stopped.disk.own) ∙ e) in
      alone s.done s.some s.later (sym s.parts ∙ one) in_some
    where
      alone : (done some later : List Written) → done ++ (some ++ later) ≡ w ∷ [] → flight_to (flights_of some) b ≡ Some bytes → (b ≡ w.block) × (bytes ≡ w.bytes)
      alone [] some later same is = of_one w b bytes (ap (λ ws. flight_to (flights_of ws) b) (sym same) ∙ flight_front some later b bytes is)
        where
          of_one : (w : Written) (b : ℕ) (bytes : List ℕ) → flight_to (flights_of (w ∷ [])) b ≡ Some bytes → (b ≡ w.block) × (bytes ≡ w.bytes)
          of_one w b bytes is = elim (cases_Bool (w.block == b)) [
            | inl at ↦ (sym (eqb-true w.block b at), some_same (sym is ∙ cond-true _ (Some w.bytes) None at))
            | inr off ↦ absurd (none_some (sym (cond-false _ (Some w.bytes) None off) ∙ is))
          ]
      alone (d ∷ done) [] later same is = absurd (none_some is)
      alone (d ∷ done) (x ∷ some) later same is = absurd (too_many d done x (some ++ later) same)
        where
          too_many : (d : Written) (done : List Written) (x : Written) (rest : List Written) → d ∷ (done ++ (x ∷ rest)) ≡ w ∷ [] → ⊥
          too_many d [] x rest same = let none : x ∷ rest ≡ [] = cc in cc
          too_many d (y ∷ done) x rest same = let none : y ∷ (done ++ (x ∷ rest)) ≡ [] = cc in cc

-- ---- the journal in whose replay the disk failed

module _ (given : HeadersReadBack) (node time n : ℕ) (before between : Moment) (m : MountedValue) (plans : List Plan) (added : List TraceItem) (tells : IsTrue before.disk.tells) (idle : IsIdle before.disk)
    (sized : IsBlockSize before.disk.size) (is : IsMounted (image_of before.disk) m) (are : ArePlans (image_of before.disk) is.layout plans) (can : CanReplayAll before.disk m.journals plans)
    (read : AreHeadersRead before.disk.size 1 time m.journals plans) (so : AreReplays node 1 time before (take n m.journals) (take n plans) between added) (journal : Journal) (plan : Plan)
    (at_journal : slice_get m.journals n ≡ Some journal) (at_plan : slice_get plans n ≡ Some plan) (first_whole : (b : ℕ) → b < before.disk.count → IsPlaceIn (image_of before.disk) is.layout b
    → length (before.disk.block_at b) ≡ before.disk.size) where
  abbrev im : Image
  im = image_of before.disk

  size_between : between.disk.size ≡ before.disk.size
  size_between = (Stopped.rests given node time n before between m plans added tells idle sized is are can read so).0

  count_between : between.disk.count ≡ before.disk.count
  count_between = Stopped.count_all node 1 time before between (take n m.journals) (take n plans) added so

  -- an image that differs from that of the disk only in what this journal's plan puts home
  home_cut : (x : Image) → x.size ≡ before.disk.size → x.count ≡ before.disk.count
      → ((b : ℕ) → (x.at b ≡ between.disk.block_at b) ⊎ Failed.IsPut given node time n before between m plans added tells idle sized is are can read so journal plan at_journal at_plan b) → IsCutShort im is.layout x
  home_cut x size count near =
      Failed.near_is_cut_short given node time n before between m plans added tells idle sized is are can read so journal plan at_journal at_plan x size count
      (λ b. elim (near b) [ inl same ↦ inl same | inr put ↦ inr (inl put) ])
      (λ b low place h. elim (near b) [
        | inl same ↦ ap length same ∙ Stopped.whole given node time n before between m plans added tells idle sized is are can read so first_whole b low place
        | inr put ↦ absurd (Failed.put_no_place given node time n before between m plans added tells idle sized is are can read so journal plan at_journal at_plan b put place)
      ]) first_whole
      (inl (Failed.last_at_home given node time n before between m plans added tells idle sized is are can read so journal plan at_journal at_plan x near))

  -- an image that has all home, and at the clean header's block what may have become of it
  header_cut : (x : Image) → x.size ≡ before.disk.size → x.count ≡ before.disk.count → (h : LogHeader)
      → Failed.IsAtHeader given node time n before between m plans added tells idle sized is are can read so journal plan at_journal at_plan x h → IsCutShort im is.layout x
  header_cut x size count h atp =
      Failed.near_is_cut_short given node time n before between m plans added tells idle sized is are can read so journal plan at_journal at_plan x size count near
      (λ b low place other. subst (λ c. length (x.at c) ≡ before.disk.size) (hb_same other) atp.whole) first_whole
      (Failed.last_at_header given node time n before between m plans added tells idle sized is are can read so journal plan at_journal at_plan x h atp)
    where
      hb_same : {b : ℕ} (other : Failed.IsOfHeader given node time n before between m plans added tells idle sized is are can read so journal plan at_journal at_plan b) → get_or journal.blocks h.blkno 0 ≡ b
      hb_same other = ap (λ (g : LogHeader). get_or journal.blocks g.blkno 0) (some_same (sym atp.clean ∙ other.1)) ∙ other.2

      near : (b : ℕ) → (x.at b ≡ between.disk.block_at b) ⊎ (Failed.IsPut given node time n before between m plans added tells idle sized is are can read so journal plan at_journal at_plan b
          ⊎ Failed.IsOfHeader given node time n before between m plans added tells idle sized is are can read so journal plan at_journal at_plan b)
      near b = elim (cases_eq b (get_or journal.blocks h.blkno 0)) [
        | inl at ↦ inr (inr (h, atp.clean, sym at))
        | inr off ↦ by off (bytes_put plan b) refl
      ]
        where
          by : b ≢ get_or journal.blocks h.blkno 0 → (o : Option (List ℕ)) → bytes_put plan b ≡ o → (x.at b ≡ between.disk.block_at b)
              ⊎ (Failed.IsPut given node time n before between m plans added tells idle sized is are can read so journal plan at_journal at_plan b
              ⊎ Failed.IsOfHeader given node time n before between m plans added tells idle sized is are can read so journal plan at_journal at_plan b)
          by off None e = inl (atp.others b off ∙ ap (λ o. unwrap_or o (between.disk.block_at b)) e)
          by off (Some bytes) e = inr (inl (bytes, e))

  module _ (after : Moment) (left : Image) (outcome : IsImageOutcome (image_of after.disk) (flown_by after.disk node) left) where
    -- ---- on the way home

    pub failed_at_home : (block : Option ℕ) → IsTrue between.disk.tells → HasStopped node between after plan.home.items block → IsCutShort im is.layout left
    failed_at_home block tells' s =
        home_cut left (outcome.size ∙ stopped_size node between after plan.home.items block tells' s ∙ size_between) (outcome.count ∙ stopped_count node between after plan.home.items block tells' s ∙ count_between)
        (λ b. by b (flown_by after.disk node b) refl)
      where
        put : (b : ℕ) (bytes : List ℕ) → flight_to (flights_of plan.home.items) b ≡ Some bytes → Failed.IsPut given node time n before between m plans added tells idle sized is are can read so journal plan at_journal at_plan b
        put b bytes e = (bytes, sym (flies_put plan.home.items b) ∙ e)

        by : (b : ℕ) (o : Option (List ℕ)) → flown_by after.disk node b ≡ o
            → (left.at b ≡ between.disk.block_at b) ⊎ Failed.IsPut given node time n before between m plans added tells idle sized is are can read so journal plan at_journal at_plan b
        by b (Some bytes) e = let its = flown node between after plan.home.items block tells' s b bytes e in inr (put b its.0 its.1)
        by b None e = elim (stopped_at node between after plan.home.items block tells' s b) [
          | inl same ↦ inl (outcome.still b e ∙ same)
          | inr come ↦ inr (put b come.0 come.1)
        ]

    -- ---- at the clean header

    module _ (no_false : NoFalseHeader (image_of after.disk) is.layout (flown_by after.disk node) left) (t : Tree) (stands : StandsReplayed im t) (h : LogHeader) (clean : plan.clean ≡ Some h) (mid : Moment)
        (homes : BringsTo node between mid plan.home.items) (tells' : IsTrue between.disk.tells) (tells'' : IsTrue mid.disk.tells) (block : Option ℕ)
        (s : HasStopped node mid after (clean_block before.disk.size (get_or journal.blocks h.blkno 0) (n + 1) journal.dinode time h ∷ []) block) where
      abbrev hb : ℕ
      hb = get_or journal.blocks h.blkno 0

      abbrev header : Written
      header = clean_block before.disk.size (get_or journal.blocks h.blkno 0) (n + 1) journal.dinode time h

      abbrev its_dinode : ℕ
      its_dinode = (Failed.its given node time n before between m plans added tells idle sized is are can read so journal plan at_journal at_plan).0

      its_at : IsJournalAt is.layout n (Failed.its given node time n before between m plans added tells idle sized is are can read so journal plan at_journal at_plan).0
      its_at = (Failed.its given node time n before between m plans added tells idle sized is are can read so journal plan at_journal at_plan).1

      home_is : (b : ℕ) → mid.disk.block_at b ≡ unwrap_or (bytes_put plan b) (between.disk.block_at b)
      home_is b = homes.written.blocks_are tells' b ∙ ap (λ o. unwrap_or o (between.disk.block_at b)) (flies_put plan.home.items b)

      low : h.blkno < (ring_at im (Failed.its given node time n before between m plans added tells idle sized is are can read so journal plan at_journal at_plan).0).places
      low = Failed.place_low given node time n before between m plans added tells idle sized is are can read so journal plan at_journal at_plan h clean

      hb_is : hb ≡ content_block (every im (Failed.its given node time n before between m plans added tells idle sized is are can read so journal plan at_journal at_plan).0) h.blkno
      hb_is = Failed.block_there given node time n before between m plans added tells idle sized is are can read so journal plan at_journal at_plan h.blkno low

      hb_place : IsPlaceIn im is.layout hb
      hb_place = Failed.header_place given node time n before between m plans added tells idle sized is are can read so journal plan at_journal at_plan hb (h, clean, refl)

      hb_old : mid.disk.block_at hb ≡ before.disk.block_at hb
      hb_old = by (bytes_put plan hb) refl
        where
          by : (o : Option (List ℕ)) → bytes_put plan hb ≡ o → mid.disk.block_at hb ≡ before.disk.block_at hb
          by None e =
              home_is hb ∙ ap (λ o. unwrap_or o (between.disk.block_at hb)) e ∙ ap between.disk.block_at hb_is
              ∙ Failed.place_first given node time n before between m plans added tells idle sized is are can read so journal plan at_journal at_plan h.blkno low ∙ ap before.disk.block_at (sym hb_is)
          by (Some bytes) e = absurd (Failed.put_no_place given node time n before between m plans added tells idle sized is are can read so journal plan at_journal at_plan hb (bytes, e) hb_place)

      of_header : (b : ℕ) (bytes : List ℕ) → flight_to (flights_of (header ∷ [])) b ≡ Some bytes → (b ≡ hb) × (bytes ≡ header.bytes)
      of_header b bytes e = elim (cases_Bool (hb == b)) [
        | inl at ↦ (sym (eqb-true hb b at), some_same (sym e ∙ cond-true _ (Some header.bytes) None at))
        | inr off ↦ absurd (none_some (sym (cond-false _ (Some header.bytes) None off) ∙ e))
      ]

      -- on the disk
      others_now : (b : ℕ) → b ≢ hb → after.disk.block_at b ≡ unwrap_or (bytes_put plan b) (between.disk.block_at b)
      others_now b off = elim (stopped_at node mid after (header ∷ []) block tells'' s b) [
        | inl same ↦ same ∙ home_is b
        | inr come ↦ absurd (off (of_header b come.0 come.1).0)
      ]

      hb_now : (after.disk.block_at hb ≡ before.disk.block_at hb) ⊎ (after.disk.block_at hb ≡ header.bytes)
      hb_now = elim (stopped_at node mid after (header ∷ []) block tells'' s hb) [
        | inl same ↦ inl (same ∙ hb_old)
        | inr come ↦ inr (come.2 ∙ (of_header hb come.0 come.1).1)
      ]

      bytes_long : length header.bytes ≡ before.disk.size
      bytes_long = let large : 512 ≤ before.disk.size = size_large before.disk.size sized in header_long given before.disk.size hb (n + 1) journal.dinode time h (omega (arith, large))

      inside : hb < before.disk.count
      inside = each (can_at before.disk m.journals plans n journal plan can at_journal at_plan).inside
        where
          each : IfSome plan.clean (λ (g : LogHeader). get_or journal.blocks g.blkno 0 < before.disk.count) → hb < before.disk.count
          each all = let it : IfSome (Some h) (λ (g : LogHeader). get_or journal.blocks g.blkno 0 < before.disk.count) = subst (λ (o : Option LogHeader). IfSome o (λ (g : LogHeader). get_or journal.blocks g.blkno 0 < before.disk.count)) clean all in it

      old_long : length (before.disk.block_at hb) ≡ before.disk.size
      old_long = first_whole hb inside hb_place

      as_new : (old new : List ℕ) → ReadsAsEither h.blkno old new new
      as_new old new g e = inr (g, e, record { front = refl; later = λ fields f. f })

      as_old : (old new : List ℕ) → ReadsAsEither h.blkno old new old
      as_old old new g e = inl (g, e, record { front = refl; later = λ fields f. f })

      after_whole : length (after.disk.block_at hb) ≡ before.disk.size
      after_whole = elim hb_now [ inl same ↦ ap length same ∙ old_long | inr come ↦ ap length come ∙ bytes_long ]

      after_either : ReadsAsEither h.blkno (before.disk.block_at hb) header.bytes (after.disk.block_at hb)
      after_either = elim hb_now [
        | inl same ↦ subst (ReadsAsEither h.blkno (before.disk.block_at hb) header.bytes) (sym same) (as_old (before.disk.block_at hb) header.bytes)
        | inr come ↦ subst (ReadsAsEither h.blkno (before.disk.block_at hb) header.bytes) (sym come) (as_new (before.disk.block_at hb) header.bytes)
      ]

      size_after : after.disk.size ≡ before.disk.size
      size_after = stopped_size node mid after (header ∷ []) block tells'' s ∙ homes.written.size ∙ size_between

      count_after : after.disk.count ≡ before.disk.count
      count_after = stopped_count node mid after (header ∷ []) block tells'' s ∙ homes.written.count ∙ count_between

      disk_cut : IsCutShort im is.layout (image_of after.disk)
      disk_cut = header_cut (image_of after.disk) size_after count_after h (record { clean = clean; others = others_now; whole = after_whole; either = after_either })

      -- so it has the journals' places where they were
      place_now : content_block (every (image_of after.disk) its_dinode) h.blkno ≡ hb
      place_now = (cuts.its im (image_of after.disk) is.layout t (its_journals im m is) stands disk_cut).place n its_dinode h.blkno its_at low ∙ sym hb_is

      low_now : h.blkno < (ring_at (image_of after.disk) its_dinode).places
      low_now = subst (λ k. h.blkno < k) (sym ((cuts.its im (image_of after.disk) is.layout t (its_journals im m is) stands disk_cut).many n its_dinode its_at)) low

      -- ---- whatever became of it

      left_others : (b : ℕ) → b ≢ hb → left.at b ≡ unwrap_or (bytes_put plan b) (between.disk.block_at b)
      left_others b off = by (flown_by after.disk node b) refl
        where
          by : (o : Option (List ℕ)) → flown_by after.disk node b ≡ o → left.at b ≡ unwrap_or (bytes_put plan b) (between.disk.block_at b)
          by None e = outcome.still b e ∙ others_now b off
          by (Some bytes) e = absurd (off (flown_is node mid after (header ∷ []) block tells'' s header refl b bytes e).0)

      left_whole : length (left.at hb) ≡ before.disk.size
      left_whole = by (flown_by after.disk node hb) refl
        where
          by : (o : Option (List ℕ)) → flown_by after.disk node hb ≡ o → length (left.at hb) ≡ before.disk.size
          by None e = ap length (outcome.still hb e) ∙ after_whole
          by (Some bytes) e = outcome.whole hb bytes e ∙ size_after

      left_either : ReadsAsEither h.blkno (before.disk.block_at hb) header.bytes (left.at hb)
      left_either = by (flown_by after.disk node hb) refl
        where
          of_flight : (bytes : List ℕ) → flown_by after.disk node hb ≡ Some bytes → ReadsAsEither h.blkno (after.disk.block_at hb) bytes (left.at hb)
          of_flight bytes e =
              subst (λ c. ReadsAsEither h.blkno (after.disk.block_at c) bytes (left.at c)) place_now (no_false n its_dinode h.blkno bytes its_at low_now (ap (flown_by after.disk node) place_now ∙ e))

          by : (o : Option (List ℕ)) → flown_by after.disk node hb ≡ o → ReadsAsEither h.blkno (before.disk.block_at hb) header.bytes (left.at hb)
          by None e = subst (ReadsAsEither h.blkno (before.disk.block_at hb) header.bytes) (sym (outcome.still hb e)) after_either
          by (Some bytes) e = λ g reads. elim (of_flight bytes e g reads) [
            | inr new ↦ inr (new.0, ap (accepted h.blkno) (sym (flown_is node mid after (header ∷ []) block tells'' s header refl hb bytes e).1) ∙ new.1, new.2)
            | inl old ↦ elim hb_now [
              | inl same ↦ inl (old.0, ap (accepted h.blkno) (sym same) ∙ old.1, old.2)
              | inr come ↦ inr (old.0, ap (accepted h.blkno) (sym come) ∙ old.1, old.2)
            ]
          ]

      pub failed_at_header : IsCutShort im is.layout left
      failed_at_header = header_cut left (outcome.size ∙ size_after) (outcome.count ∙ count_after) h (record { clean = clean; others = left_others; whole = left_whole; either = left_either })

-- ---- the disk that failed tells as before

tells_bringing : (node : ℕ) (before after : Moment) (ws : List Written) (block : Option ℕ) (items : List TraceItem) → StopsBringing node before after ws block items → after.disk.tells ≡ before.disk.tells
tells_bringing node before after ws block items s = s.stopped.stopped.disk.tells ∙ s.stopped.brought.written.tells

tells_stopped : (node : ℕ) (before after : Moment) (home : List Written) (header : Written) (block : Option ℕ) (items : List TraceItem) → StopsReplay node before after home header block items → after.disk.tells ≡ before.disk.tells
tells_stopped node before after home header block items (at_home s) = tells_bringing node before after home block items s
tells_stopped node before after home header block items (at_header mid homes more s are) = tells_bringing node mid after (header ∷ []) block more s ∙ homes.written.tells

tells_failed : (node time : ℕ) (before after : Moment) (m : MountedValue) (plans : List Plan) (items items' : List TraceItem) (block : Option ℕ) → HaveFailed node time before after m.journals plans items items' block
    → IsTrue before.disk.tells → IsTrue after.disk.tells
tells_failed node time before after m plans items items' block f tells =
    subst IsTrue (sym (stopped f.plan.clean f.failed.stopped ∙ tells_all node 1 time before f.between (take f.count m.journals) (take f.count plans) f.replayed.added f.replayed.replays)) tells
  where
    stopped : (o : Option LogHeader)
        → MatchOption o ⊥ (λ (h : LogHeader). StopsReplay node f.between after f.plan.home.items (clean_block f.between.disk.size (get_or f.journal.blocks h.blkno 0) (f.count + 1) f.journal.dinode time h) block f.failed.added)
        → after.disk.tells ≡ f.between.disk.tells
    stopped None x = absurd x
    stopped (Some h) x = tells_stopped node f.between after f.plan.home.items (clean_block f.between.disk.size (get_or f.journal.blocks h.blkno 0) (f.count + 1) f.journal.dinode time h) block f.failed.added x

-- ---- the law

module _ (given : HeadersReadBack) (node time : ℕ) (before after : Moment) (m : MountedValue) (plans : List Plan) (items items' : List TraceItem) (block : Option ℕ) (left : Image) (t : Tree) (tells : IsTrue before.disk.tells)
    (idle : IsIdle before.disk) (sized : IsBlockSize before.disk.size) (is : IsMounted (image_of before.disk) m) (are : ArePlans (image_of before.disk) is.layout plans)
    (can : CanReplayAll before.disk m.journals plans) (read : AreHeadersRead before.disk.size 1 time m.journals plans) (f : HaveFailed node time before after m.journals plans items items' block)
    (stands : StandsReplayed (image_of before.disk) t) (outcome : IsImageOutcome (image_of after.disk) (flown_by after.disk node) left)
    (no_false : NoFalseHeader (image_of after.disk) is.layout (flown_by after.disk node) left) where
  first : (b : ℕ) → b < before.disk.count → IsPlaceIn (image_of before.disk) is.layout b → length (before.disk.block_at b) ≡ before.disk.size
  first =
      place_whole (image_of before.disk) is.layout (its_journals (image_of before.disk) m is) stands.replayed
      (replayed_by_any (image_of before.disk) stands.replayed is.layout stands.layout (its_journals (image_of before.disk) m is) stands.is) stands.stands.owners stands.stands.layout t
      (record { laid = stands.stands.laid; reads = stands.stands.reads })

  tells_between : IsTrue f.between.disk.tells
  tells_between = subst IsTrue (sym (tells_all node 1 time before f.between (take f.count m.journals) (take f.count plans) f.replayed.added f.replayed.replays)) tells

  size_is : f.between.disk.size ≡ before.disk.size
  size_is = size_between given node time f.count before f.between m plans f.replayed.added tells idle sized is are can read f.replayed.replays f.journal f.plan f.at_journal f.at_plan first

  in_replay : (h : LogHeader) → f.plan.clean ≡ Some h → StopsReplay node f.between after f.plan.home.items (clean_block before.disk.size (get_or f.journal.blocks h.blkno 0) (f.count + 1) f.journal.dinode time h) block f.failed.added
      → IsCutShort (image_of before.disk) is.layout left
  in_replay h clean (at_home s) =
      failed_at_home given node time f.count before f.between m plans f.replayed.added tells idle sized is are can read f.replayed.replays f.journal f.plan f.at_journal f.at_plan first after left outcome block tells_between s.stopped
  in_replay h clean (at_header mid homes more s told) =
      failed_at_header given node time f.count before f.between m plans f.replayed.added tells idle sized is are can read f.replayed.replays f.journal f.plan f.at_journal f.at_plan first after left outcome no_false t stands h
      clean mid homes tells_between (subst IsTrue (sym homes.written.tells) tells_between) block s.stopped

  cut : (o : Option LogHeader) → f.plan.clean ≡ o
      → MatchOption o ⊥ (λ (h : LogHeader). StopsReplay node f.between after f.plan.home.items (clean_block f.between.disk.size (get_or f.journal.blocks h.blkno 0) (f.count + 1) f.journal.dinode time h) block f.failed.added)
      → IsCutShort (image_of before.disk) is.layout left
  cut None e x = absurd x
  cut (Some h) e x =
      in_replay h e (subst (λ z. StopsReplay node f.between after f.plan.home.items (clean_block z (get_or f.journal.blocks h.blkno 0) (f.count + 1) f.journal.dinode time h) block f.failed.added) size_is x)

  stands_left : StandsReplayed left t
  stands_left = (cut_replays_stand (image_of before.disk) left is.layout t (its_journals (image_of before.disk) m is) stands (cut f.plan.clean refl f.failed.stopped)).1

pub failed_replays_stand : HeadersReadBack → FailedReplaysStand
failed_replays_stand given node time before after m plans items items' block t tells idle sized is are can read f stands = record {
  tells = tells_failed node time before after m plans items items' block f tells;
  stands = λ left of. stands_left given node time before after m plans items items' block left t tells idle sized is are can read f stands of.outcome of.true_headers;
}
