-- What each block has once all journals are replayed.
use Rattle.std.proofs.Common.{◌≡◌, ◌≢◌, ℕ, suc, ◌+◌, Bool, true, false, List, [], ◌∷◌, get_or, Option, None, Some, refl, sym, ap, subst, ◌∙◌, arith}
use Rattle.std.specs.Prelude.{◌==◌, IfSome, IsTrue, if◌then◌else◌, slice_get, unwrap_or}
use Rattle.std.proofs.lemmas.Bool.{cond-false, ne_eqb}
use Rattle.drafts.specs.declared.change.Written.{Written}
use Rattle.disk_turns.specs.Turns.{Moment}
use Rattle.disk_turns.specs.Writing.{flights_of}
use Rattle.image_mount.specs.Mounted.{Journal}
use Rattle.image_replays.specs.Replays.{first_of_both, put_by}
use Rattle.journal_plans.specs.Plans.{bytes_put}
use Rattle.journal_reads.specs.Reading.{ring_read}
use Rattle.journal_replays.specs.Headers.{clean_block}
use Rattle.journal_replays.specs.Replays.{IsReplayWith}
use Rattle.log_layout.specs.declared.log_header.LogHeader.{LogHeader}
use Rattle.log_layout.proofs.SamePlaces.{nothing_live}
use Rattle.peer_replay.specs.Plans.{clean_after, clean_header}
use Rattle.peer_replay.specs.declared.planned.Plan.{Plan}
use Rattle.shared_disk.specs.Disk.{DiskState, flight_to}
use Rattle.trace_text.specs.declared.item.TraceItem.{TraceItem}
use Rattle.image_recovery.specs.Ended.{AreOnce, AreTheirs, IsNoHeader, ReplayedIsLeft}
use Rattle.image_recovery.specs.Recoveries.{AreReplays}
use Rattle.image_recovery.proofs.Ending.{flies_put, tells_one}

-- ---- one replay

module _ (node slot dinode : ℕ) (blocks : List ℕ) (time : ℕ) (before after : Moment) (home : List Written) where
  -- a block that isn't the header's has what is put home there, or what it had
  left_one : (c : Option LogHeader) (items : List TraceItem) (b : ℕ) → IsTrue before.disk.tells → IfSome c (λ (h : LogHeader). get_or blocks h.blkno 0 ≢ b) → (c ≡ None → flight_to (flights_of home) b ≡ None)
      → IsReplayWith node slot dinode blocks time before after home c items → after.disk.block_at b ≡ unwrap_or (flight_to (flights_of home) b) (before.disk.block_at b)
  left_one None items b tells off none is = ap (λ (m : Moment). m.disk.block_at b) is.0 ∙ ap (λ o. unwrap_or o (before.disk.block_at b)) (sym (none refl))
  left_one (Some h) items b tells off none is =
      is.headed.written.blocks_are (subst IsTrue (sym is.homes.written.tells) tells) b
      ∙ ap (λ o. unwrap_or o (is.between.disk.block_at b)) (cond-false (get_or blocks h.blkno 0 == b) (Some (clean_block before.disk.size (get_or blocks h.blkno 0) slot dinode time h).bytes) None (ne_eqb (get_or blocks h.blkno 0) b off))
      ∙ is.homes.written.blocks_are tells b

none_some : {h : LogHeader} → ◌≡◌ {A = Option LogHeader} (Some h) None → ⊥
none_some e = cc

head_clean : (places : ℕ) (head : LogHeader) → clean_header places head ≡ None → head.clean ≡ true
head_clean places head none = by head.clean refl none
  where
    by : (c : Bool) → head.clean ≡ c → (if c then None else Some (clean_after places head)) ≡ None → head.clean ≡ true
    by true is e = is
    by false is e = absurd (none_some e)

-- of a journal whose head is clean nothing is put home
none_of_clean : (d : DiskState) (node : ℕ) (js : List Journal) (ps : List Plan) → AreTheirs d node js ps → (i : ℕ) (j : Journal) (p : Plan) → slice_get js i ≡ Some j → slice_get ps i ≡ Some p → p.clean ≡ None
    → (b : ℕ) → bytes_put p b ≡ None
none_of_clean d node js ps theirs i j p at_j at_p none b =
    let plan = theirs.plan i j p at_j at_p in
    let clean = head_clean (ring_read d node j.blocks).places plan.clean.0 (sym plan.clean.2 ∙ none) in
    plan.live b ∙ (nothing_live (ring_read d node j.blocks) (plan.clean.0, plan.clean.1, clean)).none b

-- ---- all of them

none_later : (ps : List Plan) (b : ℕ) → ((k : ℕ) (q : Plan) → slice_get ps k ≡ Some q → bytes_put q b ≡ None) → put_by ps b ≡ None
none_later [] b all = refl
none_later (q ∷ qs) b all = ap (λ o. first_of_both o (put_by qs b)) (all 0 q refl) ∙ none_later qs b (λ k. all (suc k))

off_header : (c : Option LogHeader) (P : LogHeader → Type 0) → ((h : LogHeader) → c ≡ Some h → P h) → IfSome c P
off_header None P f = tt
off_header (Some h) P f = f h refl

left_all : (node slot time : ℕ) (before after : Moment) (js : List Journal) (ps : List Plan) (items : List TraceItem) → IsTrue before.disk.tells
    → ((i : ℕ) (j : Journal) (p : Plan) → slice_get js i ≡ Some j → slice_get ps i ≡ Some p → p.clean ≡ None → (b : ℕ) → bytes_put p b ≡ None) → AreOnce ps
    → AreReplays node slot time before js ps after items → (b : ℕ) → IsNoHeader b js ps → after.disk.block_at b ≡ unwrap_or (put_by ps b) (before.disk.block_at b)
left_all node slot time before after [] [] items tells none once (same, no_items) b off = ap (λ (m : Moment). m.disk.block_at b) same
left_all node slot time before after [] (p ∷ ps) items tells none once so b off = absurd so
left_all node slot time before after (j ∷ js) [] items tells none once so b off = absurd so
left_all node slot time before after (j ∷ js) (p ∷ ps) items tells none once (mid, first, later, are, one, rest) b off =
    by (bytes_put p b) refl
    (left_all node (slot + 1) time mid after js ps later (subst IsTrue (sym (tells_one node slot j.dinode j.blocks time before mid p.home.items p.clean first one)) tells) (λ i. none (suc i))
    (λ i k c q r bytes apart. once (suc i) (suc k) c q r bytes (λ e. apart (let same : i ≡ k = omega (arith, e) in same))) rest b (λ i. off (suc i)))
    (left_one node slot j.dinode j.blocks time before mid p.home.items p.clean first b tells
    (off_header p.clean (λ (h : LogHeader). get_or j.blocks h.blkno 0 ≢ b) (λ h is. off 0 j p h refl refl is))
    (λ is. flies_put p.home.items b ∙ none 0 j p refl refl is b) one
    ∙ ap (λ o. unwrap_or o (before.disk.block_at b)) (flies_put p.home.items b))
  where
    by : (o : Option (List ℕ)) → bytes_put p b ≡ o → after.disk.block_at b ≡ unwrap_or (put_by ps b) (mid.disk.block_at b) → mid.disk.block_at b ≡ unwrap_or (bytes_put p b) (before.disk.block_at b)
        → after.disk.block_at b ≡ unwrap_or (first_of_both o (put_by ps b)) (before.disk.block_at b)
    by None is later_is one_is = later_is ∙ ap (unwrap_or (put_by ps b)) (one_is ∙ ap (λ o. unwrap_or o (before.disk.block_at b)) is)
    by (Some bytes) is later_is one_is =
        later_is
        ∙ ap (λ o. unwrap_or o (mid.disk.block_at b)) (none_later ps b (λ k q at. once 0 (suc k) b p q bytes (λ e. omega (arith, e)) refl at is))
        ∙ one_is ∙ ap (λ o. unwrap_or o (before.disk.block_at b)) is

pub replayed_is_left : ReplayedIsLeft
replayed_is_left node time before after js ps items tells theirs once so b off = left_all node 1 time before after js ps items tells (none_of_clean before.disk node js ps theirs) once so b off
