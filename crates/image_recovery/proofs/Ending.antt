-- What the journals say once all are replayed.
use Rattle.std.proofs.Common.{◌≡◌, ◌≢◌, ℕ, zero, suc, ◌+◌, ◌<◌, ◌^◌, Bool, true, false, List, [], ◌∷◌, length, get_or, Option, None, Some, refl, sym, ap, subst, subst₂, ◌∙◌, arith}
use Rattle.std.specs.Prelude.{◌==◌, IfSome, IsTrue, if◌then◌else◌, find, slice_get, unwrap_or}
use Rattle.std.specs.Option.{option_map}
use Rattle.std.proofs.lemmas.Bool.{cond-false, cond-true, eq-eqb, ne_eqb}
use Rattle.std.proofs.Math.Nat.{mod-le}
use Rattle.drafts.specs.declared.change.Written.{Written}
use Rattle.shared_disk.specs.Disk.{DiskState, Flight, flight_to, written}
use Rattle.trace_text.specs.declared.item.TraceItem.{TraceItem}
use Rattle.disk_turns.specs.Turns.{Moment}
use Rattle.disk_turns.specs.Writing.{flights_of}
use Rattle.image_mount.specs.Mounted.{Journal}
use Rattle.journal_plans.specs.Plans.{IsPlanOf, bytes_put}
use Rattle.journal_reads.specs.Reading.{ring_read}
use Rattle.journal_scan.specs.Said.{logged}
use Rattle.gfs2_layout.specs.Bytes.{u32_at}
use Rattle.journal_replays.specs.Headers.{IsHeaderRead, clean_block, filled}
use Rattle.journal_replays.specs.Replays.{IsReplayWith}
use Rattle.log_layout.specs.Chunks.{Logged}
use Rattle.log_layout.specs.Headers.{as_read}
use Rattle.log_layout.specs.Transactions.{after as sequence_after}
use Rattle.log_layout.specs.Journal.{IsClean, Ring, head_in, next}
use Rattle.log_layout.specs.Laws.{HasSamePlaces}
use Rattle.log_layout.specs.declared.log_header.LogHeader.{LogHeader}
use Rattle.log_layout.proofs.SamePlaces.{nothing_live, says_the_same}
use Rattle.peer_replay.specs.Plans.{clean_after, clean_header}
use Rattle.peer_replay.specs.declared.planned.Plan.{Plan}
use Rattle.clean_journals.specs.Ended.{HasPut}
use Rattle.clean_journals.proofs.Ending.{clean_headers_end}
use Rattle.image_recovery.specs.Ended.{AreApart, AreTheirs, HasEnded, ReplayedHaveEnded, head_left}
use Rattle.image_recovery.specs.Recoveries.{AreHeadersRead, AreReplays}
use Rattle.image_recovery.proofs.Recovered.{can_at}

pub some_is : {A : Type 0} {x y : A} → ◌≡◌ {A = Option A} (Some x) (Some y) → x ≡ y
some_is e = cc

-- ---- what is put home, as writes in flight

pub flies_put : (ws : List Written) (b : ℕ) → flight_to (flights_of ws) b ≡ option_map (λ (e : Logged). e.bytes) (option_map logged (find (λ (w : Written). w.block == b) ws))
flies_put [] b = refl
flies_put (w ∷ ws) b = by (w.block == b) (flies_put ws b)
  where
    put : Option Written → Option (List ℕ)
    put o = option_map (λ (e : Logged). e.bytes) (option_map logged o)

    by : (t : Bool) → flight_to (flights_of ws) b ≡ put (find (λ (v : Written). v.block == b) ws) → (if t then Some w.bytes else flight_to (flights_of ws) b) ≡ put (if t then Some w else find (λ (v : Written). v.block == b) ws)
    by true rest = refl
    by false rest = rest

-- ---- one replay

module _ (node slot dinode : ℕ) (blocks : List ℕ) (time : ℕ) (before after : Moment) (home : List Written) where
  -- a block that is no place of the header, and isn't put home, stays
  stays_one : (c : Option LogHeader) (items : List TraceItem) (b : ℕ) → IsTrue before.disk.tells → flight_to (flights_of home) b ≡ None → IfSome c (λ (h : LogHeader). get_or blocks h.blkno 0 ≢ b)
      → IsReplayWith node slot dinode blocks time before after home c items → after.disk.block_at b ≡ before.disk.block_at b
  stays_one None items b tells none off is = ap (λ (m : Moment). m.disk.block_at b) is.0
  stays_one (Some h) items b tells none off is =
      is.headed.written.blocks_are (subst IsTrue (sym is.homes.written.tells) tells) b
      ∙ ap (λ o. unwrap_or o (is.between.disk.block_at b)) (cond-false (get_or blocks h.blkno 0 == b) (Some (clean_block before.disk.size (get_or blocks h.blkno 0) slot dinode time h).bytes) None (ne_eqb (get_or blocks h.blkno 0) b off))
      ∙ is.homes.written.blocks_are tells b ∙ ap (λ o. unwrap_or o (before.disk.block_at b)) none

  -- the block of the header has its bytes
  pub there_one : (h : LogHeader) (items : List TraceItem) → IsTrue before.disk.tells → IsReplayWith node slot dinode blocks time before after home (Some h) items
      → after.disk.block_at (get_or blocks h.blkno 0) ≡ (clean_block before.disk.size (get_or blocks h.blkno 0) slot dinode time h).bytes
  there_one h items tells is =
      is.headed.written.blocks_are (subst IsTrue (sym is.homes.written.tells) tells) (get_or blocks h.blkno 0)
      ∙ ap (λ o. unwrap_or o (is.between.disk.block_at (get_or blocks h.blkno 0)))
      (cond-true (get_or blocks h.blkno 0 == get_or blocks h.blkno 0) (Some (clean_block before.disk.size (get_or blocks h.blkno 0) slot dinode time h).bytes) None (eq-eqb (get_or blocks h.blkno 0) (get_or blocks h.blkno 0) refl))

  pub size_one : (c : Option LogHeader) (items : List TraceItem) → IsReplayWith node slot dinode blocks time before after home c items → after.disk.size ≡ before.disk.size
  size_one None items is = ap (λ (m : Moment). m.disk.size) is.0
  size_one (Some h) items is = is.headed.written.size ∙ is.homes.written.size

  pub tells_one : (c : Option LogHeader) (items : List TraceItem) → IsReplayWith node slot dinode blocks time before after home c items → after.disk.tells ≡ before.disk.tells
  tells_one None items is = ap (λ (m : Moment). m.disk.tells) is.0
  tells_one (Some h) items is = is.headed.written.tells ∙ is.homes.written.tells

  pub idle_one : (c : Option LogHeader) (items : List TraceItem) → before.disk.in_flight node ≡ [] → IsReplayWith node slot dinode blocks time before after home c items → after.disk.in_flight node ≡ []
  idle_one None items idle is = ap (λ (m : Moment). m.disk.in_flight node) is.0 ∙ idle
  idle_one (Some h) items idle is = is.headed.written.idle node

-- ---- rings of one disk and another

pub read_is : (d : DiskState) (node b : ℕ) → d.in_flight node ≡ [] → written d.block_at (d.in_flight node) b ≡ d.block_at b
read_is d node b idle = ap (λ (fs : List Flight). written d.block_at fs b) idle

pub ring_same : (d d' : DiskState) (node : ℕ) (blocks : List ℕ) → d'.size ≡ d.size → d.in_flight node ≡ [] → d'.in_flight node ≡ []
    → ((p : ℕ) → p < length blocks → d'.block_at (get_or blocks p 0) ≡ d.block_at (get_or blocks p 0)) → HasSamePlaces (ring_read d node blocks) (ring_read d' node blocks)
ring_same d d' node blocks size idle idle' same = record {
  size = sym size;
  places = refl;
  blocks = λ p low. read_is d node (get_or blocks p 0) idle ∙ sym (same p low) ∙ sym (read_is d' node (get_or blocks p 0) idle');
}

pub plan_same : (r s : Ring) (p : Plan) → HasSamePlaces r s → IsPlanOf r p → IsPlanOf s p
plan_same r s p same is = record {
  readable = (says_the_same r s same).readable is.readable;
  live = λ block. is.live block ∙ (says_the_same r s same).live block;
  clean = (is.clean.0, sym (says_the_same r s same).head ∙ is.clean.1, is.clean.2 ∙ ap (λ n. clean_header n is.clean.0) same.places);
}

ended_same : (c d d' : DiskState) (node slot time : ℕ) (j : Journal) (p : Plan) → HasSamePlaces (ring_read d node j.blocks) (ring_read d' node j.blocks) → HasEnded c d node slot time j p → HasEnded c d' node slot time j p
ended_same c d d' node slot time j p same is =
    let clean : IsClean (ring_read d' node j.blocks) = (is.clean.0, sym (says_the_same (ring_read d node j.blocks) (ring_read d' node j.blocks) same).head ∙ is.clean.1, is.clean.2) in
    record {
      clean = clean;
      nothing = nothing_live (ring_read d' node j.blocks) clean;
      headed = λ head headed. sym (says_the_same (ring_read d node j.blocks) (ring_read d' node j.blocks) same).head ∙ is.headed head headed;
      sequence = λ head now headed ends. is.sequence head now headed ((says_the_same (ring_read d node j.blocks) (ring_read d' node j.blocks) same).head ∙ ends);
    }

ended_from : (c c' d : DiskState) (node slot time : ℕ) (j : Journal) (p : Plan) → HasSamePlaces (ring_read c node j.blocks) (ring_read c' node j.blocks) → HasEnded c' d node slot time j p → HasEnded c d node slot time j p
ended_from c c' d node slot time j p same is = record {
  clean = is.clean;
  nothing = is.nothing;
  headed = λ head headed.
      is.headed head (sym (says_the_same (ring_read c node j.blocks) (ring_read c' node j.blocks) same).head ∙ headed) ∙ ap (λ n. Some (head_left n slot time j p.clean head)) (sym same.size);
  sequence = λ head now headed. is.sequence head now (sym (says_the_same (ring_read c node j.blocks) (ring_read c' node j.blocks) same).head ∙ headed);
}

-- a journal that is left as it is
ended_still : (d : DiskState) (node slot time : ℕ) (j : Journal) (p : Plan) → p.clean ≡ None → IsClean (ring_read d node j.blocks) → HasEnded d d node slot time j p
ended_still d node slot time j p none clean = record {
  clean = clean;
  nothing = nothing_live (ring_read d node j.blocks) clean;
  headed = λ head headed. headed ∙ ap (λ c. Some (head_left d.size slot time j c head)) (sym none);
  sequence = λ head now headed ends. let same : now ≡ head = some_is (sym ends ∙ headed) in let equal : now.sequence ≡ head.sequence = ap (λ (h : LogHeader). h.sequence) same in omega (arith, equal);
}

-- what is read of a header has its sequence
read_sequence : (h : LogHeader) (bytes : List ℕ) → (as_read h bytes).sequence ≡ h.sequence
read_sequence h bytes = by (u32_at 48 bytes == 0)
  where
    by : (plain : Bool) → (if plain then record h { later = None } else h).sequence ≡ h.sequence
    by true = refl
    by false = refl

-- ---- the journal that is replayed ends

module _ (node slot time : ℕ) (before after : Moment) (j : Journal) (p : Plan) (items : List TraceItem) (tells : IsTrue before.disk.tells) (idle : before.disk.in_flight node ≡ [])
    (own : (q r : ℕ) → q < length j.blocks → r < length j.blocks → get_or j.blocks q 0 ≡ get_or j.blocks r 0 → q ≡ r)
    (homes : (q : ℕ) → q < length j.blocks → bytes_put p (get_or j.blocks q 0) ≡ None)
    (low : (head : LogHeader) → head_in (ring_read before.disk node j.blocks) ≡ Some head → head.sequence + 1 < 2 ^ 64) where
  -- of a journal whose head isn't clean
  ended_dirty : (head : LogHeader) → p.clean ≡ Some (clean_after (length j.blocks) head) → head_in (ring_read before.disk node j.blocks) ≡ Some head → next (length j.blocks) head.blkno < length j.blocks
      → IsReplayWith node slot j.dinode j.blocks time before after p.home.items (Some (clean_after (length j.blocks) head)) items
      → IsHeaderRead before.disk.size slot j.dinode j.blocks time (Some (clean_after (length j.blocks) head)) → HasEnded before.disk after.disk node slot time j p
  ended_dirty head own_header headed inside is read =
      let header = clean_after (length j.blocks) head in
      let block = get_or j.blocks header.blkno 0 in
      let idle' = idle_one node slot j.dinode j.blocks time before after p.home.items (Some header) items idle is in
      let put : HasPut (ring_read before.disk node j.blocks) (ring_read after.disk node j.blocks) header.blkno (clean_block before.disk.size block slot j.dinode time header).bytes
      = record {
        size = size_one node slot j.dinode j.blocks time before after p.home.items (Some header) items is;
        places = refl;
        there = read_is after.disk node block idle' ∙ there_one node slot j.dinode j.blocks time before after p.home.items header items tells is;
        others = λ q below off.
            read_is after.disk node (get_or j.blocks q 0) idle'
            ∙ stays_one node slot j.dinode j.blocks time before after p.home.items (Some header) items (get_or j.blocks q 0) tells (flies_put p.home.items (get_or j.blocks q 0) ∙ homes q below)
            (λ same. off (own q header.blkno below inside (sym same))) is
            ∙ sym (read_is before.disk node (get_or j.blocks q 0) idle);
      } in
      let ended = clean_headers_end (ring_read before.disk node j.blocks) (ring_read after.disk node j.blocks) head block slot j.dinode time headed (low head headed) read put in
      record {
        clean = ended.clean;
        nothing = ended.nothing;
        headed = λ first headed'. ended.headed ∙ ap (λ c. Some (head_left before.disk.size slot time j c first)) (sym own_header);
        sequence = λ first now headed' ends.
            let old : first ≡ head = some_is (sym headed' ∙ headed) in
            let new : now ≡ as_read (filled block slot j.dinode time header) (clean_block before.disk.size block slot j.dinode time header).bytes = some_is (sym ends ∙ ended.headed) in
            let was : first.sequence ≡ head.sequence = ap (λ (h : LogHeader). h.sequence) old in
            let is_now : now.sequence ≡ sequence_after head.sequence
            = ap (λ (h : LogHeader). h.sequence) new ∙ read_sequence (filled block slot j.dinode time header) (clean_block before.disk.size block slot j.dinode time header).bytes in
            let next = mod-le (head.sequence + 1) (2 ^ 64) in
            omega (arith, was, is_now, next);
      }

  ended_by : (head : LogHeader) (clean : Bool) → head.clean ≡ clean → head_in (ring_read before.disk node j.blocks) ≡ Some head → (c : Option LogHeader) → p.clean ≡ c → c ≡ (if clean then None else Some (clean_after (length j.blocks) head))
      → IfSome c (λ (h : LogHeader). h.blkno < length j.blocks) → IsReplayWith node slot j.dinode j.blocks time before after p.home.items c items → IsHeaderRead before.disk.size slot j.dinode j.blocks time c
      → HasEnded before.disk after.disk node slot time j p
  ended_by head true is_clean headed c own_c c_is inside is read =
      let same = (subst (λ (o : Option LogHeader). IsReplayWith node slot j.dinode j.blocks time before after p.home.items o items) c_is is).0 in
      let clean : IsClean (ring_read before.disk node j.blocks) = (head, headed, is_clean) in
      subst (λ (m : Moment). HasEnded before.disk m.disk node slot time j p) (sym same) (ended_still before.disk node slot time j p (own_c ∙ c_is) clean)
  ended_by head false is_clean headed c own_c c_is inside is read =
      ended_dirty head (own_c ∙ c_is) headed (subst (λ (o : Option LogHeader). IfSome o (λ (h : LogHeader). h.blkno < length j.blocks)) c_is inside)
      (subst (λ (o : Option LogHeader). IsReplayWith node slot j.dinode j.blocks time before after p.home.items o items) c_is is)
      (subst (IsHeaderRead before.disk.size slot j.dinode j.blocks time) c_is read)

  ended_one : IsPlanOf (ring_read before.disk node j.blocks) p → IfSome p.clean (λ (h : LogHeader). h.blkno < length j.blocks)
      → IsReplayWith node slot j.dinode j.blocks time before after p.home.items p.clean items → IsHeaderRead before.disk.size slot j.dinode j.blocks time p.clean → HasEnded before.disk after.disk node slot time j p
  ended_one plan inside is read = ended_by plan.clean.0 plan.clean.0.clean refl plan.clean.1 p.clean refl plan.clean.2 inside is read

-- ---- all of them

-- the replay of this journal by this plan leaves the block
abbrev pub Leaves : ℕ → Journal → Plan → Type 0
Leaves b j p = (bytes_put p b ≡ None) × IfSome p.clean (λ (h : LogHeader). get_or j.blocks h.blkno 0 ≢ b)

pub stays_all : (node slot time : ℕ) (before after : Moment) (js : List Journal) (ps : List Plan) (items : List TraceItem) (b : ℕ) → IsTrue before.disk.tells
    → ((k : ℕ) (l : Journal) (q : Plan) → slice_get js k ≡ Some l → slice_get ps k ≡ Some q → Leaves b l q) → AreReplays node slot time before js ps after items → after.disk.block_at b ≡ before.disk.block_at b
stays_all node slot time before after [] [] items b tells leaves (same, none) = ap (λ (m : Moment). m.disk.block_at b) same
stays_all node slot time before after [] (p ∷ ps) items b tells leaves so = absurd so
stays_all node slot time before after (j ∷ js) [] items b tells leaves so = absurd so
stays_all node slot time before after (j ∷ js) (p ∷ ps) items b tells leaves (mid, first, later, are, one, rest) =
    let (home, off) = leaves 0 j p refl refl in
    stays_all node (slot + 1) time mid after js ps later b (subst IsTrue (sym (tells_one node slot j.dinode j.blocks time before mid p.home.items p.clean first one)) tells) (λ k. leaves (suc k)) rest
    ∙ stays_one node slot j.dinode j.blocks time before mid p.home.items p.clean first b tells (flies_put p.home.items b ∙ home) off one

pub rests_all : (node slot time : ℕ) (before after : Moment) (js : List Journal) (ps : List Plan) (items : List TraceItem) → before.disk.in_flight node ≡ [] → AreReplays node slot time before js ps after items
    → (after.disk.size ≡ before.disk.size) × (after.disk.in_flight node ≡ [])
rests_all node slot time before after [] [] items idle (same, none) = (ap (λ (m : Moment). m.disk.size) same, ap (λ (m : Moment). m.disk.in_flight node) same ∙ idle)
rests_all node slot time before after [] (p ∷ ps) items idle so = absurd so
rests_all node slot time before after (j ∷ js) [] items idle so = absurd so
rests_all node slot time before after (j ∷ js) (p ∷ ps) items idle (mid, first, later, are, one, rest) =
    let so = rests_all node (slot + 1) time mid after js ps later (idle_one node slot j.dinode j.blocks time before mid p.home.items p.clean first idle one) rest in
    (so.0 ∙ size_one node slot j.dinode j.blocks time before mid p.home.items p.clean first one, so.1)

-- each header has a place of its journal
abbrev pub HaveOwnPlaces : List Journal → List Plan → Type 0
HaveOwnPlaces js ps = (i : ℕ) (j : Journal) (p : Plan) → slice_get js i ≡ Some j → slice_get ps i ≡ Some p → IfSome p.clean (λ (h : LogHeader). h.blkno < length j.blocks)

-- a place of one journal is left by the replay of another
pub leaves_place : (js : List Journal) (ps : List Plan) → AreApart js ps → HaveOwnPlaces js ps → (i k q : ℕ) (j l : Journal) (p : Plan) → i ≢ k → slice_get js i ≡ Some j → slice_get js k ≡ Some l → slice_get ps k ≡ Some p
    → q < length j.blocks → Leaves (get_or j.blocks q 0) l p
leaves_place js ps apart places i k q j l p off at_j at_l at_p below = (apart.homes i k q j p at_j at_p below, by p.clean (places k l p at_l at_p))
  where
    by : (c : Option LogHeader) → IfSome c (λ (h : LogHeader). h.blkno < length l.blocks) → IfSome c (λ (h : LogHeader). get_or l.blocks h.blkno 0 ≢ get_or j.blocks q 0)
    by None is = tt
    by (Some h) is = λ same. apart.others i k q h.blkno j l off at_j at_l below is (sym same)

pub apart_rest : (j : Journal) (js : List Journal) (p : Plan) (ps : List Plan) → AreApart (j ∷ js) (p ∷ ps) → AreApart js ps
apart_rest j js p ps is = record {
  own = λ i. is.own (suc i);
  others = λ i k q r l m off. is.others (suc i) (suc k) q r l m (λ same. off (let e : i ≡ k = omega (arith, same) in e));
  homes = λ i k. is.homes (suc i) (suc k);
}

ended_all : (node slot time : ℕ) (before after : Moment) (js : List Journal) (ps : List Plan) (items : List TraceItem) → IsTrue before.disk.tells → before.disk.in_flight node ≡ [] → HaveOwnPlaces js ps
    → AreTheirs before.disk node js ps → AreApart js ps → AreHeadersRead before.disk.size slot time js ps → AreReplays node slot time before js ps after items
    → (i : ℕ) (j : Journal) (q : Plan) → slice_get js i ≡ Some j → slice_get ps i ≡ Some q → HasEnded before.disk after.disk node (slot + i) time j q
ended_all node slot time before after [] ps items tells idle places theirs apart read so i j q at at_q = absurd (let no : ◌≡◌ {A = Option Journal} None (Some j) = at in cc)
ended_all node slot time before after (k ∷ js) [] items tells idle places theirs apart read so i j q at at_q = absurd so
ended_all node slot time before after (k ∷ js) (p ∷ ps) items tells idle places theirs apart read (mid, first, later, are, one, rest) zero j q at at_q =
    subst₂ (λ (n : ℕ) (y : Journal). HasEnded before.disk after.disk node n time y q) (let same : slot ≡ slot + 0 = omega arith in same) (some_is at)
    (subst (HasEnded before.disk after.disk node slot time k) (some_is at_q)
    (ended_same before.disk mid.disk after.disk node slot time k p
    (ring_same mid.disk after.disk node k.blocks so.0 idle' so.1
    (λ q below. stays_all node (slot + 1) time mid after js ps later (get_or k.blocks q 0) tells'
    (λ i l r at_l at_r. leaves_place (k ∷ js) (p ∷ ps) apart places 0 (suc i) q k l r (λ same. omega (arith, same)) refl at_l at_r below) rest))
    (ended_one node slot time before mid k p first tells idle (λ q r. apart.own 0 q r k refl) (λ q. apart.homes 0 0 q k p refl refl) (λ head. theirs.low 0 k head refl)
    (theirs.plan 0 k p refl refl) (places 0 k p refl refl) one read.0)))
  where
    idle' : mid.disk.in_flight node ≡ []
    idle' = idle_one node slot k.dinode k.blocks time before mid p.home.items p.clean first idle one

    tells' : IsTrue mid.disk.tells
    tells' = subst IsTrue (sym (tells_one node slot k.dinode k.blocks time before mid p.home.items p.clean first one)) tells

    so : (after.disk.size ≡ mid.disk.size) × (after.disk.in_flight node ≡ [])
    so = rests_all node (slot + 1) time mid after js ps later idle' rest
ended_all node slot time before after (k ∷ js) (p ∷ ps) items tells idle places theirs apart read (mid, first, later, are, one, rest) (suc i) j q at at_q =
    subst (λ n. HasEnded before.disk after.disk node n time j q) (let next : (slot + 1) + i ≡ slot + suc i = omega arith in next)
    (ended_from before.disk mid.disk after.disk node (slot + 1 + i) time j q (same i j at)
    (ended_all node (slot + 1) time mid after js ps later tells' idle' (λ n. places (suc n)) theirs' (apart_rest k js p ps apart) (subst (λ n. AreHeadersRead n (slot + 1) time js ps) (sym size') read.1) rest i j q at at_q))
  where
    idle' : mid.disk.in_flight node ≡ []
    idle' = idle_one node slot k.dinode k.blocks time before mid p.home.items p.clean first idle one

    size' : mid.disk.size ≡ before.disk.size
    size' = size_one node slot k.dinode k.blocks time before mid p.home.items p.clean first one

    tells' : IsTrue mid.disk.tells
    tells' = subst IsTrue (sym (tells_one node slot k.dinode k.blocks time before mid p.home.items p.clean first one)) tells

    same : (n : ℕ) (l : Journal) → slice_get js n ≡ Some l → HasSamePlaces (ring_read before.disk node l.blocks) (ring_read mid.disk node l.blocks)
    same n l at_l = ring_same before.disk mid.disk node l.blocks size' idle idle' (λ q below.
        let (home, off) = leaves_place (k ∷ js) (p ∷ ps) apart places (suc n) 0 q l k p (λ e. omega (arith, e)) at_l refl refl below in
        stays_one node slot k.dinode k.blocks time before mid p.home.items p.clean first (get_or l.blocks q 0) tells (flies_put p.home.items (get_or l.blocks q 0) ∙ home) off one)

    theirs' : AreTheirs mid.disk node js ps
    theirs' = record {
      plan = λ n l q at_l at_q. plan_same (ring_read before.disk node l.blocks) (ring_read mid.disk node l.blocks) q (same n l at_l) (theirs.plan (suc n) l q at_l at_q);
      low = λ n l head at_l headed. theirs.low (suc n) l head at_l ((says_the_same (ring_read before.disk node l.blocks) (ring_read mid.disk node l.blocks) (same n l at_l)).head ∙ headed);
    }

pub replayed_have_ended : ReplayedHaveEnded
replayed_have_ended node time before after js ps items tells idle can theirs apart read so i j p at_j at_p =
    subst (λ n. HasEnded before.disk after.disk node n time j p) (let same : 1 + i ≡ i + 1 = omega arith in same)
    (ended_all node 1 time before after js ps items tells idle (λ k l q at_l at_q. (can_at before.disk js ps k l q can at_l at_q).place) theirs apart read so i j p at_j at_p)
