-- Journals that are replayed one after another.
use Rattle.std.proofs.Common.{◌≡◌, ℕ, suc, zero, ◌+◌, ◌<◌, List, [], ◌∷◌, ◌++◌, length, map, take, get_or, Option, None, Some, refl, sym, ap, subst, subst₂, ◌∙◌, arith, append_assoc}
use Rattle.std.specs.Prelude.{slice_get, IfSome}
use Rattle.std.specs.List.{AllByRecursion}
use Rattle.std.proofs.lemmas.List.{append-nil, length-take-le, take_more}
use Rattle.std.proofs.lemmas.Option.{slice_get-get_or, slice_get_within}
use Rattle.std.proofs.lemmas.Map.Keys.{sorted_from_strictly_increasing}
use Rattle.drafts.specs.declared.change.Written.{Written}
use Rattle.shared_disk.specs.Disk.{DiskState}
use Rattle.trace_text.specs.declared.item.TraceItem.{TraceItem}
use Rattle.disk_items.proofs.Going.{goes_on}
use Rattle.disk_turns.specs.Turns.{Moment}
use Rattle.disk_turns.proofs.Gaining.{gains_join}
use Rattle.disk_turns.proofs.Rising.{none_low, sorted_rise}
use Rattle.image_mount.specs.Mounted.{Journal}
use Rattle.image_replays.specs.Replays.{HasPlace}
use Rattle.image_recovery.specs.Laws.{PlannedCanBeReplayed, WritableCanBeReplayed}
use Rattle.image_recovery.specs.Recoveries.{AreHeadersRead, AreReplays, CanReplayAll, HaveReplayed}
use Rattle.journal_replays.specs.Faults.{IfDiskFailed, IfNoMemory}
use Rattle.journal_replays.specs.Headers.{IsHeaderRead}
use Rattle.journal_replays.specs.declared.faults.ReplayFault.{ReplayFault}
use Rattle.journal_replays.specs.declared.faults.ReplayFault.TheVariants.{Crashed, DiskFailed, NoMemory}
use Rattle.journal_replays.specs.Replays.{CanReplay, HasReplayed, IsReplayBy, IsSameDisk}
use Rattle.log_layout.specs.declared.log_header.LogHeader.{LogHeader}
use Rattle.peer_replay.specs.declared.planned.Plan.{Plan}

-- ---- what can be carried out

pub can_writable : WritableCanBeReplayed
can_writable d blocks p is place inside = record {
  home = record { rise = sorted_rise 0 p.home.items (none_low p.home.items) (sorted_from_strictly_increasing (map (λ (w : Written). w.block) p.home.items) is.rise); inside = is.inside; whole = is.whole };
  place = place;
  inside = inside;
}

-- a header that has a place
placed_parts : (d : DiskState) (blocks : List ℕ) (c : Option LogHeader) → IfSome c (HasPlace d blocks) → IfSome c (λ (h : LogHeader). h.blkno < length blocks) × IfSome c (λ (h : LogHeader). get_or blocks h.blkno 0 < d.count)
placed_parts d blocks None is = (tt, tt)
placed_parts d blocks (Some h) is = (is.place, is.inside)

pub can_planned : PlannedCanBeReplayed
can_planned d [] [] writable placed = tt
can_planned d [] (p ∷ ps) writable placed = absurd (let many : length (p ∷ ps) ≡ length {A = Journal} [] = placed.count in omega (arith, many))
can_planned d (j ∷ js) [] writable placed = absurd (let many : length {A = Plan} [] ≡ length (j ∷ js) = placed.count in omega (arith, many))
can_planned d (j ∷ js) (p ∷ ps) writable placed =
    let parts = placed_parts d j.blocks p.clean (placed.each 0 j p refl refl) in (
      can_writable d j.blocks p writable.0 parts.0 parts.1,
      can_planned d js ps writable.1 (record { count = let many : length (p ∷ ps) ≡ length (j ∷ js) = placed.count in omega (arith, many); each = λ i k q at_k at_q. placed.each (suc i) k q at_k at_q }),
    )

-- on the same disk
pub can_same : (d d' : DiskState) (blocks : List ℕ) (p : Plan) → IsSameDisk d d' → CanReplay d blocks p → CanReplay d' blocks p
can_same d d' blocks p same is = record {
  home = record {
    rise = is.home.rise;
    inside = subst (λ n. AllByRecursion (λ (w : Written). w.block < n) p.home.items) (sym same.count) is.home.inside;
    whole = subst (λ n. AllByRecursion (λ (w : Written). length w.bytes ≡ n) p.home.items) (sym same.size) is.home.whole;
  };
  place = is.place;
  inside = subst (λ n. IfSome p.clean (λ (h : LogHeader). get_or blocks h.blkno 0 < n)) (sym same.count) is.inside;
}

some_is : {A : Type 0} {x y : A} → ◌≡◌ {A = Option A} (Some x) (Some y) → x ≡ y
some_is e = cc

pub can_at : (d : DiskState) (js : List Journal) (ps : List Plan) (i : ℕ) (j : Journal) (p : Plan) → CanReplayAll d js ps → slice_get js i ≡ Some j → slice_get ps i ≡ Some p → CanReplay d j.blocks p
can_at d [] ps i j p can at_j at_p = absurd (let no : ◌≡◌ {A = Option Journal} None (Some j) = at_j in cc)
can_at d (k ∷ js) [] i j p can at_j at_p = absurd can
can_at d (k ∷ js) (q ∷ ps) zero j p can at_j at_p =
    subst (λ (x : Journal). CanReplay d x.blocks p) (some_is at_j) (subst (λ (x : Plan). CanReplay d k.blocks x) (some_is at_p) can.0)
can_at d (k ∷ js) (q ∷ ps) (suc i) j p can at_j at_p = can_at d js ps i j p can.1 at_j at_p

pub as_many : (d : DiskState) (js : List Journal) (ps : List Plan) → CanReplayAll d js ps → length ps ≡ length js
as_many d [] [] can = refl
as_many d [] (p ∷ ps) can = absurd can
as_many d (j ∷ js) [] can = absurd can
as_many d (j ∷ js) (p ∷ ps) can = ap suc (as_many d js ps can.1)

pub same_on : (a b c : DiskState) → IsSameDisk a b → IsSameDisk b c → IsSameDisk a c
same_on a b c first more = record { size = more.size ∙ first.size; count = more.count ∙ first.count; tells = more.tells ∙ first.tells; fenced = more.fenced ∙ first.fenced }

-- ---- one more

replays_more : (node slot time : ℕ) (first mid last : Moment) (js : List Journal) (ps : List Plan) (j : Journal) (p : Plan) (xs ys : List TraceItem) → AreReplays node slot time first js ps mid xs
    → IsReplayBy node (slot + length js) j.dinode j.blocks time mid last p ys → AreReplays node slot time first (js ++ j ∷ []) (ps ++ p ∷ []) last (xs ++ ys)
replays_more node slot time first mid last [] [] j p xs ys (same, none) replay =
    let slot_is : slot + 0 ≡ slot = omega arith in (
      last,
      ys,
      [],
      ap (λ (zs : List TraceItem). zs ++ ys) none ∙ sym (append-nil ys),
      subst (λ (m : Moment). IsReplayBy node slot j.dinode j.blocks time m last p ys) same (subst (λ n. IsReplayBy node n j.dinode j.blocks time mid last p ys) slot_is replay),
      (refl, refl),
    )
replays_more node slot time first mid last [] (q ∷ ps) j p xs ys so replay = absurd so
replays_more node slot time first mid last (k ∷ js) [] j p xs ys so replay = absurd so
replays_more node slot time first mid last (k ∷ js) (q ∷ ps) j p xs ys (next, one, later, are, its, rest) replay =
    let slot_is : slot + suc (length js) ≡ (slot + 1) + length js = omega arith in (
      next,
      one,
      later ++ ys,
      ap (λ (zs : List TraceItem). zs ++ ys) are ∙ append_assoc one later ys,
      its,
      replays_more node (slot + 1) time next mid last js ps j p later ys rest (subst (λ n. IsReplayBy node n j.dinode j.blocks time mid last p ys) slot_is replay),
    )

pub headers_more : (size slot time : ℕ) (js : List Journal) (ps : List Plan) (j : Journal) (p : Plan) → length js ≡ length ps → AreHeadersRead size slot time js ps
    → IsHeaderRead size (slot + length js) j.dinode j.blocks time p.clean → AreHeadersRead size slot time (js ++ j ∷ []) (ps ++ p ∷ [])
headers_more size slot time [] [] j p long so one = (subst (λ n. IsHeaderRead size n j.dinode j.blocks time p.clean) (let same : slot + 0 ≡ slot = omega arith in same) one, tt)
headers_more size slot time [] (q ∷ ps) j p long so one = absurd (omega (arith, long))
headers_more size slot time (k ∷ js) [] j p long so one = absurd (omega (arith, long))
headers_more size slot time (k ∷ js) (q ∷ ps) j p long so one =
    (so.0, headers_more size (slot + 1) time js ps j p (omega (arith, long)) so.1 (subst (λ n. IsHeaderRead size n j.dinode j.blocks time p.clean) (let same : slot + suc (length js) ≡ (slot + 1) + length js = omega arith in same) one))

pub replayed_more : (node time : ℕ) (first mid last : Moment) (js : List Journal) (ps : List Plan) (j : Journal) (p : Plan) (slot : ℕ) (items one two : List TraceItem) → slot ≡ 1 + length js
    → HaveReplayed node time first mid js ps items one → HasReplayed node slot j.dinode j.blocks time mid last p one two → HaveReplayed node time first last (js ++ j ∷ []) (ps ++ p ∷ []) items two
replayed_more node time first mid last js ps j p slot items one two slot_is so next = record {
  added = so.added ++ next.added;
  are = next.are ∙ ap (λ (zs : List TraceItem). zs ++ next.added) so.are ∙ append_assoc items so.added next.added;
  replays = replays_more node 1 time first mid last js ps j p so.added next.added so.replays (subst (λ n. IsReplayBy node n j.dinode j.blocks time mid last p next.added) slot_is next.replay);
  told = (so.told.0 ++ next.told.0, goes_on so.added next.added so.told.0 next.told.0 so.told.1 next.told.1, gains_join first.list mid.list last.list so.told.0 next.told.0 so.told.2 next.told.2);
}

-- ---- one more, of lists of journals and of plans

-- the journal at a place, and its plan
module _ (js : List Journal) (ps : List Plan) (i : ℕ) (j : Journal) (p : Plan) (at_j : slice_get js i ≡ Some j) (at_p : slice_get ps i ≡ Some p) where
  low : i < length js
  low = slice_get_within js i j at_j

  low_plan : i < length ps
  low_plan = slice_get_within ps i p at_p

  journals_more : take i js ++ j ∷ [] ≡ take (i + 1) js
  journals_more = ap (λ (x : Journal). take i js ++ x ∷ []) (some_is (sym at_j ∙ slice_get-get_or js i j low)) ∙ sym (take_more js i j low)

  plans_more : take i ps ++ p ∷ [] ≡ take (i + 1) ps
  plans_more = ap (λ (x : Plan). take i ps ++ x ∷ []) (some_is (sym at_p ∙ slice_get-get_or ps i p low_plan)) ∙ sym (take_more ps i p low_plan)

  long : length (take i js) ≡ i
  long = length-take-le i js (omega (arith, low))

  pub replayed_next : (node time : ℕ) (first mid last : Moment) (slot : ℕ) (items one two : List TraceItem) → slot ≡ i + 1 → HaveReplayed node time first mid (take i js) (take i ps) items one
      → HasReplayed node slot j.dinode j.blocks time mid last p one two → HaveReplayed node time first last (take (i + 1) js) (take (i + 1) ps) items two
  replayed_next node time first mid last slot items one two slot_is so next =
      subst₂ (λ ks qs. HaveReplayed node time first last ks qs items two) journals_more plans_more
      (replayed_more node time first mid last (take i js) (take i ps) j p slot items one two (omega (arith, slot_is, long)) so next)

  pub headers_next : (size time slot : ℕ) → slot ≡ i + 1 → AreHeadersRead size 1 time (take i js) (take i ps) → IsHeaderRead size slot j.dinode j.blocks time p.clean → AreHeadersRead size 1 time (take (i + 1) js) (take (i + 1) ps)
  headers_next size time slot slot_is so one =
      subst₂ (AreHeadersRead size 1 time) journals_more plans_more
      (headers_more size 1 time (take i js) (take i ps) j p (let plans : length (take i ps) ≡ i = length-take-le i ps (omega (arith, low_plan)) in omega (arith, long, plans)) so
      (subst (λ n. IsHeaderRead size n j.dinode j.blocks time p.clean) (let same : slot ≡ 1 + length (take i js) = omega (arith, slot_is, long) in same) one))

-- ---- the fault of the next one

pub failed_next : (fault : ReplayFault) (P Q : Option ℕ → Type 0) → ((block : Option ℕ) → P block → Q block) → IfDiskFailed fault P → IfDiskFailed fault Q
failed_next (DiskFailed block rise) P Q f is = f block is
failed_next Crashed P Q f is = tt
failed_next NoMemory P Q f is = tt

pub starved_next : (fault : ReplayFault) {P Q : Type 0} → (P → Q) → IfNoMemory fault P → IfNoMemory fault Q
starved_next (DiskFailed block rise) f is = tt
starved_next Crashed f is = tt
starved_next NoMemory f is = f is

-- ---- what stands at a place

pub at_item : {A : Type 0} (xs ys : List A) (i : ℕ) (x : A) → xs ≡ ys → i < length ys → x ≡ get_or xs i x → slice_get ys i ≡ Some x
at_item xs ys i x same low is = subst (λ zs. slice_get zs i ≡ Some x) same (slice_get-get_or xs i x (subst (λ zs. i < length zs) (sym same) low) ∙ ap Some (sym is))

pub below_all : (d : DiskState) (js : List Journal) (ps : List Plan) (i : ℕ) → CanReplayAll d js ps → i < length ps → i < length js
below_all d js ps i can low = let many = as_many d js ps can in omega (arith, many, low)
