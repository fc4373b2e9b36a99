-- What stops a replay, by the marks.
use Rattle.std.proofs.Common.{◌≡◌, ◌+◌, ◌<◌, ◌≤◌, ◌^◌, ◌++◌, ℕ, Bool, true, false, List, [], ◌∷◌, length, Option, None, Some, Result, Ok, Err, get_or, refl, sym, ap, subst, ◌∙◌, arith}
use Rattle.std.specs.Prelude.{IsTrue, IfErr, IfOk, IfSome, ◌==◌, ◌≢◌, if◌then◌else◌, nat_lt, map, slice_get}
use Rattle.std.specs.List.{All, AllByRecursion, list_all, range_with_len}
use Rattle.std.specs.List.Sorted.{IsStrictlyIncreasing}
use Rattle.std.proofs.lemmas.Bool.{cond-true, cond-false, eqb-true}
use Rattle.std.proofs.lemmas.Bool.Decides.{nat_tests}
use Rattle.std.proofs.lemmas.List.{get_or_default}
use Rattle.std.proofs.Math.ListN.{get_or-eq_default}
use Rattle.std.proofs.lemmas.List.FromFn.{get_or-map-range_with_len, length-map-range_with_len}
use Rattle.std.proofs.lemmas.Option.{get_or_from_slice_get, slice_get_within}
use Rattle.drafts.specs.declared.change.Written.{Written}
use Rattle.gfs2_layout.specs.Inode.{content_block}
use Rattle.image_model.specs.Claims.{every}
use Rattle.image_model.specs.Image.{image_of}
use Rattle.image_model.specs.Replays.{MayChange}
use Rattle.image_model.specs.Stands.{IsJournalAt}
use Rattle.image_mount.specs.Looks.{IsInGroups}
use Rattle.image_mount.specs.Mounted.{IsJournalOf, IsMounted, Journal, MountedValue}
use Rattle.journal_plans.proofs.Numbered.{number_told}
use Rattle.journal_reads.specs.Reading.{ring_read}
use Rattle.log_layout.specs.Journal.{Ring, head_in, ring_of}
use Rattle.log_layout.specs.Laws.{HasSamePlaces, SaysTheSame}
use Rattle.log_layout.proofs.SamePlaces.{says_the_same}
use Rattle.log_layout.specs.declared.log_header.LogHeader.{LogHeader}
use Rattle.peer_replay.specs.declared.planned.Plan.{Plan}
use Rattle.replay_looks.specs.Looks.{Breaks as BreaksIn, BreaksAlone, BreaksByLive, IsStopped, alone, bad_chunk, by_live, headless, stray, twice}
use Rattle.replay_looks.specs.declared.faults.LookFault.{LookFault}
use Rattle.replay_looks.specs.declared.faults.LookFault.TheVariants.{Damaged, DiskFailed, NoMemory}
use Rattle.replay_looks.proofs.Stops.{home_is_live}
use Rattle.replay_marks.specs.Marking.{has_block, is_among, mark_of}
use Rattle.replay_marks.specs.declared.marks.Mark.{Mark}
use Rattle.replay_marks.specs.declared.marks.Mark.TheVariants.{Barred, Live, Open}
use Rattle.shared_disk.specs.Disk.{DiskState, IsIdle}
use Rattle.image_replays.specs.Marking.{first_mark, is_in_groups, is_place, is_planned}
use Rattle.image_replays.specs.Replays.{HasPlace, IfDamaged, IsWritable, Stops}
use Rattle.image_replays.specs.Replays as stops
use Rattle.image_replays.proofs.Lists.{any_is, barred_live, false_true, home_all, inside_each, live_barred, none_some, open_barred, open_live}
use Rattle.image_replays.proofs.SoFar.{IsSoFar, so_far_more}
use Rattle.journal_plans.specs.Plans.{IsPlanOf}
use Rattle.image_replays.proofs.Replay.{plan_at}
use Rattle.image_replays.proofs.System.{among_system, block_at_place, has_group_in, same_ring, some_at}

-- ---- what a look at a journal gives

abbrev IsFree : ℕ → List Mark → Plan → Type 0
IsFree count marks p = AllByRecursion (λ (w : Written). (w.block < length marks) × (mark_of marks w.block ≡ Open)) p.home.items

all_low : (count : ℕ) (marks : List Mark) (ws : List Written) → length marks ≡ count → AllByRecursion (λ (w : Written). (w.block < length marks) × (mark_of marks w.block ≡ Open)) ws → AllByRecursion (λ (w : Written). w.block < count) ws
all_low count marks [] long all = tt
all_low count marks (w ∷ ws) long all = (subst (λ n. w.block < n) long all.0.0, all_low count marks ws long all.1)

pub writable_of : (s : DiskState) (marks : List Mark) (r : Result Plan LookFault) → length marks ≡ s.count → IfOk r (λ p. IsStrictlyIncreasing (map (λ (w : Written). w.block) p.home.items))
    → IfOk r (λ p. AllByRecursion (λ (w : Written). length w.bytes ≡ s.size) p.home.items) → IfOk r (λ p. AllByRecursion (λ (w : Written). (w.block < length marks) × (mark_of marks w.block ≡ Open)) p.home.items)
    → IfOk r (IsWritable s)
writable_of s marks (Ok p) long rise whole free = record { rise = rise; whole = whole; inside = all_low s.count marks p.home.items long free }
writable_of s marks (Err f) long rise whole free = tt

pub header_of : (s : DiskState) (blocks : List ℕ) (r : Result Plan LookFault) → list_all (λ b. nat_lt b s.count) blocks ≡ true → IfOk r (λ p. IfSome p.clean (λ (h : LogHeader). h.blkno < length blocks))
    → IfOk r (λ p. IfSome p.clean (HasPlace s blocks))
header_of s blocks (Ok p) inside place = by p.clean place
  where
    by : (c : Option LogHeader) → IfSome c (λ (h : LogHeader). h.blkno < length blocks) → IfSome c (HasPlace s blocks)
    by None low = tt
    by (Some h) low = record { place = low; inside = inside_each blocks s.count inside h.blkno low }
header_of s blocks (Err f) inside place = tt

pub free_of : (s : DiskState) (marks : List Mark) (r : Result Plan LookFault) → length marks ≡ s.count → IfOk r (λ p. AllByRecursion (λ (w : Written). (w.block < length marks) × (mark_of marks w.block ≡ Open)) p.home.items)
    → IfOk r (λ p. (block : ℕ) → has_block p.home.items block ≡ true → (block < s.count) × (mark_of marks block ≡ Open))
free_of s marks (Ok p) long free = λ block has.
    let both = home_all (λ b. (b < length marks) × (mark_of marks b ≡ Open)) p.home.items block free has in
    (subst (λ n. block < n) long both.0, both.1)
free_of s marks (Err f) long free = tt

pub why_of : {A E : Type 0} (T P Q : Type 0) (R : E → Type 0) (r : Result A E) → IfErr r (λ f. T → R f) → IfErr r (λ f. T → P → Q → R f)
why_of T P Q R (Ok p) why = tt
why_of T P Q R (Err f) why = λ tells few inside. why tells

-- ---- what the marks say of a block

module _ (s : DiskState) (node : ℕ) (idle : IsIdle s) (tells : IsTrue s.tells) (m : MountedValue) (is : IsMounted (image_of s) m) (first : List Mark)
    (marked : (b : ℕ) → b < s.count → mark_of first b ≡ first_mark m.groups m.journals m.system b) (n : ℕ) (plans : List Plan) (marks : List Mark) (so : IsSoFar s node first m.journals n plans marks) where
  -- a place of a mounted journal is one of the image's
  place_of : (b : ℕ) → is_place m.journals b ≡ true → (j d p : ℕ) × IsJournalAt is.layout j d × (p < (ring_of (every (image_of s) d)).places) × (content_block (every (image_of s) d) p ≡ b)
  place_of b e =
      let one = any_is (λ (y : Journal). is_among y.blocks b) m.journals e in
      let low : one.index < length m.journals = slice_get_within m.journals one.index one.one one.there in
      let d = some_at is.layout.journals one.index (subst (λ k. one.index < k) is.count low) in
      let of = is.journals one.index d.0 one.one d.1 one.there in
      let places = (ring_of (every (image_of s) d.0)).places in
      let blocks = map (content_block (every (image_of s) d.0)) (range_with_len 0 places) in
      let at = any_is (λ c. c == b) blocks (ap (λ bs. is_among bs b) (sym of.blocks) ∙ one.passes) in
      let inside : at.index < places = subst (λ k. at.index < k) (length-map-range_with_len (content_block (every (image_of s) d.0)) 0 places) (slice_get_within blocks at.index at.one at.there) in
      let z : 0 + at.index ≡ at.index = omega arith in
      let value : content_block (every (image_of s) d.0) at.index ≡ at.one
      = sym (get_or-map-range_with_len (content_block (every (image_of s) d.0)) 0 places at.index at.index b inside z) ∙ get_or_from_slice_get blocks at.index at.one b at.there in
      (one.index, d.0, at.index, d.1, inside, value ∙ eqb-true at.one b at.passes)

  -- a barred block may not be changed
  barred_is : (b : ℕ) → mark_of marks b ≡ Barred → ¬ (MayChange (image_of s) is.layout b)
  barred_is b mark may = by_plan (is_planned plans b) refl
    where
      by_group : (t : Bool) → is_in_groups m.groups b ≡ t → (if t then Open else Barred) ≡ Barred → ⊥
      by_group true e closed = open_barred closed
      by_group false e closed = false_true (sym e ∙ has_group_in (image_of s) m is b may.group.0 may.group.1 may.group.2)

      by_place : (t : Bool) → is_place m.journals b ≡ t → (if t then Barred else if is_in_groups m.groups b then Open else Barred) ≡ Barred → ⊥
      by_place true e closed = let at = place_of b e in may.no_place at.0 at.1 at.2 at.3 at.4 at.5
      by_place false e closed = by_group (is_in_groups m.groups b) refl closed

      by_system : (t : Bool) → is_among m.system b ≡ t → (if t then Barred else if is_place m.journals b then Barred else if is_in_groups m.groups b then Open else Barred) ≡ Barred → ⊥
      by_system true e closed = may.apart (among_system (image_of s) m is b e)
      by_system false e closed = by_place (is_place m.journals b) refl closed

      by_plan : (t : Bool) → is_planned plans b ≡ t → ⊥
      by_plan true e = live_barred (sym (so.are b ∙ cond-true _ _ _ e) ∙ mark)
      by_plan false e = by_system (is_among m.system b) refl (sym (marked b may.there) ∙ sym (so.are b ∙ cond-false _ _ _ e) ∙ mark)

  -- a live one is in a plan before
  live_is_planned : (b : ℕ) → mark_of marks b ≡ Live → is_planned plans b ≡ true
  live_is_planned b mark = by_plan (is_planned plans b) refl
    where
      inside : b < s.count
      inside = by_size (nat_lt b s.count) refl
        where
          by_size : (t : Bool) → nat_lt b s.count ≡ t → b < s.count
          by_size true e = grind (arith, nat_tests, e)
          by_size false e =
              let high : s.count ≤ b = grind (arith, nat_tests, e) in
              absurd (barred_live (sym (get_or-eq_default marks Barred (subst (λ k. k ≤ b) (sym so.long) high)) ∙ mark))

      never_live : (r t u : Bool) → (if r then Barred else if t then Barred else if u then Open else Barred) ≡ Live → ⊥
      never_live true t u e = barred_live e
      never_live false true u e = barred_live e
      never_live false false true e = open_live e
      never_live false false false e = barred_live e

      by_plan : (t : Bool) → is_planned plans b ≡ t → is_planned plans b ≡ true
      by_plan true e = e
      by_plan false e = absurd (never_live (is_among m.system b) (is_place m.journals b) (is_in_groups m.groups b) (sym (marked b inside) ∙ sym (so.are b ∙ cond-false _ _ _ e) ∙ mark))

  -- ---- the next journal

  module _ (x : Journal) (there : slice_get m.journals n ≡ Some x) where
    d_there : (d : ℕ) × IsJournalAt is.layout n d
    d_there = some_at is.layout.journals n (subst (λ k. n < k) is.count (slice_get_within m.journals n x there))

    abbrev d : ℕ
    d = d_there.0

    of : IsJournalOf (image_of s) d x
    of = is.journals n d x d_there.1 there

    abbrev ring : Ring
    ring = ring_read s node x.blocks

    same : HasSamePlaces ring (ring_of (every (image_of s) d))
    same = same_ring s node idle d x of

    says : SaysTheSame ring (ring_of (every (image_of s) d))
    says = says_the_same ring (ring_of (every (image_of s) d)) same

    -- a place's block is one of a group
    in_group : (p : ℕ) → p < length x.blocks → (get_or x.blocks p 0 ≡ content_block (every (image_of s) d) p) × IsInGroups is.layout.groups (content_block (every (image_of s) d) p)
    in_group p low =
        let inside : p < (ring_of (every (image_of s) d)).places = subst (λ k. p < k) same.places low in
        (block_at_place s node idle d x of p inside, is.looked.places n p (content_block (every (image_of s) d) p) (record { dinode = d; at = d_there.1; low = inside; is = refl }))

    group_low : (b : ℕ) → IsInGroups is.layout.groups b → (b < s.count) × (b ≢ 0)
    group_low b inside =
        let fit = is.found.groups.fit.each inside.0 inside.1 in
        let first_is : inside.0.data0 ≡ inside.0.address + inside.0.length = fit.first in
        let some : 1 ≤ inside.0.length = fit.some in
        let low : inside.0.data0 ≤ b = inside.2.low in
        let high : b < inside.0.data0 + inside.0.data_blocks = inside.2.high in
        let ends : inside.0.data0 + inside.0.data_blocks ≤ s.count = fit.inside in
        (omega (arith, high, ends), λ zero_is. let e : b ≡ 0 = zero_is in omega (arith, e, low, first_is, some))

    abbrev Told : ℕ → ℕ → Type 0
    Told rule b = Stops (image_of s) is.layout rule b × (b < s.count)

    by_itself : (rule b : ℕ) → BreaksAlone ring x.dinode x.blocks rule b → Told rule b
    by_itself _ _ (headless none) = absurd (none_some x.head (sym none ∙ says.head ∙ of.head))
    by_itself _ _ (bad_chunk head place headed bad low) =
        let group = in_group place low in
        let facts = group_low (content_block (every (image_of s) d) place) group.1 in
        subst (Told 17) (sym group.0) (
          stops.bad_chunk n d place head d_there.1 (sym says.head ∙ headed) (sym (says.transactions head) ∙ bad),
          facts.0,
        )

    by_its_live : (rule b : ℕ) → BreaksByLive ring x.blocks marks rule b → Told rule b
    by_its_live _ _ (stray number place bytes live mark numbered) =
        let group = in_group place numbered.inside in
        let facts = group_low (content_block (every (image_of s) d) place) group.1 in
        subst (Told 2) (sym group.0) (
          stops.astray (content_block (every (image_of s) d) place) (record {
            journal = n;
            dinode = d;
            at = d_there.1;
            number = number;
            bytes = bytes;
            live = sym (says.live number) ∙ live;
            barred = barred_is number mark;
            place = place;
            numbered = number_told ring (ring_of (every (image_of s) d)) same number place numbered;
            is = refl;
          }),
          facts.0,
        )
    by_its_live _ _ (twice number bytes live mark) =
        let one = any_is (λ (p : Plan). has_block p.home.items number) plans (live_is_planned number mark) in
        let low : one.index < length plans = slice_get_within plans one.index one.one one.there in
        let few : length plans ≡ n = so.count in
        let below : one.index < n = omega (arith, low, few) in
        let most : n < length is.layout.journals = slice_get_within is.layout.journals n d d_there.1 in
        let c = some_at is.layout.journals one.index (omega (arith, below, most)) in
        let plan = plan_at s node idle tells m is first marked n plans marks so one.index c.0 one.one c.1 one.there in
        let other = home_is_live (ring_of (every (image_of s) c.0)) one.one plan number one.passes in (
          stops.twice number (record {
            one = one.index;
            other = n;
            apart = λ e. let equal : one.index ≡ n = e in omega (arith, below, equal);
            live = record { first = c.0; second = d; first_at = c.1; second_at = d_there.1; one = other.0; other = bytes; one_live = other.1; other_live = sym (says.live number) ∙ live };
          }),
          (so.free one.index one.one number one.there one.passes).0,
        )

    breaks : (rule b : ℕ) → BreaksIn ring x.dinode x.blocks marks rule b → Told rule b
    breaks rule b (alone _ _ by) = by_itself rule b by
    breaks rule b (by_live _ _ by) = by_its_live rule b by

    pub stopped : (fault : LookFault) → IsStopped ring x.dinode x.blocks marks fault → IfDamaged fault (λ block rule. Told rule block)
    stopped (Damaged block rule) why = breaks rule block why
    stopped (DiskFailed block rise) why = tt
    stopped NoMemory why = tt

    pub few : length x.blocks < 2 ^ 32
    few =
        let most : (ring_of (every (image_of s) d)).places ≤ 65536 = (is.profile.journal n d d_there.1).1 in
        let places : length x.blocks ≡ (ring_of (every (image_of s) d)).places = same.places in
        omega (arith, most, places)

    pub all_inside : All (λ b. b < s.count) x.blocks
    all_inside p e low =
        let group = in_group p low in
        subst (λ b. b < s.count) (sym (get_or_default x.blocks p e 0 low ∙ group.0)) (group_low (content_block (every (image_of s) d) p) group.1).0

-- ---- one journal more, as the disk then is

pub so_on : (s t : DiskState) → t ≡ s → (node : ℕ) (first : List Mark) (journals : List Journal) (n : ℕ) (plans news : List Plan) (marks new : List Mark) → IsSoFar s node first journals n plans marks
    → (x : Journal) (p : Plan) → slice_get journals n ≡ Some x → length new ≡ length marks → IsWritable t p → IfSome p.clean (HasPlace t x.blocks) → ((b : ℕ) → has_block p.home.items b ≡ true → (b < t.count) × (mark_of marks b ≡ Open))
    → (IsTrue t.tells → head_in (ring_read t node x.blocks) ≡ Some x.head → IsPlanOf (ring_read t node x.blocks) p) → ((b : ℕ) → mark_of new b ≡ (if has_block p.home.items b then Live else mark_of marks b))
    → news ≡ plans ++ p ∷ [] → IsSoFar s node first journals (n + 1) news new
so_on s t same node first journals n plans news marks new so x p at long writable header free plan are added =
    subst (λ ps. IsSoFar s node first journals (n + 1) ps new) (sym added)
    (so_far_more s node first journals n plans marks new so x p at long (subst (λ u. IsWritable u p) same writable) (subst (λ u. IfSome p.clean (HasPlace u x.blocks)) same header)
    (subst (λ (u : DiskState). (b : ℕ) → has_block p.home.items b ≡ true → (b < u.count) × (mark_of marks b ≡ Open)) same free)
    (subst (λ (u : DiskState). IsTrue u.tells → head_in (ring_read u node x.blocks) ≡ Some x.head → IsPlanOf (ring_read u node x.blocks) p) same plan) are)

-- what stops the look at a journal, as the disk then is
pub stopped_on : (s t : DiskState) → t ≡ s → (node : ℕ) → IsIdle s → IsTrue s.tells → (m : MountedValue) (is : IsMounted (image_of s) m) (first : List Mark)
    → ((b : ℕ) → b < s.count → mark_of first b ≡ first_mark m.groups m.journals m.system b) → (n : ℕ) (plans : List Plan) (marks : List Mark) → IsSoFar s node first m.journals n plans marks
    → (x : Journal) → slice_get m.journals n ≡ Some x → (fault : LookFault)
    → (IsTrue t.tells → length x.blocks < 2 ^ 32 → All (λ b. b < t.count) x.blocks → IsStopped (ring_read t node x.blocks) x.dinode x.blocks marks fault)
    → IfDamaged fault (λ block rule. Stops (image_of s) is.layout rule block × (block < s.count))
stopped_on s t same node idle tells m is first marked n plans marks so x there fault why =
    stopped s node idle tells m is first marked n plans marks so x there fault
    (subst (λ (u : DiskState). IsTrue u.tells → length x.blocks < 2 ^ 32 → All (λ b. b < u.count) x.blocks → IsStopped (ring_read u node x.blocks) x.dinode x.blocks marks fault) same why tells
    (few s node idle tells m is first marked n plans marks so x there) (all_inside s node idle tells m is first marked n plans marks so x there))
