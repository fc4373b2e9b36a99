-- The plans of an image's journals are its replay, and what stops it.
use Rattle.std.proofs.Common.{◌≡◌, ◌+◌, ◌<◌, ℕ, zero, suc, Bool, true, false, List, [], ◌∷◌, length, Option, None, Some, get_or, refl, sym, ap, subst, ◌∙◌, arith}
use Rattle.std.specs.Prelude.{IsTrue, slice_get, unwrap_or}
use Rattle.std.specs.List.{All}
use Rattle.std.proofs.lemmas.Bool.{cond-true, cond-false}
use Rattle.std.proofs.lemmas.List.FromFn.{get_or-map-range_with_len, length-map-range_with_len}
use Rattle.std.proofs.lemmas.Option.{slice_get_within}
use Rattle.gfs2_layout.specs.Inode.{content_block}
use Rattle.image_journals.specs.Found.{AreJournals}
use Rattle.image_journals.specs.declared.finding.JournalPlaces.{JournalPlaces}
use Rattle.image_model.specs.Claims.{every}
use Rattle.image_model.specs.Image.{image_of}
use Rattle.image_model.specs.Replays.{HasItsJournals, MayChange, Replayed, live_at}
use Rattle.image_model.specs.Stands.{IsJournalAt, Layout}
use Rattle.image_replays.specs.Marking.{is_planned}
use Rattle.image_replays.specs.Replays.{IfDamaged, first_of_both, put_by, put_over}
use Rattle.image_replays.specs.Replays as mounted
use Rattle.image_replays.proofs.Lists.{any_is, false_true, live_barred, none_some, some_is}
use Rattle.image_replays.proofs.Replay.{live_is_home, plan_of}
use Rattle.image_replays.proofs.System.{some_at}
use Rattle.journal_plans.specs.Plans.{IsPlanOf, bytes_put}
use Rattle.journal_plans.proofs.Numbered.{number_told}
use Rattle.journal_reads.specs.Reading.{ring_read}
use Rattle.log_layout.specs.Journal.{Ring, ring_of}
use Rattle.log_layout.specs.Laws.{HasSamePlaces, SaysTheSame}
use Rattle.log_layout.proofs.SamePlaces.{says_the_same}
use Rattle.peer_replay.specs.declared.planned.Plan.{Plan}
use Rattle.replay_looks.specs.Looks.{Breaks, BreaksAlone, BreaksByLive, IsStopped, alone, bad_chunk, by_live, headless, stray, twice}
use Rattle.replay_looks.specs.declared.faults.LookFault.{LookFault}
use Rattle.replay_looks.specs.declared.faults.LookFault.TheVariants.{Damaged, DiskFailed, NoMemory}
use Rattle.replay_looks.proofs.Stops.{home_is_live}
use Rattle.replay_marks.specs.Marking.{has_block, mark_of}
use Rattle.replay_marks.specs.declared.marks.Mark.{Mark}
use Rattle.replay_marks.specs.declared.marks.Mark.TheVariants.{Barred, Live}
use Rattle.shared_disk.specs.Disk.{DiskState, IsIdle, flight_to}
use Rattle.replayed_trees.specs.Marking.{AreMarked}
use Rattle.replayed_trees.specs.Planning.{AreInside, StopsReplay}
use Rattle.replayed_trees.specs.Planning as stops
use Rattle.replayed_trees.proofs.SoFar.{IsSoFar}

-- one plan's bytes, where those before it have none
put_at : (ps : List Plan) (j : ℕ) (p : Plan) (b : ℕ) (bytes : List ℕ) → slice_get ps j ≡ Some p → bytes_put p b ≡ Some bytes → ((i : ℕ) (q : Plan) → i < j → slice_get ps i ≡ Some q → bytes_put q b ≡ None) → put_by ps b ≡ Some bytes
put_at [] j p b bytes at is before = absurd (none_some p at)
put_at (q ∷ ps) zero p b bytes at is before = ap (λ (r : Plan). first_of_both (bytes_put r b) (put_by ps b)) (some_is at) ∙ ap (λ o. first_of_both o (put_by ps b)) is
put_at (q ∷ ps) (suc j) p b bytes at is before =
    ap (λ o. first_of_both o (put_by ps b)) (before 0 q (omega arith) refl) ∙ put_at ps j p b bytes at is (λ i r less there. before (suc i) r (omega (arith, less)) there)

put_none : (ps : List Plan) (b : ℕ) → ((i : ℕ) (q : Plan) → slice_get ps i ≡ Some q → bytes_put q b ≡ None) → put_by ps b ≡ None
put_none [] b none = refl
put_none (q ∷ ps) b none = ap (λ o. first_of_both o (put_by ps b)) (none 0 q refl) ∙ put_none ps b (λ i r there. none (suc i) r there)

not_home : (p : Plan) (b : ℕ) → has_block p.home.items b ≡ false → bytes_put p b ≡ None
not_home p b off = by (bytes_put p b) refl
  where
    by : (o : Option (List ℕ)) → bytes_put p b ≡ o → o ≡ None
    by None e = refl
    by (Some bytes) e = absurd (false_true (sym off ∙ live_is_home p b bytes e))

module _ (s : DiskState) (idle : IsIdle s) (tells : IsTrue s.tells) (l : Layout) (its : HasItsJournals (image_of s) l) (journals : List JournalPlaces) (found : AreJournals (image_of s) l journals)
    (first : List Mark) (marked : AreMarked (image_of s) l first) (n : ℕ) (plans : List Plan) (marks : List Mark) (so : IsSoFar s first journals n plans marks) where
  -- the journal as it is read
  module _ (j : ℕ) (x : JournalPlaces) (there : slice_get journals j ≡ Some x) where
    long : length x.blocks.items ≡ (ring_of (every (image_of s) x.dinode)).places
    long = ap length (found.blocks j x there) ∙ length-map-range_with_len (content_block (every (image_of s) x.dinode)) 0 (ring_of (every (image_of s) x.dinode)).places

    block_at_place : (p : ℕ) → p < (ring_of (every (image_of s) x.dinode)).places → get_or x.blocks.items p 0 ≡ content_block (every (image_of s) x.dinode) p
    block_at_place p low =
        let z : 0 + p ≡ p = omega arith in
        ap (λ bs. get_or bs p 0) (found.blocks j x there) ∙ get_or-map-range_with_len (content_block (every (image_of s) x.dinode)) 0 (ring_of (every (image_of s) x.dinode)).places p p 0 low z

    same_ring : HasSamePlaces (ring_read s 0 x.blocks.items) (ring_of (every (image_of s) x.dinode))
    same_ring = record {
      size = refl;
      places = long;
      blocks = λ p low.
          ap (λ fs. unwrap_or (flight_to fs (get_or x.blocks.items p 0)) (s.block_at (get_or x.blocks.items p 0))) (idle.none_in_flight 0)
          ∙ ap s.block_at (block_at_place p (subst (λ k. p < k) long low));
    }

  the_journal : (j d : ℕ) → IsJournalAt l j d → (x : JournalPlaces) × (slice_get journals j ≡ Some x) × (x.dinode ≡ d)
  the_journal j d at =
      let low : j < length l.journals = slice_get_within l.journals j d at in
      let x = some_at journals j (subst (λ k. j < k) (sym found.count) low) in
      (x.0, x.1, some_is (sym (found.each j x.0 x.1) ∙ at))

  plan_at : (j : ℕ) (x : JournalPlaces) (p : Plan) → slice_get journals j ≡ Some x → slice_get plans j ≡ Some p → IsPlanOf (ring_of (every (image_of s) x.dinode)) p
  plan_at j x p at there = plan_of (ring_read s 0 x.blocks.items) (ring_of (every (image_of s) x.dinode)) (same_ring j x at) p (so.each tells j x p at there)

  -- ---- what stops the next journal

  barred_is : (b : ℕ) → mark_of marks b ≡ Barred → ¬ (MayChange (image_of s) l b)
  barred_is b mark = by (is_planned plans b) refl
    where
      by : (t : Bool) → is_planned plans b ≡ t → ¬ (MayChange (image_of s) l b)
      by true e may = live_barred (sym (so.are b ∙ cond-true _ _ _ e) ∙ mark)
      by false e may = marked.may_not b (sym (so.are b ∙ cond-false _ _ _ e) ∙ mark) may

  live_is_planned : (b : ℕ) → mark_of marks b ≡ Live → is_planned plans b ≡ true
  live_is_planned b mark = by (is_planned plans b) refl
    where
      by : (t : Bool) → is_planned plans b ≡ t → is_planned plans b ≡ true
      by true e = e
      by false e = absurd (marked.fresh b (sym (so.are b ∙ cond-false _ _ _ e) ∙ mark))

  module _ (x : JournalPlaces) (there : slice_get journals n ≡ Some x) (inside : AreInside s.count journals) where
    abbrev ring : Ring
    ring = ring_read s 0 x.blocks.items

    abbrev d : ℕ
    d = x.dinode

    says : SaysTheSame ring (ring_of (every (image_of s) d))
    says = says_the_same ring (ring_of (every (image_of s) d)) (same_ring n x there)

    at : IsJournalAt l n d
    at = found.each n x there

    abbrev Told : ℕ → ℕ → Type 0
    Told rule b = StopsReplay (image_of s) l rule b × (b < s.count)

    place_is : (p : ℕ) → p < length x.blocks.items → (get_or x.blocks.items p 0 ≡ content_block (every (image_of s) d) p) × (content_block (every (image_of s) d) p < s.count)
    place_is p low =
        let same = block_at_place n x there p (subst (λ k. p < k) (long n x there) low) in
        (same, subst (λ b. b < s.count) same (inside.places n x there p 0 low))

    by_itself : (rule b : ℕ) → BreaksAlone ring d x.blocks.items rule b → Told rule b
    by_itself _ _ (headless none) = (stops.headless n d at (sym says.head ∙ none), inside.dinodes n x there)
    by_itself _ _ (bad_chunk head place headed bad low) =
        let is = place_is place low in
        subst (Told 17) (sym is.0) (stops.by_live 17 (content_block (every (image_of s) d) place) (mounted.bad_chunk n d place head at (sym says.head ∙ headed) (sym (says.transactions head) ∙ bad)), is.1)

    by_its_live : (rule b : ℕ) → BreaksByLive ring x.blocks.items marks rule b → Told rule b
    by_its_live _ _ (stray number place bytes live mark numbered) =
        let is = place_is place numbered.inside in
        subst (Told 2) (sym is.0) (
          stops.by_live 2 (content_block (every (image_of s) d) place) (mounted.astray (content_block (every (image_of s) d) place) (record {
            journal = n;
            dinode = d;
            at = at;
            number = number;
            bytes = bytes;
            live = sym (says.live number) ∙ live;
            barred = barred_is number mark;
            place = place;
            numbered = number_told ring (ring_of (every (image_of s) d)) (same_ring n x there) number place numbered;
            is = refl;
          })),
          is.1,
        )
    by_its_live _ _ (twice number bytes live mark) =
        let one = any_is (λ (p : Plan). has_block p.home.items number) plans (live_is_planned number mark) in
        let low : one.index < length plans = slice_get_within plans one.index one.one one.there in
        let few : length plans ≡ n = so.count in
        let below : one.index < n = omega (arith, low, few) in
        let most : n < length journals = slice_get_within journals n x there in
        let y = some_at journals one.index (omega (arith, below, most)) in
        let other = home_is_live (ring_of (every (image_of s) y.0.dinode)) one.one (plan_at one.index y.0 one.one y.1 one.there) number one.passes in (
          stops.by_live 20 number (mounted.twice number (record {
            one = one.index;
            other = n;
            apart = λ e. let equal : one.index ≡ n = e in omega (arith, below, equal);
            live = record {
              first = y.0.dinode;
              second = d;
              first_at = found.each one.index y.0 y.1;
              second_at = at;
              one = other.0;
              other = bytes;
              one_live = other.1;
              other_live = sym (says.live number) ∙ live;
            };
          })),
          (so.free one.index one.one number one.there one.passes).0,
        )

    breaks : (rule b : ℕ) → Breaks ring d x.blocks.items marks rule b → Told rule b
    breaks rule b (alone _ _ by) = by_itself rule b by
    breaks rule b (by_live _ _ by) = by_its_live rule b by

    pub stopped : (fault : LookFault) → IsStopped ring d x.blocks.items marks fault → IfDamaged fault (λ block rule. StopsReplay (image_of s) l rule block × (block < s.count))
    stopped (Damaged block rule) why = breaks rule block why
    stopped (DiskFailed block rise) why = tt
    stopped NoMemory why = tt

  -- ---- the plans are the replay

  module _ (all : length journals ≡ n) where
    the_plan : (j : ℕ) (x : JournalPlaces) → slice_get journals j ≡ Some x → (p : Plan) × (slice_get plans j ≡ Some p)
    the_plan j x at = some_at plans j (let inside : j < length journals = slice_get_within journals j x at in let same : length plans ≡ n = so.count in omega (arith, inside, same, all))

    of_plan : (i : ℕ) (q : Plan) → slice_get plans i ≡ Some q → (x : JournalPlaces) × (slice_get journals i ≡ Some x)
    of_plan i q there = some_at journals i (let inside : i < length plans = slice_get_within plans i q there in let same : length plans ≡ n = so.count in omega (arith, inside, same, all))

    -- the plan of a journal by its dinode, and what is live in it goes home
    plan_by : (j d : ℕ) → IsJournalAt l j d → (p : Plan) × (slice_get plans j ≡ Some p) × IsPlanOf (ring_of (every (image_of s) d)) p
    plan_by j d at =
        let x = the_journal j d at in
        let p = the_plan j x.0 x.1 in
        (p.0, p.1, subst (λ a. IsPlanOf (ring_of (every (image_of s) a)) p.0) x.2 (plan_at j x.0 p.0 x.1 p.1))

    live_home : (j d : ℕ) (at : IsJournalAt l j d) (b : ℕ) (bytes : List ℕ) → live_at (image_of s) d b ≡ Some bytes → has_block (plan_by j d at).0.home.items b ≡ true
    live_home j d at b bytes live = let p = plan_by j d at in live_is_home p.0 b bytes (p.2.live b ∙ live)

    -- no plan before it has the block
    none_before : (j : ℕ) (p : Plan) (b : ℕ) → slice_get plans j ≡ Some p → has_block p.home.items b ≡ true → (i : ℕ) (q : Plan) → i < j → slice_get plans i ≡ Some q → bytes_put q b ≡ None
    none_before j p b at has i q less there = by (has_block q.home.items b) refl
      where
        by : (t : Bool) → has_block q.home.items b ≡ t → bytes_put q b ≡ None
        by true e = absurd (let equal : i ≡ j = so.apart i j q p b there at e has in omega (arith, less, equal))
        by false e = not_home q b e

    pub is_replayed : Replayed (image_of s) l (put_over (image_of s) plans)
    is_replayed = record {
      replayable = record {
        journals = its;
        readable = λ j d at. (plan_by j d at).2.readable;
        once = λ i j b both.
            let p = plan_by i both.first both.first_at in
            let q = plan_by j both.second both.second_at in
            so.apart i j p.0 q.0 b p.1 q.1 (live_home i both.first both.first_at b both.one both.one_live) (live_home j both.second both.second_at b both.other both.other_live);
        inside = λ j d b bytes at live. let p = plan_by j d at in marked.may b (so.free j p.0 b p.1 (live_home j d at b bytes live)).1;
      };
      size = refl;
      count = refl;
      live = λ j d b bytes at live.
          let p = plan_by j d at in
          ap (λ o. unwrap_or o (s.block_at b)) (put_at plans j p.0 b bytes p.1 (p.2.live b ∙ live) (none_before j p.0 b p.1 (live_home j d at b bytes live)));
      others = λ b none.
          ap (λ o. unwrap_or o (s.block_at b)) (put_none plans b (λ i q there. let x = of_plan i q there in (plan_at i x.0 q x.1 there).live b ∙ none i x.0.dinode (found.each i x.0 x.1)));
    }

-- what stops the look at a journal, as the disk then is
pub stopped_on : (s t : DiskState) → t ≡ s → IsIdle s → IsTrue s.tells → (l : Layout) → HasItsJournals (image_of s) l → (journals : List JournalPlaces) → AreJournals (image_of s) l journals → AreInside s.count journals
    → (first : List Mark) → AreMarked (image_of s) l first → (n : ℕ) (plans : List Plan) (marks : List Mark) → IsSoFar s first journals n plans marks
    → (x : JournalPlaces) → slice_get journals n ≡ Some x → (fault : LookFault)
    → (IsTrue t.tells → IsStopped (ring_read t 0 x.blocks.items) x.dinode x.blocks.items marks fault)
    → IfDamaged fault (λ block rule. StopsReplay (image_of s) l rule block × (block < s.count))
stopped_on s t same idle tells l its journals found inside first marked n plans marks so x there fault why =
    stopped s idle tells l its journals found first marked n plans marks so x there inside fault
    (subst (λ (u : DiskState). IsTrue u.tells → IsStopped (ring_read u 0 x.blocks.items) x.dinode x.blocks.items marks fault) same why tells)

-- the blocks at the places of a journal are blocks of the disk as it then is
pub places_on : (s t : DiskState) → t ≡ s → (journals : List JournalPlaces) → AreInside s.count journals → (n : ℕ) (x : JournalPlaces) → slice_get journals n ≡ Some x → (blocks : List ℕ) → blocks ≡ x.blocks.items
    → All (λ b. b < t.count) blocks
places_on s t same journals inside n x there blocks are =
    subst (All (λ b. b < t.count)) (sym are) (subst (λ (u : DiskState). All (λ b. b < u.count) x.blocks.items) (sym same) (inside.places n x there))
