-- The plans of a mounted image's journals are its replay.
use Rattle.std.proofs.Common.{◌≡◌, ◌<◌, ℕ, zero, suc, Bool, true, false, List, [], ◌∷◌, length, Option, None, Some, refl, sym, ap, ◌∙◌, arith}
use Rattle.std.specs.Prelude.{IsTrue, if◌then◌else◌, slice_get, unwrap_or}
use Rattle.std.specs.Option.{option_map}
use Rattle.std.proofs.lemmas.Option.{slice_get_within}
use Rattle.image_model.specs.Claims.{every}
use Rattle.image_model.specs.Image.{image_of}
use Rattle.image_model.specs.Replays.{IsReplayable, MayChange, Replayed, live_at}
use Rattle.image_model.specs.Stands.{IsJournalAt}
use Rattle.image_mount.specs.Mounted.{IsMounted, MountedValue}
use Rattle.journal_plans.specs.Plans.{IsPlanOf, bytes_put}
use Rattle.journal_reads.specs.Reading.{ring_read}
use Rattle.log_layout.specs.Chunks.{Logged}
use Rattle.log_layout.specs.Journal.{Ring, head_in, ring_of}
use Rattle.log_layout.specs.Laws.{HasSamePlaces}
use Rattle.log_layout.proofs.SamePlaces.{says_the_same}
use Rattle.peer_replay.specs.Plans.{clean_header, put_home}
use Rattle.peer_replay.specs.declared.planned.Plan.{Plan}
use Rattle.replay_marks.specs.Marking.{has_block, is_among, mark_of}
use Rattle.replay_marks.specs.declared.marks.Mark.{Mark}
use Rattle.replay_marks.specs.declared.marks.Mark.TheVariants.{Barred, Open}
use Rattle.shared_disk.specs.Disk.{DiskState, IsIdle}
use Rattle.image_replays.specs.Marking.{first_mark, is_in_groups, is_place}
use Rattle.image_replays.specs.Replays.{ArePlans, first_of_both, put_by, put_over}
use Rattle.image_replays.proofs.Lists.{barred_open, false_true, none_some, put_is_there, some_is}
use Rattle.image_replays.proofs.SoFar.{IsSoFar}
use Rattle.image_replays.proofs.System.{in_groups, its_journals, mounted_at, place_is, same_ring, system_among}

-- the plan of a journal as a node reads it is that of the image's
pub plan_of : (r t : Ring) → HasSamePlaces r t → (p : Plan) → IsPlanOf r p → IsPlanOf t p
plan_of r t same p of =
    let says = says_the_same r t same in
    record {
      readable = says.readable of.readable;
      live = λ block. of.live block ∙ says.live block;
      clean = (of.clean.0, sym says.head ∙ of.clean.1, of.clean.2 ∙ ap (λ n. clean_header n of.clean.0) same.places);
    }

-- what is live goes home
put_live : (o : Option Logged) (bytes : List ℕ) → option_map (λ (e : Logged). e.bytes) o ≡ Some bytes → (e : Logged) × (o ≡ Some e)
put_live None bytes is = absurd (none_some bytes is)
put_live (Some e) bytes is = (e, refl)

pub live_is_home : (p : Plan) (b : ℕ) (bytes : List ℕ) → bytes_put p b ≡ Some bytes → has_block p.home.items b ≡ true
live_is_home p b bytes is = let e = put_live (put_home p.home.items b) bytes is in put_is_there p.home.items b e.0 e.1

not_home : (p : Plan) (b : ℕ) → has_block p.home.items b ≡ false → bytes_put p b ≡ None
not_home p b off = by (bytes_put p b) refl
  where
    by : (o : Option (List ℕ)) → bytes_put p b ≡ o → o ≡ None
    by None e = refl
    by (Some bytes) e = absurd (false_true (sym off ∙ live_is_home p b bytes e))

-- one plan's bytes, where those before it have none
put_at : (ps : List Plan) (j : ℕ) (p : Plan) (b : ℕ) (bytes : List ℕ) → slice_get ps j ≡ Some p → bytes_put p b ≡ Some bytes → ((i : ℕ) (q : Plan) → i < j → slice_get ps i ≡ Some q → bytes_put q b ≡ None) → put_by ps b ≡ Some bytes
put_at [] j p b bytes at is before = absurd (none_some p at)
put_at (q ∷ ps) zero p b bytes at is before = ap (λ (r : Plan). first_of_both (bytes_put r b) (put_by ps b)) (some_is at) ∙ ap (λ o. first_of_both o (put_by ps b)) is
put_at (q ∷ ps) (suc j) p b bytes at is before =
    ap (λ o. first_of_both o (put_by ps b)) (before 0 q (omega arith) refl) ∙ put_at ps j p b bytes at is (λ i r less there. before (suc i) r (omega (arith, less)) there)

put_none : (ps : List Plan) (b : ℕ) → ((i : ℕ) (q : Plan) → slice_get ps i ≡ Some q → bytes_put q b ≡ None) → put_by ps b ≡ None
put_none [] b none = refl
put_none (q ∷ ps) b none = ap (λ o. first_of_both o (put_by ps b)) (none 0 q refl) ∙ put_none ps b (λ i r there. none (suc i) r there)

module _ (s : DiskState) (node : ℕ) (idle : IsIdle s) (tells : IsTrue s.tells) (m : MountedValue) (is : IsMounted (image_of s) m) (first : List Mark)
    (marked : (b : ℕ) → b < s.count → mark_of first b ≡ first_mark m.groups m.journals m.system b) where
  -- a block that is open at first may be changed
  pub may_change : (b : ℕ) → b < s.count → mark_of first b ≡ Open → MayChange (image_of s) is.layout b
  may_change b low open_mark = by_system (is_among m.system b) refl (sym (marked b low) ∙ open_mark)
    where
      by_group : (t : Bool) → is_in_groups m.groups b ≡ t → is_place m.journals b ≡ false → is_among m.system b ≡ false → (if t then Open else Barred) ≡ Open → MayChange (image_of s) is.layout b
      by_group true e off none is_open = record {
        apart = λ of. false_true (sym none ∙ system_among (image_of s) m is b of);
        there = low;
        group = in_groups (image_of s) m is b e;
        no_place = λ j d p at inside same. false_true (sym off ∙ ap (is_place m.journals) (sym same) ∙ place_is (image_of s) m is j d p at inside);
      }
      by_group false e off none is_open = absurd (barred_open is_open)

      by_place : (t : Bool) → is_place m.journals b ≡ t → is_among m.system b ≡ false → (if t then Barred else if is_in_groups m.groups b then Open else Barred) ≡ Open → MayChange (image_of s) is.layout b
      by_place true e none is_open = absurd (barred_open is_open)
      by_place false e none is_open = by_group (is_in_groups m.groups b) refl e none is_open

      by_system : (t : Bool) → is_among m.system b ≡ t → (if t then Barred else if is_place m.journals b then Barred else if is_in_groups m.groups b then Open else Barred) ≡ Open → MayChange (image_of s) is.layout b
      by_system true e is_open = absurd (barred_open is_open)
      by_system false e is_open = by_place (is_place m.journals b) refl e is_open

  module _ (n : ℕ) (plans : List Plan) (marks : List Mark) (so : IsSoFar s node first m.journals n plans marks) where
    pub plan_at : (j d : ℕ) (p : Plan) → IsJournalAt is.layout j d → slice_get plans j ≡ Some p → IsPlanOf (ring_of (every (image_of s) d)) p
    plan_at j d p at there =
        let x = mounted_at (image_of s) m is j d at in
        let same = same_ring s node idle d x.0 x.2 in
        let headed : head_in (ring_read s node x.0.blocks) ≡ Some x.0.head = (says_the_same (ring_read s node x.0.blocks) (ring_of (every (image_of s) d)) same).head ∙ x.2.head in
        plan_of (ring_read s node x.0.blocks) (ring_of (every (image_of s) d)) same p (so.each tells j x.0 p x.1 there headed)

    pub live_home : (j d : ℕ) (p : Plan) (b : ℕ) (bytes : List ℕ) → IsJournalAt is.layout j d → slice_get plans j ≡ Some p → live_at (image_of s) d b ≡ Some bytes → has_block p.home.items b ≡ true
    live_home j d p b bytes at there live = live_is_home p b bytes ((plan_at j d p at there).live b ∙ live)

    module _ (all : length is.layout.journals ≡ n) where
      the_plan : (j d : ℕ) → IsJournalAt is.layout j d → (p : Plan) × (slice_get plans j ≡ Some p)
      the_plan j d at = from (slice_get plans j) refl
        where
          low : j < length plans
          low = let inside : j < length is.layout.journals = slice_get_within is.layout.journals j d at in let same : length plans ≡ n = so.count in omega (arith, inside, same, all)

          from : (o : Option Plan) → slice_get plans j ≡ o → (p : Plan) × (slice_get plans j ≡ Some p)
          from (Some p) e = (p, e)
          from None e = absurd (past plans j low e)
            where
              past : (ps : List Plan) (i : ℕ) → i < length ps → slice_get ps i ≡ None → ⊥
              past [] i less e = omega (arith, less)
              past (p ∷ ps) zero less e = none_some p (sym e)
              past (p ∷ ps) (suc i) less e = past ps i (omega (arith, less)) e

      replayable : IsReplayable (image_of s) is.layout
      replayable = record {
        journals = its_journals (image_of s) m is;
        readable = λ j d at. let p = the_plan j d at in (plan_at j d p.0 at p.1).readable;
        once = λ i j b both.
            let p = the_plan i both.first both.first_at in
            let q = the_plan j both.second both.second_at in
            so.apart i j p.0 q.0 b p.1 q.1 (live_home i both.first p.0 b both.one both.first_at p.1 both.one_live) (live_home j both.second q.0 b both.other both.second_at q.1 both.other_live);
        inside = λ j d b bytes at live.
            let p = the_plan j d at in
            let open_block = so.free j p.0 b p.1 (live_home j d p.0 b bytes at p.1 live) in
            may_change b open_block.0 open_block.1;
      }

      others_none : (b : ℕ) → ((j d : ℕ) → IsJournalAt is.layout j d → live_at (image_of s) d b ≡ None) → (i : ℕ) (q : Plan) → slice_get plans i ≡ Some q → bytes_put q b ≡ None
      others_none b none i q there = from (slice_get is.layout.journals i) refl
        where
          from : (o : Option ℕ) → slice_get is.layout.journals i ≡ o → bytes_put q b ≡ None
          from (Some d) at = (plan_at i d q at there).live b ∙ none i d at
          from None at = absurd (past is.layout.journals i (let low : i < length plans = slice_get_within plans i q there in let same : length plans ≡ n = so.count in omega (arith, low, same, all)) at)
            where
              past : (ds : List ℕ) (k : ℕ) → k < length ds → slice_get ds k ≡ None → ⊥
              past [] k less e = omega (arith, less)
              past (d ∷ ds) zero less e = none_some d (sym e)
              past (d ∷ ds) (suc k) less e = past ds k (omega (arith, less)) e

      replayed : Replayed (image_of s) is.layout (put_over (image_of s) plans)
      replayed = record {
        replayable = replayable;
        size = refl;
        count = refl;
        live = λ j d b bytes at live.
            let p = the_plan j d at in
            let own : bytes_put p.0 b ≡ Some bytes = (plan_at j d p.0 at p.1).live b ∙ live in
            ap (λ o. unwrap_or o (s.block_at b)) (put_at plans j p.0 b bytes p.1 own
            (λ i q less there. not_home q b (apart_from i j q p.0 b less there p.1 (live_is_home p.0 b bytes own) (has_block q.home.items b) refl)));
        others = λ b none. ap (λ o. unwrap_or o (s.block_at b)) (put_none plans b (others_none b none));
      }
        where
          apart_from : (i j : ℕ) (q p : Plan) (b : ℕ) → i < j → slice_get plans i ≡ Some q → slice_get plans j ≡ Some p → has_block p.home.items b ≡ true → (t : Bool) → has_block q.home.items b ≡ t → has_block q.home.items b ≡ false
          apart_from i j q p b less there there' has true e = absurd (let same : i ≡ j = so.apart i j q p b there there' e has in omega (arith, less, same))
          apart_from i j q p b less there there' has false e = e

      pub are_plans : ArePlans (image_of s) is.layout plans
      are_plans = record { count = so.count ∙ sym all; each = plan_at; replayed = replayed }
