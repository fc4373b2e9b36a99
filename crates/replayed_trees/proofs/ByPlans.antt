-- What is told by the plans of journals, whatever the image's frame.
use Rattle.std.proofs.Common.{◌≡◌, ◌<◌, ◌≤◌, ℕ, Bool, true, false, List, length, Some, get_or, refl, sym, ap, subst, ◌∙◌, arith}
use Rattle.std.specs.Prelude.{IsTrue, slice_get, unwrap_or}
use Rattle.std.proofs.lemmas.Bool.{cond-false}
use Rattle.std.proofs.lemmas.Option.{slice_get_within}
use Rattle.disk_trees.specs.Answers as disk
use Rattle.disk_trees.specs.Reading.{ending}
use Rattle.disk_trees.specs.declared.faults.TreeFault.{TreeFault}
use Rattle.disk_trees.specs.declared.faults.TreeFault.TheVariants as tree
use Rattle.image_journals.specs.declared.finding.JournalPlaces.{JournalPlaces}
use Rattle.image_model.specs.Image.{Image, image_of}
use Rattle.image_model.specs.Rules.{IsBrokenBlock}
use Rattle.image_replays.specs.Marking.{is_planned}
use Rattle.image_replays.specs.Replays.{IfDamaged as IfDamagedLook, put_over}
use Rattle.image_replays.proofs.Lists.{any_is}
use Rattle.image_replays.proofs.System.{some_at}
use Rattle.journal_plans.specs.Plans.{IsPlanOf}
use Rattle.journal_reads.specs.Reading.{ring_read}
use Rattle.log_layout.specs.Journal.{Ring}
use Rattle.peer_replay.specs.declared.planned.Plan.{Plan}
use Rattle.replay_looks.specs.Looks.{Breaks, IsStopped, alone, bad_chunk, by_live, headless, stray, twice}
use Rattle.replay_looks.specs.declared.faults.LookFault.{LookFault}
use Rattle.replay_looks.specs.declared.faults.LookFault.TheVariants as look
use Rattle.replay_marks.specs.Marking.{has_block, mark_of}
use Rattle.replay_marks.specs.declared.marks.Mark.{Mark}
use Rattle.replay_marks.specs.declared.marks.Mark.TheVariants.{Live}
use Rattle.shared_disk.specs.Disk.{DiskState, IsIdle, flight_to}
use Rattle.replayed_trees.specs.Answers.{IfDamaged, IsToldByPlans, by_all, by_next, of_look, of_tree}
use Rattle.replayed_trees.specs.Planning.{AreInside, ArePlansOf, ring_on}
use Rattle.replayed_trees.proofs.SoFar.{IsSoFar}

-- an idle disk reads at the places what its image has there
ring_is : (s : DiskState) → IsIdle s → (blocks : List ℕ) → ring_read s 0 blocks ≡ ring_on (image_of s) blocks
ring_is s idle blocks =
    let with_flights : _ → Ring = λ fs. record { size = s.size; places = length blocks; at = λ p. unwrap_or (flight_to fs (get_or blocks p 0)) (s.block_at (get_or blocks p 0)) } in
    ap with_flights (idle.none_in_flight 0)

module _ (s : DiskState) (idle : IsIdle s) (tells : IsTrue s.tells) (journals : List JournalPlaces) (inside : AreInside s.count journals) (first : List Mark) (fresh : (b : ℕ) → mark_of first b ≡ Live → ⊥)
    (n : ℕ) (plans : List Plan) (marks : List Mark) (so : IsSoFar s first journals n plans marks) where
  pub are_plans : n ≤ length journals → ArePlansOf (image_of s) journals plans
  are_plans few = record {
    inside = inside;
    each = λ j p there.
        let low : j < length plans = slice_get_within plans j p there in
        let same : length plans ≡ n = so.count in
        let x = some_at journals j (omega (arith, low, same, few)) in
        (x.0, x.1, subst (λ (r : Ring). IsPlanOf r p) (ring_is s idle x.0.blocks.items) (so.each tells j x.0 p x.1 there));
  }

  live_planned : (b : ℕ) → mark_of marks b ≡ Live → is_planned plans b ≡ true
  live_planned b mark = by (is_planned plans b) refl
    where
      by : (t : Bool) → is_planned plans b ≡ t → is_planned plans b ≡ true
      by true e = e
      by false e = absurd (fresh b (sym (so.are b ∙ cond-false _ _ _ e) ∙ mark))

  module _ (x : JournalPlaces) (there : slice_get journals n ≡ Some x) where
    is_inside : (rule b : ℕ) → Breaks (ring_read s 0 x.blocks.items) x.dinode x.blocks.items marks rule b → b < s.count
    is_inside _ _ (alone _ _ (headless none)) = inside.dinodes n x there
    is_inside _ _ (alone _ _ (bad_chunk head place headed bad low)) = inside.places n x there place 0 low
    is_inside _ _ (by_live _ _ (stray number place bytes live mark numbered)) = inside.places n x there place 0 numbered.inside
    is_inside _ _ (by_live _ _ (twice number bytes live mark)) =
        let one = any_is (λ (p : Plan). has_block p.home.items number) plans (live_planned number mark) in
        (so.free one.index one.one number one.there one.passes).0

    stops : (rule b : ℕ) → Breaks (ring_read s 0 x.blocks.items) x.dinode x.blocks.items marks rule b → IsToldByPlans (image_of s) b rule
    stops rule b broken =
        let low : n < length journals = slice_get_within journals n x there in
        by_next journals plans (are_plans (omega (arith, low))) (record {
          next = x;
          there = subst (λ k. slice_get journals k ≡ Some x) (sym so.count) there;
          marks = marks;
          live = live_planned;
          breaks = subst (λ (r : Ring). Breaks r x.dinode x.blocks.items marks rule b) (ring_is s idle x.blocks.items) broken;
        })
        (is_inside rule b broken)

    pub next_told : (fault : LookFault) → IsStopped (ring_read s 0 x.blocks.items) x.dinode x.blocks.items marks fault → IfDamagedLook fault (IsToldByPlans (image_of s))
    next_told (look.Damaged block rule) why = stops rule block why
    next_told (look.DiskFailed block rise) why = tt
    next_told look.NoMemory why = tt

-- what stops the look at the next journal, as the disk then is
pub next_on : (s t : DiskState) → t ≡ s → IsIdle s → IsTrue s.tells → (journals : List JournalPlaces) → AreInside s.count journals → (first : List Mark) → ((b : ℕ) → mark_of first b ≡ Live → ⊥)
    → (n : ℕ) (plans : List Plan) (marks : List Mark) → IsSoFar s first journals n plans marks → (x : JournalPlaces) → slice_get journals n ≡ Some x → (fault : LookFault)
    → (IsTrue t.tells → IsStopped (ring_read t 0 x.blocks.items) x.dinode x.blocks.items marks fault)
    → IfDamagedLook fault (IsToldByPlans (image_of s))
next_on s t same idle tells journals inside first fresh n plans marks so x there fault why =
    next_told s idle tells journals inside first fresh n plans marks so x there fault
    (subst (λ (u : DiskState). IsTrue u.tells → IsStopped (ring_read u 0 x.blocks.items) x.dinode x.blocks.items marks fault) same why tells)

-- ---- of an image that a disk in memory has

pub look_by_plans : (im im' : Image) → im ≡ im' → (f : LookFault) → IfDamagedLook f (IsToldByPlans im) → IfDamaged (of_look f) (IsToldByPlans im')
look_by_plans im im' of (look.Damaged block rule) told = subst (λ i. IsToldByPlans i block rule) of told
look_by_plans im im' of (look.DiskFailed block rise) told = tt
look_by_plans im im' of look.NoMemory told = tt

pub tree_by_plans : (s mid : DiskState) → mid ≡ s → IsTrue s.tells → (im : Image) → image_of s ≡ im → (journals : List JournalPlaces) (plans row : List Plan) → row ≡ plans
    → (IsTrue s.tells → ArePlansOf (image_of s) journals plans × (length plans ≡ length journals)) → (f : TreeFault)
    → (IsTrue mid.tells → disk.IfDamaged f (λ block rule. IsBrokenBlock (ending (put_over (image_of mid) row)) rule block)) → IfDamaged (of_tree f) (IsToldByPlans im)
tree_by_plans s mid same tells im of journals plans row row_is made f gives =
    by f
    (subst (λ ps. disk.IfDamaged f (λ block rule. IsBrokenBlock (ending (put_over (image_of s) ps)) rule block)) row_is
    (subst (λ (x : DiskState). IsTrue x.tells → disk.IfDamaged f (λ block rule. IsBrokenBlock (ending (put_over (image_of x) row)) rule block)) same gives tells))
  where
    by : (g : TreeFault) → disk.IfDamaged g (λ block rule. IsBrokenBlock (ending (put_over (image_of s) plans)) rule block) → IfDamaged (of_tree g) (IsToldByPlans im)
    by (tree.Damaged block rule) told = subst (λ i. IsToldByPlans i block rule) of (by_all journals plans (made tells).0 (made tells).1 told)
    by (tree.DiskFailed block rise) told = tt
    by tree.NoMemory told = tt
