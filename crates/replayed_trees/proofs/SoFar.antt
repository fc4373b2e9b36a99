-- The journals that were looked at so far.
use Rattle.std.proofs.Common.{◌≡◌, ◌+◌, ◌<◌, ℕ, Bool, true, false, List, [], ◌∷◌, ◌++◌, length, Option, None, Some, refl, sym, ap, subst, ◌∙◌, inl, inr}
use Rattle.std.specs.Prelude.{◌||◌, IsTrue, if◌then◌else◌, slice_get}
use Rattle.std.specs.List.{AllByRecursion}
use Rattle.std.proofs.lemmas.Bool.{cond-true, cond-false}
use Rattle.std.proofs.lemmas.List.{length-append}
use Rattle.image_journals.specs.declared.finding.JournalPlaces.{JournalPlaces}
use Rattle.image_replays.specs.Marking.{is_planned}
use Rattle.image_replays.specs.Replays.{IsWritable}
use Rattle.image_replays.proofs.Lists.{all_more, any_append, any_at, false_true, get_more, live_open, some_is}
use Rattle.journal_plans.specs.Plans.{IsPlanOf}
use Rattle.journal_reads.specs.Reading.{ring_read}
use Rattle.peer_replay.specs.declared.planned.Plan.{Plan}
use Rattle.replay_marks.specs.Marking.{has_block, mark_of}
use Rattle.replay_marks.specs.declared.marks.Mark.{Mark}
use Rattle.replay_marks.specs.declared.marks.Mark.TheVariants.{Live, Open}
use Rattle.shared_disk.specs.Disk.{DiskState}

pub record IsSoFar (s : DiskState) (first : List Mark) (journals : List JournalPlaces) (n : ℕ) (plans : List Plan) (marks : List Mark) : Type 0 where
  pub long : length marks ≡ s.count
  pub writable : AllByRecursion (IsWritable s) plans
  pub count : length plans ≡ n
  pub each : IsTrue s.tells → (j : ℕ) (x : JournalPlaces) (p : Plan) → slice_get journals j ≡ Some x → slice_get plans j ≡ Some p → IsPlanOf (ring_read s 0 x.blocks.items) p
  pub free : (j : ℕ) (p : Plan) (b : ℕ) → slice_get plans j ≡ Some p → has_block p.home.items b ≡ true → (b < s.count) × (mark_of first b ≡ Open)
  pub apart : (i j : ℕ) (p q : Plan) (b : ℕ) → slice_get plans i ≡ Some p → slice_get plans j ≡ Some q → has_block p.home.items b ≡ true → has_block q.home.items b ≡ true → i ≡ j
  pub are : (b : ℕ) → mark_of marks b ≡ (if is_planned plans b then Live else mark_of first b)

pub so_far_start : (s : DiskState) (first : List Mark) (journals : List JournalPlaces) → length first ≡ s.count → IsSoFar s first journals 0 [] first
so_far_start s first journals long = record {
  long = long;
  writable = tt;
  count = refl;
  each = λ tells j x p at is. absurd (let e : ◌≡◌ {A = Option Plan} None (Some p) = is in cc);
  free = λ j p b is. absurd (let e : ◌≡◌ {A = Option Plan} None (Some p) = is in cc);
  apart = λ i j p q b is. absurd (let e : ◌≡◌ {A = Option Plan} None (Some p) = is in cc);
  are = λ b. refl;
}

module _ (s : DiskState) (first : List Mark) (journals : List JournalPlaces) (n : ℕ) (plans : List Plan) (marks new : List Mark) (so : IsSoFar s first journals n plans marks)
    (x : JournalPlaces) (p : Plan) (at : slice_get journals n ≡ Some x) (long : length new ≡ length marks) (writable : IsWritable s p)
    (free : (b : ℕ) → has_block p.home.items b ≡ true → (b < s.count) × (mark_of marks b ≡ Open))
    (plan : IsTrue s.tells → IsPlanOf (ring_read s 0 x.blocks.items) p)
    (are : (b : ℕ) → mark_of new b ≡ (if has_block p.home.items b then Live else mark_of marks b)) where
  -- a block of the new plan is open at first, and in no plan before
  fresh_by : (b : ℕ) (t : Bool) → is_planned plans b ≡ t → has_block p.home.items b ≡ true → (is_planned plans b ≡ false) × (mark_of first b ≡ Open)
  fresh_by b true e has = absurd (live_open (sym (so.are b ∙ cond-true _ _ _ e) ∙ (free b has).1))
  fresh_by b false e has = (e, sym (so.are b ∙ cond-false _ _ _ e) ∙ (free b has).1)

  fresh : (b : ℕ) → has_block p.home.items b ≡ true → (is_planned plans b ≡ false) × (mark_of first b ≡ Open)
  fresh b has = fresh_by b (is_planned plans b) refl has

  not_before : (j : ℕ) (q : Plan) (b : ℕ) → slice_get plans j ≡ Some q → has_block q.home.items b ≡ true → has_block p.home.items b ≡ true → ⊥
  not_before j q b is old new_has = false_true (sym (fresh b new_has).0 ∙ any_at (λ (r : Plan). has_block r.home.items b) plans j q is old)

  each_more : IsTrue s.tells → (j : ℕ) (y : JournalPlaces) (q : Plan) → slice_get journals j ≡ Some y → slice_get (plans ++ p ∷ []) j ≡ Some q → IsPlanOf (ring_read s 0 y.blocks.items) q
  each_more tells j y q there is = elim (get_more plans p j q is) [
    | inl old ↦ so.each tells j y q there old
    | inr last ↦
        let same : x ≡ y = some_is (sym at ∙ ap (slice_get journals) (sym (last.0 ∙ so.count)) ∙ there) in
        subst (λ (r : Plan). IsPlanOf (ring_read s 0 y.blocks.items) r) last.1 (subst (λ (z : JournalPlaces). IsPlanOf (ring_read s 0 z.blocks.items) p) same (plan tells))
  ]

  free_more : (j : ℕ) (q : Plan) (b : ℕ) → slice_get (plans ++ p ∷ []) j ≡ Some q → has_block q.home.items b ≡ true → (b < s.count) × (mark_of first b ≡ Open)
  free_more j q b is has = elim (get_more plans p j q is) [
    | inl old ↦ so.free j q b old has
    | inr last ↦ let own : has_block p.home.items b ≡ true = ap (λ (r : Plan). has_block r.home.items b) last.1 ∙ has in ((free b own).0, (fresh b own).1)
  ]

  apart_more : (i j : ℕ) (q r : Plan) (b : ℕ) → slice_get (plans ++ p ∷ []) i ≡ Some q → slice_get (plans ++ p ∷ []) j ≡ Some r → has_block q.home.items b ≡ true → has_block r.home.items b ≡ true → i ≡ j
  apart_more i j q r b is is' has has' = elim (get_more plans p i q is) [
    | inl old ↦ elim (get_more plans p j r is') [
      | inl old' ↦ so.apart i j q r b old old' has has'
      | inr last' ↦ absurd (not_before i q b old has (ap (λ (t : Plan). has_block t.home.items b) last'.1 ∙ has'))
    ]
    | inr last ↦ elim (get_more plans p j r is') [
      | inl old' ↦ absurd (not_before j r b old' has' (ap (λ (t : Plan). has_block t.home.items b) last.1 ∙ has))
      | inr last' ↦ last.0 ∙ sym last'.0
    ]
  ]

  are_by : (b : ℕ) (t u : Bool) → has_block p.home.items b ≡ t → is_planned plans b ≡ u → mark_of new b ≡ (if is_planned plans b || has_block p.home.items b then Live else mark_of first b)
  are_by b true u has old = are b ∙ cond-true _ _ _ has ∙ sym (cond-true _ _ _ (ap (λ t. is_planned plans b || t) has ∙ or_true (is_planned plans b)))
    where
      or_true : (a : Bool) → (a || true) ≡ true
      or_true true = refl
      or_true false = refl
  are_by b false u has old =
      are b ∙ cond-false _ _ _ has ∙ so.are b ∙ ap (λ t. if t then Live else mark_of first b) (sym (ap (λ t. is_planned plans b || t) has ∙ or_false (is_planned plans b)))
    where
      or_false : (a : Bool) → (a || false) ≡ a
      or_false true = refl
      or_false false = refl

  pub so_far_more : IsSoFar s first journals (n + 1) (plans ++ p ∷ []) new
  so_far_more = record {
    long = long ∙ so.long;
    writable = all_more (IsWritable s) plans p so.writable writable;
    count = length-append plans (p ∷ []) ∙ ap (λ k. k + 1) so.count;
    each = each_more;
    free = free_more;
    apart = apart_more;
    are = λ b. are_by b (has_block p.home.items b) (is_planned plans b) refl refl
        ∙ ap (λ t. if t then Live else mark_of first b) (sym (any_append (λ (r : Plan). has_block r.home.items b) plans p));
  }

-- one journal more, as the disk then is
pub so_on : (s t : DiskState) → t ≡ s → (first : List Mark) (journals : List JournalPlaces) (n : ℕ) (plans news : List Plan) (marks new : List Mark) → IsSoFar s first journals n plans marks
    → (x : JournalPlaces) (p : Plan) → slice_get journals n ≡ Some x → length new ≡ length marks → IsWritable t p
    → ((b : ℕ) → has_block p.home.items b ≡ true → (b < t.count) × (mark_of marks b ≡ Open)) → (IsTrue t.tells → IsPlanOf (ring_read t 0 x.blocks.items) p)
    → ((b : ℕ) → mark_of new b ≡ (if has_block p.home.items b then Live else mark_of marks b)) → news ≡ plans ++ p ∷ [] → IsSoFar s first journals (n + 1) news new
so_on s t same first journals n plans news marks new so x p at long writable free plan are added =
    subst (λ ps. IsSoFar s first journals (n + 1) ps new) (sym added)
    (so_far_more s first journals n plans marks new so x p at long (subst (λ u. IsWritable u p) same writable)
    (subst (λ (u : DiskState). (b : ℕ) → has_block p.home.items b ≡ true → (b < u.count) × (mark_of marks b ≡ Open)) same free)
    (subst (λ (u : DiskState). IsTrue u.tells → IsPlanOf (ring_read u 0 x.blocks.items) p) same plan) are)
