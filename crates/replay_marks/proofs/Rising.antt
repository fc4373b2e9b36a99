-- Writes by rising block: at each none of those before it.
use Rattle.std.proofs.Common.{◌≡◌, ◌+◌, ◌<◌, ◌≤◌, ℕ, zero, suc, true, false, List, [], ◌∷◌, length, take, get_or, refl, sym, ap, subst, ◌∙◌, arith}
use Rattle.std.specs.Prelude.{◌==◌, ◌||◌, min, map, slice_index, if◌then◌else◌}
use Rattle.std.specs.List.Sorted.{IsStrictlyIncreasing}
use Rattle.std.proofs.lemmas.Bool.{cond-false}
use Rattle.std.proofs.lemmas.Bool.Decides.{nat_tests}
use Rattle.std.proofs.lemmas.List.Folds.{list_any_at}
use Rattle.drafts.specs.declared.change.Written.{Written}
use Rattle.replay_marks.specs.Marking.{HasHindrance, IsHinderedAt, has_block, is_between, mark_of}
use Rattle.replay_marks.specs.declared.marks.Hindrance.{Hindrance}
use Rattle.replay_marks.specs.declared.marks.Hindrance.TheVariants.{Astray, Twice}
use Rattle.replay_marks.specs.declared.marks.Mark.{Mark}
use Rattle.replay_marks.specs.declared.marks.Mark.TheVariants.{Live}

abbrev Rises : List Written → Type 0
Rises ws = IsStrictlyIncreasing (map (λ (w : Written). w.block) ws)

rises_on : (w : Written) (ws : List Written) → Rises (w ∷ ws) → Rises ws
rises_on w ws rise k less =
    let e : suc k + 1 ≡ suc (k + 1) = omega arith in
    subst (λ n. slice_index (map (λ (v : Written). v.block) (w ∷ ws)) (suc k) < slice_index (map (λ (v : Written). v.block) (w ∷ ws)) n) e (rise (suc k) (omega (arith, less)))

above : (w : Written) (ws : List Written) (i : ℕ) (d : Written) → Rises (w ∷ ws) → i < length ws → w.block < (get_or ws i d).block
above w [] i d rise less = absurd (omega (arith, less))
above w (v ∷ ws) zero d rise less = rise 0 (omega arith)
above w (v ∷ ws) (suc i) d rise less =
    let first : w.block < v.block = rise 0 (omega arith) in
    let rest : v.block < (get_or ws i d).block = above v ws i d (rises_on w (v ∷ ws) rise) (omega (arith, less)) in
    omega (arith, first, rest)

not_before : (ws : List Written) (i : ℕ) (d : Written) → Rises ws → i < length ws → has_block (take i ws) (get_or ws i d).block ≡ false
not_before [] i d rise less = absurd (omega (arith, less))
not_before (w ∷ ws) zero d rise less = refl
not_before (w ∷ ws) (suc i) d rise less =
    let low : w.block < (get_or ws i d).block = above w ws i d rise (omega (arith, less)) in
    let other : (w.block == (get_or ws i d).block) ≡ false = grind (arith, nat_tests, low) in
    ap (λ b. b || has_block (take i ws) (get_or ws i d).block) other ∙ not_before ws i d (rises_on w ws rise) (omega (arith, less))

there : (ws : List Written) (i : ℕ) (d : Written) → i < length ws → has_block ws (get_or ws i d).block ≡ true
there ws i d less =
    let own : ((get_or ws i d).block == (get_or ws i d).block) ≡ true = grind (arith, nat_tests) in
    list_any_at (λ (w : Written). w.block == (get_or ws i d).block) ws i d less own

module _ (old now : List Mark) (ws : List Written) (i : ℕ) (d : Written) (rise : Rises ws) (less : i < length ws)
    (marks : (b : ℕ) → mark_of now b ≡ (if has_block (take i ws) b then Live else mark_of old b)) where
  same : mark_of now (get_or ws i d).block ≡ mark_of old (get_or ws i d).block
  same = marks (get_or ws i d).block ∙ cond-false _ _ _ (not_before ws i d rise less)

  pub hindered_by : (h : Hindrance) → IsHinderedAt now (get_or ws i d).block h → HasHindrance old ws h
  hindered_by (Astray b) is = (ap (has_block ws) is.0 ∙ there ws i d less, ap (mark_of old) is.0 ∙ sym same ∙ is.1)
  hindered_by (Twice b) is = (ap (has_block ws) is.0 ∙ there ws i d less, ap (mark_of old) is.0 ∙ sym same ∙ is.1)

pub as_far : (from to count block b : ℕ) → b < count → block ≤ min to count → min to count ≤ block → is_between from block b ≡ is_between from to b
as_far from to count block b low high end = grind (arith, nat_tests, low, high, end)
