-- A group's free blocks and dinodes are counted.
use Rattle.std.proofs.Common.{ℕ, zero, suc, ◌≡◌, ◌+◌, ◌-◌, ◌*◌, ◌<◌, ◌≤◌, inl, inr, true, false, length, map, refl, sym, ap, ◌∙◌, subst, arith, cond}
use Rattle.std.specs.Prelude.{◌==◌, if◌then◌else◌, count_by}
use Rattle.std.specs.List.{AllByRecursion, range_with_len}
use Rattle.std.proofs.lemmas.Bool.{cases_lt, cases_eq, cases_Bool, cond-true, cond-false, eq-eqb, ne_eqb, lt-ltb, le-ltb}
use Rattle.std.proofs.lemmas.Bool.Decides.{nat_tests}
use Rattle.std.proofs.lemmas.List.{length-map}
use Rattle.std.proofs.lemmas.List.FromFn.{length-range_with_len}
use Rattle.std.proofs.lemmas.List.Sums.{sum_by-cons, count_by-le-length}
use Rattle.std.proofs.lemmas.Nat.{row_fits}
use Rattle.mkgfs2_tool.proofs.StandingLists.{IsIn, Rising, one_if, count_split, count_in, count_out}
use Rattle.mkgfs2_tool.specs.Files.{height, file_blocks, part}
use Rattle.mkgfs2_tool.specs.Order.{journals_place, journal_leaves, leaf_place, journal_place, group_list, journal, taken, use_of, dinode_places}
use Rattle.mkgfs2_tool.specs.Blocks.{is_dinode, is_dinode_part, is_within, state}
use Rattle.mkgfs2_tool.specs.Making.{IsFitting}
use Rattle.mkgfs2_tool.specs.declared.files.Part.{Part}
use Rattle.mkgfs2_tool.specs.declared.files.Part.TheVariants.{Pointers, Content}
use Rattle.mkgfs2_tool.specs.declared.plan.Plan.{Plan}
use Rattle.mkgfs2_tool.proofs.StandingGiven.{Known}
use Rattle.mkgfs2_tool.proofs.StandingCounts.{count_none}
use Rattle.mkgfs2_tool.proofs.StandingShapes.{part_below, part_here, Piece, is_top, is_below, piece}
use Rattle.mkgfs2_tool.proofs.StandingOwners.{file_place, file_shape, file_use, Kept, is_master, is_root, is_journals, is_leaf, is_file, kept, file_taken, file_some, use_of_file, use_of_journals, use_of_leaf, some_taken, two_taken, journals_taken}
use Rattle.mkgfs2_tool.proofs.StandingFiles.{file_low}

-- ---- free blocks

pub state_free : (p : Plan) (k : ℕ) → taken p ≤ k → state p k ≡ 0
unfolding state
state_free p k ge = cond-false _ _ _ (le-ltb k (taken p) ge)

pub state_used : (p : Plan) (k : ℕ) → k < taken p → state p k ≡ (if is_dinode (use_of p k) then 3 else 1)
unfolding state
state_used p k low = cond-true _ _ _ (lt-ltb k (taken p) low)

state_some : (p : Plan) (k : ℕ) → k < taken p → (state p k == 0) ≡ false
state_some p k low = elim (cases_Bool (is_dinode (use_of p k))) [
  | inl so ↦ ap (λ n. n == 0) (state_used p k low ∙ cond-true _ 3 1 so)
  | inr non ↦ ap (λ n. n == 0) (state_used p k low ∙ cond-false _ 3 1 non)
]

pub free_counted : (p : Plan) (b n : ℕ) → count_by (λ s. s == 0) (map (state p) (range_with_len b n)) ≡ n - (taken p - b)
free_counted p b zero = omega arith
free_counted p b (suc n) = elim (cases_lt b (taken p)) [
  | inl low ↦ used (count_by (λ s. s == 0) (map (state p) (range_with_len b (suc n)))) (cond (state p b == 0) 1 0) (count_by (λ s. s == 0) (map (state p) (range_with_len (b + 1) n))) n (taken p) b
      (sum_by-cons (λ s. one_if (s == 0)) (state p b) (map (state p) (range_with_len (b + 1) n))) (cond-false {A = ℕ} _ 1 0 (state_some p b low)) (free_counted p (b + 1) n) low
  | inr ge ↦ free (count_by (λ s. s == 0) (map (state p) (range_with_len b (suc n)))) (cond (state p b == 0) 1 0) (count_by (λ s. s == 0) (map (state p) (range_with_len (b + 1) n))) n (taken p) b
      (sum_by-cons (λ s. one_if (s == 0)) (state p b) (map (state p) (range_with_len (b + 1) n))) (cond-true {A = ℕ} _ 1 0 (ap (λ s. s == 0) (state_free p b ge))) (free_counted p (b + 1) n) ge
]
  where
    used : (c x y n t b : ℕ) → c ≡ x + y → x ≡ 0 → y ≡ n - (t - (b + 1)) → b < t → c ≡ suc n - (t - b)
    used c x y n t b e f g low = omega (arith, e, f, g, low)

    free : (c x y n t b : ℕ) → c ≡ x + y → x ≡ 1 → y ≡ n - (t - (b + 1)) → t ≤ b → c ≡ suc n - (t - b)
    free c x y n t b e f g ge = omega (arith, e, f, g, ge)

-- ---- the places of dinodes rise

journals_above : (p : Plan) (x s n : ℕ) → x < journal_place p s → AllByRecursion (λ y. x < y) (map (journal_place p) (range_with_len s n))
journals_above p x s zero low = tt
journals_above p x s (suc n) low = (low, journals_above p x (s + 1) n (further x (leaf_place p (journal_leaves p)) (s * file_blocks (journal p)) ((s + 1) * file_blocks (journal p)) low (row_fits s (file_blocks (journal p)) (s + 1) (file_blocks (journal p)) (omega arith) (omega arith))))
  where
    further : (x a u v : ℕ) → x < a + u → u + file_blocks (journal p) ≤ v → x < a + v
    further x a u v low step = through x a u v (file_blocks (journal p)) low step
      where
        through : (x a u v f : ℕ) → x < a + u → u + f ≤ v → x < a + v
        through x a u v f low step = omega (arith, low, step)

journals_rise : (p : Plan) (s n : ℕ) → Rising (map (journal_place p) (range_with_len s n))
journals_rise p s zero = tt
journals_rise p s (suc n) = (
  journals_above p (journal_place p s) (s + 1) n (next (leaf_place p (journal_leaves p)) (s * file_blocks (journal p)) ((s + 1) * file_blocks (journal p)) (file_blocks (journal p)) (file_some p 1)
      (row_fits s (file_blocks (journal p)) (s + 1) (file_blocks (journal p)) (omega arith) (omega arith))),
  journals_rise p (s + 1) n,
)
  where
    next : (a u v f : ℕ) → 1 ≤ f → u + f ≤ v → a + u < a + v
    next a u v f some step = omega (arith, some, step)

places_rise : (p : Plan) → Rising (dinode_places p)
places_rise p = (
  (omega arith, (omega arith, (omega arith, journals_above p 0 0 p.journals (omega arith)))),
  (
    (omega arith, (omega arith, journals_above p 1 0 p.journals (omega arith))),
    (
      (list_first, journals_above p 2 0 p.journals (omega arith)),
      (journals_above p (journals_place p) 0 p.journals (omega arith), journals_rise p 0 p.journals),
    ),
  ),
)
  where
    list_first : 2 < journals_place p
    list_first = above (file_blocks (group_list p)) (file_some p 0)
      where
        above : (n : ℕ) → 1 ≤ n → 2 < 2 + n
        above n some = omega (arith, some)

in_journals : (p : Plan) (s n j : ℕ) → s ≤ j → j < s + n → IsIn (journal_place p j) (map (journal_place p) (range_with_len s n))
in_journals p s zero j low high = absurd (omega (arith, low, high))
in_journals p s (suc n) j low high = elim (cases_eq j s) [
  | inl e ↦ inl (ap (journal_place p) e)
  | inr d ↦ inr (in_journals p (s + 1) n j (omega (arith, low, d)) (omega (arith, high)))
]

-- a journal whose place this is
record IsJournalPlace (p : Plan) (n k : ℕ) : Type 0 where
  pub j : ℕ
  pub low : j < n
  pub is : k ≡ journal_place p j

from_journals : (p : Plan) (s n all k : ℕ) → s + n ≤ all → IsIn k (map (journal_place p) (range_with_len s n)) → IsJournalPlace p all k
from_journals p s zero all k few there = elim there [ ]
from_journals p s (suc n) all k few (inl e) = record { j = s; low = omega (arith, few); is = e }
from_journals p s (suc n) all k few (inr h) = from_journals p (s + 1) n all k (omega (arith, few)) h

module _ (p : Plan) (fit : IsFitting p) (known : Known p) where
  dinode_use : (i : ℕ) (q : Part) → is_dinode (file_use i q) ≡ is_dinode_part q
  dinode_use zero q = refl
  dinode_use (suc j) q = refl

  state_three : (k : ℕ) → k < taken p → is_dinode (use_of p k) ≡ true → state p k ≡ 3
  state_three k low so = state_used p k low ∙ cond-true _ 3 1 so

  file_three : (i : ℕ) → i ≤ p.journals → state p (file_place p i) ≡ 3
  file_three i ok = ap (state p) (none (file_place p i)) ∙ state_three (file_place p i + 0) (file_taken p i 0 ok (file_some p i)) (ap is_dinode (use_of_file p i 0 (file_some p i)) ∙ dinode_use i (part (file_shape p i) 0))
    where
      none : (n : ℕ) → n ≡ n + 0
      none n = omega arith

  in_three : (k : ℕ) → IsIn k (dinode_places p) → state p k ≡ 3
  in_three k (inl e) = ap (state p) e ∙ state_three 0 (some_taken p) refl
  in_three k (inr (inl e)) = ap (state p) e ∙ state_three 1 (two_taken p) refl
  in_three k (inr (inr (inl e))) = ap (state p) e ∙ file_three 0 (omega arith)
  in_three k (inr (inr (inr (inl e)))) = ap (state p) e ∙ state_three (journals_place p) (journals_taken p) (ap is_dinode (use_of_journals p))
  in_three k (inr (inr (inr (inr h)))) = of (from_journals p 0 p.journals p.journals k (omega arith) h)
    where
      of : IsJournalPlace p p.journals k → state p k ≡ 3
      of q = ap (state p) q.is ∙ file_three (suc q.j) q.low

  three_in : (k : ℕ) → state p k ≡ 3 → IsIn k (dinode_places p)
  three_in k e = elim (cases_lt k (taken p)) [
    | inr ge ↦ absurd (never (state p k) (state_free p k ge) e)
    | inl low ↦ each (kept p k low) low
  ]
    where
      never : (n : ℕ) → n ≡ 0 → n ≡ 3 → ⊥
      never n z e = absurd (omega (arith, z, e))

      never_one : (n : ℕ) → n ≡ 1 → n ≡ 3 → ⊥
      never_one n z e = absurd (omega (arith, z, e))

      none : (n : ℕ) → n + 0 ≡ n
      none n = omega arith

      at_file : (i : ℕ) → i ≤ p.journals → k ≡ file_place p i → IsIn k (dinode_places p)
      at_file zero ok s = inr (inr (inl s))
      at_file (suc j) ok s = inr (inr (inr (inr (subst (λ n. IsIn n (map (journal_place p) (range_with_len 0 p.journals))) (sym s) (in_journals p 0 p.journals j (omega arith) (omega (arith, ok)))))))

      plain_part : (i l x : ℕ) → is_dinode_part (part_below (file_shape p i) l x) ≡ false
      plain_part i l x = elim (cases_Bool (l == height (file_shape p i))) [
        | inl so ↦ ap is_dinode_part (cond-true _ (Content x) (Pointers l x) so)
        | inr non ↦ ap is_dinode_part (cond-false _ (Content x) (Pointers l x) non)
      ]

      of_piece : (i n : ℕ) → i ≤ p.journals → n < file_blocks (file_shape p i) → k ≡ file_place p i + n → k < taken p → Piece (file_shape p i) n → IsIn k (dinode_places p)
      of_piece i n ok inside s low (is_top z) = at_file i ok (s ∙ ap (λ m. file_place p i + m) z ∙ none (file_place p i))
      of_piece i n ok inside s low (is_below l x at z) = absurd (never_one (state p k) (state_used p k low ∙ cond-false _ 3 1 (ap (λ m. is_dinode (use_of p m)) s ∙ ap is_dinode (use_of_file p i n inside) ∙ dinode_use i (part (file_shape p i) n)
          ∙ ap (λ m. is_dinode_part (part (file_shape p i) m)) z ∙ ap is_dinode_part (part_here (file_shape p i) (file_low p fit known i) l x at) ∙ plain_part i l x)) e)

      each : Kept p k → k < taken p → IsIn k (dinode_places p)
      each (is_master s) low = inl s
      each (is_root s) low = inr (inl s)
      each (is_journals s) low = inr (inr (inr (inl s)))
      each (is_leaf n inside s) low = absurd (never_one (state p k) (state_used p k low ∙ cond-false _ 3 1 (ap (λ m. is_dinode (use_of p m)) s ∙ ap is_dinode (use_of_leaf p n inside))) e)
      each (is_file i n ok inside s) low = of_piece i n ok inside s low (piece (file_shape p i) (file_low p fit known i) n inside)

  -- a place is that of one dinode exactly where the state says so
  one_place : (k : ℕ) → count_by (λ q. q == k) (dinode_places p) ≡ one_if (state p k == 3)
  one_place k = elim (cases_eq (state p k) 3) [
    | inl e ↦ count_in k (dinode_places p) (places_rise p) (three_in k e) ∙ sym (cond-true {A = ℕ} _ 1 0 (eq-eqb (state p k) 3 e))
    | inr d ↦ count_out k (dinode_places p) (λ h. d (in_three k h)) ∙ sym (cond-false {A = ℕ} _ 1 0 (ne_eqb (state p k) 3 d))
  ]

  within_on : (b n q : ℕ) → one_if (is_within b (suc n) q) ≡ one_if (q == b) + one_if (is_within (b + 1) n q)
  within_on b n q = grind (arith, nat_tests)

  within_none : (b q : ℕ) → is_within b 0 q ≡ false
  within_none b q = grind (arith, nat_tests)

  pub dinodes_counted : (b n : ℕ) → count_by (λ s. s == 3) (map (state p) (range_with_len b n)) ≡ count_by (is_within b n) (dinode_places p)
  dinodes_counted b zero = sym (count_none (is_within b 0) (dinode_places p) (within_none b))
  dinodes_counted b (suc n) =
      sum_by-cons (λ s. one_if (s == 3)) (state p b) (map (state p) (range_with_len (b + 1) n))
      ∙ (λ t. sym (one_place b) t + dinodes_counted (b + 1) n t)
      ∙ sym (count_split (is_within b (suc n)) (λ q. q == b) (is_within (b + 1) n) (dinode_places p) (within_on b n))

  pub few_dinodes : (b n : ℕ) → count_by (is_within b n) (dinode_places p) ≤ 12
  few_dinodes b n = few (count_by (is_within b n) (dinode_places p)) (length (map (journal_place p) (range_with_len 0 p.journals))) p.journals (count_by-le-length (is_within b n) (dinode_places p))
      (length-map (range_with_len 0 p.journals) (journal_place p) ∙ length-range_with_len 0 p.journals) fit.plan.journals
    where
      few : (c m n : ℕ) → c ≤ suc (suc (suc (suc m))) → m ≡ n → n ≤ 8 → c ≤ 12
      few c m n le e small = omega (arith, le, e, small)
