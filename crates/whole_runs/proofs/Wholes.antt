-- A whole run, front by front.
use Rattle.std.proofs.Common.{◌≡◌, ℕ, ◌+◌, ◌-◌, ◌<◌, ◌≤◌, List, ◌++◌, length, take, Option, None, Some, refl, ap, ◌∙◌, arith}
use Rattle.std.specs.Prelude.{true, false, nat_le}
use Rattle.std.specs.List.{filter_map}
use Rattle.std.proofs.lemmas.Bool.{cond-true, cond-false}
use Rattle.std.proofs.lemmas.Bool.Decides.{nat_tests}
use Rattle.std.proofs.lemmas.List.{length-append}
use Rattle.std.proofs.lemmas.List.Elements.{filter_map-append}
use Rattle.disk_items.specs.Deeds.{deed_told}
use Rattle.logged_runs.specs.Disks.{disk_after, first_told, told_count}
use Rattle.logged_runs.proofs.Telling.{take_all, take_front}
use Rattle.shared_disk.specs.Disk.{DiskState, Gains, Operation}
use Rattle.trace_text.specs.declared.item.TraceItem.{TraceItem}
use Rattle.whole_runs.specs.Wholes.{Course, disk_behind}
use Rattle.whole_runs.proofs.Bringing.{after_on, take_behind}

-- ---- lists that are told

pub record ToldBefore (o : Option (List Operation)) (all ops : List Operation) : Type 0 where
  pub was : List Operation
  pub is : o ≡ Some was
  pub all_are : all ≡ was ++ ops

pub told_before : (o : Option (List Operation)) (all ops : List Operation) → Gains o (Some all) ops → ToldBefore o all ops
told_before None all ops gains = elim gains [ ]
told_before (Some was) all ops gains = record { was = was; is = refl; all_are = gains }

-- ---- counts

pub told_on : (xs ys : List TraceItem) → told_count (xs ++ ys) ≡ told_count xs + told_count ys
told_on xs ys = ap length (filter_map-append deed_told xs ys) ∙ length-append (filter_map deed_told xs) (filter_map deed_told ys)

le_true : (a b : ℕ) → a ≤ b → nat_le a b ≡ true
le_true a b low = grind (arith, nat_tests)

le_false : (a b : ℕ) → b < a → nat_le a b ≡ false
le_false a b high = grind (arith, nat_tests)

-- ---- the disk behind a front

module _ (start : DiskState) (c : Course) where
  pub behind_front : (p : ℕ) → p ≤ length c.items → disk_behind start c p ≡ disk_after start (first_told (take p c.items) c.operations)
  behind_front p low = cond-true (nat_le p (length c.items)) _ _ (le_true p (length c.items) low)

  pub behind_stop : (p : ℕ) → length c.items < p → disk_behind start c p ≡ disk_after start ((c.operations ++ c.further) ++ first_told (take (p - length c.items) c.end) c.later)
  behind_stop p high = cond-false (nat_le p (length c.items)) _ _ (le_false p (length c.items) high)

  -- of the first of these items and operations
  pub behind_first : (p : ℕ) (first more : List TraceItem) (ops others : List Operation) → c.items ≡ first ++ more → c.operations ≡ ops ++ others → p ≤ length first → told_count (take p first) ≤ length ops
      → disk_behind start c p ≡ disk_after start (first_told (take p first) ops)
  behind_first p first more ops others items_are ops_are low few =
      let all = ap length items_are ∙ length-append first more in
      let front : take p c.items ≡ take p first = ap (take p) items_are ∙ take_front p first more low in
      behind_front p (omega (arith, low, all))
      ∙ ap (disk_after start) ((λ i. take (told_count (front i)) (ops_are i)) ∙ take_front (told_count (take p first)) ops others few)

  -- behind a first part that is told whole
  pub behind_part : (p : ℕ) (first rest more : List TraceItem) (ops later others : List Operation) → c.items ≡ (first ++ rest) ++ more → c.operations ≡ ops ++ (later ++ others) → p ≡ length (first ++ rest)
      → told_count first ≡ length ops → told_count rest ≤ length later → disk_behind start c p ≡ disk_after (disk_after start ops) (first_told rest later)
  behind_part p first rest more ops later others items_are ops_are at whole few =
      let all = ap length items_are ∙ length-append (first ++ rest) more in
      let front : take p c.items ≡ first ++ rest
      = (λ i. take (at i) (items_are i)) ∙ take_front (length (first ++ rest)) (first ++ rest) more (omega arith) ∙ take_all (length (first ++ rest)) (first ++ rest) (omega arith) in
      let count : told_count (first ++ rest) ≡ length ops + told_count rest = told_on first rest ∙ ap (λ n. n + told_count rest) whole in
      behind_front p (omega (arith, at, all))
      ∙ ap (disk_after start) ((λ i. take (told_count (front i)) (ops_are i)) ∙ taken (told_count (first ++ rest)) count)
      ∙ after_on start ops (take (told_count rest) later)
    where
      taken : (n : ℕ) → n ≡ length ops + told_count rest → take n (ops ++ (later ++ others)) ≡ ops ++ take (told_count rest) later
      taken n is =
          take_behind n ops (later ++ others) (omega (arith, is))
          ∙ ap (λ m. ops ++ take m (later ++ others)) (let same : n - length ops ≡ told_count rest = omega (arith, is) in same)
          ∙ ap (λ os. ops ++ os) (take_front (told_count rest) later others few)
