-- How many blocks of a disk a view hasn't: one less with each that is read.
use Rattle.std.proofs.Common.{◌≡◌, ℕ, zero, suc, ◌+◌, ◌<◌, ◌≤◌, Bool, true, false, cond, List, Option, None, Some, inl, inr, refl, ap, ◌∙◌, sym, subst, arith}
use Rattle.std.specs.Prelude.{if◌then◌else◌}
use Rattle.std.specs.Ordering.{nat_cmp}
use Rattle.std.specs.Cmp.{nat_cmp_total}
use Rattle.std.specs.FinMap.{FinMap, get, insert, nat_cmp-IsAntisymmetric}
use Rattle.std.proofs.lemmas.Bool.{cases_eq}
use Rattle.finite_maps.proofs.Keys.{inserted_at, inserted_apart}
use Rattle.shared_disk.specs.Disk.{DiskState}
use Rattle.lone_view.specs.Seeing.{Lone}
use Rattle.lone_answers.specs.Reading.{ReadsOne}

abbrev is_none : Option (List ℕ) → Bool
is_none None = true
is_none (Some bytes) = false

-- of the blocks below this one
abbrev pub lacked_count : FinMap nat_cmp (List ℕ) → ℕ → ℕ
lacked_count blocks zero = 0
lacked_count blocks (suc count) = (if is_none (get blocks count) then 1 else 0) + lacked_count blocks count

abbrev counted : Option (List ℕ) → ℕ
counted o = cond (is_none o) 1 0

module _ (m : FinMap nat_cmp (List ℕ)) (k : ℕ) (bytes : List ℕ) where
  same_below : (c : ℕ) → c ≤ k → lacked_count (insert m k bytes) c ≡ lacked_count m c
  same_below zero low = refl
  same_below (suc c) low = λ i. cond (is_none (inserted_apart nat_cmp_total nat_cmp-IsAntisymmetric m k bytes c (λ e. omega (arith, e, low)) i)) 1 0 + same_below c (omega (arith, low)) i

  fewer : (c : ℕ) → get m k ≡ None → k < c → lacked_count (insert m k bytes) c < lacked_count m c
  fewer zero none low = absurd (omega arith)
  fewer (suc c) none low = elim (cases_eq c k) [
    | inl same ↦
        let here = ap counted (ap (get (insert m k bytes)) same ∙ inserted_at nat_cmp_total nat_cmp-IsAntisymmetric m k bytes) in
        let was = ap counted (ap (get m) same ∙ none) in
        let below = same_below c (omega (arith, same)) in
        omega (arith, here, was, below)
    | inr other ↦
        let here = ap counted (inserted_apart nat_cmp_total nat_cmp-IsAntisymmetric m k bytes c other) in
        let below = fewer c none (omega (arith, low, other)) in
        omega (arith, here, below)
  ]

-- with one more block read fewer lack
pub one_less : (d : DiskState) (n next : Lone) → ReadsOne d n next → lacked_count next.blocks d.count < lacked_count n.blocks d.count
one_less d n next one = subst (λ (m : Lone). lacked_count m.blocks d.count < lacked_count n.blocks d.count) (sym one.kept) (fewer n.blocks one.block one.bytes d.count one.absent one.inside)
