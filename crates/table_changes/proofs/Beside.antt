-- Where the pointers of a run stand, and what stands beside them.
use Rattle.std.proofs.Common.{◌≡◌, ◌≢◌, ◌⊎◌, ℕ, suc, ◌+◌, ◌-◌, ◌*◌, ◌/◌, ◌%◌, ◌<◌, ◌≤◌, inl, inr, List, sym, ap, ap₂, ◌∙◌, subst, arith}
use Rattle.std.specs.Prelude.{◌==◌, if◌then◌else◌}
use Rattle.std.proofs.lemmas.Bool.{cases_eq, cases_lt, cond-true, cond-false, eq-eqb, ne_eqb}
use Rattle.std.proofs.lemmas.Nat.{div-add-mod', div-mul-add, mod-mul-add}
use Rattle.gfs2_layout.specs.Bytes.{slice}
use Rattle.gfs2_layout.specs.Holding.{Holding}
use Rattle.gfs2_layout.specs.Inode.{content_block, entry_block, fan, header_length, height_in, span, unit}
use Rattle.gfs2_layout.specs.Structures.{dinode_length}
use Rattle.table_files.specs.Pointers.{IsBesidePointers, entry_place}
use Rattle.table_changes.specs.Setting.{HasNumbersSet, IsBehindDinode, IsInTable, IsRun}
use Rattle.table_changes.specs.declared.finding.Run.{Run}
use Rattle.table_changes.proofs.Kept.{KeepsContentBlocks}

-- bytes in which none of the numbers stands stay
pub beside_numbers : (old new : List ℕ) (start count number : ℕ) → HasNumbersSet old new start count number → 1 ≤ count → (at n : ℕ) → ((k : ℕ) → k < count → (at + n ≤ start + 8 * k) ⊎ (start + 8 * k + 8 ≤ at))
    → slice at n new ≡ slice at n old
beside_numbers old new start count number set some at n beside = elim (cases_lt start (at + n)) [
  | inr low ↦ set.elsewhere at n (inl (omega (arith, low)))
  | inl over ↦ elim (cases_lt at (start + 8 * count)) [
    | inr high ↦ set.elsewhere at n (inr high)
    | inl under ↦ elim (cases_lt at start) [
      | inl before ↦ elim (beside 0 some) [
        | inl low ↦ absurd (omega (arith, low, over))
        | inr high ↦ absurd (omega (arith, high, before))
      ]
      | inr behind ↦ elim (beside ((at - start) / 8) (omega (arith, behind, under))) [
        | inl low ↦
            let none : n ≡ 0 = omega (arith, low, behind) in
            ap (λ m. slice at m new) none ∙ sym (ap (λ m. slice at m old) none)
        | inr high ↦ absurd (omega (arith, high, behind))
      ]
    ]
  ]
]

-- pointer k of a run stands in its block, so far behind its start
pub place_in_run : (h : Holding) (index most : ℕ) (run : Run) → IsRun h index most run → (k : ℕ) → k < run.count → (run.block ≡ entry_block h (index + k)) × (entry_place h (index + k) ≡ run.start + 8 * k)
place_in_run h index most run is k low = elim is.place [
  | inl behind ↦ stuffed behind
  | inr inside ↦ in_table inside
]
  where
    stuffed : IsBehindDinode h index run → (run.block ≡ entry_block h (index + k)) × (entry_place h (index + k) ≡ run.start + 8 * k)
    stuffed behind = (
      behind.block ∙ sym (cond-true (height_in h == 0) h.own _ (eq-eqb (height_in h) 0 behind.stuffed)),
      cond-true (height_in h == 0) (dinode_length + 8 * (index + k)) (header_length + 8 * (index + k) % unit h) (eq-eqb (height_in h) 0 behind.stuffed) ∙ omega (arith, behind.start),
    )

    in_table : IsInTable h index run → (run.block ≡ entry_block h (index + k)) × (entry_place h (index + k) ≡ run.start + 8 * k)
    in_table inside =
        let u : ℕ = unit h in
        let rest : 8 * index % unit h + 8 * k < unit h = omega (arith, inside.within, low) in
        let whole : 8 * index / unit h * unit h + 8 * index % unit h ≡ 8 * index = div-add-mod' (8 * index) (unit h) in
        let at : 8 * (index + k) ≡ 8 * index / unit h * unit h + (8 * index % unit h + 8 * k) = omega (arith, whole) in
        let same : 8 * (index + k) / unit h ≡ 8 * index / unit h = ap (λ n. n / unit h) at ∙ div-mul-add (8 * index / unit h) (unit h) (8 * index % unit h + 8 * k) rest in
        let place : 8 * (index + k) % unit h ≡ 8 * index % unit h + 8 * k = ap (λ n. n % unit h) at ∙ mod-mul-add (8 * index / unit h) (unit h) (8 * index % unit h + 8 * k) rest in
        let b : ℕ = content_block h (8 * (index + k) / unit h) in
        let is_block : content_block h (8 * (index + k) / unit h) ≡ run.block = ap (content_block h) same ∙ inside.block in
        let some : content_block h (8 * (index + k) / unit h) ≢ 0 = λ z. inside.there (sym is_block ∙ z) in
        let high : height_in h ≢ 0 = λ z. absurd (omega (arith, z, inside.high)) in (
          sym (cond-false (height_in h == 0) h.own _ (ne_eqb (height_in h) 0 high) ∙ cond-false (content_block h (8 * (index + k) / unit h) == 0) h.own (content_block h (8 * (index + k) / unit h)) (ne_eqb _ 0 some) ∙ is_block),
          cond-false (height_in h == 0) (dinode_length + 8 * (index + k)) (header_length + 8 * (index + k) % unit h) (ne_eqb (height_in h) 0 high) ∙ omega (arith, place, inside.start),
        )

-- bytes of its block in which none of a run's pointers stands stay
pub beside_run : (h : Holding) (index most : ℕ) (run : Run) (old new : List ℕ) (leaf : ℕ) → IsRun h index most run → HasNumbersSet old new run.start run.count leaf → (at n : ℕ) → IsBesidePointers h index run.count run.block at n
    → slice at n new ≡ slice at n old
beside_run h index most run old new leaf is set at n beside = beside_numbers old new run.start run.count leaf set is.some at n (λ k low.
    let place = place_in_run h index most run is k low in
    subst (λ p. (at + n ≤ p) ⊎ (p + 8 ≤ at)) place.1 (beside (index + k) (record { low = omega arith; high = omega (arith, low) }) place.0))

-- ---- where pointers stand once others were set

abbrev block_of : ℕ → ℕ → ℕ → ℕ
block_of height own b = if height == 0 then own else (if b == 0 then own else b)

pub entry_block_after : (h g : Holding) (i : ℕ) → g.own ≡ h.own → height_in g ≡ height_in h → unit g ≡ unit h → KeepsContentBlocks h g
    → ((level : ℕ) → height_in h ≡ suc level → 8 * i / unit h < fan h.size dinode_length * span h.size level) → entry_block g i ≡ entry_block h i
entry_block_after h g i own height carries keeps near = elim (cases_eq (height_in h) 0) [
  | inl none ↦
      cond-true (height_in g == 0) g.own _ (eq-eqb (height_in g) 0 (height ∙ none)) ∙ own ∙ sym (cond-true (height_in h == 0) h.own _ (eq-eqb (height_in h) 0 none))
  | inr some ↦
      let high : height_in h ≡ suc (height_in h - 1) = omega (arith, some) in
      let same : content_block g (8 * i / unit g) ≡ content_block h (8 * i / unit h) = ap (λ n. content_block g (8 * i / n)) carries ∙ keeps (height_in h - 1) high (8 * i / unit h) (near (height_in h - 1) high) in
      ap₂ (λ n a. block_of n a (content_block g (8 * i / unit g))) height own ∙ ap (block_of (height_in h) h.own) same
]

pub entry_place_after : (h g : Holding) (i : ℕ) → height_in g ≡ height_in h → unit g ≡ unit h → entry_place g i ≡ entry_place h i
entry_place_after h g i height carries = ap₂ (λ n u. if n == 0 then dinode_length + 8 * i else header_length + 8 * i % u) height carries
