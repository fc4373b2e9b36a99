-- Where a write needs no block, each place on its way has one.
use Rattle.std.proofs.Common.{◌≡◌, ◌≢◌, ℕ, zero, suc, ◌*◌, ◌≤◌, max, inl, inr, true, false, ap, ◌∙◌, arith}
use Rattle.std.proofs.lemmas.Bool.{cases_eq, cases_Bool}
use Rattle.std.specs.Prelude.{◌==◌, ◌&&◌, ◌||◌, not, nat_lt}
use Rattle.gfs2_layout.specs.Holding.{Holding}
use Rattle.gfs2_layout.specs.Inode.{height_in, span, pieces}
use Rattle.growth_laws.specs.Need.{has_content, is_there, is_over, is_needed, needed_on}
use Rattle.growth_laws.specs.Laws.{NothingIsLacking}
use Rattle.growth_laws.proofs.Counting.{count_some}
use Rattle.growth_laws.proofs.Needing.{place_in_range}

needed_there : (h : Holding) (at end level j : ℕ) → 512 ≤ h.size → is_over h.size at end level j ≡ true → is_there h level j ≡ false → needed_on h at end level ≢ 0
needed_there h at end level j large over lacks =
    count_some (is_needed h at end level) j 0 (max 1 (pieces end (span h.size level * h.size))) (omega arith) (omega (arith, place_in_range h.size at end level j large over))
    (λ t. (over t || (not (nat_lt level (height_in h)) && j == 0 && has_content h)) && not (lacks t))

pub nothing_is_lacking : NothingIsLacking
nothing_is_lacking h at end zero level j none low over large = absurd (omega (arith, low))
nothing_is_lacking h at end (suc height) level j none low over large = elim (cases_eq level height) [
  | inl e ↦ elim (cases_Bool (is_there h level j)) [
    | inl there ↦ there
    | inr lacks ↦ absurd (needed_there h at end level j large over lacks (ap (needed_on h at end) e ∙ omega (arith, none)))
  ]
  | inr apart ↦ nothing_is_lacking h at end height level j (omega (arith, none)) (omega (arith, low, apart)) over large
]
