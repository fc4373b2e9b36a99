-- What lists of calls leave in a cache.
use Rattle.std.proofs.Common.{◌≡◌, ℕ, Bool, true, false, cond, List, [], ◌∷◌, ◌++◌, Option, None, Some, eqb, refl, sym, ap, ◌∙◌}
use Rattle.std.specs.Ordering.{nat_cmp}
use Rattle.std.specs.Cmp.{nat_cmp_total, unsigned_tied}
use Rattle.std.specs.FinMap.{get, get-empty, get-insert, get-remove}
use Rattle.glock_names.specs.declared.LockName.{LockName}
use Rattle.block_cache.specs.declared.cache.Cell.{Cell}
use Rattle.block_cache.specs.Cells.{Cells, kept_if, stays}
use Rattle.block_cache.specs.Calls.{Act, Put, DropLock, DropBlock, Reached, last_put, PutsOnly}

pub shown : (acts : List Act) (now : Cells) → Reached acts now → (b : ℕ) → get now b ≡ last_put acts b
shown [] now e b = ap (λ m. get m b) e ∙ get-empty nat_cmp b
shown (Put block cell ∷ acts) now h b = ap (λ m. get m b) h.2 ∙ get-insert nat_cmp_total h.0 block cell b
    ∙ (λ i. cond (unsigned_tied b block i) (Some cell) (shown acts h.0 h.1 b i))
shown (DropLock lock keep_meta ∷ acts) now h b = h.2 b ∙ ap (kept_if (stays lock keep_meta)) (shown acts h.0 h.1 b)
shown (DropBlock block ∷ acts) now h b = ap (λ m. get m b) h.2 ∙ get-remove nat_cmp_total h.0 block b
    ∙ (λ i. cond (unsigned_tied b block i) None (shown acts h.0 h.1 b i))

module _ (test : Cell → Bool) where
  passes_kept : (p : Cell → Bool) (o : Option Cell) → ((cell : Cell) → o ≡ Some cell → test cell ≡ true) → (cell : Cell) → kept_if p o ≡ Some cell → test cell ≡ true
  passes_kept p None h cell e = h cell e
  passes_kept p (Some c) h cell e = by (p c) e
    where
      by : (t : Bool) → cond t (Some c) None ≡ Some cell → test cell ≡ true
      by true e' = h cell e'
      by false e' = cc

  own_kept : (o : Option Cell) (cell : Cell) → kept_if test o ≡ Some cell → test cell ≡ true
  own_kept None cell e = cc
  own_kept (Some c) cell e = by (test c) refl e
    where
      by : (t : Bool) → test c ≡ t → cond t (Some c) None ≡ Some cell → test cell ≡ true
      by true is e' = let same : c ≡ cell = cc in ap test (sym same) ∙ is
      by false is e' = cc

  passes_if : (t : Bool) (x y : Option Cell) → ((cell : Cell) → x ≡ Some cell → test cell ≡ true) → ((cell : Cell) → y ≡ Some cell → test cell ≡ true)
      → (cell : Cell) → cond t x y ≡ Some cell → test cell ≡ true
  passes_if true x y h k = h
  passes_if false x y h k = k

  pub all_pass : (later acts : List Act) → PutsOnly test later → ((b : ℕ) (cell : Cell) → last_put acts b ≡ Some cell → test cell ≡ true)
      → (b : ℕ) (cell : Cell) → last_put (later ++ acts) b ≡ Some cell → test cell ≡ true
  all_pass [] acts h base b = base b
  all_pass (Put block cell ∷ later) acts h base b = passes_if (eqb b block) _ _ (λ c e. let same : cell ≡ c = cc in ap test (sym same) ∙ h.0) (all_pass later acts h.1 base b)
  all_pass (DropLock lock keep_meta ∷ later) acts h base b = passes_kept (stays lock keep_meta) _ (all_pass later acts h base b)
  all_pass (DropBlock block ∷ later) acts h base b = passes_if (eqb b block) _ _ (λ c e. cc) (all_pass later acts h base b)

pub left_with_lock : (lock : LockName) (keep_meta : Bool) (later earlier : List Act) (now : Cells)
    → Reached (later ++ DropLock lock keep_meta ∷ earlier) now → PutsOnly (stays lock keep_meta) later
    → (b : ℕ) (cell : Cell) → get now b ≡ Some cell → stays lock keep_meta cell ≡ true
left_with_lock lock keep_meta later earlier now h only b cell e =
    all_pass (stays lock keep_meta) later (DropLock lock keep_meta ∷ earlier) only (λ k c. own_kept (stays lock keep_meta) (last_put earlier k) c) b cell
    (sym (shown (later ++ DropLock lock keep_meta ∷ earlier) now h b) ∙ e)
