-- The blocks that a node keeps, with what a call writes, and without what it frees.
use Rattle.std.specs.Prelude.{ℕ, List, [], ◌∷◌}
use Rattle.std.specs.Ordering.{nat_cmp}
use Rattle.std.specs.FinMap.{FinMap, insert, remove}
use Rattle.drafts.specs.declared.change.Written.{Written}

abbrev pub without_blocks : FinMap nat_cmp (List ℕ) → List ℕ → FinMap nat_cmp (List ℕ)
without_blocks m [] = m
without_blocks m (b ∷ bs) = without_blocks (remove m b) bs

abbrev pub with_blocks : FinMap nat_cmp (List ℕ) → List Written → FinMap nat_cmp (List ℕ)
with_blocks m [] = m
with_blocks m (w ∷ ws) = with_blocks (insert m w.block w.bytes) ws
