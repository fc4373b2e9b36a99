-- Which row a number has that has a value.
use Rattle.std.proofs.Common.{◌≡◌, ℕ, ◌<◌, ◌≤◌, Some, sym, ap, ◌∙◌, is_some, slice_get, arith}
use Rattle.std.specs.Ordering.{nat_cmp}
use Rattle.std.specs.FinMap as table
use Rattle.log_tables.proofs.Counting.{len_without}
use Rattle.log_tables.proofs.Reading.{row_gets}
use Rattle.log_tables.proofs.Steps.{same_some}
use Rattle.log_values.proofs.Landing.{all_none}
use Rattle.log_memory.proofs.Revoking.{row_of}

pub found : {V : Type 0} (m : table.FinMap nat_cmp V) (b : ℕ) (v : V) → table.get m b ≡ Some v → (i : ℕ) × ((i < table.len m) × (slice_get (table.entries m) i ≡ Some (b, v)))
found m b v at =
    let row = row_of (table.entries m) b (ap is_some (sym (table.get-entries m b)) ∙ ap is_some at) in
    let value : row.1.1 ≡ v = same_some (table.get m b) row.1.1 v (ap (table.get m) (sym row.2.2) ∙ row_gets m row.0 row.1 row.2.1) at in
    let within = table.len-entries m in
    (row.0, (omega (arith, row.2.0), row.2.1 ∙ (λ i. Some (row.2.2 i, value i))))

-- a map without rows is empty
pub no_rows : {V : Type 0} (m : table.FinMap nat_cmp V) → table.len m ≤ 0 → m ≡ table.empty
no_rows m none = all_none m (λ b v at. let less = len_without m b v at in omega arith)

pub some_row : {V : Type 0} (m : table.FinMap nat_cmp V) → 0 < table.len m → m ≡ table.empty → ⊥
some_row {V} m some is = let same = ap (λ (x : table.FinMap nat_cmp V). table.len x) is in let none = table.len-empty nat_cmp V in omega arith
