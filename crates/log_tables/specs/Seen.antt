-- A finite map whose values are seen in another way.
use Rattle.std.specs.Prelude.{map}
use Rattle.std.specs.Ordering.{nat_cmp}
use Rattle.std.specs.FinMap as table

abbrev pub seen : {A B : Type 0} → (A → B) → table.FinMap nat_cmp A → table.FinMap nat_cmp B
seen f m = table.from_sorted (map (λ e. (e.0, f e.1)) (table.entries m))
