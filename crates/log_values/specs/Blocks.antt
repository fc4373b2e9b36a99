-- A set of blocks, by their numbers: a finite map from them to nothing.
use Rattle.std.specs.Prelude.{ℕ, Bool, List}
use base.Stored.{coded_unit}
use Rattle.std.specs.Coded.{Coded, coded_ℕ}
use Rattle.std.specs.Ordering.{nat_cmp}
use Rattle.std.specs.FinMap as table

abbrev pub Blocks : Type 0
Blocks = table.FinMap nat_cmp (Unit {0})

abbrev pub code : Coded Blocks
code = table.code coded_ℕ coded_unit

abbrev pub empty : Blocks
empty = table.empty

abbrev pub contains : Blocks → ℕ → Bool
contains s b = table.contains_key s b

abbrev pub insert : Blocks → ℕ → Blocks
insert s b = table.insert s b tt

abbrev pub remove : Blocks → ℕ → Blocks
remove s b = table.remove s b

-- those that pass a test
abbrev pub retain : Blocks → (ℕ → Bool) → Blocks
retain s test = table.retain_keys s test

-- in rising order
abbrev pub items : Blocks → List ℕ
items s = table.keys s
