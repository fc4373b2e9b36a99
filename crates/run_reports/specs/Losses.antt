-- The numbers above which losses take out calls.
use Rattle.std.specs.Prelude.{ℕ, ◌≡◌, ◌<◌, ◌==◌, ◌-◌, ◌^◌, min, List, [], ◌∷◌, slice_index, if◌then◌else◌}
use Rattle.trace_text.specs.declared.item.TraceItem.{TraceItem}
use Rattle.trace_text.specs.declared.item.TraceItem.TheVariants as trace

-- the least number that a loss of the node keeps among these items; where there is none, the greatest that a call may have
abbrev pub least_kept : ℕ → List TraceItem → ℕ
least_kept node [] = 2 ^ 64 - 1
least_kept node (trace.Lost i kept ∷ is) = if i == node then min kept (least_kept node is) else least_kept node is
least_kept node (_ ∷ is) = least_kept node is

-- a table has it of each node
abbrev pub HasLeast : List ℕ → List TraceItem → Type 0
HasLeast table items = (node : ℕ) → node < 256 → slice_index table node ≡ least_kept node items
