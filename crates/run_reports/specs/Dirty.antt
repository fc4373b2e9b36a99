-- How many journals a run tells as not clean.
use Rattle.std.specs.Prelude.{ℕ, ◌==◌, Bool, true, false, List, [], ◌∷◌, count_by, if◌then◌else◌}
use Rattle.std.specs.List.{range_with_len}
use Rattle.script_lang.specs.Script.{ScriptValue}
use Rattle.trace_text.specs.declared.item.TraceItem.{TraceItem}
use Rattle.trace_text.specs.declared.item.TraceItem.TheVariants as trace
use Rattle.run_reports.specs.Out.{is_done}
use Rattle.run_reports.specs.declared.status.Status.{Status}

-- whether the items leave the node's journal so: it has a commit that neither a clean header nor a replay follows
abbrev pub is_left_dirty : ℕ → Bool → List TraceItem → Bool
is_left_dirty node now [] = now
is_left_dirty node now (trace.Commit i sequence upto ∷ is) = is_left_dirty node (if i == node then true else now) is
is_left_dirty node now (trace.WriteClean i block sequence upto ∷ is) = is_left_dirty node (if i == node then false else now) is
is_left_dirty node now (trace.Recovered i by ∷ is) = is_left_dirty node (if i == node then false else now) is
is_left_dirty node now (_ ∷ is) = is_left_dirty node now is

-- how many nodes of the script have such a journal
abbrev pub dirty_by : ScriptValue → List TraceItem → ℕ
dirty_by s items = count_by (λ node. is_left_dirty node false items) (range_with_len 1 s.nodes)

-- where all was done, so many as the image has that aren't clean; else so many as the items leave so
abbrev pub dirty_told : ScriptValue → List TraceItem → Status → ℕ → ℕ
dirty_told s items told dirty = if is_done told then dirty else dirty_by s items
