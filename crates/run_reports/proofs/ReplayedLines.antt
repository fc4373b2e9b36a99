-- The lines of journals that were replayed, item by item.
use Rattle.std.proofs.Common.{◌≡◌, ℕ, ◌-◌, ◌≤◌, List, ◌++◌, length, take, drop, ap, ◌∙◌}
use Rattle.std.specs.Prelude.{get_or}
use Rattle.trace_text.specs.declared.item.TraceItem.{TraceItem}
use Rattle.run_reports.specs.Out.{line_of_replay, replayed_lines_behind, written_behind}
use Rattle.run_reports.proofs.Passing.{first_of}

-- the next item's line stands before those of the others
pub next_item : (written : ℕ) (xs : List TraceItem) (d : TraceItem) (all done : List ℕ) → 1 ≤ length xs → d ≡ get_or xs 0 d → all ≡ done ++ replayed_lines_behind written xs
    → all ≡ done ++ (line_of_replay written d ++ replayed_lines_behind (written_behind written d) (take (length xs - 1) (drop 1 xs)))
next_item written xs d all done some is split = split ∙ ap (λ (l : List TraceItem). done ++ replayed_lines_behind written l) (first_of xs d some is)
