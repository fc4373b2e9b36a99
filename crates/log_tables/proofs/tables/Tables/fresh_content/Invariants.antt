use Rattle.std.proofs.Common.{◌≡◌, ◌≤◌, ℕ, count_by, take}
use Rattle.std.specs.FinMap as map
use Rattle.log_tables.specs.Versions.{Version}
use Rattle.log_tables.proofs.tables.Tables.fresh_content.Given as goal

abbrev pub invariant-loop-place : goal.invariant-loop-place
invariant-loop-place l = record {
  counts : l.count ≡ count_by (λ (e : ℕ × Version). e.1.plain) (take l.place (map.entries l.self.fresh));
  few : l.count ≤ l.place;
}
