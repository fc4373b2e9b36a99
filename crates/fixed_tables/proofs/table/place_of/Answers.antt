use Rattle.std.proofs.Common.{ℕ, rules}
use Rattle.std.proofs.lemmas.Fn.{always_returns_same}
use Rattle.fixed_tables.proofs.Rows.{err_part, ok_part, searched}
use Rattle.fixed_tables.proofs.table.place_of.Goals as goal

-- the closure gives a row's number
pub returns : goal.returns
returns g c =
    let facts = c.binary_search_by_key.ensures in
    let by_number = facts.position (λ (e : ℕ × g.row.V.Denot). e.0) (always_returns_same _ _ _ (λ a r f called. search rules)) in
    let is = searched c.args.rows.now c.args.key c.binary_search_by_key.result c.requires facts.bound by_number in
    record { there = ok_part _ _ c.binary_search_by_key.result is; absent = err_part _ _ c.binary_search_by_key.result is }
