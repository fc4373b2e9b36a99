use Rattle.std.proofs.Common.{◌∙◌, ◌==◌, cond, eqb, ap, sym, Some}
use Rattle.std.specs.FinMap.{insert, from_entries}
use Rattle.std.specs.Ordering.{nat_cmp}
use Rattle.std.specs.Map.{lookup}
use Rattle.finite_maps.proofs.Seen.{numbers_insert, get-numbers}
use Rattle.block_cache.specs.declared.cache.Cell.{Cell}
use Rattle.block_cache.specs.Tie.{cell_at}
use Rattle.block_cache.proofs.Ties.{sets_cell, put_tied}
use Rattle.block_cache.proofs.cache.Cache.put.Goals as goal

pub returns-clause-ok : goal.returns-clause-ok
returns-clause-ok c =
    let cell : Cell = record { lock = c.args.lock; plain = c.args.plain; bytes = c.in_ok-bytes.bytes } in
    numbers_insert c.reserve.new.self.entries c.insert.new.self.entries c.args.block cell c.in-Ok.ensures.updates.0
    ∙ ap (λ es. insert (from_entries {R = nat_cmp} es) c.args.block cell) c.reserve.ensures.entries
    ∙ (λ i. insert (c.self.view_is i) c.args.block (record { lock = c.args.lock; plain = c.args.plain; bytes = c.in_ok-bytes.ensures i }))

pub invariant_of-self-2 : goal.invariant_of-self-2
invariant_of-self-2 c =
    let cell : Cell = record { lock = c.args.lock; plain = c.args.plain; bytes = c.in_ok-bytes.bytes } in let block = c.args.block in
    let es = c.self.inside.cells.entries in let roomy = c.reserve.new.self.entries in let es' = c.insert.new.self.entries in
    put_tied es es' c.self.inside.shelves c.self.invariant c.add.new.self c.leave.new.shelves cell block c.in-Ok.before c.in_ok-add.ensures.ok
    (λ b. sets_cell roomy es' block (Some cell) c.in-Ok.ensures.updates.0 b ∙ ap (λ e. cond (block == b) (Some cell) (cell_at e b)) c.reserve.ensures.entries)
    (c.in-Ok.ensures.old ∙ ap (lookup (eqb block)) c.reserve.ensures.entries ∙ sym (get-numbers es block)) c.leave.ensures
