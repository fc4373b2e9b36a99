use Rattle.std.proofs.Common.{ap, ◌∙◌, is_some}
use Rattle.std.specs.FinMap as map
use Rattle.log_tables.specs.Kept.{Kept}
use Rattle.log_tables.specs.Versions.{Version}
use Rattle.log_tables.proofs.Counting.{gone, insert_removed}
use Rattle.log_tables.proofs.tables.Tables.put.Goals as goal

pub put_new-requires-clause-absent : goal.put_new-requires-clause-absent
put_new-requires-clause-absent c = ap (λ (k : Kept). map.contains_key k.fresh c.args.block) c.remove.ensures ∙ ap is_some (gone c.args.self.now.fresh c.args.block)

pub returns : goal.returns
returns c =
    c.put_new.ensures
    ∙ ap (λ (k : Kept). let x : Kept = record k { fresh = map.insert k.fresh c.args.block (record { lock = c.args.lock; plain = c.args.plain; bytes = c.args.bytes.now }) } in x) c.remove.ensures
    ∙ ap (λ (m : map.FinMap _ Version). let x : Kept = record c.args.self.now { fresh = m } in x) (insert_removed c.args.self.now.fresh c.args.block (record { lock = c.args.lock; plain = c.args.plain; bytes = c.args.bytes.now }))
