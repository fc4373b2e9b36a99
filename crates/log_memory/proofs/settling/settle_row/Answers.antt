use Rattle.std.proofs.Common.{◌≡◌, ◌<◌, ℕ, Some, slice_get, sym, ap, ◌∙◌, subst}
use Rattle.std.specs.Ordering.{nat_cmp}
use Rattle.std.specs.FinMap as table
use Rattle.log_tables.specs.Kept.{Kept, rested}
use Rattle.log_tables.proofs.Reading.{row_gets}
use Rattle.log_values.specs.Log.{Entry, LogValue, Way}
use Rattle.log_values.specs.Flushing.{settled_way}
use Rattle.log_memory.specs.Inside.{log_in}
use Rattle.log_memory.proofs.NewLogs.{Gives}
use Rattle.log_memory.proofs.RowsRead.{entry_at}
use Rattle.log_memory.proofs.Barriers.{resting, same_insert, settles_it}
use Rattle.log_memory.proofs.settling.settle_row.Goals as goal
use Rattle.log_memory.proofs.settling.settle_row.Goals.{After-rest}

given : (c : After-rest) (e : ℕ × Entry) (at : slice_get (table.entries c.log.inside.tables.live) c.args.place ≡ Some e)
    → Gives (record c.log.inside { tables = c.rest.new.self }) (record (log_in c.log.inside) { live = table.insert c.log.inside.tables.live e.0 (record e.1 { way = settled_way e.1.way }) })
given c e at =
    settles_it c.log.inside c.log.invariant e (row_gets c.log.inside.tables.live c.args.place e at) (sym (c.flies.ensures e at) ∙ c.if-flies.true) c.rest.new.self
    (c.rest.ensures ∙ ap (λ (b : ℕ). let k : Kept = record c.log.inside.tables { live = rested c.log.inside.tables.live b (table.get c.log.inside.tables.live b) } in k) (c.live_block-block.ensures e at))

pub invariant_of-log : goal.invariant_of-log
invariant_of-log c =
    let inside : c.args.place < table.len c.log.inside.tables.live = subst (λ (log : LogValue). c.args.place < table.len log.live) (sym c.log.view_is) c.requires in
    let row = entry_at (table.entries c.log.inside.tables.live) c.args.place (subst (λ n. c.args.place < n) (table.len-entries c.log.inside.tables.live) inside) in
    (given c row.0 row.1).0

pub returns-then-flies : goal.returns-then-flies
returns-then-flies c = λ e at.
    (given c e (subst (λ (log : LogValue). slice_get (table.entries log.live) c.args.place ≡ Some e) (sym c.log.view_is) at)).1
    ∙ ap (λ (log : LogValue). let n : LogValue = record log { live = table.insert log.live e.0 (record e.1 { way = settled_way e.1.way }) } in n) c.log.view_is

pub returns-else-flies : goal.returns-else-flies
returns-else-flies c = λ e at.
    let here = subst (λ (log : LogValue). slice_get (table.entries log.live) c.args.place ≡ Some e) (sym c.log.view_is) at in
    let rests : settled_way e.1.way ≡ e.1.way = resting e.1.way (sym (c.flies.ensures e here) ∙ c.if-flies.false) in
    ap (λ (m : table.FinMap nat_cmp Entry). let n : LogValue = record c.args.log.now { live = m } in n) (same_insert c.args.log.now.live e.0 e.1 (row_gets c.args.log.now.live c.args.place e at))
    ∙ ap (λ (w : Way). let n : LogValue = record c.args.log.now { live = table.insert c.args.log.now.live e.0 (record e.1 { way = w }) } in n) (sym rests)
