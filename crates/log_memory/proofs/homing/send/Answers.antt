use Rattle.std.proofs.Common.{◌≡◌, ◌<◌, ℕ, Some, slice_get, sym, ap, ◌∙◌, subst}
use Rattle.std.specs.FinMap as table
use Rattle.log_tables.specs.Kept.{Kept, flown}
use Rattle.log_tables.specs.Versions.Way.{Flying}
use Rattle.log_tables.proofs.Reading.{row_gets}
use Rattle.log_values.specs.Log.{Entry, LogValue}
use Rattle.log_memory.specs.Inside.{log_in}
use Rattle.log_memory.proofs.NewLogs.{Gives}
use Rattle.log_memory.proofs.RowsRead.{entry_at}
use Rattle.log_memory.proofs.Sending.{sends}
use Rattle.log_memory.proofs.homing.send.Goals as goal
use Rattle.log_memory.proofs.homing.send.Goals.{After-fly}

given : (c : After-fly) (e : ℕ × Entry) (at : slice_get (table.entries c.log.inside.tables.live) c.args.place ≡ Some e)
    → Gives (record c.log.inside { tables = c.fly.new.self }) (record (log_in c.log.inside) { live = table.insert c.log.inside.tables.live e.0 (record e.1 { way = Flying c.copy_away.new.into }) })
given c e at =
    sends c.log.inside c.log.invariant e (row_gets c.log.inside.tables.live c.args.place e at) c.copy_away.new.into (c.copy_away.ensures e at) c.fly.new.self (ap (λ (log : LogValue). log.flush) c.log.view_is ∙ c.requires.idle)
    (c.fly.ensures ∙ ap (λ (b : ℕ). let k : Kept = record c.log.inside.tables { live = flown c.log.inside.tables.live b (table.get c.log.inside.tables.live b) } in k) (c.live_block-block.ensures e at))

pub invariant_of-log : goal.invariant_of-log
invariant_of-log c =
    let inside : c.args.place < table.len c.log.inside.tables.live = subst (λ (log : LogValue). c.args.place < table.len log.live) (sym c.log.view_is) c.requires.there in
    let row = entry_at (table.entries c.log.inside.tables.live) c.args.place (subst (λ n. c.args.place < n) (table.len-entries c.log.inside.tables.live) inside) in
    (given c row.0 row.1).0

pub returns-clause-sent : goal.returns-clause-sent
returns-clause-sent c = λ e at.
    (given c e (subst (λ (log : LogValue). slice_get (table.entries log.live) c.args.place ≡ Some e) (sym c.log.view_is) at)).1
    ∙ ap (λ (log : LogValue). let n : LogValue = record log { live = table.insert log.live e.0 (record e.1 { way = Flying c.copy_away.new.into }) } in n) c.log.view_is
