use Rattle.std.proofs.Common.{◌<◌, Some, sym, ap, ◌∙◌, subst}
use Rattle.std.specs.Option.{option_copied}
use Rattle.std.specs.FinMap as table
use Rattle.log_memory.proofs.RowsRead.{entry_at}
use Rattle.log_memory.proofs.Sending.{bytes_away, none_away}
use Rattle.log_memory.proofs.homing.copy_away.Goals as goal

pub unreachable-requires : goal.unreachable-requires
unreachable-requires c =
    let row = entry_at (table.entries c.args.tables.now.live) c.args.place (subst (λ n. c.args.place < n) (table.len-entries c.args.tables.now.live) c.requires.there) in
    none_away row.0.1.way (c.requires.away row.0 row.1) (sym (ap option_copied c.in-None.is) ∙ c.away_bytes.ensures.bytes row.0 row.1)

pub returns : goal.returns
returns c = λ e at. bytes_away e.1.way c.copy_from_slice.new.self (ap Some c.copy_from_slice.ensures.after ∙ sym (ap option_copied c.in-Some.is) ∙ c.away_bytes.ensures.bytes e at)
