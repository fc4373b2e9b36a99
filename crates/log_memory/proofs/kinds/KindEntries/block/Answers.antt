use Rattle.std.proofs.Common.{◌<◌, ap, sym, subst, ◌∙◌, get_or}
use Rattle.std.proofs.lemmas.List.{length-map}
use Rattle.log_layout.specs.Chunks.{Logged}
use Rattle.log_memory.specs.Rows.{row_of}
use Rattle.log_memory.proofs.RowsRead.{flushed_entry, row_at, row_is}
use Rattle.log_memory.proofs.kinds.KindEntries.block.Goals as goal

pub returns : goal.returns
returns c = λ e at.
    let inside = subst (λ n. c.args.place < n) (length-map c.args.self.now.places.now (row_of c.args.self.now.tables.now)) c.requires in
    let x = flushed_entry c.args.self.now.tables.now (get_or c.args.self.now.places.now c.args.place 0) (c.args.self.now.inside c.args.place inside) in
    c.flushed_block.ensures x.0 x.1 ∙ ap (λ (l : Logged). l.block) (sym (row_is c.args.self.now.tables.now (get_or c.args.self.now.places.now c.args.place 0) x.0 x.1) ∙ row_at c.args.self.now.tables.now c.args.self.now.places.now c.args.place e inside at)
