use Rattle.std.proofs.Common.{◌||◌, Bool, sym, ap, ◌∙◌}
use Rattle.std.specs.FinMap as table
use Rattle.log_values.specs.Log.{LogValue}
use Rattle.log_values.specs.Changes.{has_entry}
use Rattle.log_memory.proofs.Blocks.{entry_is}
use Rattle.log_memory.proofs.changes.has_entry.Goals as goal

pub returns-else-is_live : goal.returns-else-is_live
returns-else-is_live c =
    c.is_flushed.ensures ∙ ap (λ (x : Bool). x || table.contains_key c.log.inside.tables.flushed c.args.block) c.if-is_live.ensures ∙ sym (entry_is c.log.inside c.log.invariant c.args.block)
    ∙ ap (λ (log : LogValue). has_entry log c.args.block) c.log.view_is
