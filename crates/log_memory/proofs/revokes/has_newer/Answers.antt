use Rattle.std.proofs.Common.{◌||◌, Bool, sym, ap, ◌∙◌}
use Rattle.log_values.specs.Log.{LogValue}
use Rattle.log_values.specs.Changes.{is_flushed}
use Rattle.log_memory.proofs.Blocks.{flushed_is}
use Rattle.log_memory.proofs.revokes.has_newer.Goals as goal

pub returns-else-is_fresh : goal.returns-else-is_fresh
returns-else-is_fresh c =
    c.is_flushed.ensures ∙ sym (flushed_is c.log.inside c.log.invariant c.args.block) ∙ ap (λ (log : LogValue). is_flushed log.flush c.args.block) c.log.view_is
    ∙ ap (λ (x : Bool). x || is_flushed c.args.log.now.flush c.args.block) (sym c.if-is_fresh.false ∙ c.is_fresh.ensures)
