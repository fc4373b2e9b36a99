use Rattle.std.proofs.Common.{◌<◌, ◌≤◌, sym, ap, subst, ◌∙◌, arith}
use Rattle.std.specs.FinMap as table
use Rattle.log_values.specs.Log.{LogValue}
use Rattle.log_values.specs.Flushing.{IsTail}
use Rattle.log_values.specs.Flushing.IsTail.{of_itself, of_none}
use Rattle.log_memory.proofs.Counts.{its_parts}
use Rattle.log_memory.proofs.RowsFound.{no_rows, some_row}
use Rattle.log_memory.proofs.tails.tail_of.Goals as goal

pub returns-then-flushed_len-gt0 : goal.returns-then-flushed_len-gt0
returns-then-flushed_len-gt0 c = λ f begun.
    let versions = (its_parts c.log.inside c.log.invariant f (ap (λ (x : LogValue). x.flush) c.log.view_is ∙ begun)).0 in
    let some : 0 < table.len c.log.inside.tables.flushed = omega (arith, c.flushed_len.ensures, c.if-flushed_len-gt0.true) in
    subst (IsTail c.args.log.now f) (sym c.place.ensures.value)
    (of_itself (c.oldest.ensures.none f begun c.in_default.is) (λ none. some_row c.log.inside.tables.flushed some (sym versions ∙ none)))

pub returns-else-flushed_len-gt0 : goal.returns-else-flushed_len-gt0
returns-else-flushed_len-gt0 c = λ f begun.
    let versions = (its_parts c.log.inside c.log.invariant f (ap (λ (x : LogValue). x.flush) c.log.view_is ∙ begun)).0 in
    let none : table.len c.log.inside.tables.flushed ≤ 0 = omega (arith, c.flushed_len.ensures, c.if-flushed_len-gt0.false) in
    subst (IsTail c.args.log.now f) (sym (c.requires f begun)) (of_none (c.oldest.ensures.none f begun c.in_default.is) (versions ∙ no_rows c.log.inside.tables.flushed none))
