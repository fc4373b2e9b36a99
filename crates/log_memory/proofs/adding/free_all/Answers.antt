use Rattle.std.proofs.Common.{[], ◌∷◌, ◌∙◌, ap, get_or, sym, take}
use Rattle.std.proofs.lemmas.List.{take_all, take_more}
use Rattle.log_values.specs.Log.{LogValue}
use Rattle.log_memory.specs.Adding.{with_freed_all}
use Rattle.log_memory.proofs.Halves.{freed_more}
use Rattle.log_memory.proofs.adding.free_all.Goals as goal

pub loop-block-preserved : goal.loop-block-preserved
loop-block-preserved c =
    let block = get_or c.args.freed.now c.loop-block.block-index 0 in
    c.free.ensures ∙ ap (λ (log : LogValue). with_freed_all log (block ∷ [])) c.loop-block.invariant ∙ sym (freed_more c.args.log.now (take c.loop-block.block-index c.args.freed.now) block)
    ∙ ap (with_freed_all c.args.log.now) (sym (take_more c.args.freed.now c.loop-block.block-index 0 c.loop-block-test.true))

pub returns : goal.returns
returns c = c.loop-block.invariant ∙ ap (with_freed_all c.args.log.now) (take_all c.loop-block.block-index c.args.freed.now c.loop-block-test.false)
