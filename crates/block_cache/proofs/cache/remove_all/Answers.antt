use Rattle.std.proofs.Common.{◌++◌, None, ap, ◌∙◌}
use Rattle.std.specs.Option.{option_to_list}
use Rattle.block_cache.proofs.Ties.{sets_cell, one_less}
use Rattle.block_cache.proofs.cache.remove_all.Goals as goal

pub loop-block-preserved-in-Some-pop : goal.loop-block-preserved-in-Some-pop
loop-block-preserved-in-Some-pop c =
    let es = c.loop-block.cells.entries in let es' = c.swap_remove.new.self.entries in let block = c.in-Some-pop.block in
    λ b. c.loop-block.invariant b ∙ one_less es es' c.loop-block.shelf c.pop.new.self block (c.pop.ensures.blocks ∙ ap (λ o. c.pop.new.self ++ option_to_list o) c.in-Some-pop.is)
    (sets_cell es es' block None c.swap_remove.ensures.updates.0) b

pub loop-block-preserved : goal.loop-block-preserved
loop-block-preserved c =
    let es = c.loop-block.cells.entries in let es' = c.swap_remove.new.self.entries in let block = c.in-Some-pop.block in
    λ b. c.loop-block.invariant b ∙ one_less es es' c.loop-block.shelf c.pop.new.self block (c.pop.ensures.blocks ∙ ap (λ o. c.pop.new.self ++ option_to_list o) c.in-Some-pop.is)
    (sets_cell es es' block None c.swap_remove.ensures.updates.0) b
