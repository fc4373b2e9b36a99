use Rattle.std.proofs.Common.{◌∙◌, ap, drop}
use Rattle.growth_steps.proofs.Leading.{bare_block}
use Rattle.growth_steps.proofs.heights.write_bare.Goals as goal

pub returns-clause-bare : goal.returns-clause-bare
returns-clause-bare c =
    bare_block c.args.dinode.now c.args.block.now c.write.new.bytes c.requires c.write.ensures.read (c.write.auto.bytes ∙ c.clear_from.auto.block) (c.write.ensures.behind ∙ ap (drop 232) c.clear_from.ensures)
