use Rattle.std.proofs.Common.{◌≡◌, ◌∙◌, min, drop, ap, rules}
use Rattle.growth_steps.proofs.Owning.{resized_block}
use Rattle.growth_steps.proofs.stuffed.resize_area.Goals as goal

pub returns-clause-stuffed : goal.returns-clause-stuffed
returns-clause-stuffed c =
    let least : c.min.result ≡ min c.args.dinode.now.size c.args.size = search rules in
    resized_block c.args.dinode.now c.args.size c.min.result c.args.block.now c.write.new.bytes c.requires.content c.requires.room least c.write.ensures.read (c.write.auto.bytes ∙ c.clear_from.auto.block)
    (c.write.ensures.behind ∙ ap (drop 232) c.clear_from.ensures)
