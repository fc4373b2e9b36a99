use Rattle.std.proofs.Common.{ap, ◌∙◌}
use Rattle.std.proofs.lemmas.List.{take_at}
use Rattle.gfs2_layout.specs.Writing.{dinode_put}
use Rattle.new_inodes.proofs.making.cleared_block.Goals as goal

pub returns-clause-bytes : goal.returns-clause-bytes
returns-clause-bytes c =
    take_at c.write.new.bytes _ c.in_ok-block.block.len (c.write.auto.bytes ∙ c.deref_mut.ensures.len) ∙ c.write.ensures.bytes
    ∙ ap (dinode_put c.args.dinode.now) (c.deref_mut.ensures.value ∙ c.in_ok-block.ensures.items_if_clones_equal (λ y e. e))
