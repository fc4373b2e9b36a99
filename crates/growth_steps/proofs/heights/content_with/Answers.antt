use Rattle.std.proofs.Common.{◌≡◌, ◌+◌, ◌-◌, ◌∙◌, arith}
use Rattle.std.proofs.lemmas.List.{take_at}
use Rattle.growth_steps.proofs.Making.{moved_made}
use Rattle.growth_steps.proofs.heights.content_with.Goals as goal

pub returns : goal.returns
returns c =
    take_at c.overwrite.new.bytes _ c.in_ok-made.made.len (c.overwrite.auto.bytes ∙ c.deref_mut.ensures.len) ∙ c.overwrite.ensures
    ∙ moved_made c.args.size (232 + c.args.size - 232) c.args.block.now c.deref_mut.result.now c.requires (let same : 232 + c.args.size - 232 ≡ c.args.size = omega arith in same) (c.deref_mut.ensures.value ∙ c.in_ok-made.ensures.items_if_clones_equal (λ y e. e))
