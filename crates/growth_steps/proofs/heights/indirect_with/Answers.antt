use Rattle.std.proofs.Common.{◌≡◌, ◌-◌, ◌∙◌, length, drop, refl, ap, arith}
use Rattle.std.proofs.lemmas.List.{take_at, length-take, length-drop}
use Rattle.growth_steps.proofs.Making.{raised_made}
use Rattle.growth_steps.proofs.Stepping.{new_length}
use Rattle.growth_steps.proofs.heights.indirect_with.Goals as goal

pub overwrite-requires : goal.overwrite-requires
overwrite-requires c =
    let made : length c.deref_mut.result.now ≡ length c.args.block.now
    = ap length (c.deref_mut.ensures.value ∙ c.in_ok-made.ensures) ∙ new_length (length c.args.block.now) 1 (omega (arith, c.requires)) in
    omega (arith, c.requires, made, length-take (length c.args.block.now - 232) (drop 232 c.args.block.now), length-drop 232 c.args.block.now)

pub returns : goal.returns
returns c =
    take_at c.overwrite.new.bytes _ c.in_ok-made.made.len (c.overwrite.auto.bytes ∙ c.deref_mut.ensures.len) ∙ c.overwrite.ensures
    ∙ raised_made (length c.args.block.now - 232) c.args.block.now c.deref_mut.result.now refl (c.deref_mut.ensures.value ∙ c.in_ok-made.ensures)
