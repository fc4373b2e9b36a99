use Rattle.std.proofs.Common.{◌∙◌, ap, drop, arith}
use Rattle.growth_laws.specs.Blocks.{with_pointer}
use Rattle.growth_steps.proofs.Leading.{led_block}
use Rattle.growth_steps.proofs.heights.write_led.Goals as goal

pub returns-clause-led : goal.returns-clause-led
returns-clause-led c =
    led_block c.args.dinode.now c.args.to c.args.block.now c.write.new.bytes c.requires (omega (arith, c.ranges.to)) c.write.ensures.read (c.write.auto.bytes ∙ c.point.auto.bytes ∙ c.clear_from.auto.block)
    (c.write.ensures.behind ∙ ap (drop 232) (c.point.ensures ∙ ap (with_pointer 232 0 c.args.to) c.clear_from.ensures))
