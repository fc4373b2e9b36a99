use Rattle.std.proofs.Common.{rules, ◌≡◌, ◌≤◌, length, ap, ◌∙◌, arith}
use Rattle.std.specs.Prelude.{if◌then◌else◌}
use Rattle.replay_marks.specs.Marking.{mark_of}
use Rattle.replay_marks.specs.declared.marks.Mark.TheVariants.{Open}
use Rattle.replay_marks.proofs.Rising.{as_far}
use Rattle.replay_marks.proofs.marks.Marks.open.Goals as goal

pub returns-clause-marks : goal.returns-clause-marks
returns-clause-marks c block low =
    let count = c.len-count.result in
    let is : c.len-count.result ≡ length c.args.self.now = search rules in
    c.loop-block.invariant.marks block
    ∙ ap (λ t. if t then Open else mark_of c.args.self.now block)
    (as_far c.args.from c.args.to count c.loop-block.block block (omega (arith, low, is))
    (let up : c.loop-block.block ≤ c.min-block-end.result = c.loop-block.auto.block-end (omega (arith, c.requires, c.min-block.ensures, c.min-block-end.ensures)) in omega (arith, up, c.min-block-end.ensures))
    (omega (arith, c.loop-block-test.false, c.min-block-end.ensures)))
