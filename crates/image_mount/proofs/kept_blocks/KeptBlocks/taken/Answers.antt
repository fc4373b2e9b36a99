use Rattle.std.proofs.Common.{◌≡◌, ◌<◌, Global, Vec, ℕ, ◌+◌, sym, ap, subst, ◌∙◌, arith}
use Rattle.std.specs.Prelude.{◌↔◌, Contains}
use Rattle.std.specs.List.Sorted.{IsStrictlyIncreasing}
use Rattle.image_mount.specs.Marked.{IsTaken}
use Rattle.image_mount.proofs.Taken.{rising_more, taken_all, taken_more, untaken_more}
use Rattle.image_mount.proofs.kept_blocks.KeptBlocks.taken.Goals as goal
use Rattle.image_mount.proofs.kept_blocks.KeptBlocks.taken.Goals.{then-is_taken+in_ok-push, else-is_taken}

pub loop-block-init : goal.loop-block-init
loop-block-init c = record {
  rise = subst IsStrictlyIncreasing (sym c.new-blocks.ensures.items) (λ k low. absurd (omega (arith, low)));
  there = λ b. subst (λ ys. Contains ys b ↔ (IsTaken c.args.self.now b × (b < 0))) (sym c.new-blocks.ensures.items)
      (λ has. absurd (omega (arith, has.1)), λ both. absurd (let low : b < 0 = both.1 in omega (arith, low)));
}

pub loop-block-preserved : goal.loop-block-preserved
loop-block-preserved c =
    let inv = c.loop-block.invariant in
    let k = c.args.self.now in
    let n = c.loop-block.block in
    elim c.if-is_taken.branch [
      | then-is_taken+in_ok-push w ↦
          let items = ap (λ (v : Vec ℕ Global). v.items) w.blocks-is ∙ w.in_ok-push.ensures.items in
          record {
            rise = rising_more k c.loop-block.blocks.items n inv.there c.if-is_taken.blocks.items items inv.rise;
            there = taken_more k c.loop-block.blocks.items n inv.there c.if-is_taken.blocks.items items (c.is_taken.ensures.taken w.if-is_taken.true);
          }
      | else-is_taken w ↦
          let items = ap (λ (v : Vec ℕ Global). v.items) w.blocks-is in
          record {
            rise = subst IsStrictlyIncreasing (sym items) inv.rise;
            there = λ b. subst (λ ys. Contains ys b ↔ (IsTaken k b × (b < n + 1))) (sym items) (untaken_more k c.loop-block.blocks.items n inv.there (c.is_taken.ensures.untaken w.if-is_taken.false) b);
          }
    ]

pub returns-clause-taken : goal.returns-clause-taken
returns-clause-taken c =
    let end : c.loop-block.block ≡ c.count-block-end.result = omega (arith, c.loop-block-test.false, c.loop-block.auto.block-end) in
    taken_all c.args.self.now c.loop-block.blocks.items c.loop-block.block c.loop-block.invariant.there (λ b taken. subst (λ n. b < n) (sym end) (c.count-block-end.ensures.inside b taken))

pub returns-clause-inside : goal.returns-clause-inside
returns-clause-inside c b taken = let low = c.count-block-end.ensures.inside b taken in omega (arith, low, c.count-block-end.ensures.value)
