use Rattle.std.proofs.Common.{◌≡◌, ◌+◌, sym, ap, ◌∙◌, arith}
use Rattle.mkgfs2_tool.proofs.CountLaws.{dinodes_among, is_one_in, one_more_journal}
use Rattle.mkgfs2_tool.proofs.plan.Plan.dinode_blocks.Goals as goal

pub loop-number-preserved : goal.loop-number-preserved
loop-number-preserved c =
    let one = c.is_in-count.ensures in
    record {
      so_far = ap (λ n. n + c.is_in-count.result) c.loop-number.invariant.so_far ∙ ap (λ n. dinodes_among c.args.self.now c.args.group c.loop-number.number + n) (one.value ∙ ap (is_one_in c.args.self.now c.args.group) c.journal_place.ensures.value) ∙ sym (one_more_journal c.args.self.now c.args.group c.loop-number.number);
      few = omega (arith, c.loop-number.invariant.few, one.bound);
    }

pub returns : goal.returns
returns c = let all : c.loop-number.number ≡ c.args.self.now.journals = omega arith in record { value = c.loop-number.invariant.so_far ∙ ap (dinodes_among c.args.self.now c.args.group) all }
