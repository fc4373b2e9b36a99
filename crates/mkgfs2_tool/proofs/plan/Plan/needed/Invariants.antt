use Rattle.std.proofs.Common.{◌≡◌, ◌<◌, ◌≤◌, ℕ, ◌-◌, false}
use Rattle.mkgfs2_tool.specs.Order.{fits}
use Rattle.mkgfs2_tool.proofs.Enough.{enough}
use Rattle.mkgfs2_tool.proofs.plan.Plan.needed.Given as goal

abbrev pub invariant-loop-count : goal.invariant-loop-count
invariant-loop-count l = record {
  from : l.self.count ≤ l.count;
  most : l.count ≤ enough l.self;
  least : (n : ℕ) → l.self.count ≤ n → n < l.count → fits (record l.self { count = n }) ≡ false;
}

abbrev pub decreases-loop-count : goal.decreases-loop-count
decreases-loop-count l = enough l.self - l.count
