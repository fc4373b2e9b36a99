use Rattle.std.proofs.Common.{◌∙◌, arith}
use Rattle.image_reader.specs.Going.{IsOf}
use Rattle.image_reader.proofs.Chains.{all_leaves, headed_more}
use Rattle.image_reader.proofs.Going.{goes_then}
use Rattle.image_reader.proofs.walk.Walk.hashed.Goals as goal

pub loop-i-preserved : goal.loop-i-preserved
loop-i-preserved c =
    let done = c.in_ok-i.ensures in
    let v = c.args.visit.now in
    record {
      within = omega (arith, done.within, c.count-count.ensures);
      leaves = done.leaves;
      headed = headed_more c.loop-i.self c.bucket.new.self v c.loop-i.i _ done.on.claims c.loop-i.invariant.headed done.headed;
      on = goes_then (IsOf v.inode.block.number) v c.args.self.now.owners.entries.items c.args.found.now.items c.loop-i.self.owners.entries.items c.loop-i.found.items
          c.bucket.new.self.owners.entries.items c.bucket.new.found.items c.loop-i.invariant.on done.on;
      falls = omega (arith, c.loop-i.invariant.falls, done.falls);
      free = omega (arith, c.loop-i.invariant.free, done.free);
      grows = omega (arith, c.loop-i.invariant.grows, done.grows);
      same = done.same ∙ c.loop-i.invariant.same;
    }

pub returns-clause-leaves : goal.returns-clause-leaves
returns-clause-leaves c = c.loop-i.invariant.leaves

pub returns-clause-on : goal.returns-clause-on
returns-clause-on c = c.loop-i.invariant.on

pub returns-clause-all : goal.returns-clause-all
returns-clause-all c by x hash place claimed =
    all_leaves c.loop-i.self c.args.visit.now c.args.self.now.image c.in_ok-depth.depth by x hash place c.requires.leaves.going.visited.same c.in_ok-depth.ensures.depth c.loop-i.invariant.leaves.chained
    (λ j low. c.loop-i.invariant.headed j (omega (arith, low, c.loop-i-test.false, c.count-count.ensures))) claimed
