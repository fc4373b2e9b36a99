use Rattle.std.proofs.Common.{◌∙◌, arith}
use Rattle.image_reader.specs.Going.{IsOf}
use Rattle.image_reader.proofs.Chains.{place_small, step_place}
use Rattle.image_reader.proofs.Going.{goes_then}
use Rattle.image_reader.proofs.walk.Walk.chain.Goals as goal

pub next_leaf-requires-clause-leaves : goal.next_leaf-requires-clause-leaves
next_leaf-requires-clause-leaves c = rw c.in-Some.is at c.loop-chained.invariant.leaves

pub next_leaf-requires-clause-leaf : goal.next_leaf-requires-clause-leaf
next_leaf-requires-clause-leaf c = rw c.in-Some.is at c.loop-chained.invariant.leaf

pub next_leaf-requires-clause-claimed : goal.next_leaf-requires-clause-claimed
next_leaf-requires-clause-claimed c = rw c.in-Some.is at c.loop-chained.invariant.claimed

pub next_leaf-requires-clause-place : goal.next_leaf-requires-clause-place
next_leaf-requires-clause-place c = place_small c.args.self.now c.in-Some.at.place c.loop-chained.self.owners.free (rw c.in-Some.is at c.loop-chained.invariant.place)

pub loop-chained-preserved : goal.loop-chained-preserved
loop-chained-preserved c =
    let done = c.in_ok-chained.ensures in
    record {
      leaves = done.leaves;
      leaf = done.leaf;
      claimed = done.claimed;
      place = step_place c.in_ok-chained.chained c.in-Some.at.place c.loop-chained.self.owners.free c.next_leaf.new.self.owners.free c.args.self.now.owners.free done.place done.fresh (rw c.in-Some.is at c.loop-chained.invariant.place);
      on = goes_then (IsOf c.args.visit.now.inode.block.number) c.args.visit.now c.args.self.now.owners.entries.items c.args.found.now.items c.loop-chained.self.owners.entries.items c.loop-chained.found.items
          c.next_leaf.new.self.owners.entries.items c.next_leaf.new.found.items c.loop-chained.invariant.on done.on;
      falls = omega (arith, c.loop-chained.invariant.falls, done.falls);
      free = omega (arith, c.loop-chained.invariant.free, done.free);
      grows = omega (arith, c.loop-chained.invariant.grows, done.grows);
      same = done.same ∙ c.loop-chained.invariant.same;
    }

pub returns-clause-leaves : goal.returns-clause-leaves
returns-clause-leaves c = rw c.in_default.is at c.loop-chained.invariant.leaves

pub returns-clause-on : goal.returns-clause-on
returns-clause-on c = c.loop-chained.invariant.on
