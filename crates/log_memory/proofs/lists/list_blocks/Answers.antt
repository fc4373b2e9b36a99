use Rattle.std.proofs.Common.{◌+◌, ◌∙◌, ap, arith}
use Rattle.log_memory.proofs.Listing.{all_listed, one_listed}
use Rattle.log_memory.proofs.lists.list_blocks.Goals as goal

pub loop-place-preserved : goal.loop-place-preserved
loop-place-preserved c = record {
  items = one_listed c.args.blocks.now.at c.loop-place.place c.loop-place.into.items c.put_last.new.list.items c.row.result.now c.loop-place.invariant.items c.row.ensures c.put_last.ensures.items;
  len = c.put_last.ensures.len ∙ ap (λ n. n + 1) c.loop-place.invariant.len;
  capacity = omega (arith, c.loop-place.invariant.capacity, c.put_last.ensures.capacity);
}

pub returns-clause-items : goal.returns-clause-items
returns-clause-items c = all_listed c.args.blocks.now.at c.loop-place.place c.loop-place.into.items c.loop-place.invariant.items (omega (arith, c.len-place-end.ensures, c.loop-place-test.false))
