use Rattle.std.proofs.Common.{◌<◌, ◌≤◌, ◌+◌, ℕ, Vec, Global, ◌∙◌, sym, subst, arith, vec_capacity}
use Rattle.std.specs.FinMap as table
use Rattle.log_memory.proofs.Listing.{IsListedUpTo, all_rows, kind_passed, kind_taken, row}
use Rattle.log_memory.proofs.lists.list_kind.Goals as goal
use Rattle.log_memory.proofs.lists.list_kind.Goals.{then-is_of_kind, else-is_of_kind}

pub loop-place-preserved : goal.loop-place-preserved
loop-place-preserved c =
    let k = c.args.tables.now in
    let place = c.loop-place.place in
    let less : place < table.len k.flushed = omega (arith, c.flushed_len-place-end.ensures, c.loop-place-test.true) in
    let h = c.loop-place.invariant.listed in
    let at = row k c.args.plain c.loop-place.into.items place h less in
    let kind = c.is_of_kind.ensures at.0 at.1 in
    elim c.if-is_of_kind.branch [
      | then-is_of_kind w ↦ record {
        listed = subst (λ (v : Vec ℕ Global). IsListedUpTo k c.args.plain v.items (place + 1)) (sym w.into-is)
            (kind_taken k c.args.plain c.loop-place.into.items place h less w.put_last.new.list.items (sym kind ∙ w.if-is_of_kind.true) w.put_last.ensures.items);
        capacity = subst (λ (v : Vec ℕ Global). vec_capacity c.args.into.now ≤ vec_capacity v) (sym w.into-is) (omega (arith, c.loop-place.invariant.capacity, w.put_last.ensures.capacity));
      }
      | else-is_of_kind w ↦ record {
        listed = subst (λ (v : Vec ℕ Global). IsListedUpTo k c.args.plain v.items (place + 1)) (sym w.into-is) (kind_passed k c.args.plain c.loop-place.into.items place h less (sym kind ∙ w.if-is_of_kind.false));
        capacity = subst (λ (v : Vec ℕ Global). vec_capacity c.args.into.now ≤ vec_capacity v) (sym w.into-is) c.loop-place.invariant.capacity;
      }
    ]

pub returns-clause-rows : goal.returns-clause-rows
returns-clause-rows c =
    all_rows c.args.tables.now c.args.plain c.loop-place.into.items c.loop-place.place c.loop-place.invariant.listed (omega (arith, c.flushed_len-place-end.ensures, c.loop-place-test.false))
