use Rattle.std.proofs.Common.{◌∙◌, refl, sym, ap, arith}
use Rattle.std.specs.Prelude.{slice_get}
use Rattle.image_mount.proofs.Adding.{added_all, added_more, added_start, apart_from, distinct_more, found_some, none_there, twice_found}
use Rattle.image_mount.proofs.leaves.add_records.Goals as goal

pub loop-record-init : goal.loop-record-init
loop-record-init c = record { added = added_start c.args.found.now.items c.args.records.now; low = omega arith; distinct = λ d. d }

pub returns-then-is_some-clause-refused : goal.returns-then-is_some-clause-refused
returns-then-is_some-clause-refused c im a format low before here distinct =
    let f = found_some c.deref.result.now _ c.find.result (sym c.is_some.ensures ∙ c.if-is_some.true) c.find.ensures.there c.find.ensures.named in
    twice_found im a c.args.block c.loop-record.record-index f.1.0 _ c.args.found.now.items c.args.records.now c.loop-record.found.items _ f.0 format low c.damaged.ensures before here distinct
    (c.loop-record.invariant.added) (omega (arith, c.loop-record-test.true)) (ap (λ l. slice_get l f.1.0) (sym c.deref.ensures.value) ∙ f.1.1.0) f.1.1.1

pub loop-record-preserved : goal.loop-record-preserved
loop-record-preserved c = record {
  added = added_more c.args.found.now.items c.args.records.now c.loop-record.found.items c.push.new.self.items c.loop-record.record-index _ _ c.loop-record.invariant.added (omega (arith, c.loop-record-test.true)) c.in_ok-push.ensures.items
      refl;
  low = omega (arith, c.loop-record-test.true);
  distinct = λ d. distinct_more c.loop-record.found.items c.push.new.self.items _ (c.loop-record.invariant.distinct d) c.in_ok-push.ensures.items
      (apart_from c.loop-record.found.items c.deref.result.now _ _ c.deref.ensures.value refl (none_there c.find.result (sym c.is_some.ensures ∙ c.if-is_some.false) c.find.ensures.none));
}

pub returns-clause-added : goal.returns-clause-added
returns-clause-added c =
    added_all c.args.found.now.items c.args.records.now c.loop-record.found.items c.loop-record.record-index (omega (arith, c.loop-record-test.false)) c.loop-record.invariant.added c.loop-record.invariant.low

pub returns-clause-distinct : goal.returns-clause-distinct
returns-clause-distinct c d = c.loop-record.invariant.distinct d
