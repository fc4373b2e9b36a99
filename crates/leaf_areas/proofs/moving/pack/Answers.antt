use Rattle.std.proofs.Common.{◌≡◌, ◌+◌, ℕ, length, ap}
use Rattle.leaf_areas.specs.Moving.{moved_length}
use Rattle.leaf_areas.proofs.Packing.{packing_begins, packing_goes_on, packing_ends, all_counted}
use Rattle.leaf_areas.proofs.moving.pack.Goals as goal

pub loop-record-init : goal.loop-record-init
loop-record-init c = packing_begins c.args.part c.args.from.now c.args.into.now c.in-Some.first.head c.in-Some.first.name.now c.in-Some.behind.now c.requires.room c.in-Some.ensures

pub loop-record-preserved : goal.loop-record-preserved
loop-record-preserved c =
    let so = c.loop-record.invariant in
    let at = c.loop-record.at in
    let last = c.loop-record.last in
    let next = c.in-Some-next_of in
    let end : ℕ = at + c.length_of.result in
    let end_is : end ≡ at + moved_length so.last = ap (λ (n : ℕ). at + n) (c.length_of.ensures so.last so.head_is) in
    packing_goes_on c.args.part c.args.from.now c.loop-record.into at last.head last.name.now c.loop-record.rest.now c.loop-record.count so next.record.head next.record.name.now next.behind.now next.ensures c.write_record.new.bytes end
    end_is c.write_record.auto.bytes c.write_record.ensures

pub returns : goal.returns
returns c =
    let into = c.loop-record.into in
    let at = c.loop-record.at in
    let last = c.loop-record.last in
    let none = c.in_default-next_of.ensures in
    let put = packing_ends c.args.part c.args.from.now into at last.head last.name.now c.loop-record.rest.now c.loop-record.count c.loop-record.invariant none c.write_record-2.new.bytes c.write_record-2.auto.bytes c.write_record-2.ensures
    (length c.args.into.now) c.loop-record.auto.into in
    record {
      slots = put.slots;
      count = all_counted c.args.part c.args.from.now into at last.head last.name.now c.loop-record.rest.now c.loop-record.count c.loop-record.invariant none;
      filled = put.filled;
      size = put.size;
    }
