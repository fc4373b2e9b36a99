use Rattle.std.proofs.Common.{◌≢◌, sym, arith}
use Rattle.image_reader.specs.Reading.{image_at}
use Rattle.image_reader.proofs.InodeFaults.{told_broken}
use Rattle.image_reader.proofs.Listed.{get_at}
use Rattle.image_reader.proofs.NamesApart.{no_names, twin_at, one_name_more, was_there, was_new}
use Rattle.image_reader.proofs.visiting.check_names.Goals as goal

pub loop-place-init : goal.loop-place-init
loop-place-init c = no_names c.args.first c.args.found.now c.new-names.result c.new-names.ensures.empty

pub returns-then-not-branch-clause-damaged : goal.returns-then-not-branch-clause-damaged
returns-then-not-branch-clause-damaged c image broken =
    let f = c.index-found-place.result in
    let there = get_at c.args.found.now c.loop-place.place f c.loop-place-test.true c.index-found-place.is in
    let twin = twin_at c.args.first c.loop-place.place c.args.found.now c.loop-place.names c.loop-place.invariant f there c.bytes.result c.bytes.ensures.bytes
    (was_there c.in_ok-insert.field-0 _ c.in_ok-insert.ensures.added c.if-not-branch.true) in
    let apart : twin.index ≢ c.loop-place.place = λ e. absurd (omega (arith, e, twin.before)) in
    told_broken (image_at image) c.damaged.result f.by 10 c.damaged.ensures
    (broken twin.index c.loop-place.place twin.entry f twin.low c.loop-place.invariant.low twin.there there (sym twin.named) apart)

pub loop-place-preserved : goal.loop-place-preserved
loop-place-preserved c =
    let f = c.index-found-place.result in
    let there = get_at c.args.found.now c.loop-place.place f c.loop-place-test.true c.index-found-place.is in
    one_name_more c.args.first c.loop-place.place c.args.found.now c.loop-place.names c.loop-place.invariant f there c.bytes.result c.bytes.ensures.bytes c.insert.new.self
    (was_new c.in_ok-insert.field-0 _ c.in_ok-insert.ensures.added c.if-not-branch.false) c.in_ok-insert.ensures.updates.0
