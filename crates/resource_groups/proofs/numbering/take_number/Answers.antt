use Rattle.std.proofs.Common.{refl}
use Rattle.gfs2_layout.specs.declared.group_header.GroupHeader.{GroupHeader}
use Rattle.glock_names.proofs.StepLaws.{answer_at}
use Rattle.resource_groups.proofs.Fits.{fit_of}
use Rattle.resource_groups.proofs.Numbers.{IsHeaderPut, numbered, one_put, header_alone}
use Rattle.drafts.specs.Fates.{seen_in}
use Rattle.resource_groups.proofs.numbering.take_number.Goals as goal

pub returns-clause-put : goal.returns-clause-put
returns-clause-put g c at shown =
    let v = seen_in g.V.View.seen c.args.draft.now in
    let group = c.args.group.now in
    let h : GroupHeader = record c.in-Is.header { igeneration = c.number_after-number.result } in
    let there = answer_at _ _ _ c.in-Is.is c.in_ok-header.ensures.there in
    let is : IsHeaderPut (g.V.View.seen c.args.draft.now.view) c.args.draft.now.fates group h there.0 = record {
      some = (fit_of v group (c.header_of.ensures.view) c.requires).some;
      seen = there.1;
      read = c.in_ok-put_header.ensures.read there.0 there.1;
      behind = c.in_ok-put_header.ensures.behind there.0 there.1;
    } in
    numbered g.V.View.seen c.args.draft.now c.put_header.new.draft group h there.0 is (c.in_ok-put_header.ensures.put there.0 there.1) at c.in-Is.header c.number_after-number.result shown (answer_at _ _ _ c.in-Is.is (c.in_ok-header.ensures.header at shown)) refl

pub returns-clause-one : goal.returns-clause-one
returns-clause-one g c at shown =
    let v = seen_in g.V.View.seen c.args.draft.now in
    let group = c.args.group.now in
    let h : GroupHeader = record c.in-Is.header { igeneration = c.number_after-number.result } in
    let there = answer_at _ _ _ c.in-Is.is c.in_ok-header.ensures.there in
    let is : IsHeaderPut (g.V.View.seen c.args.draft.now.view) c.args.draft.now.fates group h there.0 = record {
      some = (fit_of v group (c.header_of.ensures.view) c.requires).some;
      seen = there.1;
      read = c.in_ok-put_header.ensures.read there.0 there.1;
      behind = c.in_ok-put_header.ensures.behind there.0 there.1;
    } in
    one_put g.V.View.seen c.args.draft.now c.put_header.new.draft group h there.0 is (c.in_ok-put_header.ensures.put there.0 there.1) at shown

pub returns-clause-others : goal.returns-clause-others
returns-clause-others g c =
    let v = seen_in g.V.View.seen c.args.draft.now in
    let group = c.args.group.now in
    let h : GroupHeader = record c.in-Is.header { igeneration = c.number_after-number.result } in
    let there = answer_at _ _ _ c.in-Is.is c.in_ok-header.ensures.there in
    let is : IsHeaderPut (g.V.View.seen c.args.draft.now.view) c.args.draft.now.fates group h there.0 = record {
      some = (fit_of v group (c.header_of.ensures.view) c.requires).some;
      seen = there.1;
      read = c.in_ok-put_header.ensures.read there.0 there.1;
      behind = c.in_ok-put_header.ensures.behind there.0 there.1;
    } in
    header_alone g.V.View.seen c.args.draft.now c.put_header.new.draft group h there.0 is (c.in_ok-put_header.ensures.put there.0 there.1)
