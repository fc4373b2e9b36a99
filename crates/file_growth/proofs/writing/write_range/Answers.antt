use Rattle.glock_names.proofs.StepLaws.{answer_at, needed_at}
use Rattle.growth_drafts.specs.Touched.{as_it_was}
use Rattle.file_growth.proofs.writing.write_range.Goals as goal

pub returns-then-need-len-clause-within : goal.returns-then-need-len-clause-within
returns-then-need-len-clause-within g c = as_it_was c.args.draft.now.fates

pub returns-in-NeedBlock-clause-needed : goal.returns-in-NeedBlock-clause-needed
returns-in-NeedBlock-clause-needed g c h shown =
    needed_at c.in_ok-need.field-0 c.in-NeedBlock.missing _ c.in-NeedBlock.is (c.in_ok-need.ensures.needed h shown)

pub returns-clause-written : goal.returns-clause-written
returns-clause-written g c h shown can =
    let there = answer_at c.in_ok-need.field-0 c.in-Is.need _ c.in-Is.is c.in_ok-need.ensures.there in
    let needs = answer_at c.in_ok-need.field-0 c.in-Is.need _ c.in-Is.is (c.in_ok-need.ensures.found h can.counted.file shown) in
    c.in_ok-done.ensures.written h shown there can needs
    (λ i looked. answer_at c.in_ok-need.field-0 c.in-Is.need _ c.in-Is.is (c.in_ok-need.ensures.looked h i can.counted.file shown looked))
