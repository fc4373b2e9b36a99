use Rattle.std.proofs.Common.{ℕ, ◌≡◌, ◌+◌, ap, sym, ◌∙◌, arith}
use Rattle.glock_names.proofs.StepLaws.{answer_at}
use Rattle.resource_groups.proofs.Fits.{fit_of}
use Rattle.resource_groups.proofs.Parts.{header_is, read_is}
use Rattle.resource_groups.proofs.blocks.header_of.Goals as goal

pub headed_block-requires-clause-within : goal.headed_block-requires-clause-within
headed_block-requires-clause-within g c =
    let fit = fit_of _ _ c.block_size-size.ensures.view c.requires in
    omega (arith, fit.some)

pub returns-clause-header : goal.returns-clause-header
returns-clause-header g c at shown =
    let fit = fit_of _ _ c.block_size-size.ensures.view c.requires in
    let there = answer_at _ _ _ c.in-Is.is c.in_ok-bytes.ensures.seen in
    read_is c.in-Is.bytes.now c.in-Ok.header (sym c.read.ensures ∙ c.in-Ok.is) ∙ header_is (g.V.View.seen c.args.view.now) at c.args.group.now c.in-Is.bytes.now (omega (arith, fit.some)) shown there

pub returns-clause-there : goal.returns-clause-there
returns-clause-there g c = (c.in-Is.bytes.now, ap (g.V.View.seen c.args.view.now).block_at (none c.args.group.now.addr) ∙ answer_at _ _ _ c.in-Is.is c.in_ok-bytes.ensures.seen)
  where
    none : (a : ℕ) → a ≡ a + 0
    none a = omega arith
