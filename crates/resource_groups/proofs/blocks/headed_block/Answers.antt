use Rattle.std.proofs.Common.{◌≡◌, ◌+◌, sym, ◌∙◌, ap, arith}
use Rattle.resource_groups.proofs.Fits.{fit_of, end_below, lacks_header}
use Rattle.resource_groups.proofs.blocks.headed_block.Goals as goal

pub returns-in_default-clause-which : goal.returns-in_default-clause-which
returns-in_default-clause-which g c =
    let fit = fit_of _ _ c.block_of.ensures.view c.requires.group in
    omega (arith, fit.first, end_below _ _ c.block_of.ensures.view c.requires.group, c.requires.within, c.saturating_add-block.ensures, c.from.ensures)

pub returns-then-not-has_header-clause-damaged : goal.returns-then-not-has_header-clause-damaged
returns-then-not-has_header-clause-damaged g c at shown =
    let fit = fit_of _ _ c.block_of.ensures.view c.requires.group in
    let which : c.saturating_add-block.result ≡ c.args.group.now.addr + c.args.part
    = omega (arith, fit.first, end_below _ _ c.block_of.ensures.view c.requires.group, c.requires.within, c.saturating_add-block.ensures, c.from.ensures) in
    lacks_header _ at c.args.group.now c.args.part _ _ _ _ which c.requires.within shown c.in-Some.ensures.some c.header_for-header.ensures.kind c.header_for-header.ensures.format c.has_header.ensures c.if-not-has_header.true

pub returns-clause-seen : goal.returns-clause-seen
returns-clause-seen g c =
    let fit = fit_of _ _ c.block_of.ensures.view c.requires.group in
    let which : c.saturating_add-block.result ≡ c.args.group.now.addr + c.args.part
    = omega (arith, fit.first, end_below _ _ c.block_of.ensures.view c.requires.group, c.requires.within, c.saturating_add-block.ensures, c.from.ensures) in
    ap (g.V.View.seen c.args.view.now).block_at (sym which) ∙ c.in-Some.ensures.some
