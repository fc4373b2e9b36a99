use Rattle.std.proofs.Common.{◌<◌, sym, subst, length, arith}
use Rattle.gfs2_layout.specs.Inode.{fan}
use Rattle.file_walks.specs.Walks.{IsPassed, LeadsOn}
use Rattle.file_walks.proofs.Steps.{first_leads, first_led, begun_at, handed_only}
use Rattle.file_walks.proofs.walks.first_stop.Goals as goal

pub returns-in_err-stop-clause-damaged : goal.returns-in_err-stop-clause-damaged
returns-in_err-stop-clause-damaged c h w o =
    let low : c.args.way.now.level < c.args.way.now.height = omega (arith, c.if-way.false) in
    let near : c.place_over-place.result < fan (length c.args.bytes.now) 232 = omega (arith, c.if-place-fan.false, c.fan.ensures) in
    handed_only c.from_residual.result _ _ c.from_residual.ensures.1
    (c.in_err-stop.ensures.damaged h w (first_led h c.args.way.now c.args.bytes.now c.place_over-place.result w o low c.place_over-place.ensures near))

pub returns-clause-leads : goal.returns-clause-leads
returns-clause-leads c h w o =
    let low : c.args.way.now.level < c.args.way.now.height = omega (arith, c.if-way.false) in
    let near : c.place_over-place.result < fan (length c.args.bytes.now) 232 = omega (arith, c.if-place-fan.false, c.fan.ensures) in
    subst (LeadsOn h c.args.way.now.level c.args.way.now.index) (sym c.in_ok-stop.ensures.is)
    (first_leads h c.args.way.now c.args.bytes.now c.place_over-place.result w o low c.place_over-place.ensures near)

pub returns-clause-begun : goal.returns-clause-begun
returns-clause-begun c h file w o =
    let low : c.args.way.now.level < c.args.way.now.height = omega (arith, c.if-way.false) in
    let near : c.place_over-place.result < fan (length c.args.bytes.now) 232 = omega (arith, c.if-place-fan.false, c.fan.ensures) in
    let begun = begun_at h c.args.way.now c.args.bytes.now c.place_over-place.result w o low c.place_over-place.ensures near file in
    (begun.0, subst (IsPassed h c.args.way.now.level c.args.way.now.index) (sym c.in_ok-stop.ensures.is) begun.1)
