use Rattle.std.proofs.Common.{◌≡◌, None, sym, subst, arith}
use Rattle.std.specs.List.{All}
use Rattle.image_mount.specs.Found.{IsReached}
use Rattle.image_mount.proofs.Stops.{refused}
use Rattle.image_model.specs.SystemFiles.{IsSystemBlock}
use Rattle.image_mount.proofs.Heads.{headless_told, late_told, head_is}
use Rattle.image_mount.proofs.journals.find_head.Goals as goal

pub returns-in_err-head-clause-refused : goal.returns-in_err-head-clause-refused
returns-in_err-head-clause-refused g c l j im shows names sized before at ring =
    refused im _ _ c.from_residual.ensures.1 (c.in_err-head.ensures.refused im (subst (All (IsReached im)) (sym c.deref.ensures.value) ring.are.reached))

pub returns-in_default-clause-refused : goal.returns-in_default-clause-refused
returns-in_default-clause-refused g c l j im shows names sized before at ring =
    let none : c.in_ok-head.field-0 ≡ None = grind (arith, c.in_default.not-Some) in
    headless_told im c.args.ring.now.dinode c.args.ring.now.blocks.items c.deref.result.now c.in_ok-head.field-0 ring c.deref.ensures.value (c.in_ok-head.ensures.found im shows (subst (All (IsSystemBlock im)) (sym c.deref.ensures.value) ring.are.system)) l j _ names at
    none c.damaged.ensures

pub returns-then-head-clause-refused : goal.returns-then-head-clause-refused
returns-then-head-clause-refused g c l j im shows names sized before at ring =
    late_told im c.args.ring.now.dinode c.args.ring.now.blocks.items c.deref.result.now c.in_ok-head.field-0 ring c.deref.ensures.value (c.in_ok-head.ensures.found im shows (subst (All (IsSystemBlock im)) (sym c.deref.ensures.value) ring.are.system)) l j _ c.in-Some.head
    names sized before at c.in-Some.is c.if-head.true c.outside.ensures

pub returns-clause-found : goal.returns-clause-found
returns-clause-found g c im shows ring =
    head_is im c.args.ring.now.dinode c.args.ring.now.blocks.items c.deref.result.now c.in_ok-head.field-0 ring c.deref.ensures.value (c.in_ok-head.ensures.found im shows (subst (All (IsSystemBlock im)) (sym c.deref.ensures.value) ring.are.system)) c.in-Some.head
    c.in-Some.is c.if-head.false
