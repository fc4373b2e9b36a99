use Rattle.std.proofs.Common.{◌≡◌, ◌≤◌, length, arith, subst, sym, refl}
use Rattle.std.proofs.lemmas.Bool.Decides.{nat_tests}
use Rattle.gfs2_layout.proofs.Records.{TellsArea, tells-all, tells-on, tells-end, tells-bad, tells-unnamed}
use Rattle.gfs2_layout.proofs.area.is_area.Goals as goal

pub loop-rest-init : goal.loop-rest-init
loop-rest-init c = tells-all c.args.area.now

pub returns-then-no_record : goal.returns-then-no_record
returns-then-no_record c =
    let some : 1 ≤ length c.loop-rest.rest.now = grind (arith, nat_tests) in
    (λ h. cc, λ is. absurd (tells-bad c.args.area.now c.loop-rest.rest.now some (sym c.if-no_record.ensures) c.loop-rest.invariant is))

pub returns-then-not-is_named : goal.returns-then-not-is_named
returns-then-not-is_named c =
    let some : 1 ≤ length c.loop-rest.rest.now = grind (arith, nat_tests) in
    (λ h. cc, λ is. absurd (tells-unnamed c.args.area.now c.loop-rest.rest.now some (λ named. let e = c.if-not-is_named.ensures.1 named in cc) c.loop-rest.invariant is))

pub loop-rest-preserved : goal.loop-rest-preserved
loop-rest-preserved c =
    let on = tells-on c.args.area.now c.loop-rest.rest.now (sym c.if-no_record.ensures) (c.if-not-is_named.ensures.0 refl) c.loop-rest.invariant in
    subst (TellsArea c.args.area.now) (sym c.past_record.ensures.behind) on

pub returns : goal.returns
returns c =
    let none : length c.loop-rest.rest.now ≡ 0 = grind (arith, nat_tests) in
    (λ h. tells-end c.args.area.now c.loop-rest.rest.now none c.loop-rest.invariant, λ is. refl)
