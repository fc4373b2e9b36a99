use Rattle.std.proofs.Common.{◌≡◌, ◌%◌, ◌-◌, inl, inr, refl, sym, ap, subst, ◌∙◌, arith}
use Rattle.std.proofs.lemmas.Result.{err_from_is_err_and}
use Rattle.std.proofs.Math.Nat.{mod-le}
use Rattle.image_reader.specs.Reading.{held}
use Rattle.image_reader.proofs.Descent.{IsBelow, next_of, at_end, led_out}
use Rattle.image_reader.proofs.Pieces.{dinode_is}
use Rattle.image_reader.proofs.inode.Inode.content_block.Goals as goal

pub loop-level-init : goal.loop-level-init
loop-level-init c = record {
  way = inl (refl, refl, ap (λ d. d.height) (dinode_is c.args.self.now), refl);
  image = refl;
  start = omega arith;
  small = omega (arith, c.content_count.type_inv, c.if-index-content_count.false);
}

pub returns-then-number-eq0-clause-none : goal.returns-then-number-eq0-clause-none
returns-then-number-eq0-clause-none c =
    let i = c.loop-level.invariant in
    let next = next_of c.args.self.now c.loop-level.block c.args.index c.loop-level.level c.loop-level.start c.loop-level.left _ _ i.image c.requires.fits c.requires.within (omega (arith, c.loop-level-test.true)) i.way i.small c.span-span.ensures.value c.pointer-number.ensures in
    next.0.hole c.if-number-eq0.true

pub returns-in_err-block-clause-damaged : goal.returns-in_err-block-clause-damaged
returns-in_err-block-clause-damaged c =
    let i = c.loop-level.invariant in
    let next = next_of c.args.self.now c.loop-level.block c.args.index c.loop-level.level c.loop-level.start c.loop-level.left _ _ i.image c.requires.fits c.requires.within (omega (arith, c.loop-level-test.true)) i.way i.small c.span-span.ensures.value c.pointer-number.ensures in
    let out = led_out c.args.self.now c.in_err-block.field-0.0 c.loop-level.block.number (c.loop-level.level - 1) _ c.in_err-block.ensures.fault c.requires.dinode (next.0.leads c.if-number-eq0.false) c.in_err-block.ensures.outside in
    let p = err_from_is_err_and c.from_residual.result c.from_residual.ensures.1 in
    rw (p.1, p.2) out

pub loop-level-preserved : goal.loop-level-preserved
loop-level-preserved c =
    let i = c.loop-level.invariant in
    let next = next_of c.args.self.now c.loop-level.block c.args.index c.loop-level.level c.loop-level.start c.loop-level.left _ _ i.image c.requires.fits c.requires.within (omega (arith, c.loop-level-test.true)) i.way i.small c.span-span.ensures.value c.pointer-number.ensures in
    let below = next.0.way c.if-number-eq0.false in
    let h = held c.args.self.now in
    let here : IsBelow h c.args.index (c.loop-level.level - 1) c.in_ok-block.block.number (c.loop-level.left % c.span-span.result)
    = subst (λ b. IsBelow h c.args.index (c.loop-level.level - 1) b (c.loop-level.left % c.span-span.result)) (sym c.in_ok-block.ensures.block.0) (subst (IsBelow h c.args.index (c.loop-level.level - 1) c.pointer-number.result) (sym next.1) below) in
    record {
      way = inr (refl, here);
      image = c.in_ok-block.ensures.block.1;
      start = omega arith;
      small = omega (arith, i.small, c.span-span.ensures.some, mod-le c.loop-level.left c.span-span.result);
    }

pub returns-clause-some : goal.returns-clause-some
returns-clause-some c =
    let i = c.loop-level.invariant in
    let none : c.loop-level.level ≡ 0 = omega (arith, c.loop-level-test.false) in
    at_end (held c.args.self.now) c.args.index c.loop-level.level c.loop-level.block.number c.loop-level.start c.loop-level.left none (λ e. c.requires.pointed (ap (λ d. d.height) (dinode_is c.args.self.now) ∙ e)) i.way
