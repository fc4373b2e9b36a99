use Rattle.std.proofs.Common.{inl, inr, refl, subst, sym}
use Rattle.log_values.specs.Flushing.{Begins}
use Rattle.log_values.specs.Flushing.Begins.{alone, with_all}
use Rattle.log_memory.specs.Flushing.Starts.{begins, no_room, nothing}
use Rattle.log_memory.proofs.beginning.start.Goals as goal

pub returns-then-fits : goal.returns-then-fits
returns-then-fits c =
    let yes = c.fits.ensures.yes c.if-fits.true in
    begins (subst (Begins c.args.log.now) (sym c.begin.ensures) (with_all c.requires yes.0 yes.1))

pub returns-then-is_end_due : goal.returns-then-is_end_due
returns-then-is_end_due c =
    let yes = c.is_end_due.ensures.yes c.if-is_end_due.true in
    begins (subst (Begins c.args.log.now) (sym c.begin_alone.ensures) (alone c.requires yes.0 yes.1 (c.fits.ensures.no c.if-fits.false)))

pub returns-then-is_due : goal.returns-then-is_due
returns-then-is_due c =
    let is = c.is_due.ensures.yes c.if-is_due.true in
    no_room is (c.fits.ensures.no c.if-fits.false is)
    (elim (c.is_end_due.ensures.no c.if-is_end_due.false) [ inl none ↦ absurd (c.fits.ensures.empty c.if-fits.false is c.requires none) | inr away ↦ away ]) refl

pub returns-else-is_due : goal.returns-else-is_due
returns-else-is_due c = nothing (c.is_due.ensures.no c.if-is_due.false) (c.is_end_due.ensures.no c.if-is_end_due.false) refl
