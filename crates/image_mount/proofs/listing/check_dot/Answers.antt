use Rattle.image_mount.proofs.Causes.{told}
use Rattle.image_mount.proofs.listing.check_dot.Goals as goal

pub returns-in_default-clause-refused : goal.returns-in_default-clause-refused
returns-in_default-clause-refused c im format reached none other = told im _ c.args.block 10 c.damaged.ensures format reached (none c.in_default.ensures.none)

pub returns-then-dot-leads-clause-refused : goal.returns-then-dot-leads-clause-refused
returns-then-dot-leads-clause-refused c im format reached none other =
    told im _ c.args.block 10 c.damaged-then-dot-leads.ensures format reached (other c.in-Some.ensures.there.0 c.in-Some.dot c.in-Some.ensures.there.1 c.in-Some.ensures.named c.if-dot-leads.true)
