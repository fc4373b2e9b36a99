use Rattle.std.proofs.Common.{sym, ◌∙◌}
use Rattle.log_layout.proofs.BestHeaders.{accepted_there, accepted_elsewhere, accepted_none}
use Rattle.image_mount.proofs.journals.accepted.Goals as goal

pub returns-in-Ok : goal.returns-in-Ok
returns-in-Ok c = accepted_there c.args.place c.args.bytes.now c.in-Ok.header c.in-Ok.ensures (sym c.from.ensures ∙ c.if-from-place.true)

pub returns-in_default : goal.returns-in_default
returns-in_default c = accepted_elsewhere c.args.place c.args.bytes.now c.in-Ok.header c.in-Ok.ensures (λ e. c.if-from-place.false (c.from.ensures ∙ e))

pub returns-in_default-2 : goal.returns-in_default-2
returns-in_default-2 c = accepted_none c.args.place c.args.bytes.now _ c.in_default.ensures
