use Rattle.std.proofs.Common.{◌≡◌, sym, ◌∙◌}
use Rattle.cluster_program.proofs.Counts.{no_stop, none_stopped}
use Rattle.cluster_program.proofs.run.left_dirty.Goals as goal

pub returns-then-not-has_stopped-clause-stopped : goal.returns-then-not-has_stopped-clause-stopped
returns-then-not-has_stopped-clause-stopped g c stopped = absurd (stopped (none_stopped c.args.items.now (sym c.has_stopped.ensures ∙ c.if-not-has_stopped.true)))

pub returns-clause-none : goal.returns-clause-none
returns-clause-none g c none = absurd (no_stop c.args.items.now none (sym c.has_stopped.ensures ∙ c.if-not-has_stopped.false))
