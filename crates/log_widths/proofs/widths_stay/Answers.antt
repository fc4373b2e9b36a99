use Rattle.log_widths.proofs.Staying.{beginning_keeps_widths, changes_keep_widths, empty_has_widths, homing_keeps_widths, settling_keeps_widths, steps_keep_widths}
use Rattle.log_widths.proofs.widths_stay.Goals as goal

pub returns-clause-empty : goal.returns-clause-empty
returns-clause-empty c = empty_has_widths

pub returns-clause-changes : goal.returns-clause-changes
returns-clause-changes c = changes_keep_widths

pub returns-clause-beginning : goal.returns-clause-beginning
returns-clause-beginning c = beginning_keeps_widths

pub returns-clause-steps : goal.returns-clause-steps
returns-clause-steps c = steps_keep_widths

pub returns-clause-homing : goal.returns-clause-homing
returns-clause-homing c = homing_keeps_widths

pub returns-clause-settling : goal.returns-clause-settling
returns-clause-settling c = settling_keeps_widths
