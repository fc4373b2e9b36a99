use Rattle.std.proofs.Common.{ap, ◌∙◌, Err}
use Rattle.cluster_program.proofs.Images.{status_of, makes_so, never_bad_so}
use Rattle.cluster_program.proofs.image.make_on.Goals as goal

pub unreachable-requires : goal.unreachable-requires
unreachable-requires g c =
    never_bad_so c.args.words.now c.options_of.result _ _ _ _ _ _ c.make.result c.in-Err-BadOption.field-0-0 c.requires.within c.options_of.ensures c.make.ensures.ending
    (c.in-Err-BadOption.is ∙ ap Err c.in-Err-BadOption.field-0-is)

pub returns-in-Ok-clause-makes : goal.returns-in-Ok-clause-makes
returns-in-Ok-clause-makes g c =
    makes_so c.args.words.now c.options_of.result _ _ _ _ _ _ c.make.result _ c.requires.within c.options_of.ensures c.requires.small c.make.ensures.ending (ap status_of c.in-Ok.is)

pub returns-in-Err-TooSmall-clause-makes : goal.returns-in-Err-TooSmall-clause-makes
returns-in-Err-TooSmall-clause-makes g c =
    makes_so c.args.words.now c.options_of.result _ _ _ _ _ _ c.make.result _ c.requires.within c.options_of.ensures c.requires.small c.make.ensures.ending
    (ap status_of (c.in-Err-TooSmall.is ∙ ap Err c.in-Err-TooSmall.field-0-is))

pub returns-in-Err-DeviceFault-clause-makes : goal.returns-in-Err-DeviceFault-clause-makes
returns-in-Err-DeviceFault-clause-makes g c =
    makes_so c.args.words.now c.options_of.result _ _ _ _ _ _ c.make.result _ c.requires.within c.options_of.ensures c.requires.small c.make.ensures.ending
    (ap status_of (c.in-Err-DeviceFault.is ∙ ap Err c.in-Err-DeviceFault.field-0-is))

pub returns-in-Err-NoMemory-clause-makes : goal.returns-in-Err-NoMemory-clause-makes
returns-in-Err-NoMemory-clause-makes g c =
    makes_so c.args.words.now c.options_of.result _ _ _ _ _ _ c.make.result _ c.requires.within c.options_of.ensures c.requires.small c.make.ensures.ending
    (ap status_of (c.in-Err-NoMemory.is ∙ ap Err c.in-Err-NoMemory.field-0-is))
