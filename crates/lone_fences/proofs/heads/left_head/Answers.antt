use Rattle.std.proofs.Common.{◌∙◌, ap}
use Rattle.lone_fences.specs.Heads.{accepted_as}
use Rattle.lone_fences.proofs.heads.left_head.Goals as goal

pub returns-clause-head : goal.returns-clause-head
returns-clause-head g c = λ tells. c.placed_head.ensures ∙ ap (accepted_as c.args.blocks.now) (c.places_say_all.ensures _ _ (c.in_ok-journal.ensures.says tells)).head
