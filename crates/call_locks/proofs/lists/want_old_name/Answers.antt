use Rattle.std.proofs.Common.{List, ◌∷◌, [], ◌++◌, ap, ◌∙◌}
use Rattle.glock_names.specs.declared.State.TheVariants.{Ex}
use Rattle.call_locks.specs.declared.want.Want.{Want}
use Rattle.call_locks.specs.Wants.{want}
use Rattle.call_locks.proofs.Paths.{some_old}
use Rattle.call_locks.proofs.lists.want_old_name.Goals as goal

pub returns : goal.returns
returns c =
    c.in_ok-push.ensures.items ∙ ap (λ (l : List Want). l ++ want c.args.second c.depth_of-depth.result Ex ∷ []) c.in_ok-want_way.ensures
    ∙ some_old c.args.second c.args.path.now c.args.wants.now.items c.depth_of-depth.result c.depth_of-depth.ensures c.if-depth-eq0.false
