use Rattle.std.proofs.Common.{◌∙◌, ap, sym, is_some}
use Rattle.std.specs.FinMap.{contains_key}
use Rattle.glock_machine.specs.Keys.{key_of}
use Rattle.glock_machine.proofs.Locks.{get-locks}
use Rattle.glock_machine.proofs.glocks.Glocks.was_wanted.Goals as goal

pub returns : goal.returns
returns c = c.contains_key.ensures ∙ ap is_some (sym (get-locks _ (key_of c.args.lock))) ∙ (λ i. contains_key ((c.self.view_is i).locks) (key_of c.args.lock))
