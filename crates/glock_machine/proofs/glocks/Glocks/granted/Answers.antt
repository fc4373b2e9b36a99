use Rattle.std.proofs.Common.{◌≡◌, ◌∙◌, ap, sym}
use Rattle.glock_machine.specs.declared.glock.Glock.{Glock}
use Rattle.glock_machine.specs.Table.{Table, glock_of, granted}
use Rattle.glock_machine.proofs.Below.{none_called, granted_below}
use Rattle.glock_machine.proofs.Standing.{at_own}
use Rattle.glock_machine.proofs.glocks.Glocks.granted.Goals as goal

pub returns-clause-uncalled : goal.returns-clause-uncalled
returns-clause-uncalled c =
    ap (λ (t : Table). (glock_of t c.args.lock).called) c.put.ensures
    ∙ ap (λ (g : Glock). g.called) (at_own c.args.lock (λ _. c.granted.result) c.args.self.now ∙ c.granted.ensures)
    ∙ none_called c.glock-glock.result (ap (λ (g : Glock). g.state) c.glock-glock.ensures.value ∙ c.requires.free) c.glock-glock.ensures.below
