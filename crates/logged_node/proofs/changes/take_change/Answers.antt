use Rattle.std.proofs.Common.{ap}
use Rattle.log_values.specs.Log.{LogValue}
use Rattle.logged_node.proofs.Changed.{rests_either}
use Rattle.logged_node.proofs.changes.take_change.Goals as goal

pub returns-clause-resting : goal.returns-clause-resting
returns-clause-resting c d rest low =
    rests_either d c.args.node.now (record c.args.node.now { log = c.add.new.self }) c.args.change.now c.add.result c.requires.can c.requires.widths
    (λ taken. ap (λ (l : LogValue). record c.args.node.now { log = l }) (c.add.ensures.added taken)) (λ kept. ap (λ (l : LogValue). record c.args.node.now { log = l }) (c.add.ensures.kept kept)) c.add.ensures.exactly.0 rest low
