use Rattle.std.proofs.Common.{false, refl, sym, ◌∙◌}
use Rattle.log_memory.specs.Journals.{journal_in}
use Rattle.logged_node.specs.Beginning.{no_calls}
use Rattle.logged_node.proofs.Starting.{rests_begun}
use Rattle.logged_node.proofs.start.begin_node.Goals as goal

pub returns-clause-resting : goal.returns-clause-resting
returns-clause-resting c d may =
    rests_begun d (journal_in c.args.journal) c.args.head c.args.sequence
    (record { view = c.args.view; log = c.in_ok-log.log; numbers = no_calls; items = c.args.items; block = c.in_ok-block.block; unmounts = false; flying = 0; armed = c.args.armed }) c.requires.journal c.requires.head may c.in_ok-log.ensures
    (sym c.in_ok-block.block.ok.0 ∙ c.in_ok-block.ensures.len) refl c.requires.armed
