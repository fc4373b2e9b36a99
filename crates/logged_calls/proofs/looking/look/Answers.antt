use Rattle.logged_calls.proofs.Looked.{looked}
use Rattle.logged_calls.proofs.looking.look.Goals as goal

pub returns-clause-looked : goal.returns-clause-looked
returns-clause-looked g c =
    looked (g.D.SharedDisk.state c.args.disk.now) (g.D.SharedDisk.state c.answer_call.new.disk) (g.D.SharedDisk.list c.args.disk.now) (g.D.SharedDisk.list c.answer_call.new.disk) c.args.node.now c.answer_call.new.view c.answer_call.ensures.reads.same c.answer_call.ensures.reads.list c.requires.ready c.answer_call.ensures.read
