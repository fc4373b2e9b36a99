use Rattle.std.proofs.Common.{refl}
use Rattle.tree_lines.proofs.Going.{opened, opened_work}
use Rattle.tree_lines.proofs.append_node.Goals as goal

pub returns-in_ok-push-in-None-clause-lines : goal.returns-in_ok-push-in-None-clause-lines
returns-in_ok-push-in-None-clause-lines c =
    opened c.args.text.now.items c.append_dir.new.text.items c.args.names.now c.args.stack.now.items c.push.new.self.items c.args.tree.now _ c.in-None.ensures refl c.in_ok-push-in-None.ensures.items
    c.requires c.in_ok-append_dir-in-None.ensures

pub returns-in_ok-push-in-None-clause-work : goal.returns-in_ok-push-in-None-clause-work
returns-in_ok-push-in-None-clause-work c =
    opened_work c.args.text.now.items c.append_dir.new.text.items c.args.names.now c.args.stack.now.items c.push.new.self.items c.args.tree.now _ c.in-None.ensures refl c.in_ok-push-in-None.ensures.items
