use Rattle.dinode_tree.specs.Below.{IsPointing}
use Rattle.dinode_tree.proofs.Rows.{added_one}
use Rattle.dinode_tree.proofs.Stepping.{some_at}
use Rattle.dinode_tree.proofs.below.add_pointer.Goals as goal

pub returns-in_ok-add-in-Some-clause-added : goal.returns-in_ok-add-in-Some-clause-added
returns-in_ok-add-in-Some-clause-added c =
    added_one c.args.below.now c.add.new.self c.in-Some.link c.args.bytes.now c.args.start c.args.way.now c.args.k
    (some_at c.in_ok-link.field-0 c.in-Some.link (IsPointing c.args.bytes.now c.args.start c.args.way.now c.args.k) c.in-Some.is c.in_ok-link.ensures.some) c.in_ok-add-in-Some.ensures
