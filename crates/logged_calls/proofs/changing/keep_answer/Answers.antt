use Rattle.lone_view.specs.Seeing.{seen_alone}
use Rattle.logged_calls.proofs.KeptBlocks.{always_ok, its_kept, its_node, its_view}
use Rattle.logged_calls.proofs.Testing.{are_whole}
use Rattle.logged_calls.proofs.changing.keep_answer.Goals as goal

pub keep_change-requires-clause-whole : goal.keep_change-requires-clause-whole
keep_change-requires-clause-whole c =
    are_whole (seen_alone c.args.node.now.view) c.args.change.now.blocks.items c.requires.inside

pub returns-clause-kept : goal.returns-clause-kept
returns-clause-kept c =
    always_ok c.make_item.result _ (its_kept c.args.node.now c.make_item.new.node c.keep_change.new.view c.make_item.ensures.node c.args.change.now c.in_ok-keep_change.ensures.kept)

pub returns-clause-view : goal.returns-clause-view
returns-clause-view c =
    always_ok c.make_item.result _ (its_view c.args.node.now c.make_item.new.node c.keep_change.new.view c.make_item.ensures.node c.in_ok-keep_change.ensures.others)

pub returns-clause-node : goal.returns-clause-node
returns-clause-node c =
    its_node c.args.node.now c.make_item.new.node c.keep_change.new.view c.make_item.ensures.node
