use Rattle.logged_node.proofs.Homeward.{gone_home, homeward_none, no_flight}
use Rattle.logged_node.proofs.Carrying.{ok_both, ok_map}
use Rattle.logged_node.proofs.Ordering.{no_rest, one_rest}
use Rattle.logged_node.proofs.homing.rest_if_any.Goals as goal

pub returns-then-node-gt0-clause-home : goal.returns-then-node-gt0-clause-home
returns-then-node-gt0-clause-home g c =
    ok_both c.rest.result _ _ _ _ (λ came none away. gone_home (g.D.SharedDisk.state c.args.disk.now) (g.D.SharedDisk.state c.rest.new.disk) (g.D.SharedDisk.list c.args.disk.now) (g.D.SharedDisk.list c.rest.new.disk) c.args.node.now c.rest.new.node came none (away c.requires.away)) c.rest.ensures.rested c.rest.ensures.none c.rest.ensures.away

pub returns-else-node-gt0-clause-home : goal.returns-else-node-gt0-clause-home
returns-else-node-gt0-clause-home g c =
    gone_home (g.D.SharedDisk.state c.args.disk.now) (g.D.SharedDisk.state c.args.disk.now) (g.D.SharedDisk.list c.args.disk.now) (g.D.SharedDisk.list c.args.disk.now) c.args.node.now c.args.node.now (homeward_none (g.D.SharedDisk.state c.args.disk.now) (g.D.SharedDisk.list c.args.disk.now) c.args.node.now c.requires.homing) (no_flight (g.D.SharedDisk.state c.args.disk.now) c.args.node.now c.requires.homing.on c.if-node-gt0.false) c.requires.away

pub returns-then-node-gt0-clause-told : goal.returns-then-node-gt0-clause-told
returns-then-node-gt0-clause-told g c = ok_map c.rest.result _ _ (λ told. one_rest c.args.node.now.items.items c.rest.new.node.items.items c.args.node.now.flying c.if-node-gt0.true told) c.rest.ensures.told

pub returns-else-node-gt0-clause-told : goal.returns-else-node-gt0-clause-told
returns-else-node-gt0-clause-told g c = no_rest c.args.node.now.items.items c.args.node.now.flying c.if-node-gt0.false
