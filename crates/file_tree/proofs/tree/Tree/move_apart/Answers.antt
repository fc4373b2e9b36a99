use Rattle.std.proofs.Common.{sym, subst, ◌∙◌}
use Rattle.file_tree.specs.Tree.{Tree}
use Rattle.file_tree.specs.Apply.{walk, put_at}
use Rattle.file_tree.specs.Walks.{IsThere}
use Rattle.file_tree.proofs.WalkLaws.{found_same}
use Rattle.file_tree.proofs.MoveLaws.{room_walk, room_take, room_result}
use Rattle.file_tree.proofs.tree.Tree.move_apart.Goals as goal

pub take_out-moved-requires-clause-there : goal.take_out-moved-requires-clause-there
take_out-moved-requires-clause-there c =
    subst IsThere (sym (room_walk c.args.self.now c.make_room.new.self c.args.from.now c.args.to.now c.requires.may c.requires.part c.in_ok-make_room.ensures.ok)) c.requires.may.there

pub set_at-requires : goal.set_at-requires
set_at-requires c =
    subst (λ (u : Tree). IsThere (walk u c.args.to.now)) (sym c.take_out-moved.ensures.gone)
    (room_take c.args.self.now c.make_room.new.self c.args.from.now c.args.to.now c.requires.may c.requires.part c.in_ok-make_room.ensures.ok)

pub returns-clause-ok : goal.returns-clause-ok
returns-clause-ok c = λ moved e.
    let room = c.in_ok-make_room.ensures.ok in
    let same = found_same c.take_out-moved.result moved
    (sym c.take_out-moved.ensures.stood ∙ room_walk c.args.self.now c.make_room.new.self c.args.from.now c.args.to.now c.requires.may c.requires.part room ∙ e) in
    c.set_at.ensures.put ∙ (λ i. put_at c.args.to.now (same i) (c.take_out-moved.ensures.gone i))
    ∙ room_result c.args.self.now c.make_room.new.self moved c.args.from.now c.args.to.now c.rises.ensures c.requires.may c.requires.part room
