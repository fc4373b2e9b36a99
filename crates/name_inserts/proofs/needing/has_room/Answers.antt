use Rattle.std.proofs.Common.{ap, ap₂, drop, sym, ◌∙◌, subst}
use Rattle.gfs2_layout.specs.Area.{IsArea, slots_of}
use Rattle.gfs2_layout.specs.Structures.{dinode_length}
use Rattle.dinode_tree.proofs.Dinodes.{lacks}
use Rattle.linear_dirs.specs.Broken.{IsBroken, no_area}
use Rattle.linear_dirs.proofs.Looked.{bytes_of, rest_is}
use Rattle.hash_inserts.specs.Leaves.{has_room_for}
use Rattle.name_inserts.proofs.needing.has_room.Goals as goal

pub returns-then-not-is_area-clause-damaged : goal.returns-then-not-is_area-clause-damaged
returns-then-not-is_area-clause-damaged g c h shown =
    let v = g.V.View.seen c.args.view.now in
    let bytes = c.in-Some.bytes.now in
    let same = rest_is dinode_length bytes ∙ ap (drop dinode_length) (sym (bytes_of v h c.args.dir bytes shown c.in-Some.ensures.some)) in
    subst (IsBroken h 9) shown.own (no_area (λ has. lacks c.is_area.result c.is_area.ensures c.if-not-is_area.true (subst IsArea (sym same) has)))

pub returns-clause-room : goal.returns-clause-room
returns-clause-room g c h name shown long =
    let v = g.V.View.seen c.args.view.now in
    let bytes = c.in-Some.bytes.now in
    let same = rest_is dinode_length bytes ∙ ap (drop dinode_length) (sym (bytes_of v h c.args.dir bytes shown c.in-Some.ensures.some)) in
    c.area_has_room.ensures ∙ ap₂ (λ n area. has_room_for n (slots_of area)) (sym long) same
