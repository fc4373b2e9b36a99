use Rattle.std.proofs.Common.{◌∙◌, ◌+◌, ◌<◌, refl, sym, ap, subst, arith}
use Rattle.gfs2_layout.specs.Area.{slots_of}
use Rattle.gfs2_layout.specs.declared.leaf.Leaf.{Leaf}
use Rattle.glock_names.proofs.StepLaws.{answer_at, needed_at}
use Rattle.hash_steps.specs.Walking.{IsLeafOf, OfEach}
use Rattle.hash_steps.proofs.Along.{begins, comes_again_to, goes_on}
use Rattle.hash_steps.proofs.ChainLeaves.{told, wrong_of}
use Rattle.hash_steps.specs.Leaves.{has_room_for}
use Rattle.hash_inserts.specs.Walking.{IsRoomBefore}
use Rattle.hash_inserts.proofs.Walks.{room_more, sees_more}
use Rattle.hash_inserts.proofs.walking.walk.Goals as goal

pub loop-place-init : goal.loop-place-init
loop-place-init g c = record {
  along = begins (g.V.View.seen c.args.view.now) c.args.dir c.args.head.now c.requires.from;
  room = λ h i shown is earlier x before chain. absurd (let none : earlier < 0 = before in omega (arith, none));
  there = λ h i shown is earlier x before chain. absurd (let none : earlier < 0 = before in omega (arith, none));
}

pub returns-in-NeedBlock-clause-needed : goal.returns-in-NeedBlock-clause-needed
returns-in-NeedBlock-clause-needed g c h i shown is = needed_at _ _ _ c.in-NeedBlock.is (c.in_ok-leaf.ensures.needed h i shown (c.loop-place.invariant.along.at h i shown is).leads)

pub returns-then-leaf-eq0-clause-walked : goal.returns-then-leaf-eq0-clause-walked
returns-then-leaf-eq0-clause-walked g c h i shown is =
    let v = g.V.View.seen c.args.view.now in
    let at = c.loop-place.invariant.along.at h i shown is in
    let leaf = answer_at _ _ _ c.in-Is.is (c.in_ok-leaf.ensures.read h i shown at.leads) in
    let has = answer_at _ _ _ c.in-Is.is c.in_ok-leaf.ensures.there in
    let of_group = answer_at _ _ _ c.in-Is.is c.in_ok-leaf.ensures.inside in
    let room = c.area_has_room.ensures ∙ ap (λ a. has_room_for c.args.len (slots_of a)) leaf.area in
    record {
      at = c.loop-place.place;
      chain = at.chain (answer_at _ _ _ c.in-Is.is c.in_ok-leaf.ensures.small).0;
      ends = ap (λ (l : Leaf). l.next) (sym leaf.head) ∙ c.if-leaf-eq0.true;
      single = refl;
      room = subst (IsRoomBefore h i c.args.len (c.loop-place.place + 1)) (sym c.first_of-with_room.ensures)
          (room_more h i c.loop-place.place c.loop-place.link.leaf (at.chain (answer_at _ _ _ c.in-Is.is c.in_ok-leaf.ensures.small).0) c.args.len c.loop-place.with_room c.area_has_room.result room (c.loop-place.invariant.room h i shown is));
      there = sees_more h i c.loop-place.place c.loop-place.link.leaf (at.chain (answer_at _ _ _ c.in-Is.is c.in_ok-leaf.ensures.small).0) v (has, of_group) (c.loop-place.invariant.there h i shown is);
    }

pub loop-place-preserved : goal.loop-place-preserved
loop-place-preserved g c =
    let v = g.V.View.seen c.args.view.now in
    let leaf : OfEach v c.args.dir c.args.head.now (λ h i. IsLeafOf h c.loop-place.link.leaf c.in-Is.leaf) = λ h i shown is. answer_at _ _ (IsLeafOf h c.loop-place.link.leaf) c.in-Is.is (c.in_ok-leaf.ensures.read h i shown (c.loop-place.invariant.along.at h i shown is).leads) in
    let has = answer_at _ _ _ c.in-Is.is c.in_ok-leaf.ensures.there in
    let of_group = answer_at _ _ _ c.in-Is.is c.in_ok-leaf.ensures.inside in
    record {
      along = goes_on v c.args.dir c.args.head.now c.loop-place.place c.loop-place.link _ c.in-Is.leaf c.loop-place.invariant.along leaf (answer_at _ _ _ c.in-Is.is c.in_ok-leaf.ensures.small) has c.if-leaf-eq0.false refl;
      room = λ h i shown is. subst (IsRoomBefore h i c.args.len (c.loop-place.place + 1)) (sym c.first_of-with_room.ensures)
          (room_more h i c.loop-place.place c.loop-place.link.leaf ((c.loop-place.invariant.along.at h i shown is).chain (answer_at _ _ _ c.in-Is.is c.in_ok-leaf.ensures.small).0) c.args.len c.loop-place.with_room c.area_has_room.result
          (c.area_has_room.ensures ∙ ap (λ a. has_room_for c.args.len (slots_of a)) (leaf h i shown is).area) (c.loop-place.invariant.room h i shown is));
      there = λ h i shown is. sees_more h i c.loop-place.place c.loop-place.link.leaf ((c.loop-place.invariant.along.at h i shown is).chain (answer_at _ _ _ c.in-Is.is c.in_ok-leaf.ensures.small).0) v (has, of_group) (c.loop-place.invariant.there h i shown is);
    }

pub returns-clause-damaged : goal.returns-clause-damaged
returns-clause-damaged g c h i shown is depth =
    let v = g.V.View.seen c.args.view.now in
    wrong_of v h c.damaged.result (told h c.damaged.result c.loop-place.link.from 15 c.damaged.ensures (comes_again_to v c.args.dir c.args.head.now c.loop-place.place c.loop-place.link (omega arith) c.loop-place.invariant.along h i shown is))
