use Rattle.std.proofs.Common.{◌+◌, length, subst, arith}
use Rattle.drafts.specs.Fates.{seen_in}
use Rattle.hash_steps.specs.Shown.{index_for}
use Rattle.hash_inserts.specs.Advancing.{IsAtLeaf}
use Rattle.hash_inserts.specs.Inserting.{HasNoRoom}
use Rattle.hash_inserts.specs.Walking.{IsRoomBefore}
use Rattle.hash_inserts.proofs.Onward.{by_parts}
use Rattle.hash_inserts.proofs.Past.{none_walked, one_walked, several_walked, walked_block}
use Rattle.hash_inserts.proofs.inserting.insert_found.Goals as goal

pub returns-in-Some-clause-put : goal.returns-in-Some-clause-put
returns-in-Some-clause-put g c h need can shows found own tree =
    let name = c.args.name.now in
    let i = index_for h c.args.name.now in
    let first = subst (IsRoomBefore h i (length name) (found.walked.at + 1)) c.in-Some.is found.walked.room in
    c.put_with_room.ensures.put h c.args.room.now.items need first.at can shows first.chain first.full_before first.room (found.walked.there first.at c.in-Some.leaf first.before first.chain).0 own

pub returns-then-found-clause-put : goal.returns-then-found-clause-put
returns-then-found-clause-put g c h need can shows found own tree =
    let v = seen_in g.V.View.seen c.args.draft.now in
    let name = c.args.name.now in
    let chain = c.args.found.now.chain in
    let i = index_for h c.args.name.now in
    let no_room : HasNoRoom h name = none_walked v h i (length name) chain found.walked c.in_default.is in
    let one = one_walked v h i (length name) chain found.walked c.if-found.true found.head.low in
    let at : IsAtLeaf v h name chain.last = record {
      leaf_is = one.0;
      one = one.1;
      sees = by_parts c.sound_pointers_are_parts.ensures.led v h can.sound (tree no_room one.1);
      there = walked_block v h i (length name) chain found.walked;
    } in
    c.insert_past.ensures.put h need can shows at (no_room found.walked.at chain.last found.walked.chain) (omega arith)

pub returns-else-found-clause-put : goal.returns-else-found-clause-put
returns-else-found-clause-put g c h need can shows found own tree =
    let v = seen_in g.V.View.seen c.args.draft.now in
    let name = c.args.name.now in
    let chain = c.args.found.now.chain in
    let i = index_for h c.args.name.now in
    c.put_with_leaf.ensures.put h need found.walked.at can shows found.walked.chain found.walked.ends (none_walked v h i (length name) chain found.walked c.in_default.is)
    (λ one. absurd (several_walked v h i (length name) chain found.walked c.if-found.false found.head.low one)) (walked_block v h i (length name) chain found.walked) own
