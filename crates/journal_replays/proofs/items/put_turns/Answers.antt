use Rattle.std.proofs.Common.{◌≡◌, ◌+◌, length, rules, refl, ap, ◌∙◌, arith}
use Rattle.std.proofs.lemmas.List.{length-append}
use Rattle.disk_turns.proofs.Stopping.{nothing}
use Rattle.journal_replays.proofs.Brought.{left_none, left_on}
use Rattle.journal_replays.proofs.items.put_turns.Goals as goal

pub loop-rest-init : goal.loop-rest-init
loop-rest-init c = record { goes = λ operations are. record { left = operations; brought = are; are = refl }; len = omega arith; capacity = omega arith }

pub put_writes-requires : goal.put_writes-requires
put_writes-requires c =
    let all : length c.loop-rest.rest.now ≡ length c.first_turn.result.0.now + length c.first_turn.result.1.now = ap length c.first_turn.ensures.parts ∙ length-append c.first_turn.result.0.now c.first_turn.result.1.now in
    let len = c.loop-rest.invariant.len in
    let capacity = c.loop-rest.invariant.capacity in
    omega (arith, all, len, capacity, c.requires)

pub put_in_room-requires : goal.put_in_room-requires
put_in_room-requires c =
    let all : length c.loop-rest.rest.now ≡ length c.first_turn.result.0.now + length c.first_turn.result.1.now = ap length c.first_turn.ensures.parts ∙ length-append c.first_turn.result.0.now c.first_turn.result.1.now in
    let len = c.loop-rest.invariant.len in
    let capacity = c.loop-rest.invariant.capacity in
    let some = c.first_turn.ensures.turn.not_none in
    let put = c.put_writes.ensures.len in
    let more = c.put_writes.ensures.capacity in
    omega (arith, all, len, capacity, some, put, more, c.requires)

pub loop-rest-preserved : goal.loop-rest-preserved
loop-rest-preserved c =
    let all : length c.loop-rest.rest.now ≡ length c.first_turn.result.0.now + length c.first_turn.result.1.now = ap length c.first_turn.ensures.parts ∙ length-append c.first_turn.result.0.now c.first_turn.result.1.now in
    let so = c.loop-rest.invariant in
    record {
      goes = λ operations are. left_on c.args.node c.loop-rest.rest.now c.first_turn.result.0.now c.first_turn.result.1.now c.args.items.now.items c.loop-rest.items.items c.put_writes.new.items.items
          c.put_in_room.new.items.items operations c.first_turn.ensures.parts c.first_turn.ensures.turn c.put_writes.ensures.put c.put_in_room.ensures.put (so.goes operations are);
      len = let len = so.len in let some = c.first_turn.ensures.turn.not_none in let put = c.put_writes.ensures.len in let one = c.put_in_room.ensures.len in omega (arith, all, len, some, put, one);
      capacity = let before = so.capacity in let put = c.put_writes.ensures.capacity in let one = c.put_in_room.ensures.capacity in omega (arith, before, put, one);
    }

pub loop-rest-smaller : goal.loop-rest-smaller
loop-rest-smaller c =
    let all : length c.loop-rest.rest.now ≡ length c.first_turn.result.0.now + length c.first_turn.result.1.now = ap length c.first_turn.ensures.parts ∙ length-append c.first_turn.result.0.now c.first_turn.result.1.now in
    let some = c.first_turn.ensures.turn.not_none in
    omega (arith, all, some)

pub returns-clause-put : goal.returns-clause-put
returns-clause-put c operations are =
    left_none c.args.node c.loop-rest.rest.now c.args.items.now.items c.loop-rest.items.items operations (nothing c.loop-rest.rest.now (search rules)) (c.loop-rest.invariant.goes operations are)
