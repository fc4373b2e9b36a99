use Rattle.std.proofs.Common.{rules, ◌≡◌, [], sym, ◌∙◌, arith}
use Rattle.turn_table.proofs.Filling.{last_full, shifted, turned}
use Rattle.turn_table.proofs.moves.empty_slots.Goals as goal

pub loop-slot-preserved : goal.loop-slot-preserved
loop-slot-preserved g c =
    let inv = c.loop-slot.invariant in
    let was = c.in-Some.ensures in
    let last = last_full inv.full.0 c.pop.new.self.items c.in-Some.slot (sym was.items ∙ inv.full.1) in
    record {
      moved = shifted _ _ _ c.in-Some.slot c.in-Some-slot.value _ _ was.items c.in-Some-slot.is inv.moved c.push_reserved.ensures.items;
      full = (last.0, last.2);
      room = (let a = inv.room in let b = was.len in let d = c.push_reserved.ensures.len in let e = c.push_reserved.ensures.capacity in omega arith);
    }

pub unreachable-requires : goal.unreachable-requires
unreachable-requires g c =
    let inv = c.loop-slot.invariant in
    let last = last_full inv.full.0 c.pop.new.self.items c.in-Some.slot (sym c.in-Some.ensures.items ∙ inv.full.1) in
    let is = last.3 in let none = c.in-None.is in cc

pub returns : goal.returns
returns g c =
    let inv = c.loop-slot.invariant in
    let last = c.in_default.ensures in
    let none : c.loop-slot.slots.items ≡ [] = search (rules, last) in
    record { parts = turned _ _ c.loop-slot.parts.items _ none inv.moved c.reverse.ensures.items }
