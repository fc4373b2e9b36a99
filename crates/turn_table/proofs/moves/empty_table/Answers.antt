use Rattle.std.proofs.Common.{◌≡◌, ℕ, ◌+◌, ◌<◌, Some, map, sym, ap, ◌∙◌, subst, arith, length, get_or-set_other, take, false, get_or, ◌≤◌, ◌++◌, ◌∷◌, [], vec_capacity}
use lib.ListN.{get_elem?}
use Rattle.std.proofs.lemmas.List.{map-append}
use Rattle.std.specs.Mem.Slots.{slots_items, slots_filled, slots_len, slots_counts}
use Rattle.turn_table.proofs.Filling.{at_full, take_next, emptied_to}
use Rattle.turn_table.proofs.moves.empty_table.Goals as goal

pub unreachable-requires : goal.unreachable-requires
unreachable-requires g c =
    let inv = c.loop-i.invariant in
    let full = at_full c.requires.full.0 c.loop-i.i c.take.result (ap (λ l. get_elem? l c.loop-i.i) (sym (inv.same ∙ c.requires.full.1)) ∙ c.take.ensures.value) in
    let is = full.1 in let none = c.in-None.is in cc

pub loop-i-preserved : goal.loop-i-preserved
loop-i-preserved g c =
    let inv = c.loop-i.invariant in
    let took = c.in-Some.ensures in
    let pushed = c.push_reserved.ensures in
    let i : ℕ = c.loop-i.i in
    let count : slots_len c.loop-i.closed.slots ≡ length (slots_filled c.loop-i.closed.slots) = (slots_counts c.loop-i.closed.slots).1 in
    let size = inv.size in
    let all = c.slot_count-i-end.ensures in
    let near : i < length (slots_filled c.loop-i.closed.slots) = omega arith in
    record {
      same = took.others.0 ∙ inv.same;
      moved = ap (map Some) pushed.items ∙ (map-append Some c.loop-i.parts.items _
          ∙ (ap (λ l. l ++ Some c.in-Some.value ∷ []) inv.moved ∙ (sym (take_next _ i _ took.value) ∙ ap (take (i + 1)) (sym took.others.0))));
      count = (let a = pushed.len in let b = inv.count in omega arith);
      room = subst (λ n. n ≤ vec_capacity c.push_reserved.new.self) (ap length (sym took.others.0)) (subst (λ n. length (slots_items c.loop-i.closed.slots) ≤ n) (sym pushed.capacity) inv.room);
      taken = λ k below. ap (λ l. get_or l k false) took.others.1 ∙ emptied_to (slots_filled c.loop-i.closed.slots) i near inv.taken k below;
      left = λ k above below. ap (λ l. get_or l k false) took.others.1
          ∙ (get_or-set_other (slots_filled c.loop-i.closed.slots) i k false false (λ e. omega arith) ∙ inv.left k (omega arith) (subst (λ n. k < n) took.others.2 below));
      size = took.others.2 ∙ inv.size;
    }
