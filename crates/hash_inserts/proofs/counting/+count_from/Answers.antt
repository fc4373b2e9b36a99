use Rattle.std.proofs.Common.{◌≡◌, ◌∙◌, ◌+◌, ◌*◌, ◌^◌, ◌≤◌, inr, false, length, refl, sym, ap, subst, arith}
use Rattle.std.specs.Prelude.{◌||◌}
use Rattle.gfs2_layout.specs.Area.{slots_of}
use Rattle.gfs2_layout.specs.Inode.{leaf_length}
use Rattle.table_changes.specs.Tables.{doubling_need}
use Rattle.hash_steps.specs.Leaves.{has_room_for}
use Rattle.hash_inserts.specs.Counting.{chain_with}
use Rattle.hash_inserts.specs.Needing.{Needs, a_doubling, a_leaf, a_split, is_full, nothing}
use Rattle.hash_inserts.proofs.Counted.{doubled_is, not_below, split_is}
use Rattle.hash_inserts.proofs.counting.+count_from.Goals as goal

pub returns-then-area_has_room-clause-needs : goal.returns-then-area_has_room-clause-needs
returns-then-area_has_room-clause-needs t c =
    let same = c.area_has_room.ensures ∙ ap (λ a. has_room_for c.args.len (slots_of a)) c.deref.ensures.value in
    nothing (chain_with (length c.args.area.items + leaf_length) c.args.one (slots_of c.args.area.items)) (ap (λ b. b || false) (sym same ∙ c.if-area_has_room.true))

pub returns-then-one-clause-needs : goal.returns-then-one-clause-needs
returns-then-one-clause-needs t c =
    let area = c.args.area.items in
    let chain = chain_with (length c.args.area.items + leaf_length) c.args.one (slots_of c.args.area.items) in
    let same = c.area_has_room.ensures ∙ ap (λ a. has_room_for c.args.len (slots_of a)) c.deref.ensures.value in
    let full : is_full c.args.len chain = ap (λ b. b || false) (sym same ∙ c.if-area_has_room.false) in
    a_split chain (slots_of area) c.in_ok-rest.rest full refl c.if-one.true
    (subst (λ k. Needs c.args.len c.args.hash k c.in_ok-rest.rest) (split_is c.args.hash c.args.one area c.in_ok-half.half.items c.in_ok-half.ensures.size c.in_ok-half.ensures.slots) c.in_ok-rest.ensures.needs)

pub returns-then-may_double-clause-needs : goal.returns-then-may_double-clause-needs
returns-then-may_double-clause-needs t c =
    let area = c.args.area.items in
    let one = c.args.one in
    let chain = chain_with (length c.args.area.items + leaf_length) c.args.one (slots_of c.args.area.items) in
    let same = c.area_has_room.ensures ∙ ap (λ a. has_room_for c.args.len (slots_of a)) c.deref.ensures.value in
    let full : is_full c.args.len chain = ap (λ b. b || false) (sym same ∙ c.if-area_has_room.false) in
    let size : c.len-size.result + 104 ≡ length c.args.area.items + leaf_length = omega (arith, c.len-size.ensures, c.args.area.ok) in
    let may : 2 * 2 ^ one.table ≤ 8 * (length c.args.area.items + leaf_length) = subst (λ n. 2 * 2 ^ one.table ≤ 8 * n) size (c.may_double.ensures.0 c.if-may_double.true) in
    let need : doubling_need (length c.args.area.items + leaf_length) one.height (2 ^ one.table) ≡ c.doubling_need-need.result = sym (c.doubling_need-need.ensures.value ∙ ap (λ n. doubling_need n one.height (2 ^ one.table)) size) in
    subst (λ n. Needs c.args.len c.args.hash chain (c.in_ok-rest-2.rest + n)) need
    (a_doubling chain (slots_of area) c.in_ok-rest-2.rest full refl c.if-one.false may
    (subst (λ k. Needs c.args.len c.args.hash k c.in_ok-rest-2.rest) (doubled_is c.args.hash one area c.doubled.result (c.len-size.result + 104) size c.doubled.ensures) c.in_ok-rest-2.ensures.needs))

pub returns-clause-needs : goal.returns-clause-needs
returns-clause-needs t c =
    let one = c.args.one in
    let chain = chain_with (length c.args.area.items + leaf_length) c.args.one (slots_of c.args.area.items) in
    let same = c.area_has_room.ensures ∙ ap (λ a. has_room_for c.args.len (slots_of a)) c.deref.ensures.value in
    let full : is_full c.args.len chain = ap (λ b. b || false) (sym same ∙ c.if-area_has_room.false) in
    let size : c.len-size.result + 104 ≡ length c.args.area.items + leaf_length = omega (arith, c.len-size.ensures, c.args.area.ok) in
    a_leaf chain full (inr (c.if-one.false, λ may. not_below (2 * 2 ^ one.table) (8 * (c.len-size.result + 104)) c.may_double.result c.may_double.ensures.1 c.if-may_double.false (subst (λ n. 2 * 2 ^ one.table ≤ 8 * n) (sym size) may)))
