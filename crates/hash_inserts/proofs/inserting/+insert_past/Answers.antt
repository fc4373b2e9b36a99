use Rattle.std.proofs.Common.{◌≡◌, ◌⊎◌, ◌∙◌, ◌+◌, ◌-◌, ◌*◌, ◌^◌, ◌<◌, ◌≤◌, ℕ, inl, inr, Bool, true, false, Some, drop, length, sym, ap, subst, arith}
use Rattle.std.proofs.lemmas.Bool.{true≢false}
use Rattle.drafts.specs.Fates.{seen_in}
use Rattle.gfs2_layout.specs.Area.{slots_of}
use Rattle.gfs2_layout.specs.Holding.{bytes_at}
use Rattle.gfs2_layout.specs.Inode.{depth_in, leaf_area, leaf_length, table_count}
use Rattle.gfs2_layout.specs.Structures.{leaf_of}
use Rattle.image_model.proofs.Held.{none_some}
use Rattle.hash_steps.specs.Leaves.{has_room_for}
use Rattle.hash_inserts.specs.Advancing.{IsFullLeaf}
use Rattle.hash_inserts.specs.Inserting.{depth_for}
use Rattle.hash_inserts.proofs.Past.{at_head, ends_there, full_before, leaf_low, on_before, one_number, seen_block, seen_bytes, sees_own, some_at, some_of, table_low}
use Rattle.hash_inserts.proofs.SplitOn.{none_has_room}
use Rattle.hash_inserts.proofs.inserting.+insert_past.Goals as goal

pub returns-then-steps-eq0-clause-put : goal.returns-then-steps-eq0-clause-put
returns-then-steps-eq0-clause-put g t c h need can shows at full enough =
    absurd (omega (arith, enough, c.if-steps-eq0.true, leaf_low _ c.args.dir h c.args.name.now c.args.room.now.items need c.args.leaf can at, table_low _ c.args.dir h c.args.name.now c.args.room.now.items need c.args.leaf can at))

pub returns-in_default-clause-put : goal.returns-in_default-clause-put
returns-in_default-clause-put g t c h need can shows at full enough =
    absurd (c.in_default.not-Some _ (c.depth_in.ensures at.there.0 at.there.1 (seen_block _ c.args.dir h c.args.name.now c.args.room.now.items need c.args.leaf can at)))

pub returns-in_default-2-clause-put : goal.returns-in_default-2-clause-put
returns-in_default-2-clause-put g t c h need can shows at full enough =
    let v = seen_in g.V.View.seen c.args.draft.now in
    let name = c.args.name.now in
    let room = c.args.room.now.items in
    let leaf = c.args.leaf in
    let bytes = seen_bytes v c.args.dir h name room need leaf can at in
    let block = seen_block v c.args.dir h name room need leaf can at in
    let depth : c.in-Some.depth ≡ depth_for h name = one_number c.in-Some.depth _ (sym c.in-Some.is ∙ c.depth_in.ensures at.there.0 at.there.1 block) ∙ ap (λ y. (leaf_of y).depth) (sym bytes ∙ ap (bytes_at h) at.leaf_is) in
    let deep : c.depth-deep.result ≡ depth_in h = c.depth-deep.ensures.value ∙ g.met.T.PointerTable.deep_in c.args.table.now v h shows in
    let less : depth_for h name < depth_in h = omega (arith, depth, deep, c.if-depth-deep.true) in
    let next = some_of c.in_ok-half.field-0 _ (c.in_ok-half.ensures.split h need can shows at full depth less) in
    absurd (c.in_default-2.not-Some next.0 next.1)

pub returns-then-not-done-clause-put : goal.returns-then-not-done-clause-put
returns-then-not-done-clause-put g t c h need can shows at full enough =
    let v = seen_in g.V.View.seen c.args.draft.now in
    let name = c.args.name.now in
    let room = c.args.room.now.items in
    let leaf = c.args.leaf in
    let bytes = seen_bytes v c.args.dir h name room need leaf can at in
    let block = seen_block v c.args.dir h name room need leaf can at in
    let depth : c.in-Some.depth ≡ depth_for h name = one_number c.in-Some.depth _ (sym c.in-Some.is ∙ c.depth_in.ensures at.there.0 at.there.1 block) ∙ ap (λ y. (leaf_of y).depth) (sym bytes ∙ ap (bytes_at h) at.leaf_is) in
    let deep : c.depth-deep.result ≡ depth_in h = c.depth-deep.ensures.value ∙ g.met.T.PointerTable.deep_in c.args.table.now v h shows in
    let deepest : depth_for h name ≡ depth_in h = omega (arith, depth, deep, c.if-depth-deep.false, leaf_low v c.args.dir h name room need leaf can at) in
    let size : c.block_size-size.result ≡ h.size = c.block_size-size.ensures.value ∙ sym can.shown.inode.size in
    let may : 2 * table_count h ≤ 8 * h.size = subst (λ n. 2 * 2 ^ n ≤ 8 * h.size) deep (subst (λ n. 2 * 2 ^ c.depth-deep.result ≤ 8 * n) size (c.may_double.ensures.0 c.if-may_double.true)) in
    absurd (true≢false (sym (c.in_ok-done.ensures.doubled h need can shows at full deepest may).0 ∙ c.if-not-done.true))

pub returns-in-Some-true-clause-put : goal.returns-in-Some-true-clause-put
returns-in-Some-true-clause-put g t c h need can shows at full enough =
    let seen = g.V.View.seen in
    let v = seen_in seen c.args.draft.now in
    let name = c.args.name.now in
    let room = c.args.room.now.items in
    let leaf = c.args.leaf in
    let bytes = seen_bytes v c.args.dir h name room need leaf can at in
    let block = seen_block v c.args.dir h name room need leaf can at in
    let depth : c.in-Some.depth ≡ depth_for h name = one_number c.in-Some.depth _ (sym c.in-Some.is ∙ c.depth_in.ensures at.there.0 at.there.1 block) ∙ ap (λ y. (leaf_of y).depth) (sym bytes ∙ ap (bytes_at h) at.leaf_is) in
    let deep : c.depth-deep.result ≡ depth_in h = c.depth-deep.ensures.value ∙ g.met.T.PointerTable.deep_in c.args.table.now v h shows in
    let less : depth_for h name < depth_in h = omega (arith, depth, deep, c.if-depth-deep.true) in
    let half = c.in-Some-2.half in
    let on = some_at c.in_ok-half.field-0 half _ c.in-Some-2.is (c.in_ok-half.ensures.split h need can shows at full depth less) in
    let m = on.0 in
    let step = on.2 in
    let w = seen_in seen c.split_on.new.draft in
    let between = c.split_on.new.room.items in
    let bytes_m = seen_bytes w c.args.dir m name between step.rest half step.can step.at in
    let block_m = seen_block w c.args.dir m name between step.rest half step.can step.at in
    let room_m : has_room_for (length name) (slots_of (leaf_area m half)) ≡ true = ap (λ y. has_room_for (length name) (slots_of (drop leaf_length y))) bytes_m
    ∙ one_bool _ c.in-Some-true.field-0 (sym (c.has_room_in.ensures step.at.there.0 step.at.there.1 block_m) ∙ c.in-Some-true.is) ∙ c.in-Some-true.field-0-test in
    on_before c.exchanges_join.ensures (seen c.args.draft.now.view) w (seen_in seen c.put_with_room.new.draft) c.args.draft.now.fates c.split_on.new.draft.fates c.put_with_room.new.draft.fates room between between c.args.dir name c.args.entry need half h m step
    (λ k. g.T.PointerTable.shows c.split_on.new.table (seen_in seen c.put_with_room.new.draft) k) c.put_with_room.result
    (c.put_with_room.ensures.put m between step.rest 0 step.can on.1 (at_head w c.args.dir m name between step.rest half step.can step.at) (full_before w c.args.dir m name between step.rest half step.can step.at (length name)) room_m step.at.there
    (sees_own w c.args.dir m name between step.rest half step.can step.at))
  where
    one_bool : (x y : Bool) → Some x ≡ Some y → x ≡ y
    one_bool x y e = cc

pub returns-in-Some-false-clause-put : goal.returns-in-Some-false-clause-put
returns-in-Some-false-clause-put g t c h need can shows at full enough =
    let seen = g.V.View.seen in
    let v = seen_in seen c.args.draft.now in
    let name = c.args.name.now in
    let room = c.args.room.now.items in
    let leaf = c.args.leaf in
    let bytes = seen_bytes v c.args.dir h name room need leaf can at in
    let block = seen_block v c.args.dir h name room need leaf can at in
    let depth : c.in-Some.depth ≡ depth_for h name = one_number c.in-Some.depth _ (sym c.in-Some.is ∙ c.depth_in.ensures at.there.0 at.there.1 block) ∙ ap (λ y. (leaf_of y).depth) (sym bytes ∙ ap (bytes_at h) at.leaf_is) in
    let deep : c.depth-deep.result ≡ depth_in h = c.depth-deep.ensures.value ∙ g.met.T.PointerTable.deep_in c.args.table.now v h shows in
    let less : depth_for h name < depth_in h = omega (arith, depth, deep, c.if-depth-deep.true) in
    let half = c.in-Some-2.half in
    let on = some_at c.in_ok-half.field-0 half _ c.in-Some-2.is (c.in_ok-half.ensures.split h need can shows at full depth less) in
    let m = on.0 in
    let step = on.2 in
    let w = seen_in seen c.split_on.new.draft in
    let between = c.split_on.new.room.items in
    let bytes_m = seen_bytes w c.args.dir m name between step.rest half step.can step.at in
    let block_m = seen_block w c.args.dir m name between step.rest half step.can step.at in
    let full_m : IsFullLeaf m name half = ap (λ y. has_room_for (length name) (slots_of (drop leaf_length y))) bytes_m
    ∙ one_bool _ c.in-Some-false.field-0 (sym (c.has_room_in.ensures step.at.there.0 step.at.there.1 block_m) ∙ c.in-Some-false.is) ∙ c.in-Some-false.field-0-test in
    let enough_m : 31 ≤ (c.args.steps - 1) + (depth_for m name + depth_in m) = omega (arith, enough, step.deeper, c.if-steps-eq0.false) in
    on_before c.exchanges_join.ensures (seen c.args.draft.now.view) w (seen_in seen c.insert_past.new.draft) c.args.draft.now.fates c.split_on.new.draft.fates c.insert_past.new.draft.fates room between c.insert_past.new.room.items c.args.dir name c.args.entry need half h m step
    (λ k. g.T.PointerTable.shows c.insert_past.new.table (seen_in seen c.insert_past.new.draft) k) c.insert_past.result (c.insert_past.ensures.put m step.rest step.can on.1 step.at full_m enough_m)
  where
    one_bool : (x y : Bool) → Some x ≡ Some y → x ≡ y
    one_bool x y e = cc

pub returns-in-None-clause-put : goal.returns-in-None-clause-put
returns-in-None-clause-put g t c h need can shows at full enough =
    let seen = g.V.View.seen in
    let v = seen_in seen c.args.draft.now in
    let name = c.args.name.now in
    let room = c.args.room.now.items in
    let leaf = c.args.leaf in
    let bytes = seen_bytes v c.args.dir h name room need leaf can at in
    let block = seen_block v c.args.dir h name room need leaf can at in
    let depth : c.in-Some.depth ≡ depth_for h name = one_number c.in-Some.depth _ (sym c.in-Some.is ∙ c.depth_in.ensures at.there.0 at.there.1 block) ∙ ap (λ y. (leaf_of y).depth) (sym bytes ∙ ap (bytes_at h) at.leaf_is) in
    let deep : c.depth-deep.result ≡ depth_in h = c.depth-deep.ensures.value ∙ g.met.T.PointerTable.deep_in c.args.table.now v h shows in
    let less : depth_for h name < depth_in h = omega (arith, depth, deep, c.if-depth-deep.true) in
    let half = c.in-Some-2.half in
    let on = some_at c.in_ok-half.field-0 half _ c.in-Some-2.is (c.in_ok-half.ensures.split h need can shows at full depth less) in
    let step = on.2 in
    let block_m = seen_block (seen_in seen c.split_on.new.draft) c.args.dir on.0 name c.split_on.new.room.items step.rest half step.can step.at in
    absurd (none_some (sym c.in-None.is ∙ c.has_room_in.ensures step.at.there.0 step.at.there.1 block_m))

pub returns-else-not-done-clause-put : goal.returns-else-not-done-clause-put
returns-else-not-done-clause-put g t c h need can shows at full enough =
    let seen = g.V.View.seen in
    let v = seen_in seen c.args.draft.now in
    let name = c.args.name.now in
    let room = c.args.room.now.items in
    let leaf = c.args.leaf in
    let bytes = seen_bytes v c.args.dir h name room need leaf can at in
    let block = seen_block v c.args.dir h name room need leaf can at in
    let depth : c.in-Some.depth ≡ depth_for h name = one_number c.in-Some.depth _ (sym c.in-Some.is ∙ c.depth_in.ensures at.there.0 at.there.1 block) ∙ ap (λ y. (leaf_of y).depth) (sym bytes ∙ ap (bytes_at h) at.leaf_is) in
    let deep : c.depth-deep.result ≡ depth_in h = c.depth-deep.ensures.value ∙ g.met.T.PointerTable.deep_in c.args.table.now v h shows in
    let deepest : depth_for h name ≡ depth_in h = omega (arith, depth, deep, c.if-depth-deep.false, leaf_low v c.args.dir h name room need leaf can at) in
    let size : c.block_size-size.result ≡ h.size = c.block_size-size.ensures.value ∙ sym can.shown.inode.size in
    let may : 2 * table_count h ≤ 8 * h.size = subst (λ n. 2 * 2 ^ n ≤ 8 * h.size) deep (subst (λ n. 2 * 2 ^ c.depth-deep.result ≤ 8 * n) size (c.may_double.ensures.0 c.if-may_double.true)) in
    let done = c.in_ok-done.ensures.doubled h need can shows at full deepest may in
    let m = done.1.0 in
    let step = done.1.3 in
    let enough_m : 31 ≤ (c.args.steps - 1) + (depth_for m name + depth_in m) = omega (arith, enough, step.deeper, c.if-steps-eq0.false) in
    on_before c.exchanges_join.ensures (seen c.args.draft.now.view) (seen_in seen c.double_on.new.draft) (seen_in seen c.insert_past-then-may_double.new.draft) c.args.draft.now.fates c.double_on.new.draft.fates c.insert_past-then-may_double.new.draft.fates room c.double_on.new.room.items c.insert_past-then-may_double.new.room.items c.args.dir name c.args.entry need leaf h m step
    (λ k. g.T.PointerTable.shows c.insert_past-then-may_double.new.table (seen_in seen c.insert_past-then-may_double.new.draft) k) c.insert_past-then-may_double.result (c.insert_past-then-may_double.ensures.put m step.rest step.can done.1.1 step.at done.1.2 enough_m)

pub returns-else-may_double-clause-put : goal.returns-else-may_double-clause-put
returns-else-may_double-clause-put g t c h need can shows at full enough =
    let v = seen_in g.V.View.seen c.args.draft.now in
    let name = c.args.name.now in
    let room = c.args.room.now.items in
    let leaf = c.args.leaf in
    let bytes = seen_bytes v c.args.dir h name room need leaf can at in
    let block = seen_block v c.args.dir h name room need leaf can at in
    let depth : c.in-Some.depth ≡ depth_for h name = one_number c.in-Some.depth _ (sym c.in-Some.is ∙ c.depth_in.ensures at.there.0 at.there.1 block) ∙ ap (λ y. (leaf_of y).depth) (sym bytes ∙ ap (bytes_at h) at.leaf_is) in
    let deep : c.depth-deep.result ≡ depth_in h = c.depth-deep.ensures.value ∙ g.met.T.PointerTable.deep_in c.args.table.now v h shows in
    let deepest : depth_for h name ≡ depth_in h = omega (arith, depth, deep, c.if-depth-deep.false, leaf_low v c.args.dir h name room need leaf can at) in
    let size : c.block_size-size.result ≡ h.size = c.block_size-size.ensures.value ∙ sym can.shown.inode.size in
    let over : 8 * h.size < 2 * table_count h = subst (λ n. 8 * h.size < 2 * 2 ^ n) deep (subst (λ n. 8 * n < 2 * 2 ^ c.depth-deep.result) size (not_may _ _ c.may_double.result c.may_double.ensures.1 c.if-may_double.false)) in
    c.put_with_leaf.ensures.put h need 0 can shows (at_head v c.args.dir h name room need leaf can at) (ends_there v c.args.dir h name room need leaf can at) (none_has_room h name leaf at.leaf_is at.one full) (λ one. (deepest, over)) at.there
    (sees_own v c.args.dir h name room need leaf can at)
  where
    not_may : (a b : ℕ) (r : Bool) → (a ≤ b → r ≡ true) → r ≡ false → b < a
    not_may a b r holds fails = by (less_or a b)
      where
        less_or : (a b : ℕ) → (a ≤ b) ⊎ (b < a)
        less_or a b = grind arith

        by : (a ≤ b) ⊎ (b < a) → b < a
        by (inl le) = absurd (true≢false (sym (holds le) ∙ fails))
        by (inr more) = more
