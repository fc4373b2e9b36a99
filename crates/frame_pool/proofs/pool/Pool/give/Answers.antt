use Rattle.std.proofs.Common.{◌≡◌, ◌-◌, ◌∙◌, get_or, refl, arith}
use Rattle.std.proofs.lemmas.List.{get_or_read}
use Rattle.frame_pool.specs.Frames.{after_give}
use Rattle.frame_pool.proofs.Pooling.{out_inside, given_ok, given_frames}
use Rattle.frame_pool.proofs.pool.Pool.give.Goals as goal

pub overflow_sub-last : goal.overflow_sub-last
overflow_sub-last c = omega (arith, out_inside c.self.inside c.args.frame c.args.frame _ c.self.view_is refl c.requires)

pub index-requires : goal.index-requires
index-requires c = omega (arith, out_inside c.self.inside c.frame.inside.number _ _ c.self.view_is c.frame.view_is c.requires)

pub index-moved-requires : goal.index-moved-requires
index-moved-requires c = omega (arith, out_inside c.self.inside c.frame.inside.number _ _ c.self.view_is c.frame.view_is c.requires)

pub swap-requires-clause-i_in_bounds : goal.swap-requires-clause-i_in_bounds
swap-requires-clause-i_in_bounds c =
    let out = out_inside c.self.inside c.frame.inside.number _ _ c.self.view_is c.frame.view_is c.requires in
    let at : c.index.result.now ≡ get_or c.self.inside.place.items c.frame.inside.number 0 =
    get_or_read c.self.inside.place.items c.frame.inside.number c.index.result.now (omega (arith, out, c.self.inside.place.ok.0)) c.index.ensures 0 in
    let moved : c.index-moved.result.now ≡ get_or c.self.inside.order.items (c.self.inside.out - 1) 0 =
    get_or_read c.self.inside.order.items (c.self.inside.out - 1) c.index-moved.result.now (omega (arith, out, c.self.inside.order.ok.0)) c.index-moved.ensures 0 in
    omega (arith, out.1, at, c.self.invariant.some_out)

pub swap-requires-clause-j_in_bounds : goal.swap-requires-clause-j_in_bounds
swap-requires-clause-j_in_bounds c = omega (arith, out_inside c.self.inside c.frame.inside.number _ _ c.self.view_is c.frame.view_is c.requires)

pub swap-requires-2-clause-i_in_bounds : goal.swap-requires-2-clause-i_in_bounds
swap-requires-2-clause-i_in_bounds c = omega (arith, out_inside c.self.inside c.frame.inside.number _ _ c.self.view_is c.frame.view_is c.requires)

pub swap-requires-2-clause-j_in_bounds : goal.swap-requires-2-clause-j_in_bounds
swap-requires-2-clause-j_in_bounds c =
    let out = out_inside c.self.inside c.frame.inside.number _ _ c.self.view_is c.frame.view_is c.requires in
    let at : c.index.result.now ≡ get_or c.self.inside.place.items c.frame.inside.number 0 =
    get_or_read c.self.inside.place.items c.frame.inside.number c.index.result.now (omega (arith, out, c.self.inside.place.ok.0)) c.index.ensures 0 in
    let moved : c.index-moved.result.now ≡ get_or c.self.inside.order.items (c.self.inside.out - 1) 0 =
    get_or_read c.self.inside.order.items (c.self.inside.out - 1) c.index-moved.result.now (omega (arith, out, c.self.inside.order.ok.0)) c.index-moved.ensures 0 in
    omega (arith, (c.self.invariant.stands (c.self.inside.out - 1) (omega (arith, out))).0, moved, c.self.invariant.placed)

pub overflow_sub-self : goal.overflow_sub-self
overflow_sub-self c = omega (arith, out_inside c.self.inside c.frame.inside.number _ _ c.self.view_is c.frame.view_is c.requires)

pub invariant_of-self : goal.invariant_of-self
invariant_of-self c =
    let out = out_inside c.self.inside c.frame.inside.number _ _ c.self.view_is c.frame.view_is c.requires in
    let at : c.index.result.now ≡ get_or c.self.inside.place.items c.frame.inside.number 0 =
    get_or_read c.self.inside.place.items c.frame.inside.number c.index.result.now (omega (arith, out, c.self.inside.place.ok.0)) c.index.ensures 0 in
    let moved : c.index-moved.result.now ≡ get_or c.self.inside.order.items (c.self.inside.out - 1) 0 =
    get_or_read c.self.inside.order.items (c.self.inside.out - 1) c.index-moved.result.now (omega (arith, out, c.self.inside.order.ok.0)) c.index-moved.ensures 0 in
    given_ok c.self.inside (record { region = c.self.inside.region; size = c.self.inside.size; order = c.swap.new.self; place = c.swap-2.new.self; out = c.self.inside.out - 1 })
    c.self.invariant c.frame.inside.number c.index.result.now c.index-moved.result.now out.0 out.1 at moved c.swap.ensures.by_index c.swap-2.ensures.by_index
    c.swap.ensures.len c.swap-2.ensures.len refl refl refl

pub returns : goal.returns
returns c =
    let out = out_inside c.self.inside c.frame.inside.number _ _ c.self.view_is c.frame.view_is c.requires in
    let at : c.index.result.now ≡ get_or c.self.inside.place.items c.frame.inside.number 0 =
    get_or_read c.self.inside.place.items c.frame.inside.number c.index.result.now (omega (arith, out, c.self.inside.place.ok.0)) c.index.ensures 0 in
    let moved : c.index-moved.result.now ≡ get_or c.self.inside.order.items (c.self.inside.out - 1) 0 =
    get_or_read c.self.inside.order.items (c.self.inside.out - 1) c.index-moved.result.now (omega (arith, out, c.self.inside.order.ok.0)) c.index-moved.ensures 0 in
    given_frames c.self.inside (record { region = c.self.inside.region; size = c.self.inside.size; order = c.swap.new.self; place = c.swap-2.new.self; out = c.self.inside.out - 1 })
    c.self.invariant c.frame.inside.number c.index.result.now c.index-moved.result.now out.0 out.1 at moved c.swap.ensures.by_index c.swap-2.ensures.by_index
    c.swap.ensures.len c.swap-2.ensures.len refl refl refl
    ∙ (λ i. after_give (c.self.view_is i) (c.frame.view_is i))
