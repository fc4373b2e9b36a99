use Rattle.std.proofs.Common.{◌<◌, ◌∙◌, ap, length, ltb, arith}
use Rattle.std.proofs.lemmas.List.{get_or_read}
use Rattle.frame_pool.proofs.Pooling.{out_test, past_test}
use Rattle.frame_pool.proofs.pool.Pool.is_out.Goals as goal

pub returns-then-number-len : goal.returns-then-number-len
returns-then-number-len c = past_test c.self.inside c.frame.inside.number _ _ c.self.view_is c.frame.view_is (omega arith)

pub returns : goal.returns
returns c =
    let within : c.frame.inside.number < length c.self.inside.place.items = omega (arith, c.self.inside.place.ok.0) in
    ap (λ k. ltb k c.self.inside.out) (get_or_read c.self.inside.place.items c.frame.inside.number c.index.result.now within c.index.ensures 0)
    ∙ out_test c.self.inside c.frame.inside.number _ _ c.self.view_is c.frame.view_is (omega arith)
