use Rattle.std.proofs.Common.{refl, arith, true≢false, ◌<◌, length}
use Rattle.std.proofs.lemmas.List.{get_or_read}
use Rattle.frame_pool.proofs.Pooling.{all_out, some_in, takes}
use Rattle.frame_pool.proofs.pool.Pool.take.Goals as goal

pub returns-then-self-len-clause-none : goal.returns-then-self-len-clause-none
returns-then-self-len-clause-none c = (λ e. all_out c.self.inside c.self.invariant _ c.self.view_is (omega arith), λ all. refl)

pub returns-clause-none : goal.returns-clause-none
returns-clause-none c = (λ e. absurd (true≢false e), λ all. absurd (some_in c.self.inside c.self.invariant _ c.self.view_is (omega arith) all))

pub returns-clause-taken : goal.returns-clause-taken
returns-clause-taken c =
    let there : c.self.inside.out < length c.self.inside.order.items = omega (arith, c.self.inside.order.ok.0) in
    takes c.self.inside c.self.invariant _ c.self.view_is (omega arith) c.index-number.result.now
    (get_or_read c.self.inside.order.items c.self.inside.out c.index-number.result.now there c.index-number.ensures 0)
