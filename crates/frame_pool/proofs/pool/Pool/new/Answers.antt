use Rattle.std.proofs.Common.{refl}
use Rattle.frame_pool.proofs.Pooling.{none_out}
use Rattle.frame_pool.proofs.pool.Pool.new.Goals as goal

pub returns : goal.returns
returns c =
    let none = none_out (record { region = c.in_ok-region.region; size = c.args.size; order = c.in_ok-order.order; place = c.in_ok-place.place; out = 0 }) refl in
    λ i. record { count = c.in_ok-order.ensures.count i; size = c.args.size; out = none i }
