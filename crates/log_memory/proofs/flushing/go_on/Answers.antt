use Rattle.std.proofs.Common.{◌≡◌, ◌<◌, ap, subst, ◌∙◌, arith}
use Rattle.log_values.specs.Log.Stage.{Writing}
use Rattle.log_memory.proofs.flushing.go_on.Goals as goal

pub write_block-requires-clause-there : goal.write_block-requires-clause-there
write_block-requires-clause-there c =
    let at = c.requires.at in
    record { flush = at.flush; begun = at.begun; inside = subst (λ n. c.args.index < n) (c.chunk_count.ensures.count at.flush at.begun) c.if-index-chunk_count.true }

pub make_barrier-requires : goal.make_barrier-requires
make_barrier-requires c =
    let at = c.requires.at in
    let reached = c.chunk_count.ensures.reached at.flush c.args.index at.begun at.at in
    let all : c.args.index ≡ c.chunk_count.result = omega (arith, reached, c.if-index-chunk_count.false) in
    record { flush = at.flush; begun = at.begun; at = at.at ∙ ap Writing (all ∙ c.chunk_count.ensures.count at.flush at.begun) }
