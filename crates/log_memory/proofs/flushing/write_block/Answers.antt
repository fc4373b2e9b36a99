use Rattle.std.proofs.Common.{◌+◌, arith}
use Rattle.log_values.specs.Log.Stage.{Writing}
use Rattle.log_values.specs.declared.steps.LogStep.TheVariants as step
use Rattle.log_memory.specs.declared.kinds.Stage.TheVariants as held
use Rattle.log_memory.proofs.Chunks.{chunk_free, chunk_small}
use Rattle.log_memory.proofs.Stages.{is_at, step_stays, stepped, writes}
use Rattle.log_memory.proofs.flushing.write_block.Goals as goal

pub place-requires : goal.place-requires
place-requires c = chunk_free c.log.inside c.log.invariant c.args.log.now c.args.index c.log.view_is c.requires.there

pub overflow_add-log : goal.overflow_add-log
overflow_add-log c = let small = chunk_small c.log.inside c.log.invariant c.args.log.now c.args.index c.log.view_is c.requires.there in omega arith

pub invariant_of-log : goal.invariant_of-log
invariant_of-log c =
    let f = c.requires.at.flush in
    let begun = c.requires.at.begun in
    step_stays c.log.inside c.log.invariant c.args.log.now c.log.view_is f begun (held.Writing (c.args.index + 1)) c.put_chunk.new.into (step.Write c.block_of-block.result)
    (writes c.args.log.now f c.args.index c.put_chunk.new.into c.place.result c.block_of-block.result (is_at c.args.log.now (Writing c.args.index) c.requires.at f begun) (c.put_chunk.ensures f begun)
    c.place.ensures.value c.block_of-block.ensures)

pub returns : goal.returns
returns c = λ f begun.
    stepped c.log.inside c.log.invariant c.args.log.now c.log.view_is f begun (held.Writing (c.args.index + 1)) c.put_chunk.new.into (step.Write c.block_of-block.result)
    (writes c.args.log.now f c.args.index c.put_chunk.new.into c.place.result c.block_of-block.result (is_at c.args.log.now (Writing c.args.index) c.requires.at f begun) (c.put_chunk.ensures f begun)
    c.place.ensures.value c.block_of-block.ensures)
