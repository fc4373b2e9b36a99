use Rattle.std.proofs.Common.{length, ap, ◌∙◌}
use Rattle.node_journal.specs.Places.{place_on}
use Rattle.log_values.specs.Log.Stage.{Ending}
use Rattle.log_values.specs.Flushing.{first_place}
use Rattle.log_values.specs.declared.steps.LogStep.TheVariants as step
use Rattle.log_memory.specs.declared.kinds.Stage.TheVariants as held
use Rattle.log_memory.proofs.Stages.{heads, is_at, step_stays, stepped}
use Rattle.log_memory.proofs.flushing.write_head.Goals as goal

pub invariant_of-log : goal.invariant_of-log
invariant_of-log c =
    let log = c.args.log.now in
    let f = c.requires.at.flush in
    let begun = c.requires.at.begun in
    let head_is = c.place-head.ensures.value ∙ ap (place_on log.journal.length (first_place log)) (c.chunk_count.ensures.count f begun) in
    step_stays c.log.inside c.log.invariant log c.log.view_is f begun (held.Headed c.tail_of-tail.result) c.put_header.new.into (step.Head c.place_with-at.result.head_addr c.place_with-at.result.sequence)
    (heads log f c.place-head.result c.tail_of-tail.result (length c.args.into.now) c.place_with-at.result c.put_header.new.into (is_at log Ending c.requires.at f begun) head_is (c.tail_of-tail.ensures f begun)
    (c.place_with-at.ensures f begun head_is) c.put_header.ensures.bytes c.requires.size)

pub returns : goal.returns
returns c = λ f begun.
    let log = c.args.log.now in
    let head_is = c.place-head.ensures.value ∙ ap (place_on log.journal.length (first_place log)) (c.chunk_count.ensures.count f begun) in
    stepped c.log.inside c.log.invariant log c.log.view_is f begun (held.Headed c.tail_of-tail.result) c.put_header.new.into (step.Head c.place_with-at.result.head_addr c.place_with-at.result.sequence)
    (heads log f c.place-head.result c.tail_of-tail.result (length c.args.into.now) c.place_with-at.result c.put_header.new.into (is_at log Ending c.requires.at f begun) head_is (c.tail_of-tail.ensures f begun)
    (c.place_with-at.ensures f begun head_is) c.put_header.ensures.bytes c.requires.size)
