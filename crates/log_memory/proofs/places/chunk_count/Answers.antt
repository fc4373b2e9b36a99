use Rattle.std.proofs.Common.{◌+◌, ◌≤◌, sym, subst, arith}
use Rattle.log_values.specs.Flushing.{free_in}
use Rattle.log_values.specs.Sound.{IsSoundLog}
use Rattle.log_memory.proofs.Counts.{chunks_counted, chunks_free, few_blocks}
use Rattle.log_memory.proofs.places.chunk_count.Goals as goal

pub overflow_cast-content : goal.overflow_cast-content
overflow_cast-content c = let few = few_blocks c.log.inside c.log.invariant in omega (arith, few.0, c.len-content.ensures)

pub overflow_cast-metadata : goal.overflow_cast-metadata
overflow_cast-metadata c = let few = few_blocks c.log.inside c.log.invariant in omega (arith, few.0, c.len-metadata.ensures)

pub overflow_cast-revokes : goal.overflow_cast-revokes
overflow_cast-revokes c = let few = few_blocks c.log.inside c.log.invariant in omega (arith, few.1, c.len-revokes.ensures)

pub size_with-requires-clause-few : goal.size_with-requires-clause-few
size_with-requires-clause-few c = let few = few_blocks c.log.inside c.log.invariant in omega (arith, few.0, few.1, c.len-content.ensures, c.len-metadata.ensures, c.len-revokes.ensures)

pub returns-clause-count : goal.returns-clause-count
returns-clause-count c = chunks_counted c.log.inside c.log.invariant c.len-content.result c.len-metadata.result c.len-revokes.result c.size_with.result c.len-content.ensures c.len-metadata.ensures c.len-revokes.ensures c.size_with.ensures c.args.log.now c.log.view_is

pub returns-clause-free : goal.returns-clause-free
returns-clause-free c = λ f is.
    let count = chunks_counted c.log.inside c.log.invariant c.len-content.result c.len-metadata.result c.len-revokes.result c.size_with.result c.len-content.ensures c.len-metadata.ensures c.len-revokes.ensures c.size_with.ensures c.args.log.now c.log.view_is f is in
    let free = chunks_free c.log.inside c.log.invariant c.args.log.now c.log.view_is f is in
    subst (λ n. n + 1 ≤ free_in c.args.log.now) (sym count) free

pub returns-clause-reached : goal.returns-clause-reached
returns-clause-reached c = λ f done is at.
    let count = chunks_counted c.log.inside c.log.invariant c.len-content.result c.len-metadata.result c.len-revokes.result c.size_with.result c.len-content.ensures c.len-metadata.ensures c.len-revokes.ensures c.size_with.ensures c.args.log.now c.log.view_is f is in
    let sound : IsSoundLog c.args.log.now = subst IsSoundLog c.log.view_is c.log.invariant.sound in
    subst (λ n. done ≤ n) (sym count) (sound.reached f done is at)
