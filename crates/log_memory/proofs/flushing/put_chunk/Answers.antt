use Rattle.std.proofs.Common.{length, sym, ap, ◌∙◌}
use Rattle.log_values.specs.Log.{LogValue}
use Rattle.log_memory.proofs.Chunks.{content_whole, few_content, few_metadata, few_revokes, metadata_whole}
use Rattle.log_memory.proofs.flushing.put_chunk.Goals as goal

pub put_block-requires-clause-few_content : goal.put_block-requires-clause-few_content
put_block-requires-clause-few_content c = few_content c.log.inside c.log.invariant c.deref.result.now 0 c.deref.ensures.value

pub put_block-requires-clause-few_metadata : goal.put_block-requires-clause-few_metadata
put_block-requires-clause-few_metadata c = few_metadata c.log.inside c.log.invariant c.deref-2.result.now 0 c.deref-2.ensures.value

pub put_block-requires-clause-few_revokes : goal.put_block-requires-clause-few_revokes
put_block-requires-clause-few_revokes c = few_revokes c.log.inside c.log.invariant c.deref-3.result.now 0 c.deref-3.ensures.value

pub put_block-requires-clause-content : goal.put_block-requires-clause-content
put_block-requires-clause-content c =
    content_whole c.log.inside c.log.invariant c.deref.result.now (length c.args.into.now) c.deref.ensures.value (c.requires.size ∙ ap (λ (log : LogValue). log.journal.size) (sym c.log.view_is))

pub put_block-requires-clause-metadata : goal.put_block-requires-clause-metadata
put_block-requires-clause-metadata c =
    metadata_whole c.log.inside c.log.invariant c.deref-2.result.now (length c.args.into.now) c.deref-2.ensures.value (c.requires.size ∙ ap (λ (log : LogValue). log.journal.size) (sym c.log.view_is))
