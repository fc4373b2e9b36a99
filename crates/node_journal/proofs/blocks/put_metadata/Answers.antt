use Rattle.std.proofs.Common.{◌+◌, ◌*◌, ◌-◌, ◌/◌, ◌%◌, Some, ap, length, map, min, sym, ◌∙◌}
use Rattle.log_layout.specs.Chunks.{Logged}
use Rattle.log_layout.specs.declared.descriptor.ChunkKind.TheVariants.{Metadata}
use Rattle.node_journal.specs.Encoding.{descriptor_block, metadata_chunk}
use Rattle.node_journal.proofs.Heads.{block_of_piece, head_of_piece}
use Rattle.node_journal.proofs.Indexed.{entry_at, metadata_is_at, whole_at}
use Rattle.node_journal.proofs.blocks.put_metadata.Goals as goal

pub copy_from_slice-requires : goal.copy_from_slice-requires
copy_from_slice-requires g c =
    let size = length c.args.into.now in
    let es = g.E.Entries.logged c.args.entries.now in
    let here = entry_at (metadata_chunk size c.args.jid) ((size - 72) / 8) es c.args.index (metadata_is_at size c.args.jid es c.args.index c.requires.size c.requires.index) c.if-place-eq0.false in
    sym (ap length (c.bytes.ensures (here.0) (here.1)) ∙ whole_at size es _ (here.0) c.requires.whole (here.1) (here.2))

-- the descriptor
pub returns-then-place-eq0 : goal.returns-then-place-eq0
returns-then-place-eq0 g c =
    let size = length c.args.into.now in
    let jid = c.args.jid in
    let es = g.E.Entries.logged c.args.entries.now in
    let at = metadata_is_at size jid es c.args.index c.requires.size c.requires.index in
    let first = c.args.index / ((size - 72) / 8 + 1) * ((size - 72) / 8) in
    at.block
    ∙ head_of_piece (λ n ps. descriptor_block size jid Metadata (1 + n) n (map (λ (e : Logged). e.block) ps)) (λ (e : Logged). e.bytes) es ((size - 72) / 8) first (c.args.index % ((size - 72) / 8 + 1)) c.min-count.result
    c.if-place-eq0.true (c.min-count.ensures ∙ ap (λ n. min ((size - 72) / 8) (n - first)) c.count.ensures)
    ∙ ap Some (sym c.put_metadata_head.ensures)

-- a block behind it
pub returns-else-place-eq0 : goal.returns-else-place-eq0
returns-else-place-eq0 g c =
    let size = length c.args.into.now in
    let jid = c.args.jid in
    let es = g.E.Entries.logged c.args.entries.now in
    let at = metadata_is_at size jid es c.args.index c.requires.size c.requires.index in
    let here = entry_at (metadata_chunk size jid) ((size - 72) / 8) es c.args.index at c.if-place-eq0.false in
    at.block
    ∙ block_of_piece (λ n ps. descriptor_block size jid Metadata (1 + n) n (map (λ (e : Logged). e.block) ps)) (λ (e : Logged). e.bytes) es ((size - 72) / 8) (c.args.index / ((size - 72) / 8 + 1) * ((size - 72) / 8))
    (c.args.index % ((size - 72) / 8 + 1)) (here.0) (here.3) (here.4) (here.1)
    ∙ ap Some (sym (c.copy_from_slice.ensures.after ∙ c.bytes.ensures (here.0) (here.1)))
