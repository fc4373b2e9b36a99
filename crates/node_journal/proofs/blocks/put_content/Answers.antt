use Rattle.std.proofs.Common.{◌≡◌, ◌+◌, ◌*◌, ◌-◌, ◌/◌, ◌%◌, ◌<◌, Some, ap, arith, length, min, sym, ◌∙◌}
use Rattle.log_layout.specs.Chunks.{Logged}
use Rattle.log_layout.specs.declared.descriptor.ChunkKind.TheVariants.{Journaled}
use Rattle.node_journal.specs.Encoding.{content_chunk, content_numbers, descriptor_block, escaped}
use Rattle.node_journal.proofs.Heads.{block_of_piece, head_of_piece}
use Rattle.node_journal.proofs.Indexed.{content_is_at, entry_at, whole_at}
use Rattle.node_journal.proofs.Pieces.{at_least}
use Rattle.node_journal.proofs.blocks.put_content.Goals as goal

pub put_escaped-requires-clause-size : goal.put_escaped-requires-clause-size
put_escaped-requires-clause-size g c =
    let size = length c.args.into.now in
    let es = g.E.Entries.logged c.args.entries.now in
    let here = entry_at (content_chunk size c.args.jid) ((size - 72) / 16) es c.args.index (content_is_at size c.args.jid es c.args.index c.requires.size c.requires.index) c.if-place-eq0.false in
    sym (ap length (c.bytes.ensures (here.0) (here.1)) ∙ whole_at size es _ (here.0) c.requires.whole (here.1) (here.2))

pub put_escaped-requires-clause-least : goal.put_escaped-requires-clause-least
put_escaped-requires-clause-least g c =
    let size = length c.args.into.now in
    let es = g.E.Entries.logged c.args.entries.now in
    let here = entry_at (content_chunk size c.args.jid) ((size - 72) / 16) es c.args.index (content_is_at size c.args.jid es c.args.index c.requires.size c.requires.index) c.if-place-eq0.false in
    let whole : length c.bytes.result.now ≡ size = ap length (c.bytes.ensures (here.0) (here.1)) ∙ whole_at size es _ (here.0) c.requires.whole (here.1) (here.2) in
    let least : 72 < size = at_least size c.requires.size in
    omega (arith, whole, least)

-- the descriptor
pub returns-then-place-eq0 : goal.returns-then-place-eq0
returns-then-place-eq0 g c =
    let size = length c.args.into.now in
    let jid = c.args.jid in
    let es = g.E.Entries.logged c.args.entries.now in
    let at = content_is_at size jid es c.args.index c.requires.size c.requires.index in
    let first = c.args.index / ((size - 72) / 16 + 1) * ((size - 72) / 16) in
    at.block
    ∙ head_of_piece (λ n ps. descriptor_block size jid Journaled (1 + n) n (content_numbers ps)) (λ (e : Logged). escaped e.bytes) es ((size - 72) / 16) first (c.args.index % ((size - 72) / 16 + 1)) c.min-count.result
    c.if-place-eq0.true (c.min-count.ensures ∙ ap (λ n. min ((size - 72) / 16) (n - first)) c.count.ensures)
    ∙ ap Some (sym c.put_content_head.ensures)

-- a block behind it
pub returns-else-place-eq0 : goal.returns-else-place-eq0
returns-else-place-eq0 g c =
    let size = length c.args.into.now in
    let jid = c.args.jid in
    let es = g.E.Entries.logged c.args.entries.now in
    let at = content_is_at size jid es c.args.index c.requires.size c.requires.index in
    let here = entry_at (content_chunk size jid) ((size - 72) / 16) es c.args.index at c.if-place-eq0.false in
    at.block
    ∙ block_of_piece (λ n ps. descriptor_block size jid Journaled (1 + n) n (content_numbers ps)) (λ (e : Logged). escaped e.bytes) es ((size - 72) / 16) (c.args.index / ((size - 72) / 16 + 1) * ((size - 72) / 16))
    (c.args.index % ((size - 72) / 16 + 1)) (here.0) (here.3) (here.4) (here.1)
    ∙ ap (λ bs. Some (escaped bs)) (sym (c.bytes.ensures (here.0) (here.1)))
    ∙ ap Some (sym c.put_escaped.ensures)
