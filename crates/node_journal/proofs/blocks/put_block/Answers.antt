use Rattle.std.proofs.Common.{◌≡◌, ◌+◌, ◌-◌, ◌<◌, ◌++◌, ap, arith, length, length-append, sym, ◌∙◌}
use Rattle.std.specs.List.{flat_map, slice_get}
use Rattle.log_layout.specs.Chunks.{content_room, numbers_room}
use Rattle.node_journal.specs.Encoding.{content_chunk, kind_size, metadata_chunk, pieces, revoke_chunks, revoke_size}
use Rattle.node_journal.proofs.Indexed.{slice_left, slice_right}
use Rattle.node_journal.proofs.Lengths.{contents_length, metadatas_length, revoke_length}
use Rattle.node_journal.proofs.blocks.put_block.Goals as goal

pub put_revokes-requires-clause-index : goal.put_revokes-requires-clause-index
put_revokes-requires-clause-index g c =
    let size = length c.args.into.now in
    let jid = c.args.jid in
    let cs = flat_map (content_chunk size jid) (pieces (content_room size) (g.C.Entries.logged c.args.content.now)) in
    let ms = flat_map (metadata_chunk size jid) (pieces (numbers_room size) (g.M.Entries.logged c.args.metadata.now)) in
    let rs = revoke_chunks size jid c.args.revokes.now in
    let first : length cs ≡ c.kind_size-contents.result =
    contents_length size jid (g.C.Entries.logged c.args.content.now) c.requires.size ∙ sym (c.kind_size-contents.ensures.size ∙ ap (kind_size (content_room size)) c.count.ensures) in
    let second : length ms ≡ c.kind_size-metadatas.result =
    metadatas_length size jid (g.M.Entries.logged c.args.metadata.now) c.requires.size ∙ sym (c.kind_size-metadatas.ensures.size ∙ ap (kind_size (numbers_room size)) c.count-2.ensures) in
    let third : length rs ≡ revoke_size size (length c.args.revokes.now) = revoke_length size jid c.args.revokes.now in
    let all : length (cs ++ (ms ++ rs)) ≡ length cs + (length ms + length rs) = length-append cs (ms ++ rs) ∙ ap (λ n. length cs + n) (length-append ms rs) in
    omega (arith, c.requires.index, first, second, third, all, c.if-index-contents.false, c.if-behind_contents-metadatas.false)

pub returns-then-behind_contents-metadatas : goal.returns-then-behind_contents-metadatas
returns-then-behind_contents-metadatas g c =
    let size = length c.args.into.now in
    let jid = c.args.jid in
    let cs = flat_map (content_chunk size jid) (pieces (content_room size) (g.C.Entries.logged c.args.content.now)) in
    let ms = flat_map (metadata_chunk size jid) (pieces (numbers_room size) (g.M.Entries.logged c.args.metadata.now)) in
    let rs = revoke_chunks size jid c.args.revokes.now in
    let k = c.args.index - c.kind_size-contents.result in
    let first : length cs ≡ c.kind_size-contents.result =
    contents_length size jid (g.C.Entries.logged c.args.content.now) c.requires.size ∙ sym (c.kind_size-contents.ensures.size ∙ ap (kind_size (content_room size)) c.count.ensures) in
    let second : length ms ≡ c.kind_size-metadatas.result =
    metadatas_length size jid (g.M.Entries.logged c.args.metadata.now) c.requires.size ∙ sym (c.kind_size-metadatas.ensures.size ∙ ap (kind_size (numbers_room size)) c.count-2.ensures) in
    ap (slice_get (cs ++ (ms ++ rs))) (let e : c.args.index ≡ length cs + k = omega (arith, first, c.if-index-contents.false) in e)
    ∙ slice_right cs (ms ++ rs) k
    ∙ slice_left ms rs k (let less : k < length ms = omega (arith, second, c.if-behind_contents-metadatas.true) in less)
    ∙ c.put_metadata.ensures

pub returns : goal.returns
returns g c =
    let size = length c.args.into.now in
    let jid = c.args.jid in
    let cs = flat_map (content_chunk size jid) (pieces (content_room size) (g.C.Entries.logged c.args.content.now)) in
    let ms = flat_map (metadata_chunk size jid) (pieces (numbers_room size) (g.M.Entries.logged c.args.metadata.now)) in
    let rs = revoke_chunks size jid c.args.revokes.now in
    let k = c.args.index - c.kind_size-contents.result - c.kind_size-metadatas.result in
    let first : length cs ≡ c.kind_size-contents.result =
    contents_length size jid (g.C.Entries.logged c.args.content.now) c.requires.size ∙ sym (c.kind_size-contents.ensures.size ∙ ap (kind_size (content_room size)) c.count.ensures) in
    let second : length ms ≡ c.kind_size-metadatas.result =
    metadatas_length size jid (g.M.Entries.logged c.args.metadata.now) c.requires.size ∙ sym (c.kind_size-metadatas.ensures.size ∙ ap (kind_size (numbers_room size)) c.count-2.ensures) in
    ap (slice_get (cs ++ (ms ++ rs))) (let e : c.args.index ≡ length cs + (length ms + k) = omega (arith, first, second, c.if-index-contents.false, c.if-behind_contents-metadatas.false) in e)
    ∙ slice_right cs (ms ++ rs) (length ms + k)
    ∙ slice_right ms rs k
    ∙ c.put_revokes.ensures
