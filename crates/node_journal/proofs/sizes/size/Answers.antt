use Rattle.std.proofs.Common.{◌≡◌, ◌+◌, ◌-◌, List, length, ap, sym, ◌∙◌}
use Rattle.std.specs.Prelude.{filter, map, not}
use Rattle.drafts.specs.declared.change.Written.{Written}
use Rattle.log_layout.specs.Chunks.{Logged}
use Rattle.journal_scan.specs.Said.{logged, says}
use Rattle.node_journal.specs.Encoding.{content_of, metadata_of, size_with}
use Rattle.node_journal.proofs.sizes.size.Goals as goal

pub returns : goal.returns
returns c =
    let blocks = c.deref.ensures.value in
    let content : c.content_count-content.result ≡ length (content_of (says c.args.t.now)) =
    c.content_count-content.ensures.count ∙ ap (λ (ws : List Written). length (filter (λ (e : Logged). e.plain) (map logged ws))) blocks in
    let metadata : c.len.result - c.content_count-content.result ≡ length (metadata_of (says c.args.t.now)) =
    ap (λ n. n - c.content_count-content.result) (c.len.ensures ∙ sym c.deref.ensures.len) ∙ sym c.content_count-content.ensures.rest
    ∙ ap (λ (ws : List Written). length (filter (λ (e : Logged). not e.plain) (map logged ws))) blocks in
    let revokes : c.len-2.result ≡ length c.args.t.now.revokes.items = c.len-2.ensures ∙ c.args.t.now.revokes.ok.0 in
    c.size_with.ensures ∙ (λ t. size_with c.args.block_size (content t) (metadata t) (revokes t))
