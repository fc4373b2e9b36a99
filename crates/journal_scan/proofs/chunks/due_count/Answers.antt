use Rattle.std.proofs.Common.{◌≡◌, ℕ, ◌+◌, ◌*◌, ◌⊎◌, inl, inr, List, length, ap, sym, ◌∙◌}
use Rattle.std.specs.Prelude.{◌==◌}
use Rattle.std.proofs.lemmas.List.{length-map}
use Rattle.std.proofs.lemmas.List.FromFn.{length-map-range_with_len}
use Rattle.gfs2_layout.specs.Bytes.{u64_at}
use Rattle.log_layout.specs.Chunks.{dues, further_count, further_part, numbers_at}
use Rattle.log_layout.specs.declared.descriptor.ChunkKind.{ChunkKind}
use Rattle.log_layout.specs.declared.descriptor.ChunkKind.TheVariants as kinds
use Rattle.log_layout.specs.declared.due.Due.TheVariants as variant
use Rattle.journal_scan.proofs.chunks.due_count.Goals as goal

-- a block for each entry
one_each : (k : ChunkKind) (size entries : ℕ) (bytes : List ℕ) → (k ≡ kinds.Metadata) ⊎ (k ≡ kinds.Journaled) → entries ≡ length (dues k size entries bytes)
one_each k size entries bytes (inl is) =
    sym (ap (λ (j : ChunkKind). length (dues j size entries bytes)) is ∙ length-map (numbers_at 72 8 entries bytes) variant.Metadata ∙ length-map-range_with_len (λ i. u64_at (72 + 8 * i) bytes) 0 entries)
one_each k size entries bytes (inr is) =
    sym (ap (λ (j : ChunkKind). length (dues j size entries bytes)) is
    ∙ length-map-range_with_len (λ i. variant.Content (u64_at (72 + 16 * i) bytes) (u64_at (80 + 16 * i) bytes == 1)) 0 entries)

pub returns-in-Metadata : goal.returns-in-Metadata
returns-in-Metadata c bytes = one_each c.args.kind c.args.size c.args.entries bytes c.in-Metadata.is

pub returns-in-Revoke : goal.returns-in-Revoke
returns-in-Revoke c bytes =
    c.further_count.ensures
    ∙ sym (ap (λ (k : ChunkKind). length (dues k c.args.size c.args.entries bytes)) c.in-Revoke.is
    ∙ length-map-range_with_len (λ i. variant.Further (further_part c.args.size c.args.entries i)) 0 (further_count c.args.size c.args.entries))
