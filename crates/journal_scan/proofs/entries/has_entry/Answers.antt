use Rattle.std.proofs.Common.{length, refl, sym, ◌∙◌}
use Rattle.std.specs.List.{list_any}
use Rattle.log_layout.specs.Chunks.{dues, further_count, further_part}
use Rattle.std.specs.List.{range_with_len}
use Rattle.journal_scan.specs.Numbers.{is_for}
use Rattle.log_layout.specs.declared.descriptor.ChunkKind.TheVariants.{Metadata, Journaled}
use Rattle.journal_scan.proofs.Numbered.{any_further, entries_found}
use Rattle.journal_scan.proofs.entries.has_entry.Goals as goal

pub returns-in-Metadata : goal.returns-in-Metadata
returns-in-Metadata c =
    c.is_among.ensures ∙ entries_found Metadata (length c.args.block.now) c.args.entries c.args.number c.args.block.now 8 refl
    ∙ (λ t. list_any (is_for c.args.number) (dues (sym c.in-Metadata.is t) (length c.args.block.now) c.args.entries c.args.block.now))

pub returns-in-Journaled : goal.returns-in-Journaled
returns-in-Journaled c =
    c.is_among-in-Journaled.ensures ∙ entries_found Journaled (length c.args.block.now) c.args.entries c.args.number c.args.block.now 16 refl
    ∙ (λ t. list_any (is_for c.args.number) (dues (sym c.in-Journaled.is t) (length c.args.block.now) c.args.entries c.args.block.now))

pub returns-in-Revoke : goal.returns-in-Revoke
returns-in-Revoke c =
    sym (any_further c.args.number (λ i. further_part (length c.args.block.now) c.args.entries i) (range_with_len 0 (further_count (length c.args.block.now) c.args.entries)))
    ∙ (λ t. list_any (is_for c.args.number) (dues (sym c.in-Revoke.is t) (length c.args.block.now) c.args.entries c.args.block.now))
