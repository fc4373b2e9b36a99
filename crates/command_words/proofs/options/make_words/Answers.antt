use Rattle.std.proofs.Common.{ap, ◌∙◌}
use Rattle.std.specs.Prelude.{unwrap_or, replicate}
use Rattle.command_words.specs.declared.options.Opt.TheVariants.{Journals, JournalBlocks, Groups, Uuid, Time}
use Rattle.command_words.proofs.KeptLaws.{number_kept, bytes_kept}
use Rattle.command_words.proofs.options.make_words.Goals as goal

pub returns : goal.returns
returns c g keeps =
    let journals = c.unwrap_or.ensures ∙ ap (λ o. unwrap_or o 1) (number_kept _ _ (keeps.values Journals)) in
    let journal_blocks = c.unwrap_or-2.ensures ∙ ap (λ o. unwrap_or o 1024) (number_kept _ _ (keeps.values JournalBlocks)) in
    let groups = c.unwrap_or-3.ensures ∙ ap (λ o. unwrap_or o 1) (number_kept _ _ (keeps.values Groups)) in
    let uuid = c.unwrap_or-4.ensures ∙ ap (λ o. unwrap_or o (replicate 16 0)) (bytes_kept _ _ (keeps.values Uuid)) in
    let time = c.unwrap_or-5.ensures ∙ ap (λ o. unwrap_or o 0) (number_kept _ _ (keeps.values Time)) in
    λ i. record { journals = journals i; journal_blocks = journal_blocks i; groups = groups i; uuid = uuid i; time = time i }
