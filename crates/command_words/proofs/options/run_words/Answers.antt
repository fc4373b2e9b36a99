use Rattle.std.proofs.Common.{ap, ◌∙◌}
use Rattle.std.specs.Prelude.{unwrap_or}
use Rattle.command_words.specs.declared.options.Opt.TheVariants.{Time, Schedule, Steps, Frames}
use Rattle.command_words.proofs.KeptLaws.{number_kept}
use Rattle.command_words.proofs.options.run_words.Goals as goal

pub returns : goal.returns
returns c g keeps =
    let schedule = number_kept _ _ (keeps.values Schedule) in
    let steps = number_kept _ _ (keeps.values Steps) in
    let time = c.unwrap_or.ensures ∙ ap (λ o. unwrap_or o 0) (number_kept _ _ (keeps.values Time)) in
    let frames = number_kept _ _ (keeps.values Frames) in
    λ i. record { schedule = schedule i; steps = steps i; time = time i; frames = frames i }
