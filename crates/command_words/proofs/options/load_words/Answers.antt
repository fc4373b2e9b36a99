use Rattle.command_words.specs.declared.options.Opt.TheVariants.{Steps}
use Rattle.command_words.proofs.KeptLaws.{number_kept}
use Rattle.command_words.proofs.options.load_words.Goals as goal

pub returns : goal.returns
returns c g keeps =
    let steps = number_kept _ _ (keeps.values Steps) in
    λ i. record { number = c.args.number; steps = steps i }
