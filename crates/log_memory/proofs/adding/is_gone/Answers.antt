use Rattle.std.proofs.Common.{◌≡◌, ◌∙◌, Option, None, Some, ap, is_some, refl}
use Rattle.std.specs.Option.{option_copied}
use denote.Bor.{Bor}
use Rattle.log_values.specs.Blocks as set
use Rattle.log_values.specs.Log.{LogValue}
use Rattle.log_memory.proofs.adding.is_gone.Goals as goal

copied : (o : Option (Bor (Unit {0}))) → is_some o ≡ is_some (option_copied o)
copied None = refl
copied (Some x) = refl

pub returns : goal.returns
returns c = c.is_some.ensures ∙ copied c.get.result ∙ ap is_some c.get.ensures ∙ ap (λ (log : LogValue). set.contains log.gone c.args.block) c.log.view_is
