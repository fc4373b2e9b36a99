use Rattle.std.proofs.Common.{◌≡◌, ℕ, List, true, false, Option, Some, None, refl}
use Rattle.std.proofs.lemmas.Bool.{false≢true}
use Rattle.uuid.specs.Text.{parsed}
use Rattle.command_words.proofs.words.identifier.Goals as goal

none_of : (o : Option (List ℕ)) → ((u : List ℕ) × (o ≡ Some u) → false ≡ true) → None ≡ o
none_of None h = refl
none_of (Some u) h = absurd (false≢true (h (u, refl)))

pub returns-in-Err : goal.returns-in-Err
returns-in-Err c = none_of (parsed c.args.word.now) c.in-Err.ensures.ok.1
