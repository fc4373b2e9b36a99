use Rattle.std.proofs.Common.{◌∙◌, ap, unwrap_or, length, Option, ℕ, ◌==◌}
use Rattle.script_lang.proofs.TextParts.{place_or_all}
use Rattle.script_lang.proofs.words.length_before.Goals as goal

pub returns-clause-length : goal.returns-clause-length
returns-clause-length c =
    c.unwrap_or.ensures ∙ ap (λ (o : Option ℕ). unwrap_or o (length c.args.text.now)) c.place_of.ensures ∙ place_or_all (λ b. b == c.args.separator) c.args.text.now
