use Rattle.std.proofs.Common.{sym, ◌∙◌}
use Rattle.command_words.specs.Kept.{options_of, row_of}
use Rattle.command_words.proofs.OptionLaws.{has_name, given_before, not_given}
use Rattle.command_words.proofs.KeptLaws.{given_if_kept}
use Rattle.command_words.proofs.options.option_left.Goals as goal

pub returns-then-has-clause-left : goal.returns-then-has-clause-left
returns-then-has-clause-left c g keeps =
    let name = c.args.name.now in
    let o = c.in-Some.option in
    let named = has_name name (options_of c.args.kind) (row_of o) c.in-Some.ensures in
    given_before (options_of c.args.kind) g name (sym (given_if_kept c.args.given.now g keeps o name named) ∙ sym c.has.ensures ∙ c.if-has.true)

pub returns-else-has-clause-left : goal.returns-else-has-clause-left
returns-else-has-clause-left c g keeps =
    let name = c.args.name.now in
    let o = c.in-Some.option in
    let named = has_name name (options_of c.args.kind) (row_of o) c.in-Some.ensures in
    not_given (options_of c.args.kind) g name (sym (given_if_kept c.args.given.now g keeps o name named) ∙ sym c.has.ensures ∙ c.if-has.false) ∙ c.in-Some.ensures
