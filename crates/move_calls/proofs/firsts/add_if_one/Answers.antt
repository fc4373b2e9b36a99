use Rattle.std.proofs.Common.{[], ◌∷◌, ◌++◌, append-nil, sym, ap, ◌∙◌}
use Rattle.std.proofs.lemmas.Bool.{cond-true, cond-false}
use Rattle.move_calls.specs.Firsts.{is_one_or_has}
use Rattle.move_calls.proofs.Tests.{fails_so, so_passes}
use Rattle.move_calls.proofs.firsts.add_if_one.Goals as goal

pub returns-then-not-is_one_or_has-clause-added : goal.returns-then-not-is_one_or_has-clause-added
returns-then-not-is_one_or_has-clause-added c =
    let one = c.args.group.now in
    sym (append-nil c.args.groups.now.items)
    ∙ ap (λ xs. c.args.groups.now.items ++ xs)
    (sym (cond-false (is_one_or_has c.args.number c.args.blocks.now one) (one ∷ []) [] (fails_so c.args.number c.args.blocks.now one (c.is_one_or_has.ensures.other c.if-not-is_one_or_has.true))))

pub returns-clause-added : goal.returns-clause-added
returns-clause-added c =
    let one = c.args.group.now in
    c.in_ok-push.ensures.items
    ∙ ap (λ xs. c.args.groups.now.items ++ xs)
    (sym (cond-true (is_one_or_has c.args.number c.args.blocks.now one) (one ∷ []) [] (so_passes c.args.number c.args.blocks.now one (c.is_one_or_has.ensures.one c.if-not-is_one_or_has.false))))
