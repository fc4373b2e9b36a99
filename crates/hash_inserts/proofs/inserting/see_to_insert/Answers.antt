use Rattle.std.proofs.Common.{◌∙◌, length, sym}
use Rattle.glock_names.specs.Steps.{TellsOf}
use Rattle.glock_names.proofs.StepLaws.{answer_at, needed_at}
use Rattle.linear_dirs.proofs.Looked.{handed}
use Rattle.hash_steps.specs.Broken.{IsWrongIn}
use Rattle.hash_steps.specs.Shown.{index_for}
use Rattle.hash_inserts.specs.Inserting as inserting
use Rattle.hash_inserts.specs.Inserting.{IsWrongToInsert, of_chain}
use Rattle.hash_inserts.proofs.Counted.{room_or_none}
use Rattle.hash_inserts.proofs.Looks.{only_tells, tells_wrong}
use Rattle.hash_inserts.proofs.Past.{none_is, none_walked, one_walked, several_walked, some_is}
use Rattle.hash_inserts.proofs.inserting.see_to_insert.Goals as goal

pub returns-in_err-found-clause-damaged : goal.returns-in_err-found-clause-damaged
returns-in_err-found-clause-damaged g c h shown shows =
    let v = g.V.View.seen c.args.view.now in
    handed c.from_residual.result _ (TellsOf (IsWrongToInsert v h)) c.from_residual.ensures.1 (tells_wrong v h c.in_err-found.field-0.0 (only_tells (IsWrongIn v h) c.in_err-found.field-0.0 (c.in_err-found.ensures.damaged h shown shows)))

pub returns-in-NeedBlock-clause-needed : goal.returns-in-NeedBlock-clause-needed
returns-in-NeedBlock-clause-needed g c h shown shows = of_chain (needed_at _ _ _ c.in-NeedBlock.is (c.in_ok-found.ensures.needed h shown shows))

pub returns-then-is_some-clause-inside : goal.returns-then-is_some-clause-inside
returns-then-is_some-clause-inside g c h shown shows none one =
    let found = answer_at _ _ _ c.in-Is.is (c.in_ok-found.ensures.found h shown shows) in
    let some = some_is c.in-Is.found.chain.with_room (sym c.is_some.ensures ∙ c.if-is_some.true) in
    absurd (room_or_none (g.V.View.seen c.args.view.now) h c.args.name.now c.in-Is.found.chain found.walked found.head.low some.0 some.1 none)

pub returns-then-not-found-clause-inside : goal.returns-then-not-found-clause-inside
returns-then-not-found-clause-inside g c h shown shows none one =
    let found = answer_at _ _ _ c.in-Is.is (c.in_ok-found.ensures.found h shown shows) in
    absurd (several_walked (g.V.View.seen c.args.view.now) h (index_for h c.args.name.now) (length c.args.name.now) c.in-Is.found.chain found.walked c.if-not-found.true found.head.low one)

pub returns-in-NeedBlock-2-clause-needed : goal.returns-in-NeedBlock-2-clause-needed
returns-in-NeedBlock-2-clause-needed g c h shown shows =
    let v = g.V.View.seen c.args.view.now in
    let name = c.args.name.now in
    let chain = c.in-Is.found.chain in
    let found = answer_at _ _ _ c.in-Is.is (c.in_ok-found.ensures.found h shown shows) in
    let none = none_is c.in-Is.found.chain.with_room (sym c.is_some.ensures ∙ c.if-is_some.false) in
    inserting.IsNeededToInsert.of_table (none_walked v h (index_for h name) (length name) chain found.walked none) (one_walked v h (index_for h name) (length name) chain found.walked c.if-not-found.false found.head.low).1
    (needed_at _ _ _ c.in-NeedBlock-2.is (c.in_ok-_dinode.ensures.needed h shown))
