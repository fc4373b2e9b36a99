use Rattle.std.proofs.Common.{◌∙◌, length, sym, subst}
use Rattle.glock_names.specs.Steps.{TellsOf}
use Rattle.glock_names.specs.Views.{HasBlock}
use Rattle.glock_names.proofs.StepLaws.{answer_at, answer_so, needed_at}
use Rattle.linear_dirs.proofs.Looked.{handed}
use Rattle.hash_steps.specs.Broken.{IsWrongIn}
use Rattle.hash_steps.specs.Shown.{index_for}
use Rattle.hash_inserts.specs.Inserting.{IsWrongToInsert, of_chain}
use Rattle.hash_inserts.proofs.Counted.{room_or_none, sees_with, takes_none, takes_one}
use Rattle.hash_inserts.proofs.Looks.{only_tells, tells_wrong}
use Rattle.hash_inserts.proofs.Past.{none_is, none_walked, one_walked, several_walked, some_is}
use Rattle.hash_inserts.proofs.needing.need_insert.Goals as goal

pub returns-in_err-found-clause-damaged : goal.returns-in_err-found-clause-damaged
returns-in_err-found-clause-damaged g c h shown shows =
    let v = g.V.View.seen c.args.view.now in
    handed c.from_residual.result _ (TellsOf (IsWrongToInsert v h)) c.from_residual.ensures.1 (tells_wrong v h c.in_err-found.field-0.0 (only_tells (IsWrongIn v h) c.in_err-found.field-0.0 (c.in_err-found.ensures.damaged h shown shows)))

pub returns-in-NeedBlock-clause-needed : goal.returns-in-NeedBlock-clause-needed
returns-in-NeedBlock-clause-needed g c h shown shows = of_chain (needed_at _ _ _ c.in-NeedBlock.is (c.in_ok-found.ensures.needed h shown shows))

pub returns-then-is_some-clause-need : goal.returns-then-is_some-clause-need
returns-then-is_some-clause-need g c h shown shows =
    let found = answer_at _ _ _ c.in-Is.is (c.in_ok-found.ensures.found h shown shows) in
    let some = some_is c.in-Is.found.chain.with_room (sym c.is_some.ensures ∙ c.if-is_some.true) in
    takes_none (g.V.View.seen c.args.view.now) h c.args.name.now c.in-Is.found.chain found.walked found.head.low some.0 some.1

pub returns-then-is_some-clause-seen : goal.returns-then-is_some-clause-seen
returns-then-is_some-clause-seen g c h shown shows =
    let v = g.V.View.seen c.args.view.now in
    let found = answer_at _ _ _ c.in-Is.is (c.in_ok-found.ensures.found h shown shows) in
    let some = some_is c.in-Is.found.chain.with_room (sym c.is_some.ensures ∙ c.if-is_some.true) in
    sees_with v h c.args.name.now c.in-Is.found.chain found.walked found.head.low (subst (HasBlock v) (sym shown.inode.own) (answer_at _ _ _ c.in-Is.is c.in_ok-found.ensures.own)) (subst (HasBlock v) found.head.from (answer_at _ _ _ c.in-Is.is c.in_ok-found.ensures.there))
    (λ none one. absurd (room_or_none v h c.args.name.now c.in-Is.found.chain found.walked found.head.low some.0 some.1 none))

pub returns-then-not-found-clause-need : goal.returns-then-not-found-clause-need
returns-then-not-found-clause-need g c h shown shows =
    let v = g.V.View.seen c.args.view.now in
    let name = c.args.name.now in
    let chain = c.in-Is.found.chain in
    let found = answer_at _ _ _ c.in-Is.is (c.in_ok-found.ensures.found h shown shows) in
    let none = none_is c.in-Is.found.chain.with_room (sym c.is_some.ensures ∙ c.if-is_some.false) in
    takes_one v h name chain found.walked found.head.low none (several_walked v h (index_for h name) (length name) chain found.walked c.if-not-found.true found.head.low)

pub returns-then-not-found-clause-seen : goal.returns-then-not-found-clause-seen
returns-then-not-found-clause-seen g c h shown shows =
    let v = g.V.View.seen c.args.view.now in
    let name = c.args.name.now in
    let chain = c.in-Is.found.chain in
    let found = answer_at _ _ _ c.in-Is.is (c.in_ok-found.ensures.found h shown shows) in
    sees_with v h name chain found.walked found.head.low (subst (HasBlock v) (sym shown.inode.own) (answer_at _ _ _ c.in-Is.is c.in_ok-found.ensures.own)) (subst (HasBlock v) found.head.from (answer_at _ _ _ c.in-Is.is c.in_ok-found.ensures.there))
    (λ none one. absurd (several_walked v h (index_for h name) (length name) chain found.walked c.if-not-found.true found.head.low one))

pub returns-clause-need : goal.returns-clause-need
returns-clause-need g c h shown shows =
    let v = g.V.View.seen c.args.view.now in
    let name = c.args.name.now in
    let found = answer_at _ _ _ c.in-Is.is (c.in_ok-found.ensures.found h shown shows) in
    c.need_of_one.ensures.need h shown (c.depth.ensures.value ∙ g.met.T.PointerTable.deep_in c.args.table.now v h shows) found.head
    (one_walked v h (index_for h name) (length name) c.in-Is.found.chain found.walked c.if-not-found.false found.head.low).1

pub returns-clause-seen : goal.returns-clause-seen
returns-clause-seen g c h shown shows =
    let v = g.V.View.seen c.args.view.now in
    let name = c.args.name.now in
    let chain = c.in-Is.found.chain in
    let found = answer_at _ _ _ c.in-Is.is (c.in_ok-found.ensures.found h shown shows) in
    answer_so c.need_of_one.result _ _ (λ n sees. sees_with v h name chain found.walked found.head.low (subst (HasBlock v) (sym shown.inode.own) (answer_at _ _ _ c.in-Is.is c.in_ok-found.ensures.own)) (subst (HasBlock v) found.head.from (answer_at _ _ _ c.in-Is.is c.in_ok-found.ensures.there)) (λ none one. sees))
    (c.need_of_one.ensures.seen h shown)

pub returns-clause-needed : goal.returns-clause-needed
returns-clause-needed g c h shown shows =
    let v = g.V.View.seen c.args.view.now in
    let name = c.args.name.now in
    let chain = c.in-Is.found.chain in
    let found = answer_at _ _ _ c.in-Is.is (c.in_ok-found.ensures.found h shown shows) in
    let none = none_is c.in-Is.found.chain.with_room (sym c.is_some.ensures ∙ c.if-is_some.false) in
    c.need_of_one.ensures.needed h shown found.head (none_walked v h (index_for h name) (length name) chain found.walked none)
    (one_walked v h (index_for h name) (length name) chain found.walked c.if-not-found.false found.head.low).1
