use Rattle.std.proofs.Common.{◌≡◌, Bool, List, ◌++◌, [], ◌∷◌, get_or, length, ◌≤◌, sym, ap, ◌∙◌, subst}
use Rattle.std.proofs.lemmas.List.{take_all}
use Rattle.std.proofs.lemmas.List.Elements.{filter_more}
use Rattle.std.specs.Prelude.{Contains, if◌then◌else◌}
use Rattle.glock_names.specs.Views.{Rise}
use Rattle.glock_names.specs.declared.views.Group.{Group}
use Rattle.move_calls.specs.Firsts.{is_one_or_has, those_of}
use Rattle.move_calls.proofs.Tests.{fewer_pass, none_yet, passing_are_of, passing_rise}
use Rattle.move_calls.proofs.firsts.groups_of.Goals as goal

abbrev nobody : Group
nobody = record { addr = 0; length = 0; first = 0; count = 0 }

pub loop-group-init : goal.loop-group-init
loop-group-init g c = c.new-these.ensures.items ∙ sym (none_yet (is_one_or_has c.args.number c.args.blocks.now) c.groups-group-items.result.now)

pub loop-group-preserved : goal.loop-group-preserved
loop-group-preserved g c =
    let test : Group → Bool = is_one_or_has c.args.number c.args.blocks.now in
    let items : List Group = c.groups-group-items.result.now in
    let i = c.loop-group.group-index in
    let x : Group = get_or items i nobody in
    c.in_ok-add_if_one.ensures.added ∙ ap (λ (xs : List Group). xs ++ (if test x then x ∷ [] else [])) c.loop-group.invariant ∙ sym (filter_more test items i nobody c.loop-group-test.true)

pub returns-clause-are : goal.returns-clause-are
returns-clause-are g c =
    c.loop-group.invariant
    ∙ ap (λ gs. those_of c.args.number c.args.blocks.now gs) (take_all c.loop-group.group-index c.groups-group-items.result.now c.loop-group-test.false ∙ c.groups-group-items.ensures)

pub returns-clause-of_view : goal.returns-clause-of_view
returns-clause-of_view g c = λ k has.
    let v = g.V.View.seen c.args.view.now in
    let are : c.loop-group.these.items ≡ those_of c.args.number c.args.blocks.now v.groups =
    c.loop-group.invariant
    ∙ ap (λ gs. those_of c.args.number c.args.blocks.now gs) (take_all c.loop-group.group-index c.groups-group-items.result.now c.loop-group-test.false ∙ c.groups-group-items.ensures) in
    passing_are_of v (is_one_or_has c.args.number c.args.blocks.now) k (subst (λ (xs : List Group). Contains xs k) are has)

pub returns-clause-few : goal.returns-clause-few
returns-clause-few g c =
    let v = g.V.View.seen c.args.view.now in
    let are : c.loop-group.these.items ≡ those_of c.args.number c.args.blocks.now v.groups =
    c.loop-group.invariant
    ∙ ap (λ gs. those_of c.args.number c.args.blocks.now gs) (take_all c.loop-group.group-index c.groups-group-items.result.now c.loop-group-test.false ∙ c.groups-group-items.ensures) in
    subst (λ (xs : List Group). length xs ≤ length v.groups) (sym are) (fewer_pass (is_one_or_has c.args.number c.args.blocks.now) v.groups)

pub returns-clause-rise : goal.returns-clause-rise
returns-clause-rise g c =
    let v = g.V.View.seen c.args.view.now in
    let are : c.loop-group.these.items ≡ those_of c.args.number c.args.blocks.now v.groups =
    c.loop-group.invariant
    ∙ ap (λ gs. those_of c.args.number c.args.blocks.now gs) (take_all c.loop-group.group-index c.groups-group-items.result.now c.loop-group-test.false ∙ c.groups-group-items.ensures) in
    subst (Rise v.size 0) (sym are) (passing_rise (is_one_or_has c.args.number c.args.blocks.now) v.size 0 v.groups c.block_size-size.ensures.view.groups.rise)
