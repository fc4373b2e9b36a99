use Rattle.std.proofs.Common.{◌≡◌, ℕ, List, get_or, take, ap, subst, sym, ◌∙◌}
use Rattle.std.specs.Prelude.{Contains}
use Rattle.std.proofs.lemmas.List.{take_all}
use Rattle.glock_names.specs.Steps.{TellsOf}
use Rattle.glock_names.specs.Views.{Seen}
use Rattle.glock_names.specs.declared.steps.CallFault.{CallFault}
use Rattle.glock_names.specs.declared.steps.CallFault.TheVariants.{Damaged, NoMemory}
use Rattle.glock_names.specs.declared.views.Group.{Group}
use Rattle.glock_names.proofs.StepLaws.{answer_at, needed_at}
use Rattle.resource_groups.specs.Shown.{IsBroken, IsShown, said}
use Rattle.path_walks.proofs.Faults.{told_on}
use Rattle.room_search.specs.Blocks.{free_in_all}
use Rattle.room_search.specs.Parts.{IsBrokenIn}
use Rattle.room_search.proofs.Counted.{one_group_more}
use Rattle.room_search.proofs.Holds.{read_group}
use Rattle.room_search.proofs.collecting.collect_in.Goals as goal

abbrev nobody : Group
nobody = record { addr = 0; length = 0; first = 0; count = 0 }

broken_in : (v : Seen) (groups : List Group) (g : Group) (f : CallFault) → Contains groups g → ((at : ℕ → List ℕ) → IsShown v g at → TellsOf (IsBroken at g) f) → TellsOf (IsBrokenIn v groups) f
broken_in v groups g NoMemory one told = tt
broken_in v groups g (Damaged b rule) one told = record { group = g; one = one; broken = told }

pub collect-requires : goal.collect-requires
collect-requires g c =
    let groups = c.args.groups.now in
    let i = c.loop-group.group-index in
    c.requires (get_or groups i nobody) (read_group groups i nobody c.loop-group-test.true)

pub returns-in_err-collect-clause-damaged : goal.returns-in_err-collect-clause-damaged
returns-in_err-collect-clause-damaged g c =
    let v = g.V.View.seen c.args.view.now in
    let groups = c.args.groups.now in
    let i = c.loop-group.group-index in
    told_on (IsBrokenIn v groups) _ _ c.from_residual.ensures.1
    (broken_in v groups (get_or groups i nobody) c.in_err-collect.field-0.0 (read_group groups i nobody c.loop-group-test.true) c.in_err-collect.ensures.damaged)

pub returns-in-NeedBlock-clause-needed : goal.returns-in-NeedBlock-clause-needed
returns-in-NeedBlock-clause-needed g c = λ at shown.
    let groups = c.args.groups.now in
    let i = c.loop-group.group-index in
    let x : Group = get_or groups i nobody in
    let one : Contains groups x = read_group groups i nobody c.loop-group-test.true in
    record { group = x; one = one; missing = needed_at _ _ _ c.in-NeedBlock.is (c.in_ok-collect.ensures.needed at (shown x (c.requires x one))) }

pub loop-group-preserved : goal.loop-group-preserved
loop-group-preserved g c = λ at shown.
    let groups = c.args.groups.now in
    let i = c.loop-group.group-index in
    let x : Group = get_or groups i nobody in
    let has = c.requires x (read_group groups i nobody c.loop-group-test.true) in
    answer_at _ _ _ c.in-Is.is (c.in_ok-collect.ensures.found at (free_in_all (said at) (take i groups)) (shown x has) (c.loop-group.invariant at shown))
    ∙ ap (take c.args.need) (sym (one_group_more (said at) groups i nobody c.loop-group-test.true))

pub returns-clause-found : goal.returns-clause-found
returns-clause-found g c = λ at shown.
    subst (λ gs. c.loop-group.blocks.items ≡ take c.args.need (free_in_all (said at) gs)) (take_all c.loop-group.group-index c.args.groups.now c.loop-group-test.false) (c.loop-group.invariant at shown)
