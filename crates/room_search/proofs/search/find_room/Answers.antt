use Rattle.std.proofs.Common.{List, sym, subst, ◌∙◌}
use Rattle.std.specs.Prelude.{IfOk}
use Rattle.glock_names.specs.declared.views.Group.{Group}
use Rattle.image_model.proofs.Held.{some_same}
use Rattle.resource_groups.specs.Shown.{said}
use Rattle.room_search.specs.Blocks.{group_holds}
use Rattle.room_search.specs.Searches.{IsFoundOfIn, IsTaken, IsUnder}
use Rattle.room_search.proofs.InImage.{own_is}
use Rattle.room_search.proofs.Room.{one_of}
use Rattle.room_search.proofs.search.find_room.Goals as goal

pub find_first-requires-clause-of_view : goal.find_first-requires-clause-of_view
find_first-requires-clause-of_view g c = one_of (g.V.View.seen c.args.view.now) c.own_group-own.result c.own_group-own.ensures.has

pub returns-clause-found : goal.returns-clause-found
returns-clause-found g c = λ at own shown is.
    let v = g.V.View.seen c.args.view.now in
    subst (λ (o : Group). IfOk c.find_first.result (IsUnder v (group_holds (said at) v.groups o c.args.need) (IsTaken v (said at) v.groups o c.args.need))) (some_same (sym c.own_group-own.ensures.own ∙ is))
    (c.find_first.ensures.found at shown)

pub returns-clause-image : goal.returns-clause-image
returns-clause-image g c = λ im o l t of.
    let v = g.V.View.seen c.args.view.now in
    let own = c.own_group-own.result in
    subst (λ (first : List Group). IfOk c.find_first.result (IsFoundOfIn v im o l first c.args.need)) (sym (own_is v im o l t of c.args.node own c.own_group-own.ensures.own))
    (c.find_first.ensures.image im o l t of)

pub returns-clause-own : goal.returns-clause-own
returns-clause-own g c = (c.own_group-own.result, c.own_group-own.ensures.own, c.own_group-own.ensures.has)
