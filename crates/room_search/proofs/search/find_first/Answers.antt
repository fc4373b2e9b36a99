use Rattle.std.proofs.Common.{List}
use Rattle.glock_names.specs.declared.views.Group.{Group}
use Rattle.path_walks.proofs.Faults.{damaged_so}
use Rattle.resource_groups.specs.Shown.{said}
use Rattle.room_search.specs.Blocks.{first_holds}
use Rattle.room_search.specs.Searches.{IsFoundOfIn, IsGroupBroken, IsTakenOf, IsTold, IsUnder}
use Rattle.room_search.proofs.InImage.{are_shown, found_in, group_sound}
use Rattle.room_search.proofs.Shown.{bytes_shown}
use Rattle.room_search.proofs.Room.{ok_so, told_so}
use Rattle.room_search.proofs.search.find_first.Goals as goal

pub returns-clause-image : goal.returns-clause-image
returns-clause-image g c = λ im o l t of.
    let v = g.V.View.seen c.args.view.now in
    let first : List Group = c.args.first.now in
    ok_so (IsUnder v (first_holds (said im.at) v.groups first c.args.need) (IsTakenOf v (said im.at) v.groups first c.args.need)) (IsFoundOfIn v im o l first c.args.need) c.find_in_either.result
    (λ r. found_in v im o l t of first c.args.need r c.requires.of_view) (c.find_in_either.ensures.found im.at (are_shown v im o l t of))

pub returns-clause-told : goal.returns-clause-told
returns-clause-told g c =
    let v = g.V.View.seen c.args.view.now in
    let first : List Group = c.args.first.now in
    let at = bytes_shown v c.find_in_either.ensures.view in
    ok_so (IsUnder v (first_holds (said at.0) v.groups first c.args.need) (IsTakenOf v (said at.0) v.groups first c.args.need)) (IsTold v c.args.need) c.find_in_either.result
    (λ r. told_so v (said at.0) first c.args.need r) (c.find_in_either.ensures.found at.0 (λ k has. at.1 k))

pub returns-clause-sound : goal.returns-clause-sound
returns-clause-sound g c = λ im o l t of.
    let v = g.V.View.seen c.args.view.now in
    damaged_so (IsGroupBroken v) (λ rule block. ⊥) (λ rule b broken. group_sound v im o l t of rule b broken) c.find_in_either.result c.find_in_either.ensures.damaged
