use Rattle.std.proofs.Common.{[]}
use Rattle.glock_names.proofs.StepLaws.{answer_so}
use Rattle.image_model.specs.Owners.{holding}
use Rattle.name_drafts.proofs.WalkFaults.{damaged_so}
use Rattle.name_drafts.proofs.Images.{shown_inode, sound_directory}
use Rattle.name_moves.specs.Becoming.{NeedsAfter, NeedsJust}
use Rattle.name_moves.specs.Moving.{IsAskedOf, IsNeededIn, IsNeededThere, IsWrongIn, IsWrongThere, lost_there, move_of}
use Rattle.name_moves.proofs.Alike.{need_just}
use Rattle.name_moves.proofs.Asked.{there_asked}
use Rattle.name_moves.proofs.Unbroken.{not_wrong}
use Rattle.name_moves.proofs.Ways.{needed_as, needed_of_move, there_absent, wrong_of_move}
use Rattle.name_moves.proofs.drafting.need_to_move.Goals as goal

pub returns-clause-just : goal.returns-clause-just
returns-clause-just g c h shown sound =
    let m = move_of c.args.m.now in
    answer_so c.count_need.result (NeedsAfter (lost_there m) h m.new_name) (NeedsJust (lost_there m) h m.new_name)
    (λ need is. need_just (lost_there m) h m.new_name need sound c.hash_fits.ensures is) (c.count_need.ensures.need h shown sound)

pub returns-clause-image : goal.returns-clause-image
returns-clause-image g c im o l t path path' of places =
    let v = g.V.View.seen c.args.view.now in
    let to = c.args.m.now.to.inode in
    returns-clause-just g c (holding im o to) (shown_inode v im o l t of path' to places.target) (sound_directory v im o l t of path' to places.target places.directory)

pub returns-clause-needed : goal.returns-clause-needed
returns-clause-needed g c =
    let v = g.V.View.seen c.args.view.now in
    let m = move_of c.args.m.now in
    needed_as c.count_need.result (IsNeededThere v m) (IsNeededIn v m []) (needed_of_move v m []) c.count_need.ensures.needed

pub returns-clause-absent : goal.returns-clause-absent
returns-clause-absent g c =
    let v = g.V.View.seen c.args.view.now in
    let m = move_of c.args.m.now in
    needed_as c.count_need.result (IsNeededThere v m) _ (there_absent v m) c.count_need.ensures.needed

pub returns-clause-asked : goal.returns-clause-asked
returns-clause-asked g c im o l t path path' of places =
    let v = g.V.View.seen c.args.view.now in
    let m = move_of c.args.m.now in
    needed_as c.count_need.result (IsNeededThere v m) (IsAskedOf v im o l m.to.inode) (there_asked v im o l t of m path path' c.requires.can places) c.count_need.ensures.needed

pub returns-clause-damaged : goal.returns-clause-damaged
returns-clause-damaged g c =
    let v = g.V.View.seen c.args.view.now in
    let m = move_of c.args.m.now in
    damaged_so (IsWrongThere v m) (IsWrongIn v m []) (wrong_of_move v m []) c.count_need.result c.count_need.ensures.damaged

pub returns-clause-sound : goal.returns-clause-sound
returns-clause-sound g c im o l t path path' of places =
    let v = g.V.View.seen c.args.view.now in
    let m = move_of c.args.m.now in
    damaged_so (IsWrongThere v m) (λ rule b. ⊥) (λ rule b wrong. not_wrong v im o l t of m path path' c.requires.can places [] rule b (wrong_of_move v m [] rule b wrong)) c.count_need.result c.count_need.ensures.damaged
