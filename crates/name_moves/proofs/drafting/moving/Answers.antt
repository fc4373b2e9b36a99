use Rattle.std.proofs.Common.{ℕ, List, ◌++◌}
use Rattle.name_drafts.proofs.WalkFaults.{damaged_so}
use Rattle.name_moves.specs.Moving.{IsAskedIn, IsNeededIn, IsWrongIn, freed_by, move_of}
use Rattle.name_moves.proofs.Asked.{move_asked}
use Rattle.name_moves.proofs.Unbroken.{not_wrong}
use Rattle.name_moves.proofs.Ways.{needed_as}
use Rattle.name_moves.proofs.drafting.moving.Goals as goal

pub returns-clause-asked : goal.returns-clause-asked
returns-clause-asked g c im o l t path path' of places =
    let v = g.V.View.seen c.args.view.now in
    let m = move_of c.args.m.now in
    let blocks : List ℕ = c.args.room.now ++ freed_by m in
    needed_as c.draft_move.result (IsNeededIn v m blocks) (IsAskedIn v im o l m blocks) (move_asked v im o l t of m path path' c.requires.can places blocks) c.draft_move.ensures.needed

pub returns-clause-sound : goal.returns-clause-sound
returns-clause-sound g c im o l t path path' of places =
    let v = g.V.View.seen c.args.view.now in
    let m = move_of c.args.m.now in
    let blocks : List ℕ = c.args.room.now ++ freed_by m in
    damaged_so (IsWrongIn v m blocks) (λ rule b. ⊥) (not_wrong v im o l t of m path path' c.requires.can places blocks) c.draft_move.result c.draft_move.ensures.damaged
