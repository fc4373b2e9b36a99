use Rattle.dinode_tree.specs.Shown.{IsShown}
use Rattle.gfs2_layout.specs.Holding.{Holding}
use Rattle.path_walks.proofs.Faults.{told_on, tells_so, tells_all}
use Rattle.removing_calls.specs.Removing.{BreaksAsLinear, IsDamage}
use Rattle.removing_calls.proofs.Made.{told_refused, is_refused, refuses, refused_held}
use Rattle.removing_calls.proofs.Placed.{inode_damage, inode_unbroken}
use Rattle.removing_calls.proofs.tries.find_at.Goals as goal

pub returns-in_err-reply-clause-sound : goal.returns-in_err-reply-clause-sound
returns-in_err-reply-clause-sound g c im o l t of reached =
    let v = g.V.View.seen c.args.view.now in
    told_on (λ rule b. ⊥) _ _ c.from_residual.ensures.1
    (tells_so (λ rule b. (h : Holding) → IsShown v c.args.place.now.inode h → BreaksAsLinear h rule b) (λ rule b. ⊥)
    (inode_unbroken v c.args.call.now c.args.place.now c.args.name.now c.requires.last c.requires.seen im o l t of reached) c.in_err-reply.field-0.0
    (tells_all v c.args.place.now.inode BreaksAsLinear c.in_err-reply.field-0.0 c.in_err-reply.ensures.damaged))

pub returns-in_err-reply-clause-damaged : goal.returns-in_err-reply-clause-damaged
returns-in_err-reply-clause-damaged g c =
    let v = g.V.View.seen c.args.view.now in
    told_on (IsDamage v c.args.call.now) _ _ c.from_residual.ensures.1
    (tells_so (λ rule b. (h : Holding) → IsShown v c.args.place.now.inode h → BreaksAsLinear h rule b) (IsDamage v c.args.call.now)
    (inode_damage v c.args.call.now c.args.place.now c.args.name.now c.requires.last c.requires.seen) c.in_err-reply.field-0.0
    (tells_all v c.args.place.now.inode BreaksAsLinear c.in_err-reply.field-0.0 c.in_err-reply.ensures.damaged))

pub returns-in-Refused-clause-found : goal.returns-in-Refused-clause-found
returns-in-Refused-clause-found g c im o l t of reached =
    let v = g.V.View.seen c.args.view.now in (
      refuses v c.args.call.now c.args.place.now c.requires.seen c.in_ok-reply.field-0 c.in_ok-reply.ensures.aim c.args.name.now c.requires.last im o l t of reached c.in-Refused.reply c.in-Refused.is,
      refused_held v c.args.call.now c.args.place.now c.requires.seen c.in_ok-reply.field-0 c.in_ok-reply.ensures.aim c.args.name.now c.requires.last im o l t of reached c.in-Refused.reply c.in-Refused.is,
    )

pub returns-in-Refused-clause-refusal : goal.returns-in-Refused-clause-refusal
returns-in-Refused-clause-refusal g c = is_refused (g.V.View.seen c.args.view.now) c.args.call.now c.args.place.now c.requires.seen c.in_ok-reply.field-0 c.in_ok-reply.ensures.aim c.in-Refused.reply c.in-Refused.is

pub returns-in-Refused-clause-told : goal.returns-in-Refused-clause-told
returns-in-Refused-clause-told g c = told_refused (g.V.View.seen c.args.view.now) c.args.call.now c.args.place.now c.requires.seen c.in_ok-reply.field-0 c.in_ok-reply.ensures.aim c.in-Refused.reply c.in-Refused.is
