use Rattle.std.proofs.Common.{[], ◌∷◌, sym, ap, ◌∙◌, subst}
use Rattle.std.proofs.lemmas.Bool.{eq-eqb, ne_eqb}
use Rattle.std.specs.Prelude.{not}
use Rattle.glock_names.proofs.StepLaws.{answer_at, needed_at}
use Rattle.glock_names.specs.Steps.{IfDamaged, IfNeedBlock}
use Rattle.directories.specs.Shown.{IsBroken, IsDirectoryIn, IsNeededFor, IsShown}
use Rattle.name_drafts.proofs.WalkFaults.{damaged_so, told_on, tells_so}
use Rattle.name_drafts.proofs.Fates.{seen_old}
use Rattle.name_moves.specs.Becoming.{CanTell, IsAfter}
use Rattle.name_moves.specs.Moving.{IsAskedUnder, IsNeededThere, IsWrongThere, move_of, new_first, old_first, old_then}
use Rattle.name_moves.specs.Steps.{AreLost}
use Rattle.name_moves.proofs.Loses.{tell_as}
use Rattle.name_moves.proofs.Lost.{lost_none}
use Rattle.name_moves.proofs.Ways.{broken_there, first_loss, needed_there, needed_two, no_losses, one_loss, some_copied}
use Rattle.name_moves.proofs.losing.lose_names.Goals as goal

pub returns-then-within-clause-needed : goal.returns-then-within-clause-needed
returns-then-within-clause-needed g c =
    let v = g.V.View.seen c.args.draft.now.view in
    let m = move_of c.args.m.now in
    let goes = old_first (some_copied _ c.args.m.now.replaced ∙ c.is_none.ensures ∙ ap not c.if-is_none.true) (eq-eqb m.from m.to.inode c.if-within.true) in
    needed_two c.lose_one.result (λ n. IsAfter v m.to.inode [] (λ k. IsNeededFor v k c.bytes.result.now n)) (IsAskedUnder v m.to.inode) (IsNeededThere v m)
    (λ n is under. needed_there v m [] m.name c.bytes.result.now n goes c.bytes.ensures.bytes under is) c.lose_one.ensures.needed c.lose_one.ensures.under

pub returns-then-within-clause-able : goal.returns-then-within-clause-able
returns-then-within-clause-able g c h shown told =
    let m = move_of c.args.m.now in
    c.lose_one.ensures.able h shown (tell_as m.name [] (c.bytes.result.now ∷ []) h (subst (λ names. CanTell names h)
    (one_loss m (some_copied _ c.args.m.now.replaced ∙ c.is_none.ensures ∙ ap not c.if-is_none.true) (eq-eqb m.from m.to.inode c.if-within.true)) told))

pub returns-in-Is-false-clause-able : goal.returns-in-Is-false-clause-able
returns-in-Is-false-clause-able g c h shown told =
    let m = move_of c.args.m.now in
    let first = first_loss m (some_copied _ c.args.m.now.replaced ∙ c.is_none.ensures ∙ ap not c.if-is_none.false) in
    sym c.in-Is-false.field-0-test ∙ answer_at _ _ _ c.in-Is-false.is (c.in_ok-lose_one.ensures.able h shown (tell_as m.new_name _ (c.bytes-2.result.now ∷ []) h (subst (λ names. CanTell names h) first told)))

pub returns-then-within-2-clause-able : goal.returns-then-within-2-clause-able
returns-then-within-2-clause-able g c h shown told =
    let m = move_of c.args.m.now in
    let first = first_loss m (some_copied _ c.args.m.now.replaced ∙ c.is_none.ensures ∙ ap not c.if-is_none.false) in
    c.lose_another.ensures.able h (subst (λ w. IsShown (g.V.View.seen w) m.to.inode h) (sym (answer_at _ _ _ c.in-Is-true.is c.in_ok-lose_one.ensures.view)) shown)
    (tell_as m.new_name _ (c.bytes-then-within-2.result.now ∷ c.bytes-then-within-2-2.result.now ∷ []) h (subst (λ names. CanTell names h) first told))

pub returns-then-within-clause-damaged : goal.returns-then-within-clause-damaged
returns-then-within-clause-damaged g c =
    let v = g.V.View.seen c.args.draft.now.view in
    let m = move_of c.args.m.now in
    let goes = old_first (some_copied _ c.args.m.now.replaced ∙ c.is_none.ensures ∙ ap not c.if-is_none.true) (eq-eqb m.from m.to.inode c.if-within.true) in
    damaged_so (λ rule b. IsAfter v m.to.inode [] (λ k. IsBroken v k rule b)) (IsWrongThere v m) (λ rule b is. broken_there v m [] m.name rule b goes is) c.lose_one.result c.lose_one.ensures.damaged

pub returns-then-is_none-clause-lost : goal.returns-then-is_none-clause-lost
returns-then-is_none-clause-lost g c done =
    let v = g.V.View.seen c.args.draft.now.view in
    let m = move_of c.args.m.now in
    subst (λ names. AreLost v m.to.inode names c.args.draft.now.fates) (sym (no_losses m (some_copied _ c.args.m.now.replaced ∙ c.is_none.ensures ∙ ap not c.if-is_none.true) (ne_eqb m.from m.to.inode c.if-within.false)))
    (subst (AreLost v m.to.inode []) (sym c.requires.new) (lost_none v m.to.inode))

pub returns-then-is_none-clause-still : goal.returns-then-is_none-clause-still
returns-then-is_none-clause-still g c done = subst (λ w. IsDirectoryIn w c.args.m.now.to.inode) (sym (seen_old g.V.View.seen c.args.draft.now c.requires.new)) c.requires.can.target

pub returns-in_err-lose_one-clause-damaged : goal.returns-in_err-lose_one-clause-damaged
returns-in_err-lose_one-clause-damaged g c =
    let v = g.V.View.seen c.args.draft.now.view in
    let m = move_of c.args.m.now in
    let goes = new_first (some_copied _ c.args.m.now.replaced ∙ c.is_none.ensures ∙ ap not c.if-is_none.false) in
    told_on (IsWrongThere v m) _ _ c.from_residual.ensures.1
    (tells_so (λ rule b. IsAfter v m.to.inode [] (λ k. IsBroken v k rule b)) (IsWrongThere v m)
    (λ rule b is. broken_there v m [] m.new_name rule b goes is) c.in_err-lose_one.field-0.0 c.in_err-lose_one.ensures.damaged)

pub returns-in-NeedBlock-clause-needed : goal.returns-in-NeedBlock-clause-needed
returns-in-NeedBlock-clause-needed g c =
    let v = g.V.View.seen c.args.draft.now.view in
    let m = move_of c.args.m.now in
    let goes = new_first (some_copied _ c.args.m.now.replaced ∙ c.is_none.ensures ∙ ap not c.if-is_none.false) in
    needed_there v m [] m.new_name c.bytes-2.result.now c.in-NeedBlock.missing goes c.bytes-2.ensures.bytes
    (needed_at _ _ _ c.in-NeedBlock.is c.in_ok-lose_one.ensures.under) (needed_at _ _ _ c.in-NeedBlock.is c.in_ok-lose_one.ensures.needed)

pub returns-then-within-2-clause-needed : goal.returns-then-within-2-clause-needed
returns-then-within-2-clause-needed g c =
    let v = g.V.View.seen c.args.draft.now.view in
    let m = move_of c.args.m.now in
    let goes = old_then (some_copied _ c.args.m.now.replaced ∙ c.is_none.ensures ∙ ap not c.if-is_none.false) (eq-eqb m.from m.to.inode c.if-within-2.true) in
    let same = answer_at _ _ _ c.in-Is-true.is c.in_ok-lose_one.ensures.view in
    needed_two c.lose_another.result (λ n. IsAfter v m.to.inode (c.bytes-then-within-2.result.now ∷ []) (λ k. IsNeededFor v k c.bytes-then-within-2-2.result.now n)) (IsAskedUnder v m.to.inode) (IsNeededThere v m)
    (λ n is under. needed_there v m (m.new_name ∷ []) m.name c.bytes-then-within-2-2.result.now n goes c.bytes-then-within-2-2.ensures.bytes under
    (subst (λ x. IsAfter v m.to.inode (x ∷ []) (λ k. IsNeededFor v k c.bytes-then-within-2-2.result.now n)) c.bytes-then-within-2.ensures.bytes is))
    (subst (λ w. IfNeedBlock c.lose_another.result (λ n. IsAfter (g.V.View.seen w) m.to.inode (c.bytes-then-within-2.result.now ∷ []) (λ k. IsNeededFor (g.V.View.seen w) k c.bytes-then-within-2-2.result.now n))) same c.lose_another.ensures.needed)
    (subst (λ w. IfNeedBlock c.lose_another.result (IsAskedUnder (g.V.View.seen w) m.to.inode)) same c.lose_another.ensures.under)

pub returns-then-within-2-clause-damaged : goal.returns-then-within-2-clause-damaged
returns-then-within-2-clause-damaged g c =
    let v = g.V.View.seen c.args.draft.now.view in
    let m = move_of c.args.m.now in
    let goes = old_then (some_copied _ c.args.m.now.replaced ∙ c.is_none.ensures ∙ ap not c.if-is_none.false) (eq-eqb m.from m.to.inode c.if-within-2.true) in
    damaged_so (λ rule b. IsAfter v m.to.inode (c.bytes-then-within-2.result.now ∷ []) (λ k. IsBroken v k rule b)) (IsWrongThere v m)
    (λ rule b is. broken_there v m (m.new_name ∷ []) m.name rule b goes (subst (λ x. IsAfter v m.to.inode (x ∷ []) (λ k. IsBroken v k rule b)) c.bytes-then-within-2.ensures.bytes is))
    c.lose_another.result
    (subst (λ w. IfDamaged c.lose_another.result (λ rule b. IsAfter (g.V.View.seen w) m.to.inode (c.bytes-then-within-2.result.now ∷ []) (λ k. IsBroken (g.V.View.seen w) k rule b))) (answer_at _ _ _ c.in-Is-true.is c.in_ok-lose_one.ensures.view) c.lose_another.ensures.damaged)
