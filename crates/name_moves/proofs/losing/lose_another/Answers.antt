use Rattle.std.proofs.Common.{ℕ, List, [], ◌∷◌, subst}
use Rattle.drafts.specs.Fates.{seen_in}
use Rattle.glock_names.proofs.StepLaws.{answer_at, needed_at}
use Rattle.directories.specs.Shown.{IsBroken, Says}
use Rattle.directories.proofs.Forms.{only_tells}
use Rattle.name_drafts.proofs.WalkFaults.{told_on}
use Rattle.name_moves.specs.Becoming.{IsAfter}
use Rattle.name_drafts.proofs.Fates.{absent_below, still_there}
use Rattle.name_moves.proofs.Loses.{tell_as}
use Rattle.name_moves.proofs.Under.{asked_to_go}
use Rattle.name_moves.proofs.After.{after_broken, after_needed, second_able, second_lost, second_there}
use Rattle.name_moves.proofs.losing.lose_another.Goals as goal

pub returns-in_err-_entry-clause-damaged : goal.returns-in_err-_entry-clause-damaged
returns-in_err-_entry-clause-damaged g c =
    let v = g.V.View.seen c.args.draft.now.view in
    let names : List (List ℕ) = c.args.gone.now ∷ [] in
    told_on (λ rule block. IsAfter v c.args.dir names (λ k. IsBroken v k rule block)) _ _ c.from_residual.ensures.1
    (after_broken v c.args.dir names c.args.draft.now.fates c.requires.lost c.in_err-_entry.field-0.0
    (λ k shown. only_tells (IsBroken _ k) c.in_err-_entry.field-0.0 (c.in_err-_entry.ensures.damaged k shown)))

pub returns-in-Is-None-clause-able : goal.returns-in-Is-None-clause-able
returns-in-Is-None-clause-able g c h shown sound =
    absurd (second_there g.V.View.seen c.args.draft.now c.args.dir c.args.gone.now c.args.name.now c.requires.lost c.requires.other c.requires.named h shown (tell_as c.args.gone.now (c.args.name.now ∷ []) (c.args.gone.now ∷ []) h sound)
    (λ k seen. subst (Says k c.args.name.now) c.in-Is-None.field-0-is (answer_at _ _ _ c.in-Is-None.is (c.in_ok-_entry.ensures.found k seen))))

pub returns-in-NeedBlock-clause-needed : goal.returns-in-NeedBlock-clause-needed
returns-in-NeedBlock-clause-needed g c =
    after_needed (g.V.View.seen c.args.draft.now.view) c.args.dir (c.args.gone.now ∷ []) c.args.draft.now.fates c.requires.lost c.args.name.now c.in-NeedBlock.missing
    (λ k shown. needed_at _ _ _ c.in-NeedBlock.is (c.in_ok-_entry.ensures.needed k shown))

pub returns-in_err-_leaf-clause-damaged : goal.returns-in_err-_leaf-clause-damaged
returns-in_err-_leaf-clause-damaged g c =
    let v = g.V.View.seen c.args.draft.now.view in
    let names : List (List ℕ) = c.args.gone.now ∷ [] in
    told_on (λ rule block. IsAfter v c.args.dir names (λ k. IsBroken v k rule block)) _ _ c.from_residual-in_err-_leaf.ensures.1
    (after_broken v c.args.dir names c.args.draft.now.fates c.requires.lost c.in_err-_leaf.field-0.0 (λ k shown. c.in_err-_leaf.ensures.damaged k shown))

pub returns-in-Is-clause-lost : goal.returns-in-Is-clause-lost
returns-in-Is-clause-lost g c done =
    second_lost g.V.View.seen c.args.draft.now c.args.dir c.args.gone.now c.args.name.now c.requires.lost c.remove.new.draft c.in-Is._leaf
    (answer_at _ _ _ c.in-Is.is c.in_ok-_leaf.ensures.taken) (answer_at _ _ _ c.in-Is.is c.in_ok-_leaf.ensures.two)
    (λ k seen. (c.in-Is-Some._entry, subst (Says k c.args.name.now) c.in-Is-Some.field-0-is (answer_at _ _ _ c.in-Is-Some.is (c.in_ok-_entry.ensures.found k seen))))

pub returns-in-Is-clause-able : goal.returns-in-Is-clause-able
returns-in-Is-clause-able g c h shown sound =
    let two = answer_at _ _ _ c.in-Is.is c.in_ok-_leaf.ensures.two in
    let is = second_able g.V.View.seen c.args.draft.now c.args.dir c.args.gone.now c.args.name.now c.requires.lost c.remove.new.draft c.in-Is._leaf
    (answer_at _ _ _ c.in-Is.is c.in_ok-_leaf.ensures.taken) two
    (λ k seen. (c.in-Is-Some._entry, subst (Says k c.args.name.now) c.in-Is-Some.field-0-is (answer_at _ _ _ c.in-Is-Some.is (c.in_ok-_entry.ensures.found k seen)))) h shown sound c.requires.still in
    c.has_directory.ensures.all two.bytes is.0 is.1.0 is.1.1

pub returns-in-NeedBlock-clause-under : goal.returns-in-NeedBlock-clause-under
returns-in-NeedBlock-clause-under g c =
    let v = g.V.View.seen c.args.draft.now.view in
    let w = seen_in g.V.View.seen c.args.draft.now in
    let n = c.in-NeedBlock.missing in
    asked_to_go w v c.is_a_view.ensures c.args.dir c.requires.still (still_there v c.args.draft.now.fates c.args.dir c.requires.there) n
    (absent_below v c.args.draft.now.fates n.block (needed_at _ _ _ c.in-NeedBlock.is c.in_ok-_entry.ensures.absent)) c.args.name.now (λ h shown. needed_at _ _ _ c.in-NeedBlock.is (c.in_ok-_entry.ensures.needed h shown))

pub returns-in-NeedBlock-2-clause-under : goal.returns-in-NeedBlock-2-clause-under
returns-in-NeedBlock-2-clause-under g c =
    let v = g.V.View.seen c.args.draft.now.view in
    let w = seen_in g.V.View.seen c.args.draft.now in
    let n = c.in-NeedBlock-2.missing in
    asked_to_go w v c.is_a_view.ensures c.args.dir c.requires.still (still_there v c.args.draft.now.fates c.args.dir c.requires.there) n
    (absent_below v c.args.draft.now.fates n.block (needed_at _ _ _ c.in-NeedBlock-2.is c.in_ok-_leaf.ensures.absent)) c.args.name.now (λ h shown. needed_at _ _ _ c.in-NeedBlock-2.is (c.in_ok-_leaf.ensures.needed h shown))

pub returns-in-NeedBlock-2-clause-needed : goal.returns-in-NeedBlock-2-clause-needed
returns-in-NeedBlock-2-clause-needed g c =
    after_needed (g.V.View.seen c.args.draft.now.view) c.args.dir (c.args.gone.now ∷ []) c.args.draft.now.fates c.requires.lost c.args.name.now c.in-NeedBlock-2.missing
    (λ k shown. needed_at _ _ _ c.in-NeedBlock-2.is (c.in_ok-_leaf.ensures.needed k shown))
