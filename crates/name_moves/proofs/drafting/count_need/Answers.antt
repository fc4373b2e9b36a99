use Rattle.std.proofs.Common.{◌≡◌, ℕ, true, false, true≢false, None, Result, Ok, Err, sym, ap, ◌∙◌, subst}
use Rattle.std.proofs.lemmas.Bool.{cond-false}
use Rattle.drafts.specs.Fates.{seen_in}
use Rattle.gfs2_layout.specs.Holding.{Holding}
use Rattle.gfs2_layout.specs.Inode.{is_hashed_in}
use Rattle.glock_names.proofs.StepLaws.{answer_at, answer_so, needed_at}
use Rattle.glock_names.specs.Steps.{IfDamaged, IfIs, IfNeedBlock, TellsOf}
use Rattle.glock_names.specs.Views.{Seen, HasBlock, IsOfView}
use Rattle.glock_names.specs.declared.steps.CallFault.{CallFault}
use Rattle.glock_names.specs.declared.steps.Missing.{Missing}
use Rattle.glock_names.specs.declared.steps.Step.{Step}
use Rattle.glock_names.specs.declared.steps.Step.TheVariants.{Is, NeedBlock}
use Rattle.directories.specs.Shown.{IsShown}
use Rattle.directories.proofs.Forms.{is_directory_here}
use Rattle.name_drafts.proofs.WalkFaults.{damaged_so, told_on, tells_so}
use Rattle.name_drafts.specs.Inserting.{IsNeededForName, IsWrongForName, SeesForName}
use Rattle.name_drafts.specs.Need.{name_need, need_in_hashed, need_in_linear}
use Rattle.name_drafts.specs.Needing.{TakesBlocks}
use Rattle.name_drafts.proofs.Fates.{absent_below, seen_over, still_there}
use Rattle.name_moves.specs.Becoming.{IsAfter, LosesAll, NeedsAfter, none_went, of_linear, of_sound}
use Rattle.name_moves.specs.Moving.{IsNeededThere, IsWrongThere, lost_there, move_of}
use Rattle.name_moves.specs.Moving as moving
use Rattle.name_moves.specs.Steps.{AreLost, left_of}
use Rattle.name_moves.proofs.After.{after_needed_name, after_sees_name, after_wrong_name}
use Rattle.name_moves.proofs.Loses.{all_directory, all_plain, all_sound, can_tell, none_left}
use Rattle.name_moves.proofs.Ways.{needed_two}
use Rattle.name_moves.proofs.Under.{asked_to_come}
use Rattle.name_moves.proofs.drafting.count_need.Goals as goal

needed_each : {A : Type 0} (r : Result (Step A) CallFault) (S : Holding → Type 0) (P : Holding → Missing → Type 0) → ((h : Holding) → S h → IfNeedBlock r (P h)) → IfNeedBlock r (λ n. (h : Holding) → S h → P h n)
needed_each (Ok (Is x)) S P each = tt
needed_each (Ok (NeedBlock n)) S P each = each
needed_each (Err f) S P each = tt

is_each : {A : Type 0} (r : Result (Step A) CallFault) (S P : Holding → Type 0) → ((h : Holding) → S h → IfIs r (λ a. P h)) → IfIs r (λ a. (h : Holding) → S h → P h)
is_each (Ok (Is x)) S P each = each
is_each (Ok (NeedBlock n)) S P each = tt
is_each (Err f) S P each = tt

damaged_each : {A : Type 0} (r : Result A CallFault) (Q : ℕ → ℕ → Type 0) (S : Holding → Type 0) (P : Holding → ℕ → ℕ → Type 0) → ((f : CallFault) → ((h : Holding) → S h → TellsOf (P h) f) → TellsOf Q f)
    → ((h : Holding) → S h → IfDamaged r (P h)) → IfDamaged r Q
damaged_each (Ok x) Q S P so each = tt
damaged_each (Err f) Q S P so each = so f each

pub returns-in_err-lose_names-clause-damaged : goal.returns-in_err-lose_names-clause-damaged
returns-in_err-lose_names-clause-damaged g c =
    told_on (IsWrongThere (g.V.View.seen c.args.view.now) (move_of c.args.m.now)) _ _ c.from_residual.ensures.1
    (subst (λ x. TellsOf (IsWrongThere (g.V.View.seen x) (move_of c.args.m.now)) c.in_err-lose_names.field-0.0) (ap (λ d. d.view) c.new-draft.ensures) c.in_err-lose_names.ensures.damaged)

pub returns-in-NeedBlock-clause-needed : goal.returns-in-NeedBlock-clause-needed
returns-in-NeedBlock-clause-needed g c =
    subst (λ x. IsNeededThere (g.V.View.seen x) (move_of c.args.m.now) c.in-NeedBlock.missing) (ap (λ d. d.view) c.new-draft.ensures) (needed_at _ _ _ c.in-NeedBlock.is c.in_ok-lose_names.ensures.needed)

pub returns-in-Is-false-clause-need : goal.returns-in-Is-false-clause-need
returns-in-Is-false-clause-need g c h shown sound =
    let to = c.args.m.now.to.inode in
    let no : false ≡ true = sym c.in-Is-false.field-0-test ∙ answer_at _ _ _ c.in-Is-false.is
    (c.in_ok-lose_names.ensures.able h (subst (λ x. IsShown (g.V.View.seen x) to h) (sym (ap (λ d. d.view) c.new-draft.ensures)) shown) (of_sound sound)) in
    absurd (true≢false (sym no))

pub returns-in-Is-false-clause-linear : goal.returns-in-Is-false-clause-linear
returns-in-Is-false-clause-linear g c h shown plain flat =
    let to = c.args.m.now.to.inode in
    let no : false ≡ true = sym c.in-Is-false.field-0-test ∙ answer_at _ _ _ c.in-Is-false.is
    (c.in_ok-lose_names.ensures.able h (subst (λ x. IsShown (g.V.View.seen x) to h) (sym (ap (λ d. d.view) c.new-draft.ensures)) shown) (of_linear plain flat)) in
    absurd (true≢false (sym no))

pub returns-in-Is-false-clause-hashed : goal.returns-in-Is-false-clause-hashed
returns-in-Is-false-clause-hashed g c h shown hashed none =
    let to = c.args.m.now.to.inode in
    let no : false ≡ true = sym c.in-Is-false.field-0-test ∙ answer_at _ _ _ c.in-Is-false.is
    (c.in_ok-lose_names.ensures.able h (subst (λ x. IsShown (g.V.View.seen x) to h) (sym (ap (λ d. d.view) c.new-draft.ensures)) shown) (none_went none)) in
    absurd (true≢false (sym no))

pub returns-in-Is-false-clause-seen : goal.returns-in-Is-false-clause-seen
returns-in-Is-false-clause-seen g c h shown told =
    let to = c.args.m.now.to.inode in
    let no : false ≡ true = sym c.in-Is-false.field-0-test ∙ answer_at _ _ _ c.in-Is-false.is
    (c.in_ok-lose_names.ensures.able h (subst (λ x. IsShown (g.V.View.seen x) to h) (sym (ap (λ d. d.view) c.new-draft.ensures)) shown) told) in
    absurd (true≢false (sym no))

pub returns-clause-linear : goal.returns-clause-linear
returns-clause-linear g c h shown plain flat =
    let v = g.V.View.seen c.args.view.now in
    let m = move_of c.args.m.now in
    let to = m.to.inode in
    let names = lost_there m in
    let d = c.lose_names.new.draft in
    let over = ap (λ x. x.view) c.new-draft.ensures in
    let seen_d = seen_over g.V.View.seen c.args.view.now d (answer_at _ _ _ c.in-Is-true.is c.in_ok-lose_names.ensures.view ∙ over) in
    let lost = subst (λ x. AreLost (g.V.View.seen x) to names d.fates) over (answer_at _ _ _ c.in-Is-true.is c.in_ok-lose_names.ensures.lost c.in-Is-true.field-0-test) in
    let is = lost.each h shown (of_linear plain flat) in
    let k = left_of v d.fates h in
    let k_plain = (all_plain names h k is.lost plain).0 in
    answer_so c.need_name.result (λ need. need ≡ need_in_linear k c.bytes.result.now) (NeedsAfter names h m.new_name)
    (λ need e. record { without = k; lost = is.lost; is = e ∙ ap (need_in_linear k) c.bytes.ensures.bytes ∙ sym (cond-false (is_hashed_in k) (need_in_hashed k m.new_name) (need_in_linear k m.new_name) k_plain) })
    (c.need_name.ensures.linear k (subst (λ w. IsShown w to k) (sym seen_d) is.shown) k_plain)

pub returns-clause-hashed : goal.returns-clause-hashed
returns-clause-hashed g c h shown hashed none =
    let v = g.V.View.seen c.args.view.now in
    let m = move_of c.args.m.now in
    let to = m.to.inode in
    let names = lost_there m in
    let d = c.lose_names.new.draft in
    let over = ap (λ x. x.view) c.new-draft.ensures in
    let seen_d = seen_over g.V.View.seen c.args.view.now d (answer_at _ _ _ c.in-Is-true.is c.in_ok-lose_names.ensures.view ∙ over) in
    let lost = subst (λ x. AreLost (g.V.View.seen x) to names d.fates) over (answer_at _ _ _ c.in-Is-true.is c.in_ok-lose_names.ensures.lost c.in-Is-true.field-0-test) in
    let is = lost.each h shown (none_went none) in
    let k = left_of v d.fates h in
    let same : k ≡ h = none_left h k (subst (λ xs. LosesAll xs h k) none is.lost) in
    answer_so c.need_name.result (TakesBlocks k c.bytes.result.now) (TakesBlocks h m.new_name)
    (λ need takes. subst (λ x. TakesBlocks x m.new_name need) same (subst (λ n. TakesBlocks k n need) c.bytes.ensures.bytes takes))
    (c.need_name.ensures.hashed k (subst (λ w. IsShown w to k) (sym seen_d) is.shown) (ap is_hashed_in same ∙ hashed))

pub returns-clause-need : goal.returns-clause-need
returns-clause-need g c h shown sound =
    let v = g.V.View.seen c.args.view.now in
    let m = move_of c.args.m.now in
    let to = m.to.inode in
    let names = lost_there m in
    let d = c.lose_names.new.draft in
    let over = ap (λ x. x.view) c.new-draft.ensures in
    let seen_d = seen_over g.V.View.seen c.args.view.now d (answer_at _ _ _ c.in-Is-true.is c.in_ok-lose_names.ensures.view ∙ over) in
    let lost = subst (λ x. AreLost (g.V.View.seen x) to names d.fates) over (answer_at _ _ _ c.in-Is-true.is c.in_ok-lose_names.ensures.lost c.in-Is-true.field-0-test) in
    let is = lost.each h shown (can_tell names h sound) in
    let k = left_of v d.fates h in
    answer_so c.need_name.result (λ need. need ≡ name_need k c.bytes.result.now) (NeedsAfter names h m.new_name)
    (λ need e. record { without = k; lost = is.lost; is = e ∙ ap (name_need k) c.bytes.ensures.bytes })
    (c.need_name.ensures.need k (subst (λ w. IsShown w to k) (sym seen_d) is.shown) (all_sound names h k is.lost sound)
    (all_directory names h k is.lost ∙ is_directory_here v to h c.requires.can.target c.requires.can.target_there shown.inode))

pub returns-clause-seen : goal.returns-clause-seen
returns-clause-seen g c =
    let v = g.V.View.seen c.args.view.now in
    let m = move_of c.args.m.now in
    let to = m.to.inode in
    let names = lost_there m in
    let d = c.lose_names.new.draft in
    let w = seen_in g.V.View.seen d in
    let over = ap (λ x. x.view) c.new-draft.ensures in
    let seen_d = seen_over g.V.View.seen c.args.view.now d (answer_at _ _ _ c.in-Is-true.is c.in_ok-lose_names.ensures.view ∙ over) in
    let lost = subst (λ x. AreLost (g.V.View.seen x) to names d.fates) over (answer_at _ _ _ c.in-Is-true.is c.in_ok-lose_names.ensures.lost c.in-Is-true.field-0-test) in
    answer_so c.need_name.result (λ need. (k : Holding) → IsShown w to k → SeesForName w k c.bytes.result.now) (λ need. IsAfter v to names (λ k. SeesForName v k m.new_name))
    (λ need each. after_sees_name v to names d.fates lost m.new_name (λ k shown. subst (λ x. SeesForName x k m.new_name) seen_d (subst (SeesForName w k) c.bytes.ensures.bytes (each k (subst (λ x. IsShown x to k) (sym seen_d) shown)))))
    (is_each c.need_name.result (IsShown w to) (λ k. SeesForName w k c.bytes.result.now) c.need_name.ensures.seen)

pub returns-clause-needed : goal.returns-clause-needed
returns-clause-needed g c =
    let v = g.V.View.seen c.args.view.now in
    let m = move_of c.args.m.now in
    let to = m.to.inode in
    let names = lost_there m in
    let d = c.lose_names.new.draft in
    let w = seen_in g.V.View.seen d in
    let over = ap (λ x. x.view) c.new-draft.ensures in
    let seen_d = seen_over g.V.View.seen c.args.view.now d (answer_at _ _ _ c.in-Is-true.is c.in_ok-lose_names.ensures.view ∙ over) in
    let lost = subst (λ x. AreLost (g.V.View.seen x) to names d.fates) over (answer_at _ _ _ c.in-Is-true.is c.in_ok-lose_names.ensures.lost c.in-Is-true.field-0-test) in
    let still = answer_at _ _ _ c.in-Is-true.is c.in_ok-lose_names.ensures.still c.in-Is-true.field-0-test in
    let there = subst (λ x. HasBlock x to) (sym seen_d) (still_there v d.fates to c.requires.can.target_there) in
    needed_two c.need_name.result (λ n. (h : Holding) → IsShown w to h → IsNeededForName w h c.bytes.result.now n) (λ n. w.block_at n.block ≡ None) (IsNeededThere v m)
    (λ n each absent. moving.IsNeededThere.to_come
    (asked_to_come w v c.is_a_view-2.ensures to still there n (absent_below v d.fates n.block (ap (λ (x : Seen). x.block_at n.block) (sym seen_d) ∙ absent)) c.bytes.result.now each)
    (after_needed_name v to names d.fates lost m.new_name n (λ k seen. subst (λ x. IsNeededForName x k m.new_name n) seen_d (subst (λ x. IsNeededForName w k x n) c.bytes.ensures.bytes (each k (subst (λ x. IsShown x to k) (sym seen_d) seen))))))
    (needed_each c.need_name.result (IsShown w to) (λ h n. IsNeededForName w h c.bytes.result.now n) (λ h seen. c.need_name.ensures.needed h seen)) c.need_name.ensures.absent

pub returns-clause-damaged : goal.returns-clause-damaged
returns-clause-damaged g c =
    let v = g.V.View.seen c.args.view.now in
    let m = move_of c.args.m.now in
    let to = m.to.inode in
    let names = lost_there m in
    let d = c.lose_names.new.draft in
    let w = seen_in g.V.View.seen d in
    let over = ap (λ x. x.view) c.new-draft.ensures in
    let seen_d = seen_over g.V.View.seen c.args.view.now d (answer_at _ _ _ c.in-Is-true.is c.in_ok-lose_names.ensures.view ∙ over) in
    let lost = subst (λ x. AreLost (g.V.View.seen x) to names d.fates) over (answer_at _ _ _ c.in-Is-true.is c.in_ok-lose_names.ensures.lost c.in-Is-true.field-0-test) in
    damaged_each c.need_name.result (IsWrongThere v m) (IsShown w to) (IsWrongForName w)
    (λ f each. tells_so (λ rule b. IsAfter v to names (λ k. IsWrongForName v k rule b)) (IsWrongThere v m) (λ rule b is. moving.IsWrongThere.to_come rule b is) f
    (after_wrong_name v to names d.fates lost f (λ k seen. subst (λ x. TellsOf (IsWrongForName x k) f) seen_d (each k (subst (λ x. IsShown x to k) (sym seen_d) seen)))))
    (λ h seen. c.need_name.ensures.damaged h seen)

pub returns-clause-kept : goal.returns-clause-kept
returns-clause-kept g c =
    let v = g.V.View.seen c.args.view.now in
    let m = move_of c.args.m.now in
    let d = c.lose_names.new.draft in
    let w = seen_in g.V.View.seen d in
    let over = ap (λ x. x.view) c.new-draft.ensures in
    let seen_d = seen_over g.V.View.seen c.args.view.now d (answer_at _ _ _ c.in-Is-true.is c.in_ok-lose_names.ensures.view ∙ over) in
    let lost = subst (λ x. AreLost (g.V.View.seen x) m.to.inode (lost_there m) d.fates) over (answer_at _ _ _ c.in-Is-true.is c.in_ok-lose_names.ensures.lost c.in-Is-true.field-0-test) in
    damaged_so (IsOfView w) (IsOfView v) (λ rule b has. lost.sees b (subst (λ x. HasBlock x b) seen_d has)) c.need_name.result c.need_name.ensures.kept
