use Rattle.std.proofs.Common.{◌≡◌, ◌+◌, true≢false, length, sym, ap, ◌∙◌, subst}
use Rattle.std.proofs.lemmas.Bool.{eq-eqb, eqb-true}
use Rattle.std.proofs.lemmas.List.{nil_from_length}
use Rattle.glock_names.specs.Steps.{TellsOf}
use Rattle.glock_names.specs.Views.{HasBlock, IsOfView}
use Rattle.glock_names.proofs.StepLaws.{answer_at, needed_at}
use Rattle.dinode_tree.specs.Broken.{IsBroken}
use Rattle.dinode_tree.specs.Reading.{IsNeeded}
use Rattle.dinode_tree.specs.Shown.{IsShown}
use Rattle.growth_drafts.specs.Taken.{IsLookedAt}
use Rattle.file_cuts.specs.Written.{CanWrite}
use Rattle.group_locks.proofs.Faults.{told_on}
use Rattle.file_changes.proofs.Fresh.{seen_old}
use Rattle.file_changes.proofs.Stepping.{none_left, wrote}
use Rattle.file_changes.proofs.writes.write_bytes.Goals.{then-done, else-done}
use Rattle.file_changes.proofs.writes.write_bytes.Goals as goal

pub returns-in_err-done-clause-damaged : goal.returns-in_err-done-clause-damaged
returns-in_err-done-clause-damaged g c h shown =
    told_on (IsBroken h) _ _ c.from_residual-in_err-done.ensures.1
    (c.in_err-done.ensures.damaged h (subst (λ w. IsShown w c.args.inode h) (sym (seen_old g.V.View.seen c.args.draft.now c.requires.new)) shown))

pub returns-in_err-done-clause-kept : goal.returns-in_err-done-clause-kept
returns-in_err-done-clause-kept g c =
    told_on (IsOfView (g.V.View.seen c.args.draft.now.view)) _ _ c.from_residual-in_err-done.ensures.1
    (subst (λ w. TellsOf (IsOfView w) c.in_err-done.field-0.0) (seen_old g.V.View.seen c.args.draft.now c.requires.new) c.in_err-done.ensures.kept)

pub returns-in-Is-clause-written : goal.returns-in-Is-clause-written
returns-in-Is-clause-written g c h shown can all =
    let room_is : c.from_vec-left.result.items ≡ c.args.room.now = c.from_vec-left.ensures.items ∙ c.in_ok-from_slice.ensures.items in
    let has = answer_at _ _ _ c.in-Is.is (c.in_ok-done.ensures.written h (subst (λ w. IsShown w c.args.inode h) (sym (seen_old g.V.View.seen c.args.draft.now c.requires.new)) shown)
    (subst (λ room. CanWrite h c.args.at (length c.args.new.now) room) (sym room_is) can)) in
    elim c.if-done.branch [
      | then-done w ↦
          wrote g.V.View.seen c.args.draft.now c.write_range.new.draft c.args.at c.args.new.now c.from_vec-left.result.items c.args.room.now c.write_range.new.room.items h c.requires.new c.write_range.ensures.view room_is
          (nil_from_length c.write_range.new.room.items (sym c.write_range.new.room.ok.0 ∙ eqb-true _ 0 (sym w.is_empty.ensures ∙ sym w.result-is ∙ all))) has.1
      | else-done w ↦ absurd (true≢false (sym all ∙ w.result-is ∙ w.if-done.false))
    ]

pub returns-in-Is-clause-there : goal.returns-in-Is-clause-there
returns-in-Is-clause-there g c =
    subst (λ w. HasBlock w c.args.inode) (seen_old g.V.View.seen c.args.draft.now c.requires.new) (answer_at _ _ _ c.in-Is.is c.in_ok-done.ensures.there)

pub returns-in-Is-clause-done : goal.returns-in-Is-clause-done
returns-in-Is-clause-done g c h shown can many =
    let room_is : c.from_vec-left.result.items ≡ c.args.room.now = c.from_vec-left.ensures.items ∙ c.in_ok-from_slice.ensures.items in
    let has = answer_at _ _ _ c.in-Is.is (c.in_ok-done.ensures.written h (subst (λ w. IsShown w c.args.inode h) (sym (seen_old g.V.View.seen c.args.draft.now c.requires.new)) shown)
    (subst (λ room. CanWrite h c.args.at (length c.args.new.now) room) (sym room_is) can)) in
    elim c.if-done.branch [
      | then-done w ↦
          w.result-is ∙ w.is_empty.ensures ∙ eq-eqb _ 0 (c.write_range.new.room.ok.0
          ∙ none_left c.from_vec-left.result.items has.1.taken c.write_range.new.room.items has.1.from_front (has.1.as_many ∙ sym many ∙ ap length (sym room_is)))
      | else-done w ↦ absurd (true≢false (sym has.0 ∙ w.if-done.false))
    ]

pub returns-clause-needed : goal.returns-clause-needed
returns-clause-needed g c h shown =
    let same = seen_old g.V.View.seen c.args.draft.now c.requires.new in
    subst (λ w. IsNeeded w h (IsLookedAt h c.args.at (c.args.at + length c.args.new.now)) 0 c.in-NeedBlock.missing) same
    (needed_at _ _ _ c.in-NeedBlock.is (c.in_ok-done.ensures.needed h (subst (λ w. IsShown w c.args.inode h) (sym same) shown)))
