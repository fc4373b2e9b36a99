use Rattle.std.proofs.Common.{◌<◌, ℕ, sym, subst, arith}
use Rattle.std.specs.Prelude.{Contains}
use Rattle.dinode_tree.specs.Below.{IsBelow, IsLedFrom, TellsOfBlock}
use Rattle.dinode_tree.specs.declared.below.PointedBlock.{PointedBlock}
use Rattle.std.proofs.lemmas.Option.{slice_get-get_or}
use Rattle.glock_names.specs.Steps.{TellsOf}
use Rattle.glock_names.proofs.StepLaws.{answer_at, needed_at}
use Rattle.dinode_tree.specs.Broken.{IsBroken}
use Rattle.image_model.specs.Owners.{holding}
use Rattle.image_journals.specs.Blocks.{seen_of}
use Rattle.image_journals.proofs.Adding.{added_none}
use Rattle.image_journals.proofs.Held.{seen_image, seen_now, shown_now, sound_now}
use Rattle.image_journals.proofs.Journals.{unneeded, untold}
use Rattle.image_journals.proofs.SystemBlocks.{IsPointedFirst, below_now, pointed_all, pointed_more}
use Rattle.image_journals.proofs.system.add_below.Goals as goal

pub returns-in-Err-Damaged : goal.returns-in-Err-Damaged
returns-in-Err-Damaged c r o l s file =
    let v = seen_of c.args.blocks.now in
    let d = c.args.dinode in
    let h = holding (seen_image v r) o d in
    untold h c.in-Err-Damaged.field-0-0 c.in-Err-Damaged.field-0-1 c.sound_inodes_break_nothing.ensures (sound_now v r o l s d file)
    (subst (TellsOf (IsBroken h)) c.in-Err-Damaged.field-0-is (c.in-Err-Damaged.ensures.damaged h (shown_now v r o l s d file c.sound_inodes_are_shown.ensures)))

pub returns-in-NeedBlock : goal.returns-in-NeedBlock
returns-in-NeedBlock c r o l s file =
    let v = seen_of c.args.blocks.now in
    let d = c.args.dinode in
    let is = shown_now v r o l s d file c.sound_inodes_are_shown.ensures in
    unneeded v d (holding (seen_image v r) o d) _ _ _ is (seen_now v r o l s d file) (needed_at _ _ _ c.in-NeedBlock.is (c.in-Ok.ensures.needed (holding (seen_image v r) o d) is))

pub loop-pointed-init : goal.loop-pointed-init
loop-pointed-init c = added_none _ (IsPointedFirst c.deref-pointed-items.result.now 0) (λ x one. let low : one.0 < 0 = one.2 in omega (arith, low))

pub loop-pointed-preserved : goal.loop-pointed-preserved
loop-pointed-preserved c =
    let list = c.deref-pointed-items.result.now in
    let k = c.loop-pointed.pointed-index in
    pointed_more list k _ (slice_get-get_or list k _ c.loop-pointed-test.true) _ _ _ c.loop-pointed.invariant c.in_ok-push.ensures.items

pub returns : goal.returns
returns c r o l s file =
    let v = seen_of c.args.blocks.now in
    let d = c.args.dinode in
    let h = holding (seen_image v r) o d in
    let is = shown_now v r o l s d file c.sound_inodes_are_shown.ensures in
    let row = c.deref-pointed-items.result.now in
    below_now v r o l s d file c.sound_pointers_are_parts.ensures.parts c.sound_pointers_are_parts.ensures.led _ _
    (pointed_all h row c.loop-pointed.pointed-index (omega (arith, c.loop-pointed-test.false))
    (subst (λ ps. (p : PointedBlock) → Contains ps p → IsLedFrom h p.from p.block) (sym c.deref-pointed-items.ensures.value) (answer_at _ _ _ c.in-Is.is (c.in-Ok.ensures.led h is)))
    (subst (λ ps. (b : ℕ) → IsBelow h b → TellsOfBlock ps b) (sym c.deref-pointed-items.ensures.value) (answer_at _ _ _ c.in-Is.is (c.in-Ok.ensures.all h is))) _ _ c.loop-pointed.invariant)
