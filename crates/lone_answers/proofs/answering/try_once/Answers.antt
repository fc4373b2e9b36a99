use Rattle.std.proofs.Common.{◌≡◌, ◌<◌, ◌≤◌, Ok, refl, sym, subst, arith}
use Rattle.glock_names.specs.Steps.{TellsOf}
use Rattle.glock_names.specs.declared.steps.CallFault.{CallFault}
use Rattle.glock_names.specs.declared.steps.CallFault.TheVariants as fault
use Rattle.image_model.specs.Image.{Image}
use Rattle.image_model.specs.Owners.{Owners}
use Rattle.image_model.specs.Stands.{Layout}
use Rattle.file_tree.specs.Tree.{Tree}
use Rattle.file_calls.specs.AnswerParts.{IfNeedBlock, IfNotBuilt}
use Rattle.lone_view.specs.Seeing.{Lone, seen_alone}
use Rattle.lone_answers.specs.Faults.{IfDamaged, IsDamagedFor, IsLackedBlock, fault_at, leads_out, source_of}
use Rattle.lone_answers.specs.Reading.{WorksOnNone}
use Rattle.lone_answers.proofs.Tries.{damaged_so, failed_so, is_absent, is_asked, is_done, is_needed, is_spaceless, shown_damage}
use Rattle.lone_answers.proofs.answering.try_once.Goals as goal

pub returns-in-Ok-Done-clause-done : goal.returns-in-Ok-Done-clause-done
returns-in-Ok-Done-clause-done g c =
    is_done c.args.view.now c.args.call.now c.args.stamp.now.node c.args.stamp.now.time c.requires.node c.in-Ok-Done.field-0 c.in-Ok-Done.reply c.in-Ok-Done.change c.in-Ok-Done.field-0-is
    c.in-Ok-Done.ensures.done c.in-Ok-Done.ensures.inside c.in-Ok-Done.ensures.under c.in-Ok-Done.ensures.spaceless c.in-Ok-Done.ensures.answered c.in-Ok-Done.ensures.made

pub returns-in-Ok-NoSpace-clause-full : goal.returns-in-Ok-NoSpace-clause-full
returns-in-Ok-NoSpace-clause-full g c =
    is_spaceless c.args.view.now c.args.call.now c.args.stamp.now.node c.args.stamp.now.time c.requires.node c.in-Ok-NoSpace.field-0 c.in-Ok-NoSpace.need c.in-Ok-NoSpace.free c.in-Ok-NoSpace.field-0-is
    c.in-Ok-NoSpace.ensures.roomless c.in-Ok-NoSpace.ensures.fewer c.in-Ok-NoSpace.ensures.full c.in-Ok-NoSpace.ensures.space

pub returns-in-Ok-clause-read : goal.returns-in-Ok-clause-read
returns-in-Ok-clause-read g c =
    let n = c.args.view.now in
    let m = c.in-Ok-NeedBlock.missing in
    let kept = c.in-Ok.ensures.kept in
    record {
      block = m.block;
      lock = m.lock;
      bytes = kept.0;
      inside = c.in-Ok.ensures.inside;
      asked = is_asked n c.args.call.now c.args.stamp.now.node c.args.stamp.now.time c.requires.node c.in-Ok-NeedBlock.field-0 m c.in-Ok-NeedBlock.field-0-is c.in-Ok-NeedBlock.ensures.asked;
      absent = is_absent n c.args.call.now c.args.stamp.now.node c.args.stamp.now.time c.requires.node c.in-Ok-NeedBlock.field-0 m c.in-Ok-NeedBlock.field-0-is c.in-Ok-NeedBlock.ensures.absent;
      whole = kept.1;
      told = kept.3;
      kept = kept.2;
    }

-- ---- the disk failed, or the number leads out of it

pub returns-in-Err-fetch-clause-failed : goal.returns-in-Err-fetch-clause-failed
returns-in-Err-fetch-clause-failed g c =
    let n = c.args.view.now in
    let call = c.args.call.now in
    let node = c.args.stamp.now.node in
    let time = c.args.stamp.now.time in
    let m = c.in-Ok-NeedBlock.missing in
    let count = (g.D.SharedDisk.state c.args.disk.now).count in
    let lacked : IsLackedBlock n count call m.block → IsLackedBlock c.fetch.new.view count call m.block = subst (λ (x : Lone). IsLackedBlock x count call m.block) (sym c.in-Err-fetch.ensures.same) in
    failed_so c.in-Err-fetch.why (λ b rise. (b ≡ m.block) × (m.block < count)) (λ b rise. IsLackedBlock c.fetch.new.view count call b)
    (λ b rise is. subst (IsLackedBlock c.fetch.new.view count call) (sym is.0) (lacked (record {
      missing = m;
      is = refl;
      needed = is_needed n call node time c.requires.node c.in-Ok-NeedBlock.field-0 m c.in-Ok-NeedBlock.field-0-is c.in-Ok-NeedBlock.ensures.needed;
      asked = is_asked n call node time c.requires.node c.in-Ok-NeedBlock.field-0 m c.in-Ok-NeedBlock.field-0-is c.in-Ok-NeedBlock.ensures.asked;
      absent = is_absent n call node time c.requires.node c.in-Ok-NeedBlock.field-0 m c.in-Ok-NeedBlock.field-0-is c.in-Ok-NeedBlock.ensures.absent;
      inside = is.1;
    })))
    c.in-Err-fetch.ensures.failed

pub returns-in-Err-fetch-clause-damaged : goal.returns-in-Err-fetch-clause-damaged
returns-in-Err-fetch-clause-damaged g c =
    let n = c.args.view.now in
    let call = c.args.call.now in
    let m = c.in-Ok-NeedBlock.missing in
    let count = (g.D.SharedDisk.state c.args.disk.now).count in
    let needed = is_needed n call c.args.stamp.now.node c.args.stamp.now.time c.requires.node c.in-Ok-NeedBlock.field-0 m c.in-Ok-NeedBlock.field-0-is c.in-Ok-NeedBlock.ensures.needed in
    subst (λ (x : Lone). IfDamaged c.in-Err-fetch.why (IsDamagedFor (seen_alone x) count call)) (sym c.in-Err-fetch.ensures.same)
    (damaged_so c.in-Err-fetch.why _ (IsDamagedFor (seen_alone n) count call)
    (λ b rule out. subst (λ x. IsDamagedFor (seen_alone n) count call x rule) (sym out.1) (subst (IsDamagedFor (seen_alone n) count call (source_of n.size m)) (sym out.2) (leads_out m needed out.0)))
    c.in-Err-fetch.ensures.outside)

pub returns-in-Err-fetch-clause-sound : goal.returns-in-Err-fetch-clause-sound
returns-in-Err-fetch-clause-sound g c =
    let d = g.D.SharedDisk.state c.args.disk.now in
    damaged_so c.in-Err-fetch.why _ (λ b rule. WorksOnNone d c.args.view.now)
    (λ b rule out im o l t works.
    let past : d.count ≤ c.in-Ok-NeedBlock.missing.block = out.0 in
    let same : im.count ≡ d.count = works.count in
    let low = subst (λ a. IfNeedBlock (Ok a) (λ m. m.block < im.count)) c.in-Ok-NeedBlock.field-0-is (c.in-Ok-NeedBlock.ensures.on_device im o l t works.view) in
    absurd (omega (arith, past, same, low)))
    c.in-Err-fetch.ensures.outside

-- ---- the call can't be answered as it stands

pub returns-in-Ok-NotBuilt-clause-built : goal.returns-in-Ok-NotBuilt-clause-built
returns-in-Ok-NotBuilt-clause-built g c = λ im o l t works. subst (λ a. IfNotBuilt (Ok a) ⊥) c.in-Ok-NotBuilt.field-0-is (c.in-Ok-NotBuilt.ensures.built im o l t works.view)

pub returns-in-Err-clause-sound : goal.returns-in-Err-clause-sound
returns-in-Err-clause-sound g c =
    let d = g.D.SharedDisk.state c.args.disk.now in
    subst (λ w. IfDamaged w (λ b rule. WorksOnNone d c.args.view.now)) (sym c.why_of.ensures)
    (each c.in-Err.fault (λ im o l t works. c.in-Err.ensures.sound im o l t works.view))
  where
    each : (f : CallFault) {P : Image → Owners → Layout → Tree → Type 0} → ((im : Image) (o : Owners) (l : Layout) (t : Tree) → P im o l t → TellsOf (λ rule b. ⊥) f)
        → IfDamaged (fault_at f) (λ b rule. (im : Image) (o : Owners) (l : Layout) (t : Tree) → P im o l t → ⊥)
    each (fault.Damaged block rule) so = so
    each fault.NoMemory so = tt

pub returns-in-Err-clause-damaged : goal.returns-in-Err-clause-damaged
returns-in-Err-clause-damaged g c =
    let count = (g.D.SharedDisk.state c.args.disk.now).count in
    subst (λ w. IfDamaged w (IsDamagedFor (seen_alone c.args.view.now) count c.args.call.now)) (sym c.why_of.ensures)
    (shown_damage c.args.view.now c.args.call.now c.args.stamp.now.node c.args.stamp.now.time c.requires.node count c.in-Err.fault c.in-Err.ensures.kept c.in-Err.ensures.damaged)
