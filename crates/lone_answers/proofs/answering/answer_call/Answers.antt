use Rattle.std.proofs.Common.{◌≡◌, Option, None, refl, sym, ap, ◌∙◌, subst, arith}
use Rattle.std.specs.Prelude.{IfNone, IfSome}
use Rattle.shared_disk.specs.Disk.{DiskState}
use Rattle.lone_view.specs.Seeing.{Lone, seen_alone}
use Rattle.lone_answers.specs.Answers.{IsDoneBy, IsSpaceless}
use Rattle.lone_answers.specs.Faults.{IfDone, IfFull, IsDamagedFor, IsLackedBlock}
use Rattle.lone_answers.specs.Reading.{HasRead, Nothing, OneMore, ReadsOne, WorksOnNone}
use Rattle.lone_answers.specs.declared.answers.Answered.{Answered}
use Rattle.lone_answers.proofs.Lacking.{one_less}
use Rattle.lone_answers.proofs.Working.{reading_keeps}
use Rattle.lone_answers.proofs.Tries.{damaged_so, failed_so, unbuilt_so}
use Rattle.lone_answers.proofs.answering.answer_call.Goals as goal

-- where the node works on no image behind what was read, it works on none before
none_before : (d now : DiskState) (n later : Lone) → now ≡ d → HasRead d n later → WorksOnNone now later → WorksOnNone d n
none_before d now n later same read none im o l t works = subst (λ (e : DiskState). WorksOnNone e later) same none im o l t (reading_keeps d n later im o l t read works)

pub loop-found-init : goal.loop-found-init
loop-found-init g c = record { same = refl; list = refl; later = λ i. omega arith; read = Nothing; size = refl; groups = refl }

-- what was read of the disk as it now is was read of it as it was
one_of : (d now : DiskState) (n next : Lone) (r : Option Answered) → now ≡ d → r ≡ None → IfNone r (ReadsOne now n next) → ReadsOne d n next
one_of d now n next r same none read = subst (λ (e : DiskState). ReadsOne e n next) same (subst (λ (x : Option Answered). IfNone x (ReadsOne now n next)) none read)

pub loop-found-smaller : goal.loop-found-smaller
loop-found-smaller g c =
    let d = g.D.SharedDisk.state c.args.disk.now in
    one_less d c.loop-found.view c.try_once.new.view
    (one_of d (g.D.SharedDisk.state c.loop-found.disk) c.loop-found.view c.try_once.new.view c.in-Ok-None.field-0 c.loop-found.invariant.same c.in-Ok-None.field-0-is c.in-Ok-None.ensures.read)

pub loop-found-preserved : goal.loop-found-preserved
loop-found-preserved g c =
    let d = g.D.SharedDisk.state c.args.disk.now in
    let so = c.loop-found.invariant in
    let one = one_of d (g.D.SharedDisk.state c.loop-found.disk) c.loop-found.view c.try_once.new.view c.in-Ok-None.field-0 so.same c.in-Ok-None.field-0-is c.in-Ok-None.ensures.read in
    record {
      same = c.try_once.ensures.reads.same ∙ so.same;
      list = c.try_once.ensures.reads.list ∙ so.list;
      later = λ i. omega (arith, so.later i, c.try_once.ensures.reads.later i);
      read = OneMore c.loop-found.view c.try_once.new.view so.read one;
      size = ap (λ (n : Lone). n.size) one.kept ∙ so.size;
      groups = ap (λ (n : Lone). n.groups) one.kept ∙ so.groups;
    }

pub returns-in-Err-clause-read : goal.returns-in-Err-clause-read
returns-in-Err-clause-read g c = subst (HasRead (g.D.SharedDisk.state c.args.disk.now) c.args.view.now) (sym c.in-Err.ensures.same_in_error) c.loop-found.invariant.read

pub returns-in-Err-clause-sound : goal.returns-in-Err-clause-sound
returns-in-Err-clause-sound g c =
    let so = c.loop-found.invariant in
    damaged_so c.in-Err.why _ (λ b rule. WorksOnNone (g.D.SharedDisk.state c.args.disk.now) c.args.view.now)
    (λ b rule none. none_before (g.D.SharedDisk.state c.args.disk.now) (g.D.SharedDisk.state c.loop-found.disk) c.args.view.now c.loop-found.view so.same so.read none) c.in-Err.ensures.sound

pub returns-in-Err-clause-built : goal.returns-in-Err-clause-built
returns-in-Err-clause-built g c =
    let so = c.loop-found.invariant in
    unbuilt_so c.in-Err.why (none_before (g.D.SharedDisk.state c.args.disk.now) (g.D.SharedDisk.state c.loop-found.disk) c.args.view.now c.loop-found.view so.same so.read) c.in-Err.ensures.built

pub returns-in-Err-clause-failed : goal.returns-in-Err-clause-failed
returns-in-Err-clause-failed g c =
    failed_so c.in-Err.why _ (λ block rise. IsLackedBlock c.try_once.new.view (g.D.SharedDisk.state c.args.disk.now).count c.args.call.now block)
    (λ block rise is. subst (λ (e : DiskState). IsLackedBlock c.try_once.new.view e.count c.args.call.now block) c.loop-found.invariant.same is) c.in-Err.ensures.failed

pub returns-in-Err-clause-damaged : goal.returns-in-Err-clause-damaged
returns-in-Err-clause-damaged g c =
    damaged_so c.in-Err.why _ (IsDamagedFor (seen_alone c.try_once.new.view) (g.D.SharedDisk.state c.args.disk.now).count c.args.call.now)
    (λ b rule is. subst (λ (e : DiskState). IsDamagedFor (seen_alone c.try_once.new.view) e.count c.args.call.now b rule) c.loop-found.invariant.same is) c.in-Err.ensures.damaged

pub returns-in-Ok-Some-clause-read : goal.returns-in-Ok-Some-clause-read
returns-in-Ok-Some-clause-read g c =
    let same = subst (λ (r : Option Answered). IfSome r (λ a. c.try_once.new.view ≡ c.loop-found.view)) c.in-Ok-Some.field-0-is c.in-Ok-Some.ensures.same in
    subst (HasRead (g.D.SharedDisk.state c.args.disk.now) c.args.view.now) (sym same) c.loop-found.invariant.read

pub returns-in-Ok-Some-clause-done : goal.returns-in-Ok-Some-clause-done
returns-in-Ok-Some-clause-done g c = subst (λ (r : Option Answered). IfSome r (λ a. IfDone a (IsDoneBy c.try_once.new.view c.args.stamp.now.time c.args.call.now))) c.in-Ok-Some.field-0-is c.in-Ok-Some.ensures.done

pub returns-in-Ok-Some-clause-full : goal.returns-in-Ok-Some-clause-full
returns-in-Ok-Some-clause-full g c = subst (λ (r : Option Answered). IfSome r (λ a. IfFull a (IsSpaceless c.try_once.new.view c.args.call.now))) c.in-Ok-Some.field-0-is c.in-Ok-Some.ensures.full
