use Rattle.std.proofs.Common.{◌≡◌, ℕ, List, Some, subst, sym}
use Rattle.std.specs.Prelude.{IsTrue}
use Rattle.log_layout.specs.Live.{IsReadable, live_in}
use Rattle.shared_disk.specs.Disk.{DiskState}
use Rattle.journal_reads.specs.Reading.{ring_read}
use Rattle.replay_looks.specs.Looks.{IsHindered, IsStopped}
use Rattle.replay_marks.specs.declared.marks.Hindrance.TheVariants.{Astray, Twice}
use Rattle.replay_marks.specs.Marking.{HasHindrance}
use Rattle.replay_looks.proofs.Stops.{home_is_live, stopped_told, stopped_twice}
use Rattle.replay_looks.proofs.looking.look_at_journal.Goals as goal

pub returns-in-Err-clause-why : goal.returns-in-Err-clause-why
returns-in-Err-clause-why g c tells =
    subst (IsStopped (ring_read (g.D.SharedDisk.state c.args.disk.now) c.args.node c.args.blocks.now) c.args.dinode c.args.blocks.now c.args.marks.now) (sym c.told.ensures)
    (stopped_told (ring_read (g.D.SharedDisk.state c.args.disk.now) c.args.node c.args.blocks.now) c.args.dinode c.args.blocks.now c.args.marks.now c.in-Err.fault c.in-Err.ensures.inside (c.in-Err.ensures.why tells))

pub returns-in-Err-Twice-clause-why : goal.returns-in-Err-Twice-clause-why
returns-in-Err-Twice-clause-why g c tells =
    let hindered = subst (λ ws. HasHindrance c.args.marks.now ws (Twice c.in-Err-Twice.block)) c.deref.ensures.value
    (subst (HasHindrance c.args.marks.now c.deref.result.now) c.in-Err-Twice.field-0-is c.in-Err-Twice.ensures.hindered) in
    stopped_twice (ring_read (g.D.SharedDisk.state c.args.disk.now) c.args.node c.args.blocks.now) c.args.dinode c.args.blocks.now c.args.marks.now c.in-Ok.planned c.in-Err-Twice.block
    (c.in-Ok.ensures.plan tells) hindered.0 hindered.1

pub returns-clause-why : goal.returns-clause-why
returns-clause-why g c tells =
    let hindered = subst (λ ws. HasHindrance c.args.marks.now ws (Astray c.in-Err-Astray.block)) c.deref.ensures.value
    (subst (HasHindrance c.args.marks.now c.deref.result.now) c.in-Err-Astray.field-0-is c.in-Err-Astray.ensures.hindered) in
    let ring = ring_read (g.D.SharedDisk.state c.args.disk.now) c.args.node c.args.blocks.now in
    let of = c.in-Ok.ensures.plan tells in
    let bytes = home_is_live ring c.in-Ok.planned of c.in-Err-Astray.block hindered.0 in
    let Told : DiskState → Type 0 = λ s. IsTrue s.tells → IsReadable (ring_read s c.args.node c.args.blocks.now) → (b : List ℕ) → live_in (ring_read s c.args.node c.args.blocks.now) c.in-Err-Astray.block ≡ Some b
    → IsHindered (ring_read s c.args.node c.args.blocks.now) c.args.dinode c.args.blocks.now c.in-Err-Astray.block c.astray.result in
    subst Told c.read_plan.ensures.reads.same c.astray.ensures.why tells of.readable bytes.0 bytes.1 c.args.marks.now hindered.1
