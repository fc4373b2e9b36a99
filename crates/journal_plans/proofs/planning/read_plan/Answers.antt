use Rattle.std.proofs.Common.{◌≡◌, ◌<◌, length, subst, sym}
use Rattle.std.specs.List.{AllByRecursion}
use Rattle.drafts.specs.declared.change.Written.{Written}
use Rattle.journal_reads.specs.Reading.{ring_read}
use Rattle.journal_scan.specs.Images.{ring_of}
use Rattle.journal_plans.specs.Plans.{IfBadChunk, IsWhyNot}
use Rattle.journal_plans.proofs.Planned.{inside_told, place_told}
use Rattle.journal_plans.proofs.Numbered.{big_size, home_whole, image_whole}
use Rattle.journal_plans.proofs.Planned.{plan_is, why_not}
use Rattle.journal_plans.proofs.planning.read_plan.Goals as goal

pub returns-in-Ok-plan-clause-plan : goal.returns-in-Ok-plan-clause-plan
returns-in-Ok-plan-clause-plan g c tells =
    plan_is (ring_of c.in-Ok.journal) (ring_read (g.D.SharedDisk.state c.args.disk.now) c.args.node c.args.blocks.now) (c.in-Ok.ensures.says tells) c.in-Ok-plan.planned
    c.in-Ok-plan.ensures.read c.in-Ok-plan.ensures.live c.in-Ok-plan.ensures.clean

pub returns-clause-why : goal.returns-clause-why
returns-clause-why g c tells =
    let ring = ring_read (g.D.SharedDisk.state c.args.disk.now) c.args.node c.args.blocks.now in
    subst (IsWhyNot ring) (sym c.of_scan.ensures) (why_not (ring_of c.in-Ok.journal) ring (c.in-Ok.ensures.says tells) c.in-Err-plan.fault c.in-Err-plan.ensures.why)

pub returns-in-Ok-plan-clause-whole : goal.returns-in-Ok-plan-clause-whole
returns-in-Ok-plan-clause-whole g c =
    let image = c.in-Ok.ensures.image in
    subst (λ n. AllByRecursion (λ (w : Written). length w.bytes ≡ n) c.in-Ok-plan.planned.home.items) c.in-Ok.ensures.size
    (home_whole (ring_of c.in-Ok.journal) (big_size c.in-Ok.journal.block_size image.size) (image_whole c.in-Ok.journal image) c.in-Ok-plan.ensures.read c.in-Ok-plan.planned.home.items
    c.in-Ok-plan.ensures.rising c.in-Ok-plan.ensures.live)

pub returns-clause-inside : goal.returns-clause-inside
returns-clause-inside g c =
    subst (IfBadChunk (λ place. place < length c.args.blocks.now)) (sym c.of_scan.ensures)
    (inside_told (ring_of c.in-Ok.journal) (length c.args.blocks.now) c.in-Ok.ensures.long (c.heads_are_accepted.ensures (ring_of c.in-Ok.journal)) c.in-Err-plan.fault c.in-Err-plan.ensures.why)

pub returns-in-Ok-plan-clause-place : goal.returns-in-Ok-plan-clause-place
returns-in-Ok-plan-clause-place g c =
    place_told (ring_of c.in-Ok.journal) (length c.args.blocks.now) c.in-Ok.ensures.long (c.heads_are_accepted.ensures (ring_of c.in-Ok.journal)) c.in-Ok-plan.planned.clean c.in-Ok-plan.ensures.clean
