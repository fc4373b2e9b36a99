use Rattle.std.proofs.Common.{true, false, refl}
use Rattle.image_reader.specs.Going.{IsNameOf}
use Rattle.image_model.specs.Owners.{Chained}
use Rattle.image_reader.proofs.Going.{going_known}
use Rattle.image_reader.proofs.Leaves.{going_leaf, goes_over_leaf, leaves_more, leaves_same, claim_entered, claim_kept, leaves_by_names, leaves_entered, leaves_known}
use Rattle.image_reader.proofs.walk.Walk.leaf.Goals as goal

pub leaf_records-requires-clause-going : goal.leaf_records-requires-clause-going
leaf_records-requires-clause-going c =
    going_leaf c.args.self.now c.claim.new.self c.args.visit.now c.args.found.now.items c.args.at.now.block.number _ c.args.at.now.hash c.args.at.now.place c.requires.going
    c.in-Ok-Some.ensures.same c.in-Ok-Some.ensures.sound (rw c.in-Ok-Some.field-0-is at c.in-Ok-Some.ensures.entered) refl

pub returns-in_ok-leaf_records-in-Ok-Some-clause-over : goal.returns-in_ok-leaf_records-in-Ok-Some-clause-over
returns-in_ok-leaf_records-in-Ok-Some-clause-over c =
    let done = c.in_ok-leaf_records-in-Ok-Some.ensures in
    leaves_more c.args.visit.now c.args.self.now.owners.entries.items c.claim.new.self.owners.entries.items c.leaf_records.new.self.owners.entries.items c.args.tally.now c.leaf_records.new.tally
    c.args.found.now.items c.leaf_records.new.found.items _ c.args.at.now.block.number c.args.at.now.hash c.args.at.now.place refl c.requires.over (rw c.in-Ok-Some.field-0-is at c.in-Ok-Some.ensures.entered)
    done.on.claims done.on.finds done.counted done.entered

pub returns-in_ok-leaf_records-in-Ok-Some-clause-on : goal.returns-in_ok-leaf_records-in-Ok-Some-clause-on
returns-in_ok-leaf_records-in-Ok-Some-clause-on c =
    goes_over_leaf c.args.visit.now c.args.self.now.owners.entries.items c.claim.new.self.owners.entries.items c.leaf_records.new.self.owners.entries.items c.args.found.now.items c.leaf_records.new.found.items
    c.args.at.now.block.number _ c.args.at.now.hash c.args.at.now.place refl (rw c.in-Ok-Some.field-0-is at c.in-Ok-Some.ensures.entered) c.in_ok-leaf_records-in-Ok-Some.ensures.on

pub returns-in_ok-leaf_records-in-Ok-Some-clause-claimed : goal.returns-in_ok-leaf_records-in-Ok-Some-clause-claimed
returns-in_ok-leaf_records-in-Ok-Some-clause-claimed c =
    claim_kept (IsNameOf c.args.visit.now.inode.block.number) c.claim.new.self.owners.entries.items c.leaf_records.new.self.owners.entries.items c.args.at.now.block.number
    (Chained c.args.visit.now.inode.block.number c.args.at.now.hash c.args.at.now.place) c.in_ok-leaf_records-in-Ok-Some.ensures.on.claims
    (claim_entered c.args.self.now.owners.entries.items c.claim.new.self.owners.entries.items c.args.at.now.block.number _ true (rw c.in-Ok-Some.field-0-is at c.in-Ok-Some.ensures.entered))

pub returns-in_ok-leaf_records-in-Ok-Some-clause-only : goal.returns-in_ok-leaf_records-in-Ok-Some-clause-only
returns-in_ok-leaf_records-in-Ok-Some-clause-only c x hash place has =
    leaves_entered c.args.visit.now.inode.block.number c.args.self.now.owners.entries.items c.claim.new.self.owners.entries.items c.args.at.now.block.number _ true
    (rw c.in-Ok-Some.field-0-is at c.in-Ok-Some.ensures.entered) x hash place
    (leaves_by_names c.args.visit.now.inode.block.number c.claim.new.self.owners.entries.items c.leaf_records.new.self.owners.entries.items c.in_ok-leaf_records-in-Ok-Some.ensures.on.claims x hash place has)

pub returns-in-Ok-None-clause-going : goal.returns-in-Ok-None-clause-going
returns-in-Ok-None-clause-going c =
    going_known c.args.self.now c.claim.new.self c.args.visit.now c.args.found.now.items c.args.at.now.block.number _ c.requires.going c.in-Ok-None.ensures.same c.in-Ok-None.ensures.sound
    (rw c.in-Ok-None.field-0-is at c.in-Ok-None.ensures.entered)

pub returns-in-Ok-None-clause-over : goal.returns-in-Ok-None-clause-over
returns-in-Ok-None-clause-over c =
    leaves_same c.args.visit.now c.args.self.now.owners.entries.items c.claim.new.self.owners.entries.items c.args.tally.now c.args.found.now.items c.args.at.now.block.number _
    (rw c.in-Ok-None.field-0-is at c.in-Ok-None.ensures.entered) c.requires.over

pub returns-in-Ok-None-clause-claimed : goal.returns-in-Ok-None-clause-claimed
returns-in-Ok-None-clause-claimed c =
    claim_entered c.args.self.now.owners.entries.items c.claim.new.self.owners.entries.items c.args.at.now.block.number _ false (rw c.in-Ok-None.field-0-is at c.in-Ok-None.ensures.entered)

pub returns-in-Ok-None-clause-known : goal.returns-in-Ok-None-clause-known
returns-in-Ok-None-clause-known c is x hash place has =
    leaves_known c.args.visit.now.inode.block.number c.args.self.now.owners.entries.items c.claim.new.self.owners.entries.items c.args.at.now.block.number _
    (rw c.in-Ok-None.field-0-is at c.in-Ok-None.ensures.entered) x hash place has
