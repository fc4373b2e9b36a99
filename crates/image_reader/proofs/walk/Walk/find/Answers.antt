use Rattle.std.proofs.Common.{◌∙◌, List, sym, refl, ap, subst}
use Rattle.std.specs.List.{All}
use Rattle.image_reader.specs.Finding.{said_by, IsFoundIn}
use Rattle.image_reader.specs.Going.{IsGoing, IsNameOf, GoesOn}
use Rattle.image_reader.specs.Found.{HasEntry}
use Rattle.image_reader.specs.declared.directory.Found.{Found}
use Rattle.image_reader.specs.declared.blocks.Block.{Block}
use Rattle.image_reader.proofs.Inside.{record_inside}
use Rattle.image_reader.proofs.InodeFaults.{lacking}
use Rattle.image_reader.proofs.RecordFaults.{wrong_name, claims_named, claims_read, named_inode, found_of}
use Rattle.image_reader.proofs.Going.{going_known, going_found, goes_found, goes_known, last_entry, ok_hold}
use Rattle.image_reader.proofs.walk.Walk.find.Goals as goal

pub returns-then-not-is_name-clause-damaged : goal.returns-then-not-is_name-clause-damaged
returns-then-not-is_name-clause-damaged c =
    wrong_name c.args.self.now.image _ c.args.visit.now.inode.block.number c.args.by c.args.record.now.head c.args.record.now.name.now c.damaged.ensures c.requires.has c.requires.name
    (lacking _ _ c.if-not-is_name.true c.is_name.ensures)

pub claim-requires-clause-claimed : goal.claim-requires-clause-claimed
claim-requires-clause-claimed c =
    claims_named c.args.self.now.image c.args.visit.now.inode.block.number c.args.by c.args.record.now.head c.args.record.now.name.now (c.requires.going.visited.owner, c.requires.going.visited.at) c.requires.has c.requires.name

pub claim-requires-clause-placed : goal.claim-requires-clause-placed
claim-requires-clause-placed c = tt

pub claim-requires-clause-inside : goal.claim-requires-clause-inside
claim-requires-clause-inside c =
    record_inside c.args.self.now.image c.args.visit.now.inode.block.number c.args.by (said_by c.args.record.now.head c.args.record.now.name.now) c.requires.has

pub read-requires : goal.read-requires
read-requires c =
    let here = rw c.in-Ok-Some.field-0-is at c.in-Ok-Some.ensures.block in
    named_inode c.in-Ok-Some.block c.args.self.now.image c.args.visit.now.inode.block.number c.args.by c.args.record.now.head c.args.record.now.name.now here.1 here.0 (c.requires.going.visited.owner, c.requires.going.visited.at) c.requires.has c.requires.name

pub returns-in-Ok-None-clause-going : goal.returns-in-Ok-None-clause-going
returns-in-Ok-None-clause-going c = ok_hold c.check_twins.result _
    (going_known c.args.self.now c.claim.new.self c.args.visit.now c.args.found.now.items c.args.record.now.head.inum.address _ c.requires.going c.in-Ok-None.ensures.same c.in-Ok-None.ensures.sound
    (rw c.in-Ok-None.field-0-is at c.in-Ok-None.ensures.entered))

pub new-entry-requires-clause-claimed : goal.new-entry-requires-clause-claimed
new-entry-requires-clause-claimed c =
    let here = rw c.in-Ok-Some.field-0-is at c.in-Ok-Some.ensures.block in
    claims_read c.in_ok-inode.inode.block.image c.args.self.now.image c.args.by c.in_ok-inode.inode.block.number c.args.record.now.head.inum.address c.args.visit.now.inode.block.number
    c.args.record.now.name.now c.new-name.result
    (ap (λ (b : Block). b.image) c.in_ok-inode.ensures.block ∙ here.1) (ap (λ (b : Block). b.number) c.in_ok-inode.ensures.block ∙ here.0) (c.new-name.ensures ∙ c.in_ok-from_slice.ensures.items)
    (claims_named c.args.self.now.image c.args.visit.now.inode.block.number c.args.by c.args.record.now.head c.args.record.now.name.now (c.requires.going.visited.owner, c.requires.going.visited.at) c.requires.has c.requires.name)

pub returns-clause-going : goal.returns-clause-going
returns-clause-going c =
    let here = rw c.in-Ok-Some.field-0-is at c.in-Ok-Some.ensures.block in
    let same = ap (λ (b : Block). b.image) c.in_ok-inode.ensures.block ∙ here.1 in
    let P : List Found → Type 0 = λ fs. IsGoing c.claim.new.self c.args.visit.now fs in
    subst P (sym c.in_ok-push.ensures.items)
    (going_found c.args.self.now c.claim.new.self c.args.visit.now c.args.found.now.items c.new-entry.result c.args.record.now.head.inum.address _ c.args.record.now.name.now c.requires.going
    c.in-Ok-Some.ensures.same c.in-Ok-Some.ensures.sound (rw c.in-Ok-Some.field-0-is at c.in-Ok-Some.ensures.entered) refl
    (found_of c.in_ok-inode.inode.block.image c.args.self.now.image c.new-entry.result same c.new-entry.ensures.found)
    c.new-entry.ensures.by (c.new-entry.ensures.name ∙ c.new-name.ensures ∙ c.in_ok-from_slice.ensures.items)
    (c.new-entry.ensures.block ∙ ap (λ (b : Block). b.number) c.in_ok-inode.ensures.block ∙ here.0))

pub returns-in-Ok-None-clause-on : goal.returns-in-Ok-None-clause-on
returns-in-Ok-None-clause-on c = ok_hold c.check_twins.result _
    (goes_known (IsNameOf c.args.visit.now.inode.block.number) c.args.visit.now c.args.self.now.owners.entries.items c.claim.new.self.owners.entries.items c.args.found.now.items c.args.record.now.head.inum.address _
    (rw c.in-Ok-None.field-0-is at c.in-Ok-None.ensures.entered))

pub returns-clause-on : goal.returns-clause-on
returns-clause-on c =
    let P : List Found → Type 0 = λ fs. GoesOn (IsNameOf c.args.visit.now.inode.block.number) c.args.visit.now c.args.self.now.owners.entries.items c.args.found.now.items c.claim.new.self.owners.entries.items fs in
    subst P (sym c.in_ok-push.ensures.items)
    (goes_found c.args.visit.now c.args.self.now.owners.entries.items c.claim.new.self.owners.entries.items c.args.found.now.items c.new-entry.result c.args.record.now.head.inum.address _ c.args.record.now.name.now
    c.new-entry.ensures.by (c.new-entry.ensures.name ∙ c.new-name.ensures ∙ c.in_ok-from_slice.ensures.items)
    (c.new-entry.ensures.block ∙ ap (λ (b : Block). b.number) c.in_ok-inode.ensures.block ∙ (rw c.in-Ok-Some.field-0-is at c.in-Ok-Some.ensures.block).0) refl (rw c.in-Ok-Some.field-0-is at c.in-Ok-Some.ensures.entered))

pub returns-clause-entered : goal.returns-clause-entered
returns-clause-entered c =
    let here = rw c.in-Ok-Some.field-0-is at c.in-Ok-Some.ensures.block in
    let P : List Found → Type 0 = λ fs. HasEntry fs c.args.visit.now.place c.args.record.now.name.now c.args.record.now.head.inum.address in
    subst P (sym c.in_ok-push.ensures.items)
    (last_entry c.args.visit.now c.args.found.now.items c.new-entry.result c.args.record.now.name.now c.args.record.now.head.inum.address c.new-entry.ensures.by
    (c.new-entry.ensures.name ∙ c.new-name.ensures ∙ c.in_ok-from_slice.ensures.items)
    (c.new-entry.ensures.block ∙ ap (λ (b : Block). b.number) c.in_ok-inode.ensures.block ∙ here.0))

pub returns-in-Ok-None-clause-damaged : goal.returns-in-Ok-None-clause-damaged
returns-in-Ok-None-clause-damaged c =
    let image = c.args.self.now.image in
    let a = c.args.visit.now.inode.block.number in
    c.check_twins.ensures.damaged image c.args.record.now.head.inum.address (subst (All (IsFoundIn image)) (sym c.deref.ensures.value) c.requires.going.true_of)
    (claims_named image a c.args.by c.args.record.now.head c.args.record.now.name.now (c.requires.going.visited.owner, c.requires.going.visited.at) c.requires.has c.requires.name)
