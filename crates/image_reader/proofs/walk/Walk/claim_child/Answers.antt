use Rattle.std.proofs.Common.{◌-◌, ◌<◌, ◌∙◌, ◌∷◌, true, false, sym, subst, refl}
use Rattle.std.proofs.lemmas.List.Elements.{All-same, All-push}
use Rattle.image_reader.specs.Walking.{IsReached}
use Rattle.gfs2_layout.specs.Inode.{header_length}
use Rattle.image_reader.specs.Descending.{AreDescended, IsGroupOf}
use Rattle.image_reader.specs.Reading.{held}
use Rattle.image_reader.specs.declared.blocks.Blocks.{Blocks}
use Rattle.image_reader.proofs.Descending.{is_entered, descended_flat, descended_deep}
use Rattle.image_reader.proofs.Inside.{pointer_inside}
use Rattle.image_reader.proofs.InodeFaults.{lacking}
use Rattle.image_reader.proofs.Pointing.{claims_of, claims_below, content_claimed, lacks_indirect_leads, leads_on}
use Rattle.image_reader.specs.Going.{TakesOnly}
use Rattle.image_reader.proofs.Going.{ok_hold}
use Rattle.image_reader.proofs.Taking.{takes_entered}
use Rattle.image_reader.proofs.walk.Walk.claim_child.Goals as goal

pub claim-requires-clause-claimed : goal.claim-requires-clause-claimed
claim-requires-clause-claimed c =
    claims_of c.args.inode.now.block.image c.args.self.now.image _ _ _ c.requires.of_image
    (claims_below c.args.inode.now c.args.pointers.now.block.number c.args.k c.args.pointers.now.level c.args.first c.args.number c.requires.inode c.requires.leads)

pub claim-requires-clause-placed : goal.claim-requires-clause-placed
claim-requires-clause-placed c = tt

pub claim-requires-clause-inside : goal.claim-requires-clause-inside
claim-requires-clause-inside c =
    subst (λ (i : Blocks). c.args.pointers.now.block.number < i.count) c.requires.of_image
    (pointer_inside c.args.inode.now c.args.pointers.now.block.number c.args.k c.args.pointers.now.level c.args.first c.args.number c.requires.leads)

pub check_content-requires-clause-claimed : goal.check_content-requires-clause-claimed
check_content-requires-clause-claimed c =
    let here = rw c.in-Ok-Some.field-0-is at c.in-Ok-Some.ensures.block in
    content_claimed c.args.inode.now c.args.pointers.now.block.number c.args.k c.args.pointers.now.level c.args.first c.args.number _ c.requires.inode c.requires.leads
    c.if-pointers-eq0.true here.0

pub returns-then-not-has_header-clause-damaged : goal.returns-then-not-has_header-clause-damaged
returns-then-not-has_header-clause-damaged c =
    let here = rw c.in-Ok-Some.field-0-is at c.in-Ok-Some.ensures.block in
    lacks_indirect_leads c.args.self.now.image c.args.inode.now c.in-Ok-Some.block _ c.args.pointers.now.block.number c.args.k c.args.pointers.now.level c.args.first c.args.number
    c.requires.of_image here.1 here.0 c.if-pointers-eq0.false c.damaged.ensures c.requires.inode c.requires.leads
    (lacking _ _ c.if-not-has_header.true c.has_header.ensures)

pub of_block-below-requires-clause-image : goal.of_block-below-requires-clause-image
of_block-below-requires-clause-image c =
    let here = rw c.in-Ok-Some.field-0-is at c.in-Ok-Some.ensures.block in
    here.1 ∙ sym c.requires.of_image

pub of_block-below-requires-clause-reached : goal.of_block-below-requires-clause-reached
of_block-below-requires-clause-reached c =
    let here = rw c.in-Ok-Some.field-0-is at c.in-Ok-Some.ensures.block in
    leads_on c.args.inode.now c.args.pointers.now.block.number c.args.k c.args.pointers.now.level c.args.first c.args.number _ c.requires.leads c.if-pointers-eq0.false here.0

pub returns-clause-pending : goal.returns-clause-pending
returns-clause-pending c =
    let P = IsReached c.args.inode.now in
    All-same P _ _ c.in_ok-push.ensures.items (All-push P c.args.pending.now.items c.of_block-below.result c.requires.pending c.of_block-below.ensures.reached)

pub returns-in-Ok-None-clause-takes : goal.returns-in-Ok-None-clause-takes
returns-in-Ok-None-clause-takes c =
    takes_entered c.args.inode.now.block.number c.args.self.now.owners.entries.items c.claim.new.self.owners.entries.items c.args.number _ false c.args.pointers.now.block.number c.args.k c.args.pointers.now.level c.args.first refl
    (rw c.in-Ok-None.field-0-is at c.in-Ok-None.ensures.entered)

pub returns-clause-takes : goal.returns-clause-takes
returns-clause-takes c =
    takes_entered c.args.inode.now.block.number c.args.self.now.owners.entries.items c.claim.new.self.owners.entries.items c.args.number _ true c.args.pointers.now.block.number c.args.k c.args.pointers.now.level c.args.first refl
    (rw c.in-Ok-Some.field-0-is at c.in-Ok-Some.ensures.entered)

pub returns-then-pointers-eq0-clause-takes : goal.returns-then-pointers-eq0-clause-takes
returns-then-pointers-eq0-clause-takes c =
    ok_hold c.check_content.result (TakesOnly c.args.inode.now.block.number c.args.self.now.owners.entries.items c.claim.new.self.owners.entries.items)
    (takes_entered c.args.inode.now.block.number c.args.self.now.owners.entries.items c.claim.new.self.owners.entries.items c.args.number _ true c.args.pointers.now.block.number c.args.k c.args.pointers.now.level c.args.first refl
    (rw c.in-Ok-Some.field-0-is at c.in-Ok-Some.ensures.entered))

pub returns-then-pointers-eq0-clause-entered : goal.returns-then-pointers-eq0-clause-entered
returns-then-pointers-eq0-clause-entered c =
    ok_hold c.check_content.result _ (is_entered (held c.args.inode.now) c.args.self.now.owners.entries.items c.claim.new.self.owners.entries.items c.args.pending.now.items c.args.number _ true
    (rw c.in-Ok-Some.field-0-is at c.in-Ok-Some.ensures.entered) _ refl)

pub returns-then-pointers-eq0-clause-descended : goal.returns-then-pointers-eq0-clause-descended
returns-then-pointers-eq0-clause-descended c =
    ok_hold c.check_content.result _ (λ p. descended_flat (held c.args.inode.now) c.args.self.now.owners.entries.items c.claim.new.self.owners.entries.items (p ∷ c.args.pending.now.items) c.args.number _ true
    (rw c.in-Ok-Some.field-0-is at c.in-Ok-Some.ensures.entered) (λ new. c.if-pointers-eq0.true))

pub returns-clause-entered : goal.returns-clause-entered
returns-clause-entered c =
    is_entered (held c.args.inode.now) c.args.self.now.owners.entries.items c.claim.new.self.owners.entries.items c.args.pending.now.items c.args.number _ true
    (rw c.in-Ok-Some.field-0-is at c.in-Ok-Some.ensures.entered) _ refl

pub returns-clause-descended : goal.returns-clause-descended
returns-clause-descended c p done =
    let here = rw c.in-Ok-Some.field-0-is at c.in-Ok-Some.ensures.block in
    let h = held c.args.inode.now in
    let new = c.claim.new.self.owners.entries.items in
    let at = c.of_block-below.ensures.at in
    let below : IsGroupOf header_length c.args.number (c.args.pointers.now.level - 1) c.args.first c.of_block-below.result
    = record { from = at.from; block = at.block ∙ here.0; deep = at.deep; before = at.before } in
    subst (λ l. AreDescended h new (p ∷ l)) (sym c.in_ok-push.ensures.items)
    (descended_deep h c.args.self.now.owners.entries.items new (p ∷ c.args.pending.now.items) c.args.number _ true
    (rw c.in-Ok-Some.field-0-is at c.in-Ok-Some.ensures.entered) c.of_block-below.result below done)
