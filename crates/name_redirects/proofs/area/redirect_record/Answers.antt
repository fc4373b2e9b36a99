use Rattle.std.proofs.Common.{◌≤◌, ◌∙◌, List, ℕ, length, ap, arith, subst, sym, ◌∷◌}
use Rattle.gfs2_layout.specs.Area.{IsArea, slot_at, slots_of}
use Rattle.name_redirects.specs.Leading.{led_to, with_inum}
use Rattle.gfs2_layout.proofs.PutHere.{end_part, end_put}
use Rattle.gfs2_layout.proofs.Records.{behind}
use Rattle.name_redirects.proofs.Led.{area_at, inum_at_place, led_at}
use Rattle.name_redirects.proofs.area.redirect_record.Goals as goal

pub lead_here-requires-clause-area : goal.lead_here-requires-clause-area
lead_here-requires-clause-area c = subst IsArea (sym (end_part c.args.at c.args.area.now)) c.requires.record.later

pub returns-clause-bytes : goal.returns-clause-bytes
returns-clause-bytes c =
    let at = c.args.at in
    let area = c.args.area.now in
    let inside : at ≤ length area = omega (arith, c.requires.record.within) in
    inum_at_place at c.args.inum.now area c.lead_here.new.bytes _ inside (c.lead_here.ensures.bytes ∙ ap (with_inum 0 c.args.inum.now) (end_part at area)) (end_put at area c.lead_here.new.bytes)

pub returns-clause-slots : goal.returns-clause-slots
returns-clause-slots c =
    let at = c.args.at in
    let area = c.args.area.now in
    ap slots_of (end_put at area c.lead_here.new.bytes)
    ∙ led_at area at c.requires.record c.args.inum.now c.lead_here.new.bytes
    (c.lead_here.ensures.slots ∙ ap (λ (b : List ℕ). led_to c.args.inum.now (slot_at b) ∷ slots_of (behind b)) (end_part at area)) c.lead_here.ensures.area

pub returns-clause-area : goal.returns-clause-area
returns-clause-area c =
    let at = c.args.at in
    let area = c.args.area.now in
    subst IsArea (sym (end_put at area c.lead_here.new.bytes)) (area_at area at c.requires.record c.args.inum.now c.lead_here.new.bytes
    (c.lead_here.ensures.slots ∙ ap (λ (b : List ℕ). led_to c.args.inum.now (slot_at b) ∷ slots_of (behind b)) (end_part at area)) c.lead_here.ensures.area)
