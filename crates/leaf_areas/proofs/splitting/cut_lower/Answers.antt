use Rattle.std.proofs.Common.{◌≡◌, ◌+◌, ◌∙◌, ℕ, List, drop, ap, sym, subst}
use Rattle.gfs2_layout.specs.Area.{IsFirstRecord, slot_at, slots_of}
use Rattle.gfs2_layout.specs.Structures.{is_in_use}
use Rattle.gfs2_layout.proofs.PutHere.{end_part}
use Rattle.leaf_areas.specs.Splitting.{is_lower}
use Rattle.leaf_areas.proofs.Cuts.{cutting_begins, cutting_cuts, cutting_counts, cutting_passes, cutting_is, all_cut, all_counted}
use Rattle.leaf_areas.proofs.splitting.cut_lower.Goals as goal
use Rattle.leaf_areas.proofs.splitting.cut_lower.Goals.{then-is_of, else-is_of+then-is_in_use, else-is_of+else-is_in_use}

pub loop-record-init : goal.loop-record-init
loop-record-init c = cutting_begins c.args.depth c.args.old.now c.requires.area

pub loop-record-preserved : goal.loop-record-preserved
loop-record-preserved c =
    let depth = c.args.depth in
    let was = c.args.old.now in
    let old = c.loop-record.old in
    let at = c.loop-record.at in
    let upper = c.loop-record.upper in
    let so = c.loop-record.invariant in
    let head = c.in-Some.record.head in
    let name = c.in-Some.record.name.now in
    let rest = c.in-Some.field-0-1.now in
    let first : IsFirstRecord (drop at old) head name rest = subst (λ (b : List ℕ). IsFirstRecord b head name rest) (end_part at old) c.in-Some.ensures in
    let tells : c.is_of.result ≡ is_lower depth (slot_at (drop at old)) = c.is_of.ensures (slot_at (drop at old)) first.shown in
    let shown : is_in_use (slot_at (drop at old)).head ≡ is_in_use head = ap is_in_use (sym first.shown.head_is) in
    let place : at + c.from-at.result ≡ at + head.rec_len = ap (λ (n : ℕ). at + n) c.from-at.ensures in
    elim c.if-is_of.branch [
      | then-is_of w ↦
          cutting_is depth was c.if-is_of.old w.cut_record.new.area (at + c.from-at.result) (at + head.rec_len) c.if-is_of.upper upper w.old-is place w.upper-is
          (cutting_cuts depth was old at upper so head name rest first w.cut_record.new.area (sym tells ∙ w.if-is_of.true) w.cut_record.ensures.slots w.cut_record.ensures.area w.cut_record.ensures.size)
      | else-is_of+then-is_in_use w ↦
          cutting_is depth was c.if-is_of.old old (at + c.from-at.result) (at + head.rec_len) c.if-is_of.upper (upper + 1) w.old-is place w.upper-is
          (cutting_counts depth was old at upper so head name rest first (sym tells ∙ w.if-is_of.false) (shown ∙ sym w.is_in_use.ensures ∙ w.if-is_in_use.true))
      | else-is_of+else-is_in_use w ↦
          cutting_is depth was c.if-is_of.old old (at + c.from-at.result) (at + head.rec_len) c.if-is_of.upper upper w.old-is place w.upper-is
          (cutting_passes depth was old at upper so head name rest first (sym tells ∙ w.if-is_of.false) (shown ∙ sym w.is_in_use.ensures ∙ w.if-is_in_use.false))
    ]

pub returns-clause-slots : goal.returns-clause-slots
returns-clause-slots c =
    let old = c.loop-record.old in
    let at = c.loop-record.at in
    all_cut c.args.depth c.args.old.now old at c.loop-record.upper c.loop-record.invariant (ap slots_of (sym (end_part at old)) ∙ c.in_default.ensures)

pub returns-clause-count : goal.returns-clause-count
returns-clause-count c =
    let old = c.loop-record.old in
    let at = c.loop-record.at in
    all_counted c.args.depth c.args.old.now old at c.loop-record.upper c.loop-record.invariant (ap slots_of (sym (end_part at old)) ∙ c.in_default.ensures)
