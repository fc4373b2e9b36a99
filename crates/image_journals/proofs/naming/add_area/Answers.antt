use Rattle.std.proofs.Common.{[], ◌∷◌, ◌++◌, refl, sym, subst}
use Rattle.gfs2_layout.specs.Area.{slot_at}
use Rattle.linear_dirs.specs.Reading.{told_in}
use Rattle.linear_dirs.proofs.Records.{all_over, one_more}
use Rattle.image_journals.specs.Adding.{AreAdded, IsNamedAmong}
use Rattle.image_journals.proofs.Adding.{added_none}
use Rattle.image_journals.proofs.Named.{named_none, named_on}
use Rattle.image_journals.proofs.Read.{handed}
use Rattle.image_journals.proofs.naming.add_area.Goals as goal

pub loop-record-init : goal.loop-record-init
loop-record-init c = record { area = c.requires; front = []; all = refl; added = added_none _ (IsNamedAmong []) named_none }

pub returns-in_err-add_record : goal.returns-in_err-add_record
returns-in_err-add_record c = handed c.from_residual.result _ _ _ c.from_residual.ensures.1 (c.in_err-add_record.ensures (slot_at c.loop-record.rest.now) c.in-Some.ensures.shown)

pub loop-record-preserved : goal.loop-record-preserved
loop-record-preserved c =
    let rest = c.loop-record.rest.now in
    let first = c.in-Some.ensures in
    let so = c.loop-record.invariant in
    record {
      area = first.later;
      front = so.front ++ told_in (slot_at rest ∷ []);
      all = one_more c.args.area.now rest c.in-Some.behind.now c.in-Some.record.name.now c.in-Some.record.head so.front so.all first;
      added = named_on so.front (told_in (slot_at rest ∷ [])) _ _ _ so.added (c.in_ok-add_record.ensures (slot_at rest) first.shown);
    }

pub returns : goal.returns
returns c =
    let so = c.loop-record.invariant in
    subst (λ rs. AreAdded c.args.found.now.items c.loop-record.found.items (IsNamedAmong rs)) (sym (all_over c.args.area.now c.loop-record.rest.now so.front so.all c.in_default.ensures)) so.added
