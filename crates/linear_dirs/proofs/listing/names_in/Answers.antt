use Rattle.std.proofs.Common.{◌≡◌, true, ◌++◌, List, [], ◌∷◌, sym, ap, ◌∙◌, subst}
use Rattle.std.specs.Prelude.{Contains}
use Rattle.gfs2_layout.specs.Area.{slot_at}
use Rattle.gfs2_layout.specs.Inode.{records_of}
use Rattle.gfs2_layout.specs.Structures.{is_in_use}
use Rattle.gfs2_layout.specs.Records.{Record, record_of}
use Rattle.glock_names.specs.Steps.{TellsOf}
use Rattle.linear_dirs.specs.Broken.{IsBroken}
use Rattle.linear_dirs.specs.Reading.{told_in}
use Rattle.gfs2_layout.specs.Records.{names_of}
use Rattle.linear_dirs.proofs.Looked.{handed}
use Rattle.linear_dirs.proofs.Records.{one_more, all_over, next_one, names_more}
use Rattle.linear_dirs.proofs.listing.names_in.Goals as goal

pub returns-in_err-add_name-clause-damaged : goal.returns-in_err-add_name-clause-damaged
returns-in_err-add_name-clause-damaged c h own all =
    let rest = c.loop-record.rest.now in
    let first = c.in-Some.ensures in
    let there : is_in_use (slot_at rest).head ≡ true → Contains (records_of h) (record_of (slot_at rest)) = λ used. subst (λ (rs : List Record). Contains rs (record_of (slot_at rest))) (sym all)
    (next_one c.args.area.now rest c.in-Some.behind.now c.in-Some.record.name.now c.in-Some.record.head c.loop-record.invariant.front c.loop-record.invariant.all first used) in
    handed c.from_residual.result _ (TellsOf (IsBroken h)) c.from_residual.ensures.1 (c.in_err-add_name.ensures.damaged h (slot_at rest) first.shown own there)

pub loop-record-preserved : goal.loop-record-preserved
loop-record-preserved c =
    let rest = c.loop-record.rest.now in
    let first = c.in-Some.ensures in
    let so = c.loop-record.invariant in
    record {
      area = first.later;
      front = so.front ++ told_in (slot_at rest ∷ []);
      all = one_more c.args.area.now rest c.in-Some.behind.now c.in-Some.record.name.now c.in-Some.record.head so.front so.all first;
      names = c.in_ok-add_name.ensures.added (slot_at rest) first.shown ∙ ap (λ ns. ns ++ names_of (told_in (slot_at rest ∷ []))) so.names ∙ sym (names_more so.front (told_in (slot_at rest ∷ [])));
    }

pub returns-clause-found : goal.returns-clause-found
returns-clause-found c = c.loop-record.invariant.names ∙ ap names_of (sym (all_over c.args.area.now c.loop-record.rest.now c.loop-record.invariant.front c.loop-record.invariant.all c.in_default.ensures))
