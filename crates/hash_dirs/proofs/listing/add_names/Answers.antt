use Rattle.std.proofs.Common.{◌≡◌, true, ◌++◌, List, [], ◌∷◌, sym, subst}
use Rattle.std.specs.Prelude.{Contains}
use Rattle.gfs2_layout.specs.Area.{slot_at}
use Rattle.gfs2_layout.specs.Inode.{leaf_area}
use Rattle.gfs2_layout.specs.Structures.{is_in_use}
use Rattle.gfs2_layout.specs.Records.{Record, record_of, records_in}
use Rattle.glock_names.specs.Steps.{TellsOf}
use Rattle.linear_dirs.specs.Reading.{told_in}
use Rattle.linear_dirs.proofs.Looked.{handed}
use Rattle.linear_dirs.proofs.Records.{one_more, all_over, next_one}
use Rattle.hash_dirs.specs.Broken.{IsBroken}
use Rattle.hash_dirs.proofs.Listed.{names_all, names_grow}
use Rattle.hash_dirs.proofs.listing.add_names.Goals as goal

pub returns-in_err-add_name-clause-damaged : goal.returns-in_err-add_name-clause-damaged
returns-in_err-add_name-clause-damaged c h i from all leads some =
    let rest = c.loop-record.rest.now in
    let first = c.in-Some.ensures in
    let there : is_in_use (slot_at rest).head ≡ true → Contains (records_in (leaf_area h c.args.block)) (record_of (slot_at rest)) = λ used. subst (λ (rs : List Record). Contains rs (record_of (slot_at rest))) (sym all)
    (next_one c.args.area.now rest c.in-Some.behind.now c.in-Some.record.name.now c.in-Some.record.head c.loop-record.invariant.front c.loop-record.invariant.all first used) in
    handed c.from_residual.result _ (TellsOf (IsBroken h)) c.from_residual.ensures.1 (c.in_err-add_name.ensures.damaged h i from (slot_at rest) first.shown leads some there)

pub loop-record-preserved : goal.loop-record-preserved
loop-record-preserved c =
    let rest = c.loop-record.rest.now in
    let first = c.in-Some.ensures in
    let so = c.loop-record.invariant in
    record {
      area = first.later;
      front = so.front ++ told_in (slot_at rest ∷ []);
      all = one_more c.args.area.now rest c.in-Some.behind.now c.in-Some.record.name.now c.in-Some.record.head so.front so.all first;
      names = names_grow _ _ _ so.front (told_in (slot_at rest ∷ [])) so.names (c.in_ok-add_name.ensures.added (slot_at rest) first.shown);
    }

pub returns-clause-added : goal.returns-clause-added
returns-clause-added c = names_all _ _ c.loop-record.invariant.front _ c.loop-record.invariant.names (all_over c.args.area.now c.loop-record.rest.now c.loop-record.invariant.front c.loop-record.invariant.all c.in_default.ensures)
