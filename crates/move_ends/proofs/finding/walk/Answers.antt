use Rattle.std.proofs.Common.{length, Ok, Err, Result, sym, ap, ◌∙◌, subst}
use Rattle.std.proofs.lemmas.Bool.{cases_eq}
use Rattle.std.specs.Prelude.{IfOk}
use Rattle.file_tree.specs.Apply.{Answer}
use Rattle.file_tree.specs.declared.reply.Reply.TheVariants as reply
use Rattle.glock_names.specs.declared.steps.CallFault.{CallFault}
use Rattle.pair_walks.proofs.Faults.{damaged_so, tells_so, told_on}
use Rattle.pair_walks.specs.Walks.{IsPairTold, IsPairWalked}
use Rattle.move_ends.specs.Ends.{IsAbsentBlock, IsDamageAtEnds, IsFoundIn, IsNeededAtEnds, IsRefusal, IsRefused, IsTold, first_wants, from_path, second_wants, to_path}
use Rattle.move_ends.specs.Over.{IsApart, IsWrongApart}
use Rattle.move_ends.specs.declared.ends.Ends.{Ends}
use Rattle.move_ends.proofs.Found.{apart_found, apart_sound, within_found}
use Rattle.move_ends.proofs.Locks.{all_held, path_asks, path_lacks}
use Rattle.move_ends.proofs.Told.{apart_absent, apart_damage, apart_refusal, apart_told, reads_end, within_told}
use Rattle.move_ends.proofs.Trees.{first_refused}
use Rattle.move_ends.proofs.finding.walk.Goals as goal

ok_so : (P Q : Ends → Type 0) (r : Result Ends CallFault) → ((e : Ends) → P e → Q e) → IfOk r P → IfOk r Q
ok_so P Q (Ok e) so is = so e is
ok_so P Q (Err f) so is = tt

pub returns-in_err-walk_paths-clause-damaged : goal.returns-in_err-walk_paths-clause-damaged
returns-in_err-walk_paths-clause-damaged g c =
    let v = g.V.View.seen c.args.view.now in
    told_on (IsDamageAtEnds v c.args.call.now) c.from_residual.result _ c.from_residual.ensures.1
    (tells_so _ (IsDamageAtEnds v c.args.call.now) (λ rule b damage. IsDamageAtEnds.on_paths rule b c.requires.begun damage) c.in_err-walk_paths.field-0.0 c.in_err-walk_paths.ensures.damaged)

pub apart-requires : goal.apart-requires
apart-requires g c =
    let v = g.V.View.seen c.args.view.now in
    let told = subst (IsPairTold v (from_path c.args.call.now) (to_path c.args.call.now) (first_wants c.args.call.now) (second_wants c.args.call.now)) c.in-Apart.is c.in_ok-walk_paths.ensures.told in
    reads_end v c.args.call.now c.requires.begun c.in-Apart.from told.0 told.1 c.is_a_view.ensures c.in-Apart.to told.2

pub returns-in-NotFound-clause-told : goal.returns-in-NotFound-clause-told
returns-in-NotFound-clause-told g c =
    let v = g.V.View.seen c.args.view.now in
    IsRefused.not_found c.requires.begun (subst (IsPairTold v (from_path c.args.call.now) (to_path c.args.call.now) (first_wants c.args.call.now) (second_wants c.args.call.now)) c.in-NotFound.is c.in_ok-walk_paths.ensures.told)

pub returns-in-NotFound-clause-found : goal.returns-in-NotFound-clause-found
returns-in-NotFound-clause-found g c im o l t of =
    let v = g.V.View.seen c.args.view.now in
    let begun = c.requires.begun in
    let walked = subst (IsPairWalked v im o l t (from_path c.args.call.now) (to_path c.args.call.now) (first_wants c.args.call.now) (second_wants c.args.call.now)) c.in-NotFound.is (c.in_ok-walk_paths.ensures.walked im o l t of) in
    (ap (λ (x : Answer). x.reply) (first_refused c.args.call.now t c.requires.renaming begun.from begun.to reply.NotFound walked.0), all_held v im o l c.args.call.now begun.from begun.to begun.order walked.1)

pub returns-in-NotDir-clause-told : goal.returns-in-NotDir-clause-told
returns-in-NotDir-clause-told g c =
    let v = g.V.View.seen c.args.view.now in
    let told = subst (IsPairTold v (from_path c.args.call.now) (to_path c.args.call.now) (first_wants c.args.call.now) (second_wants c.args.call.now)) c.in-NotDir.is c.in_ok-walk_paths.ensures.told in
    IsRefused.not_dir told.0 c.requires.begun told.1

pub returns-in-NotDir-clause-found : goal.returns-in-NotDir-clause-found
returns-in-NotDir-clause-found g c im o l t of =
    let v = g.V.View.seen c.args.view.now in
    let begun = c.requires.begun in
    let walked = subst (IsPairWalked v im o l t (from_path c.args.call.now) (to_path c.args.call.now) (first_wants c.args.call.now) (second_wants c.args.call.now)) c.in-NotDir.is (c.in_ok-walk_paths.ensures.walked im o l t of) in
    (ap (λ (x : Answer). x.reply) (first_refused c.args.call.now t c.requires.renaming begun.from begun.to reply.NotDir walked.0), all_held v im o l c.args.call.now begun.from begun.to begun.order walked.1)

pub returns-in-Within-clause-told : goal.returns-in-Within-clause-told
returns-in-Within-clause-told g c =
    let v = g.V.View.seen c.args.view.now in
    let told = subst (IsPairTold v (from_path c.args.call.now) (to_path c.args.call.now) (first_wants c.args.call.now) (second_wants c.args.call.now)) c.in-Within.is c.in_ok-walk_paths.ensures.told in
    let from_is = c.names.ensures.names ∙ c.from_of.ensures in
    let to_is = c.names-in-Within.ensures.names ∙ c.to_of.ensures in
    within_told v c.args.call.now c.requires.begun c.in-Within.field-0 told.0 told.1 c.within.result
    (λ same. c.within.ensures.stays (ap length from_is ∙ same ∙ sym (ap length to_is)))
    (λ other. c.within.ensures.inside (λ same. other (sym (ap length from_is) ∙ same ∙ ap length to_is)))
    (cases_eq (length (from_path c.args.call.now)) (length (to_path c.args.call.now)))

pub returns-in-Within-clause-found : goal.returns-in-Within-clause-found
returns-in-Within-clause-found g c im o l t of =
    let v = g.V.View.seen c.args.view.now in
    let walked = subst (IsPairWalked v im o l t (from_path c.args.call.now) (to_path c.args.call.now) (first_wants c.args.call.now) (second_wants c.args.call.now)) c.in-Within.is (c.in_ok-walk_paths.ensures.walked im o l t of) in
    let from_is = c.names.ensures.names ∙ c.from_of.ensures in
    let to_is = c.names-in-Within.ensures.names ∙ c.to_of.ensures in
    within_found v im o l t of c.args.call.now c.requires.renaming c.requires.begun c.in-Within.field-0 walked.0 walked.1 walked.2 c.within.result
    (λ same. c.within.ensures.stays (ap length from_is ∙ same ∙ sym (ap length to_is)))
    (λ other. c.within.ensures.inside (λ same. other (sym (ap length from_is) ∙ same ∙ ap length to_is)))
    (cases_eq (length (from_path c.args.call.now)) (length (to_path c.args.call.now)))

pub returns-in-Apart-clause-told : goal.returns-in-Apart-clause-told
returns-in-Apart-clause-told g c =
    let v = g.V.View.seen c.args.view.now in
    let told = subst (IsPairTold v (from_path c.args.call.now) (to_path c.args.call.now) (first_wants c.args.call.now) (second_wants c.args.call.now)) c.in-Apart.is c.in_ok-walk_paths.ensures.told in
    ok_so (IsApart v c.in-Apart.from c.in-Apart.to) (IsTold v c.args.call.now) c.apart.result
    (apart_told v c.args.call.now c.requires.begun c.in-Apart.from told.0 told.1 c.is_a_view.ensures c.in-Apart.to told.2) c.apart.ensures.told

pub returns-in-Apart-clause-found : goal.returns-in-Apart-clause-found
returns-in-Apart-clause-found g c im o l t of =
    let v = g.V.View.seen c.args.view.now in
    let told = subst (IsPairTold v (from_path c.args.call.now) (to_path c.args.call.now) (first_wants c.args.call.now) (second_wants c.args.call.now)) c.in-Apart.is c.in_ok-walk_paths.ensures.told in
    let walked = subst (IsPairWalked v im o l t (from_path c.args.call.now) (to_path c.args.call.now) (first_wants c.args.call.now) (second_wants c.args.call.now)) c.in-Apart.is (c.in_ok-walk_paths.ensures.walked im o l t of) in
    ok_so (IsApart v c.in-Apart.from c.in-Apart.to) (IsFoundIn v im o l t c.args.call.now) c.apart.result
    (apart_found v im o l t of c.args.call.now c.requires.renaming c.requires.begun told.0 c.in-Apart.from told.1 walked.1 walked.3 c.in-Apart.to walked.2) c.apart.ensures.told

pub returns-in-Apart-clause-refusal : goal.returns-in-Apart-clause-refusal
returns-in-Apart-clause-refusal g c =
    let v = g.V.View.seen c.args.view.now in
    let told = subst (IsPairTold v (from_path c.args.call.now) (to_path c.args.call.now) (first_wants c.args.call.now) (second_wants c.args.call.now)) c.in-Apart.is c.in_ok-walk_paths.ensures.told in
    ok_so (IsApart v c.in-Apart.from c.in-Apart.to) IsRefusal c.apart.result (λ e. apart_refusal v c.in-Apart.from c.in-Apart.to e told.1.dinode) c.apart.ensures.told

pub returns-in-Apart-clause-absent : goal.returns-in-Apart-clause-absent
returns-in-Apart-clause-absent g c =
    let v = g.V.View.seen c.args.view.now in
    ok_so (IsApart v c.in-Apart.from c.in-Apart.to) (IsAbsentBlock v) c.apart.result (apart_absent v c.in-Apart.from c.in-Apart.to) c.apart.ensures.told

pub returns-in-Apart-clause-sound : goal.returns-in-Apart-clause-sound
returns-in-Apart-clause-sound g c im o l t of =
    let v = g.V.View.seen c.args.view.now in
    let told = subst (IsPairTold v (from_path c.args.call.now) (to_path c.args.call.now) (first_wants c.args.call.now) (second_wants c.args.call.now)) c.in-Apart.is c.in_ok-walk_paths.ensures.told in
    let walked = subst (IsPairWalked v im o l t (from_path c.args.call.now) (to_path c.args.call.now) (first_wants c.args.call.now) (second_wants c.args.call.now)) c.in-Apart.is (c.in_ok-walk_paths.ensures.walked im o l t of) in
    damaged_so (IsWrongApart v c.in-Apart.from c.in-Apart.to) (λ rule b. ⊥)
    (apart_sound v im o l t of c.args.call.now c.requires.renaming c.requires.begun told.0 c.in-Apart.from told.1 walked.1 walked.3 c.in-Apart.to walked.2) c.apart.result c.apart.ensures.damaged

pub returns-in-Apart-clause-damaged : goal.returns-in-Apart-clause-damaged
returns-in-Apart-clause-damaged g c =
    let v = g.V.View.seen c.args.view.now in
    let told = subst (IsPairTold v (from_path c.args.call.now) (to_path c.args.call.now) (first_wants c.args.call.now) (second_wants c.args.call.now)) c.in-Apart.is c.in_ok-walk_paths.ensures.told in
    damaged_so (IsWrongApart v c.in-Apart.from c.in-Apart.to) (IsDamageAtEnds v c.args.call.now)
    (apart_damage v c.args.call.now c.requires.begun c.in-Apart.from told.0 told.1 c.is_a_view.ensures c.in-Apart.to told.2) c.apart.result c.apart.ensures.damaged

pub returns-in-NeedLock-clause-found : goal.returns-in-NeedLock-clause-found
returns-in-NeedLock-clause-found g c im o l t of =
    let v = g.V.View.seen c.args.view.now in
    let begun = c.requires.begun in
    path_lacks v im o l c.args.call.now begun.from begun.to begun.order c.in-NeedLock.lock c.in-NeedLock.state
    (subst (IsPairWalked v im o l t (from_path c.args.call.now) (to_path c.args.call.now) (first_wants c.args.call.now) (second_wants c.args.call.now)) c.in-NeedLock.is (c.in_ok-walk_paths.ensures.walked im o l t of))

pub returns-in-NeedBlock-clause-told : goal.returns-in-NeedBlock-clause-told
returns-in-NeedBlock-clause-told g c =
    let v = g.V.View.seen c.args.view.now in
    IsNeededAtEnds.on_paths c.requires.begun (subst (IsPairTold v (from_path c.args.call.now) (to_path c.args.call.now) (first_wants c.args.call.now) (second_wants c.args.call.now)) c.in-NeedBlock.is c.in_ok-walk_paths.ensures.told)

pub returns-in-NeedBlock-clause-found : goal.returns-in-NeedBlock-clause-found
returns-in-NeedBlock-clause-found g c im o l t of =
    let v = g.V.View.seen c.args.view.now in
    let begun = c.requires.begun in
    path_asks v im o l c.args.call.now begun.from begun.to begun.order c.in-NeedBlock.missing
    (subst (IsPairWalked v im o l t (from_path c.args.call.now) (to_path c.args.call.now) (first_wants c.args.call.now) (second_wants c.args.call.now)) c.in-NeedBlock.is (c.in_ok-walk_paths.ensures.walked im o l t of))
