use Rattle.std.proofs.Common.{false, refl, ◌∙◌, subst, subst₂}
use Rattle.file_tree.specs.declared.reply.Reply.TheVariants as reply
use Rattle.glock_names.specs.Steps as steps
use Rattle.call_locks.specs.Wants.{wanted}
use Rattle.call_locks.specs.WantLaws.{path_of}
use Rattle.path_walks.specs.Holds.{holds_in}
use Rattle.path_walks.specs.Walks.{IsTold, IsWalked}
use Rattle.path_walks.specs.Walks as path
use Rattle.removing_calls.specs.Removing.{IsDamage, IsLackedFor, IsNeededFor, not_dir, not_found, of_root}
use Rattle.removing_calls.proofs.Walked.{is_root, last_is, many, ordered, refused_so}
use Rattle.removing_calls.proofs.tries.find.Goals as goal
use Rattle.path_walks.proofs.Faults.{told_on, only_so}
use Rattle.path_walks.proofs.Longer.{asked_before, lack_before}

pub walk_along-requires-clause-as_many : goal.walk_along-requires-clause-as_many
walk_along-requires-clause-as_many g c =
    let path_is = c.names-names.ensures.names ∙ c.path_of_removing.ensures in
    many c.args.call.now c.requires c.in-Some.last.now (last_is c.names-names.result.now (path_of c.args.call.now false) c.in-Some.last.now path_is c.in-Some.ensures.value)
    c.names-names.result.now c.deref.result.now path_is (c.deref.ensures.value ∙ c.in_ok-wants.ensures)

pub walk_along-requires-clause-order : goal.walk_along-requires-clause-order
walk_along-requires-clause-order g c =
    let path_is = c.names-names.ensures.names ∙ c.path_of_removing.ensures in
    ordered c.args.call.now c.requires c.in-Some.last.now (last_is c.names-names.result.now (path_of c.args.call.now false) c.in-Some.last.now path_is c.in-Some.ensures.value)
    c.deref.result.now (c.deref.ensures.value ∙ c.in_ok-wants.ensures)

pub returns-in_err-place-clause-damaged : goal.returns-in_err-place-clause-damaged
returns-in_err-place-clause-damaged g c =
    let v = g.V.View.seen c.args.view.now in
    told_on (IsDamage v c.args.call.now) c.from_residual-in_err-place.result _ c.from_residual-in_err-place.ensures.1
    (only_so (path.IsDamage v (wanted c.args.call.now) (path_of c.args.call.now false)) (IsDamage v c.args.call.now) IsDamage.on_path c.in_err-place.field-0.0
    (subst₂ (λ names wants. steps.IsDamage (path.IsDamage v wants names) c.in_err-place.field-0.0) (c.names-names.ensures.names ∙ c.path_of_removing.ensures) (c.deref.ensures.value ∙ c.in_ok-wants.ensures)
    c.in_err-place.ensures.damaged))

pub returns-in-NotFound-clause-found : goal.returns-in-NotFound-clause-found
returns-in-NotFound-clause-found g c im o l t of =
    let v = g.V.View.seen c.args.view.now in
    let path_is = c.names-names.ensures.names ∙ c.path_of_removing.ensures in
    let walked = subst₂ (λ names wants. IsWalked v im o l t names wants c.in_ok-place.field-0) path_is (c.deref.ensures.value ∙ c.in_ok-wants.ensures) (c.in_ok-place.ensures.walked im o l t of) in
    let ends = subst (IsWalked v im o l t (path_of c.args.call.now false) (wanted c.args.call.now)) c.in-NotFound.is walked in
    refused_so c.args.call.now c.requires c.in-Some.last.now (last_is c.names-names.result.now (path_of c.args.call.now false) c.in-Some.last.now path_is c.in-Some.ensures.value)
    v im o l t reply.NotFound refl ends.0 ends.1

pub returns-in-NotDir-clause-found : goal.returns-in-NotDir-clause-found
returns-in-NotDir-clause-found g c im o l t of =
    let v = g.V.View.seen c.args.view.now in
    let path_is = c.names-names.ensures.names ∙ c.path_of_removing.ensures in
    let walked = subst₂ (λ names wants. IsWalked v im o l t names wants c.in_ok-place.field-0) path_is (c.deref.ensures.value ∙ c.in_ok-wants.ensures) (c.in_ok-place.ensures.walked im o l t of) in
    let ends = subst (IsWalked v im o l t (path_of c.args.call.now false) (wanted c.args.call.now)) c.in-NotDir.is walked in
    refused_so c.args.call.now c.requires c.in-Some.last.now (last_is c.names-names.result.now (path_of c.args.call.now false) c.in-Some.last.now path_is c.in-Some.ensures.value)
    v im o l t reply.NotDir refl ends.0 ends.1

pub returns-in-NeedLock-clause-found : goal.returns-in-NeedLock-clause-found
returns-in-NeedLock-clause-found g c im o l t of =
    let v = g.V.View.seen c.args.view.now in
    let path_is = c.names-names.ensures.names ∙ c.path_of_removing.ensures in
    let walked = subst₂ (λ names wants. IsWalked v im o l t names wants c.in_ok-place.field-0) path_is (c.deref.ensures.value ∙ c.in_ok-wants.ensures) (c.in_ok-place.ensures.walked im o l t of) in
    lack_before v (holds_in im o l (path_of c.args.call.now false) (wanted c.args.call.now)) _ c.in-NeedLock.lock c.in-NeedLock.state
    (subst (IsWalked v im o l t (path_of c.args.call.now false) (wanted c.args.call.now)) c.in-NeedLock.is walked)

pub returns-clause-found : goal.returns-clause-found
returns-clause-found g c im o l t of =
    let v = g.V.View.seen c.args.view.now in
    let path_is = c.names-names.ensures.names ∙ c.path_of_removing.ensures in
    let walked = subst₂ (λ names wants. IsWalked v im o l t names wants c.in_ok-place.field-0) path_is (c.deref.ensures.value ∙ c.in_ok-wants.ensures) (c.in_ok-place.ensures.walked im o l t of) in
    asked_before v im o l (holds_in im o l (path_of c.args.call.now false) (wanted c.args.call.now)) _ c.in-NeedBlock.missing
    (subst (IsWalked v im o l t (path_of c.args.call.now false) (wanted c.args.call.now)) c.in-NeedBlock.is walked)

pub returns-in-NotFound-clause-told : goal.returns-in-NotFound-clause-told
returns-in-NotFound-clause-told g c =
    let v = g.V.View.seen c.args.view.now in
    let told = subst₂ (λ names wants. IsTold v wants names c.in_ok-place.field-0) (c.names-names.ensures.names ∙ c.path_of_removing.ensures) (c.deref.ensures.value ∙ c.in_ok-wants.ensures) c.in_ok-place.ensures.told in
    not_found (subst (IsTold v (wanted c.args.call.now) (path_of c.args.call.now false)) c.in-NotFound.is told)

pub returns-in-NotDir-clause-told : goal.returns-in-NotDir-clause-told
returns-in-NotDir-clause-told g c =
    let v = g.V.View.seen c.args.view.now in
    let told = subst₂ (λ names wants. IsTold v wants names c.in_ok-place.field-0) (c.names-names.ensures.names ∙ c.path_of_removing.ensures) (c.deref.ensures.value ∙ c.in_ok-wants.ensures) c.in_ok-place.ensures.told in
    let file = subst (IsTold v (wanted c.args.call.now) (path_of c.args.call.now false)) c.in-NotDir.is told in
    not_dir file.0 file.1

pub returns-in-NeedLock-clause-told : goal.returns-in-NeedLock-clause-told
returns-in-NeedLock-clause-told g c =
    let v = g.V.View.seen c.args.view.now in
    let told = subst₂ (λ names wants. IsTold v wants names c.in_ok-place.field-0) (c.names-names.ensures.names ∙ c.path_of_removing.ensures) (c.deref.ensures.value ∙ c.in_ok-wants.ensures) c.in_ok-place.ensures.told in
    IsLackedFor.on_path c.in-NeedLock.state (subst (IsTold v (wanted c.args.call.now) (path_of c.args.call.now false)) c.in-NeedLock.is told)

pub returns-clause-told : goal.returns-clause-told
returns-clause-told g c =
    let v = g.V.View.seen c.args.view.now in
    let told = subst₂ (λ names wants. IsTold v wants names c.in_ok-place.field-0) (c.names-names.ensures.names ∙ c.path_of_removing.ensures) (c.deref.ensures.value ∙ c.in_ok-wants.ensures) c.in_ok-place.ensures.told in
    IsNeededFor.on_path (subst (IsTold v (wanted c.args.call.now) (path_of c.args.call.now false)) c.in-NeedBlock.is told)

pub returns-in_default-clause-told : goal.returns-in_default-clause-told
returns-in_default-clause-told g c = of_root c.refusal_of_root.result (is_root c.names-names.result.now (path_of c.args.call.now false) (c.names-names.ensures.names ∙ c.path_of_removing.ensures) c.in_default.ensures.value) c.refusal_of_root.ensures.reply

pub returns-in_default-clause-refusal : goal.returns-in_default-clause-refusal
returns-in_default-clause-refusal g c = (c.refusal_of_root.ensures.refusal, c.refusal_of_root.ensures.spaceless)
