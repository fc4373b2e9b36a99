use Rattle.std.proofs.Common.{◌+◌, false, length, refl, sym, ap, subst, subst₂, ◌∙◌}
use Rattle.file_tree.specs.declared.reply.Reply.TheVariants as reply
use Rattle.glock_names.specs.Steps as step
use Rattle.glock_names.specs.declared.State.TheVariants.{Ex}
use Rattle.call_locks.specs.Wants.{wanted}
use Rattle.call_locks.specs.WantLaws.{path_of}
use Rattle.path_walks.specs.Walks as path
use Rattle.path_walks.specs.Walks.{IsTold, IsWalked, AreInOrder}
use Rattle.read_calls.proofs.Lists.{in_order, as_many}
use Rattle.writing_calls.specs.Writing.{IsLackedFor, IsNeededFor, not_found, not_dir}
use Rattle.writing_calls.proofs.Doing.{wants_are}
use Rattle.writing_calls.proofs.Finding.{damage_told, path_asked, path_lacks, walk_refused}
use Rattle.writing_calls.proofs.tries.find.Goals as goal

pub walk_along-requires-clause-as_many : goal.walk_along-requires-clause-as_many
walk_along-requires-clause-as_many g c =
    ap length ((c.deref.ensures.value ∙ c.in_ok-wants.ensures) ∙ wants_are c.args.call.now c.requires.edits) ∙ as_many false (length (path_of c.args.call.now false)) Ex ∙ ap (λ p. length p + 1) (sym (c.names.ensures.names ∙ c.path_of_edit.ensures))

pub walk_along-requires-clause-order : goal.walk_along-requires-clause-order
walk_along-requires-clause-order g c =
    subst AreInOrder (sym ((c.deref.ensures.value ∙ c.in_ok-wants.ensures) ∙ wants_are c.args.call.now c.requires.edits)) (in_order false (length (path_of c.args.call.now false)) Ex)

pub returns-in_err-place-clause-damaged : goal.returns-in_err-place-clause-damaged
returns-in_err-place-clause-damaged g c =
    let v = g.V.View.seen c.args.view.now in
    let on = subst₂ (λ names wants. step.IsDamage (path.IsDamage v wants names) c.in_err-place.field-0.0) (c.names.ensures.names ∙ c.path_of_edit.ensures) (c.deref.ensures.value ∙ c.in_ok-wants.ensures) c.in_err-place.ensures.damaged in
    damage_told v c.args.call.now c.from_residual-in_err-place.result c.in_err-place.field-0.0 c.from_residual-in_err-place.ensures.1 on

pub returns-in-NotFound-clause-found : goal.returns-in-NotFound-clause-found
returns-in-NotFound-clause-found g c im o l t of =
    let v = g.V.View.seen c.args.view.now in
    let ends = (subst (IsWalked v im o l t (path_of c.args.call.now false) (wanted c.args.call.now)) c.in-NotFound.is (subst₂ (λ names wants. IsWalked v im o l t names wants c.in_ok-place.field-0) (c.names.ensures.names ∙ c.path_of_edit.ensures) (c.deref.ensures.value ∙ c.in_ok-wants.ensures) (c.in_ok-place.ensures.walked im o l t of))) in
    walk_refused v im o l t c.args.call.now c.args.stamp.now.node c.requires.edits reply.NotFound refl ends.0 ends.1

pub returns-in-NotDir-clause-found : goal.returns-in-NotDir-clause-found
returns-in-NotDir-clause-found g c im o l t of =
    let v = g.V.View.seen c.args.view.now in
    let ends = (subst (IsWalked v im o l t (path_of c.args.call.now false) (wanted c.args.call.now)) c.in-NotDir.is (subst₂ (λ names wants. IsWalked v im o l t names wants c.in_ok-place.field-0) (c.names.ensures.names ∙ c.path_of_edit.ensures) (c.deref.ensures.value ∙ c.in_ok-wants.ensures) (c.in_ok-place.ensures.walked im o l t of))) in
    walk_refused v im o l t c.args.call.now c.args.stamp.now.node c.requires.edits reply.NotDir refl ends.0 ends.1

pub returns-in-NotFound-clause-told : goal.returns-in-NotFound-clause-told
returns-in-NotFound-clause-told g c =
    let v = g.V.View.seen c.args.view.now in
    not_found (subst (IsTold v (wanted c.args.call.now) (path_of c.args.call.now false)) c.in-NotFound.is (subst₂ (λ names wants. IsTold v wants names c.in_ok-place.field-0) (c.names.ensures.names ∙ c.path_of_edit.ensures) (c.deref.ensures.value ∙ c.in_ok-wants.ensures) c.in_ok-place.ensures.told))

pub returns-in-NotDir-clause-told : goal.returns-in-NotDir-clause-told
returns-in-NotDir-clause-told g c =
    let v = g.V.View.seen c.args.view.now in
    let file = (subst (IsTold v (wanted c.args.call.now) (path_of c.args.call.now false)) c.in-NotDir.is (subst₂ (λ names wants. IsTold v wants names c.in_ok-place.field-0) (c.names.ensures.names ∙ c.path_of_edit.ensures) (c.deref.ensures.value ∙ c.in_ok-wants.ensures) c.in_ok-place.ensures.told)) in
    not_dir file.0 file.1

pub returns-in-NeedLock-clause-found : goal.returns-in-NeedLock-clause-found
returns-in-NeedLock-clause-found g c im o l t of =
    let v = g.V.View.seen c.args.view.now in
    path_lacks v im o l t c.args.call.now c.args.stamp.now.node c.in-NeedLock.lock c.in-NeedLock.state (subst (IsWalked v im o l t (path_of c.args.call.now false) (wanted c.args.call.now)) c.in-NeedLock.is (subst₂ (λ names wants. IsWalked v im o l t names wants c.in_ok-place.field-0) (c.names.ensures.names ∙ c.path_of_edit.ensures) (c.deref.ensures.value ∙ c.in_ok-wants.ensures) (c.in_ok-place.ensures.walked im o l t of)))

pub returns-in-NeedLock-clause-told : goal.returns-in-NeedLock-clause-told
returns-in-NeedLock-clause-told g c =
    let v = g.V.View.seen c.args.view.now in
    IsLackedFor.on_path (subst (IsTold v (wanted c.args.call.now) (path_of c.args.call.now false)) c.in-NeedLock.is (subst₂ (λ names wants. IsTold v wants names c.in_ok-place.field-0) (c.names.ensures.names ∙ c.path_of_edit.ensures) (c.deref.ensures.value ∙ c.in_ok-wants.ensures) c.in_ok-place.ensures.told))

pub returns-clause-found : goal.returns-clause-found
returns-clause-found g c im o l t of =
    let v = g.V.View.seen c.args.view.now in
    path_asked v im o l t c.args.call.now c.args.stamp.now.node c.in-NeedBlock.missing (subst (IsWalked v im o l t (path_of c.args.call.now false) (wanted c.args.call.now)) c.in-NeedBlock.is (subst₂ (λ names wants. IsWalked v im o l t names wants c.in_ok-place.field-0) (c.names.ensures.names ∙ c.path_of_edit.ensures) (c.deref.ensures.value ∙ c.in_ok-wants.ensures) (c.in_ok-place.ensures.walked im o l t of)))

pub returns-clause-told : goal.returns-clause-told
returns-clause-told g c =
    let v = g.V.View.seen c.args.view.now in
    IsNeededFor.on_path (subst (IsTold v (wanted c.args.call.now) (path_of c.args.call.now false)) c.in-NeedBlock.is (subst₂ (λ names wants. IsTold v wants names c.in_ok-place.field-0) (c.names.ensures.names ∙ c.path_of_edit.ensures) (c.deref.ensures.value ∙ c.in_ok-wants.ensures) c.in_ok-place.ensures.told))
