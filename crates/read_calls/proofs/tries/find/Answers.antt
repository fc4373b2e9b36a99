use Rattle.std.proofs.Common.{◌+◌, false, length, sym, ap, subst, subst₂, ◌∙◌}
use Rattle.call_locks.specs.Wants.{wanted}
use Rattle.call_locks.specs.WantLaws.{path_of}
use Rattle.image_model.specs.Owners.{holding}
use Rattle.path_walks.specs.Walks.{IsTold, IsWalked, IsWrongAt, AreInOrder}
use Rattle.path_walks.proofs.Images.{nothing_wrong}
use Rattle.read_calls.proofs.Lists.{taken_in, wants_are, in_order, as_many}
use Rattle.read_calls.specs.Reading.{IsNeededFor, not_found, not_dir}
use Rattle.read_calls.proofs.Trees.{answer_found, image_shown, ok_both, wrong_damage, all_told}
use Rattle.read_calls.proofs.tries.find.Goals as goal
use Rattle.path_walks.proofs.Faults.{damaged_so}

pub walk_along-requires-clause-as_many : goal.walk_along-requires-clause-as_many
walk_along-requires-clause-as_many g c =
    let names = c.names.ensures.names ∙ c.path_of_reading-path.ensures in
    ap length (c.deref.ensures.value ∙ c.in_ok-wants.ensures ∙ wants_are c.args.call.now c.requires) ∙ as_many false (length (path_of c.args.call.now false)) (taken_in c.args.call.now) ∙ ap (λ p. length p + 1) (sym names)

pub walk_along-requires-clause-order : goal.walk_along-requires-clause-order
walk_along-requires-clause-order g c =
    subst AreInOrder (sym (c.deref.ensures.value ∙ c.in_ok-wants.ensures ∙ wants_are c.args.call.now c.requires)) (in_order false (length (path_of c.args.call.now false)) (taken_in c.args.call.now))

pub returns-in-At-clause-found : goal.returns-in-At-clause-found
returns-in-At-clause-found g c im o l t of =
    let v = g.V.View.seen c.args.view.now in
    let walked = subst₂ (λ names wants. IsWalked v im o l t names wants c.in_ok-place.field-0) (c.names.ensures.names ∙ c.path_of_reading-path.ensures) (c.deref.ensures.value ∙ c.in_ok-wants.ensures)
    (c.in_ok-place.ensures.walked im o l t of) in
    let at = subst (IsWalked v im o l t (path_of c.args.call.now false) (wanted c.args.call.now)) c.in-At.is walked in
    ok_both _ _ _ (answer_found v im o l t of c.args.call.now c.in-At.place.inode at.0.at at.1 at.2) c.answer_at.result
    (c.answer_at.ensures.read (holding im o c.in-At.place.inode) (image_shown v im o l t of (path_of c.args.call.now false) c.in-At.place.inode at.0.at c.args.call.now)) c.answer_at.ensures.asked

pub returns-in-At-clause-sound : goal.returns-in-At-clause-sound
returns-in-At-clause-sound g c im o l t of =
    let v = g.V.View.seen c.args.view.now in
    let walked = subst₂ (λ names wants. IsWalked v im o l t names wants c.in_ok-place.field-0) (c.names.ensures.names ∙ c.path_of_reading-path.ensures) (c.deref.ensures.value ∙ c.in_ok-wants.ensures)
    (c.in_ok-place.ensures.walked im o l t of) in
    let at = subst (IsWalked v im o l t (path_of c.args.call.now false) (wanted c.args.call.now)) c.in-At.is walked in
    damaged_so (IsWrongAt v c.in-At.place.inode) (λ rule b. ⊥) (λ rule b. nothing_wrong v im o l t of (path_of c.args.call.now false) c.in-At.place.inode rule b at.0.at) c.answer_at.result c.answer_at.ensures.damaged

pub returns-in-At-clause-damaged : goal.returns-in-At-clause-damaged
returns-in-At-clause-damaged g c =
    let v = g.V.View.seen c.args.view.now in
    let told = subst₂ (λ names wants. IsTold v wants names c.in_ok-place.field-0) (c.names.ensures.names ∙ c.path_of_reading-path.ensures) (c.deref.ensures.value ∙ c.in_ok-wants.ensures)
    c.in_ok-place.ensures.told in
    let at = subst (IsTold v (wanted c.args.call.now) (path_of c.args.call.now false)) c.in-At.is told in
    damaged_so _ _ (wrong_damage v (wanted c.args.call.now) (path_of c.args.call.now false) c.in-At.place.inode at.leads) c.answer_at.result
    c.answer_at.ensures.damaged

pub returns-in-At-clause-told : goal.returns-in-At-clause-told
returns-in-At-clause-told g c =
    let v = g.V.View.seen c.args.view.now in
    let told = subst₂ (λ names wants. IsTold v wants names c.in_ok-place.field-0) (c.names.ensures.names ∙ c.path_of_reading-path.ensures) (c.deref.ensures.value ∙ c.in_ok-wants.ensures)
    c.in_ok-place.ensures.told in
    let at = subst (IsTold v (wanted c.args.call.now) (path_of c.args.call.now false)) c.in-At.is told in
    all_told v c.args.call.now c.in-At.place.inode c.answer_at.result at.leads c.answer_at.ensures.asked c.answer_at.ensures.read

pub returns-in-NotFound-clause-told : goal.returns-in-NotFound-clause-told
returns-in-NotFound-clause-told g c =
    let v = g.V.View.seen c.args.view.now in
    let told = subst₂ (λ names wants. IsTold v wants names c.in_ok-place.field-0) (c.names.ensures.names ∙ c.path_of_reading-path.ensures) (c.deref.ensures.value ∙ c.in_ok-wants.ensures)
    c.in_ok-place.ensures.told in
    not_found (subst (IsTold v (wanted c.args.call.now) (path_of c.args.call.now false)) c.in-NotFound.is told)

pub returns-in-NotDir-clause-told : goal.returns-in-NotDir-clause-told
returns-in-NotDir-clause-told g c =
    let v = g.V.View.seen c.args.view.now in
    let told = subst₂ (λ names wants. IsTold v wants names c.in_ok-place.field-0) (c.names.ensures.names ∙ c.path_of_reading-path.ensures) (c.deref.ensures.value ∙ c.in_ok-wants.ensures)
    c.in_ok-place.ensures.told in
    let file = subst (IsTold v (wanted c.args.call.now) (path_of c.args.call.now false)) c.in-NotDir.is told in
    not_dir file.0 file.1

pub returns-clause-told : goal.returns-clause-told
returns-clause-told g c =
    let v = g.V.View.seen c.args.view.now in
    let told = subst₂ (λ names wants. IsTold v wants names c.in_ok-place.field-0) (c.names.ensures.names ∙ c.path_of_reading-path.ensures) (c.deref.ensures.value ∙ c.in_ok-wants.ensures)
    c.in_ok-place.ensures.told in
    IsNeededFor.on_path (subst (IsTold v (wanted c.args.call.now) (path_of c.args.call.now false)) c.in-NeedBlock.is told)
