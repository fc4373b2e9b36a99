use Rattle.std.proofs.Common.{◌≡◌, ◌+◌, [], ◌∷◌, ◌++◌, length, false, sym, ap, ◌∙◌, subst, subst₂}
use Rattle.std.proofs.lemmas.List.{nil_from_length}
use Rattle.cluster_history.specs.Changes.{is_ok}
use Rattle.file_tree.specs.Apply.{apply}
use Rattle.file_tree.specs.Names.{parent_of}
use Rattle.file_tree.specs.declared.reply.Reply.TheVariants as reply
use Rattle.glock_names.specs.Steps as steps
use Rattle.call_locks.specs.Wants.{wanted}
use Rattle.call_locks.specs.WantLaws.{path_of}
use Rattle.name_drafts.specs.Holds.{AreHeld}
use Rattle.name_drafts.specs.Walks.{AreInOrder, IsTold, IsWalked}
use Rattle.name_drafts.specs.Walks as path
use Rattle.name_drafts.proofs.Lists.{parent_of_next}
use Rattle.making_calls.specs.Making.{IsDamage, IsLackedFor, IsNeededFor, IsRefused, directory_path, inode_holds, path_holds}
use Rattle.making_calls.proofs.Trees.{plain_list, refused}
use Rattle.making_calls.proofs.Wanted.{as_many, in_order, wants_are}
use Rattle.making_calls.proofs.tries.find.Goals as goal
use Rattle.name_drafts.proofs.WalkFaults.{told_on, only_so}
use Rattle.name_drafts.proofs.Longer.{asked_before, lack_before}

pub walk_along-requires-clause-as_many : goal.walk_along-requires-clause-as_many
walk_along-requires-clause-as_many g c =
    let v = g.V.View.seen c.args.view.now in
    let call = c.args.call.now in
    let whole : path_of call false ≡ c.in-Some.front.now ++ c.in-Some.last.now ∷ [] = sym (c.names.ensures.names ∙ c.path_of_making.ensures) ∙ c.in-Some.ensures.cases.0 in
    let front : c.in-Some.front.now ≡ directory_path call = sym (ap parent_of whole ∙ parent_of_next c.in-Some.front.now c.in-Some.last.now) in
    ap length (c.deref.ensures.value ∙ c.in_ok-wants.ensures ∙ wants_are call c.in-Some.last.now c.requires.making (c.in-Some.front.now, whole)) ∙ as_many (length (directory_path call)) ∙ ap (λ p. length p + 1) (sym front)

pub walk_along-requires-clause-order : goal.walk_along-requires-clause-order
walk_along-requires-clause-order g c =
    let v = g.V.View.seen c.args.view.now in
    let call = c.args.call.now in
    let whole : path_of call false ≡ c.in-Some.front.now ++ c.in-Some.last.now ∷ [] = sym (c.names.ensures.names ∙ c.path_of_making.ensures) ∙ c.in-Some.ensures.cases.0 in
    let front : c.in-Some.front.now ≡ directory_path call = sym (ap parent_of whole ∙ parent_of_next c.in-Some.front.now c.in-Some.last.now) in
    subst AreInOrder (sym (c.deref.ensures.value ∙ c.in_ok-wants.ensures ∙ wants_are call c.in-Some.last.now c.requires.making (c.in-Some.front.now, whole))) (in_order (length (directory_path call)))

pub returns-in_err-place-clause-damaged : goal.returns-in_err-place-clause-damaged
returns-in_err-place-clause-damaged g c =
    let v = g.V.View.seen c.args.view.now in
    let call = c.args.call.now in
    let whole : path_of call false ≡ c.in-Some.front.now ++ c.in-Some.last.now ∷ [] = sym (c.names.ensures.names ∙ c.path_of_making.ensures) ∙ c.in-Some.ensures.cases.0 in
    let front : c.in-Some.front.now ≡ directory_path call = sym (ap parent_of whole ∙ parent_of_next c.in-Some.front.now c.in-Some.last.now) in
    told_on (IsDamage v call) _ _ c.from_residual-in_err-place.ensures.1
    (only_so (path.IsDamage v (wanted call) (directory_path call)) (IsDamage v call) (λ rule b broken. IsDamage.on_path rule b broken) c.in_err-place.field-0.0
    (subst₂ (λ names wants. steps.IsDamage (path.IsDamage v wants names) c.in_err-place.field-0.0) front (c.deref.ensures.value ∙ c.in_ok-wants.ensures) c.in_err-place.ensures.damaged))

pub find_at-requires-clause-seen : goal.find_at-requires-clause-seen
find_at-requires-clause-seen g c =
    let v = g.V.View.seen c.args.view.now in
    let call = c.args.call.now in
    let whole : path_of call false ≡ c.in-Some.front.now ++ c.in-Some.last.now ∷ [] = sym (c.names.ensures.names ∙ c.path_of_making.ensures) ∙ c.in-Some.ensures.cases.0 in
    let front : c.in-Some.front.now ≡ directory_path call = sym (ap parent_of whole ∙ parent_of_next c.in-Some.front.now c.in-Some.last.now) in
    let told = subst₂ (λ names wants. IsTold v wants names c.in_ok-place.field-0) front (c.deref.ensures.value ∙ c.in_ok-wants.ensures) c.in_ok-place.ensures.told in
    subst (IsTold v (wanted call) (directory_path call)) c.in-At.is told

pub find_at-requires-clause-reached : goal.find_at-requires-clause-reached
find_at-requires-clause-reached g c im o l t of =
    let v = g.V.View.seen c.args.view.now in
    let call = c.args.call.now in
    let whole : path_of call false ≡ c.in-Some.front.now ++ c.in-Some.last.now ∷ [] = sym (c.names.ensures.names ∙ c.path_of_making.ensures) ∙ c.in-Some.ensures.cases.0 in
    let front : c.in-Some.front.now ≡ directory_path call = sym (ap parent_of whole ∙ parent_of_next c.in-Some.front.now c.in-Some.last.now) in
    let walked = subst₂ (λ names wants. IsWalked v im o l t names wants c.in_ok-place.field-0) front (c.deref.ensures.value ∙ c.in_ok-wants.ensures) (c.in_ok-place.ensures.walked im o l t of) in
    let at = subst (IsWalked v im o l t (directory_path call) (wanted call)) c.in-At.is walked in
    record { place = at.0; held = at.2 }

pub returns-in-NotFound-clause-found : goal.returns-in-NotFound-clause-found
returns-in-NotFound-clause-found g c im o l t of =
    let v = g.V.View.seen c.args.view.now in
    let call = c.args.call.now in
    let whole : path_of call false ≡ c.in-Some.front.now ++ c.in-Some.last.now ∷ [] = sym (c.names.ensures.names ∙ c.path_of_making.ensures) ∙ c.in-Some.ensures.cases.0 in
    let front : c.in-Some.front.now ≡ directory_path call = sym (ap parent_of whole ∙ parent_of_next c.in-Some.front.now c.in-Some.last.now) in
    let walked = subst₂ (λ names wants. IsWalked v im o l t names wants c.in_ok-place.field-0) front (c.deref.ensures.value ∙ c.in_ok-wants.ensures) (c.in_ok-place.ensures.walked im o l t of) in
    let at = subst (IsWalked v im o l t (directory_path call) (wanted call)) c.in-NotFound.is walked in
    let answer : (apply call t).reply ≡ reply.NotFound = refused call t c.in-Some.last.now reply.NotFound c.requires.making (c.in-Some.front.now, whole) at.0 in
    (answer, subst (AreHeld v) (sym (plain_list im o l t call c.args.stamp.now.node (ap is_ok answer))) at.1)

pub returns-in-NotDir-clause-found : goal.returns-in-NotDir-clause-found
returns-in-NotDir-clause-found g c im o l t of =
    let v = g.V.View.seen c.args.view.now in
    let call = c.args.call.now in
    let whole : path_of call false ≡ c.in-Some.front.now ++ c.in-Some.last.now ∷ [] = sym (c.names.ensures.names ∙ c.path_of_making.ensures) ∙ c.in-Some.ensures.cases.0 in
    let front : c.in-Some.front.now ≡ directory_path call = sym (ap parent_of whole ∙ parent_of_next c.in-Some.front.now c.in-Some.last.now) in
    let walked = subst₂ (λ names wants. IsWalked v im o l t names wants c.in_ok-place.field-0) front (c.deref.ensures.value ∙ c.in_ok-wants.ensures) (c.in_ok-place.ensures.walked im o l t of) in
    let at = subst (IsWalked v im o l t (directory_path call) (wanted call)) c.in-NotDir.is walked in
    let answer : (apply call t).reply ≡ reply.NotDir = refused call t c.in-Some.last.now reply.NotDir c.requires.making (c.in-Some.front.now, whole) at.0 in
    (answer, subst (AreHeld v) (sym (plain_list im o l t call c.args.stamp.now.node (ap is_ok answer))) at.1)

pub returns-in-NeedLock-clause-found : goal.returns-in-NeedLock-clause-found
returns-in-NeedLock-clause-found g c im o l t of =
    let v = g.V.View.seen c.args.view.now in
    let call = c.args.call.now in
    let whole : path_of call false ≡ c.in-Some.front.now ++ c.in-Some.last.now ∷ [] = sym (c.names.ensures.names ∙ c.path_of_making.ensures) ∙ c.in-Some.ensures.cases.0 in
    let front : c.in-Some.front.now ≡ directory_path call = sym (ap parent_of whole ∙ parent_of_next c.in-Some.front.now c.in-Some.last.now) in
    let walked = subst₂ (λ names wants. IsWalked v im o l t names wants c.in_ok-place.field-0) front (c.deref.ensures.value ∙ c.in_ok-wants.ensures) (c.in_ok-place.ensures.walked im o l t of) in
    let at = subst (IsWalked v im o l t (directory_path call) (wanted call)) c.in-NeedLock.is walked in
    lack_before v (path_holds im o l call) (inode_holds im o l t call c.args.stamp.now.node) c.in-NeedLock.lock c.in-NeedLock.state at

pub returns-clause-found : goal.returns-clause-found
returns-clause-found g c im o l t of =
    let v = g.V.View.seen c.args.view.now in
    let call = c.args.call.now in
    let whole : path_of call false ≡ c.in-Some.front.now ++ c.in-Some.last.now ∷ [] = sym (c.names.ensures.names ∙ c.path_of_making.ensures) ∙ c.in-Some.ensures.cases.0 in
    let front : c.in-Some.front.now ≡ directory_path call = sym (ap parent_of whole ∙ parent_of_next c.in-Some.front.now c.in-Some.last.now) in
    let walked = subst₂ (λ names wants. IsWalked v im o l t names wants c.in_ok-place.field-0) front (c.deref.ensures.value ∙ c.in_ok-wants.ensures) (c.in_ok-place.ensures.walked im o l t of) in
    let at = subst (IsWalked v im o l t (directory_path call) (wanted call)) c.in-NeedBlock.is walked in
    asked_before v im o l (path_holds im o l call) (inode_holds im o l t call c.args.stamp.now.node) c.in-NeedBlock.missing at

pub returns-in-NeedLock-clause-told : goal.returns-in-NeedLock-clause-told
returns-in-NeedLock-clause-told g c =
    let v = g.V.View.seen c.args.view.now in
    let call = c.args.call.now in
    let whole : path_of call false ≡ c.in-Some.front.now ++ c.in-Some.last.now ∷ [] = sym (c.names.ensures.names ∙ c.path_of_making.ensures) ∙ c.in-Some.ensures.cases.0 in
    let front : c.in-Some.front.now ≡ directory_path call = sym (ap parent_of whole ∙ parent_of_next c.in-Some.front.now c.in-Some.last.now) in
    let told = subst₂ (λ names wants. IsTold v wants names c.in_ok-place.field-0) front (c.deref.ensures.value ∙ c.in_ok-wants.ensures) c.in_ok-place.ensures.told in
    let at = subst (IsTold v (wanted call) (directory_path call)) c.in-NeedLock.is told in
    IsLackedFor.on_path at

pub returns-clause-told : goal.returns-clause-told
returns-clause-told g c =
    let v = g.V.View.seen c.args.view.now in
    let call = c.args.call.now in
    let whole : path_of call false ≡ c.in-Some.front.now ++ c.in-Some.last.now ∷ [] = sym (c.names.ensures.names ∙ c.path_of_making.ensures) ∙ c.in-Some.ensures.cases.0 in
    let front : c.in-Some.front.now ≡ directory_path call = sym (ap parent_of whole ∙ parent_of_next c.in-Some.front.now c.in-Some.last.now) in
    let told = subst₂ (λ names wants. IsTold v wants names c.in_ok-place.field-0) front (c.deref.ensures.value ∙ c.in_ok-wants.ensures) c.in_ok-place.ensures.told in
    let at = subst (IsTold v (wanted call) (directory_path call)) c.in-NeedBlock.is told in
    IsNeededFor.on_path at

pub returns-in-NotFound-clause-told : goal.returns-in-NotFound-clause-told
returns-in-NotFound-clause-told g c =
    let v = g.V.View.seen c.args.view.now in
    let call = c.args.call.now in
    let whole : path_of call false ≡ c.in-Some.front.now ++ c.in-Some.last.now ∷ [] = sym (c.names.ensures.names ∙ c.path_of_making.ensures) ∙ c.in-Some.ensures.cases.0 in
    let front : c.in-Some.front.now ≡ directory_path call = sym (ap parent_of whole ∙ parent_of_next c.in-Some.front.now c.in-Some.last.now) in
    let told = subst₂ (λ names wants. IsTold v wants names c.in_ok-place.field-0) front (c.deref.ensures.value ∙ c.in_ok-wants.ensures) c.in_ok-place.ensures.told in
    IsRefused.not_found (subst (IsTold v (wanted call) (directory_path call)) c.in-NotFound.is told)

pub returns-in-NotDir-clause-told : goal.returns-in-NotDir-clause-told
returns-in-NotDir-clause-told g c =
    let v = g.V.View.seen c.args.view.now in
    let call = c.args.call.now in
    let whole : path_of call false ≡ c.in-Some.front.now ++ c.in-Some.last.now ∷ [] = sym (c.names.ensures.names ∙ c.path_of_making.ensures) ∙ c.in-Some.ensures.cases.0 in
    let front : c.in-Some.front.now ≡ directory_path call = sym (ap parent_of whole ∙ parent_of_next c.in-Some.front.now c.in-Some.last.now) in
    let told = subst₂ (λ names wants. IsTold v wants names c.in_ok-place.field-0) front (c.deref.ensures.value ∙ c.in_ok-wants.ensures) c.in_ok-place.ensures.told in
    let file = subst (IsTold v (wanted call) (directory_path call)) c.in-NotDir.is told in
    IsRefused.not_dir file.0 file.1

pub returns-in_default-clause-told : goal.returns-in_default-clause-told
returns-in_default-clause-told g c = IsRefused.of_root (sym (c.names.ensures.names ∙ c.path_of_making.ensures) ∙ nil_from_length c.names.result.now c.in_default.ensures.cases)
