use Rattle.std.proofs.Common.{◌≡◌, None, Some, refl, sym, ap, ◌∙◌, subst}
use Rattle.cluster_history.specs.Changes.{is_ok}
use Rattle.file_tree.specs.Apply.{apply}
use Rattle.file_tree.specs.declared.reply.Reply.TheVariants as reply
use Rattle.gfs2_layout.specs.Holding.{Holding}
use Rattle.gfs2_layout.specs.Structures.{is_directory}
use Rattle.glock_names.proofs.StepLaws.{answer_at, needed_at}
use Rattle.name_drafts.specs.DirectoryShown.{HasName, Says}
use Rattle.name_drafts.specs.DirectoryShown as dirs
use Rattle.image_model.specs.Owners.{holding}
use Rattle.name_drafts.specs.Holds.{AreHeld}
use Rattle.name_drafts.specs.Walks.{IsWrongAt, Names}
use Rattle.name_drafts.proofs.WalkFaults.{told_on, only_so}
use Rattle.name_drafts.proofs.Asked.{name_asked}
use Rattle.name_drafts.proofs.Images.{says_child, shown_inode, unbroken_directory}
use Rattle.name_drafts.proofs.Longer.{asked_before}
use Rattle.name_drafts.proofs.Steps.{directory_all, directory_here, fault_of_all}
use Rattle.making_calls.specs.Making.{IsDamage, IsRefused, directory_path, name_in, path_holds}
use Rattle.making_calls.specs.Making as damage
use Rattle.making_calls.proofs.At.{below_root, own_name}
use Rattle.making_calls.proofs.Taking.{own_among_of}
use Rattle.making_calls.proofs.Trees.{file_refuses, plain_list, there_refuses}
use Rattle.making_calls.proofs.tries.find_at.Goals as goal

pub returns-then-not-is_directory-clause-found : goal.returns-then-not-is_directory-clause-found
returns-then-not-is_directory-clause-found g c im o l t of =
    let v = g.V.View.seen c.args.view.now in
    let reached = c.requires.reached im o l t of in
    let reply : (apply c.args.call.now t).reply ≡ reply.NotDir = file_refuses v im o l t of c.args.call.now c.args.name.now c.requires.making c.requires.last c.args.place.now.inode reached.place.at (ap is_directory (sym reached.place.dinode) ∙ (sym c.is_directory.ensures ∙ c.if-not-is_directory.true)) in
    (reply, subst (AreHeld v) (sym (plain_list im o l t c.args.call.now c.args.stamp.now.node (ap is_ok reply))) reached.held)

pub returns-then-not-is_directory-clause-told : goal.returns-then-not-is_directory-clause-told
returns-then-not-is_directory-clause-told g c =
    IsRefused.in_file c.args.place.now.inode (below_root c.args.call.now c.args.name.now c.requires.last) c.requires.seen.leads c.requires.seen.there
    (λ h shown. ap is_directory (sym (c.requires.seen.dinode h shown)) ∙ (sym c.is_directory.ensures ∙ c.if-not-is_directory.true))

pub look-requires : goal.look-requires
look-requires g c = record {
  directory = directory_here (g.V.View.seen c.args.view.now) c.args.place.now.inode c.args.place.now.dinode c.requires.seen.dinode (sym c.is_directory.ensures ∙ c.if-not-is_directory.false);
}

pub returns-in_err-look-clause-damaged : goal.returns-in_err-look-clause-damaged
returns-in_err-look-clause-damaged g c =
    let v = g.V.View.seen c.args.view.now in
    let is = directory_all v c.args.place.now.inode c.args.place.now.dinode c.requires.seen.dinode (sym c.is_directory.ensures ∙ c.if-not-is_directory.false) in
    told_on (IsDamage v c.args.call.now) _ _ c.from_residual.ensures.1
    (only_so (λ rule b. (h : Holding) → dirs.IsShown v c.args.place.now.inode h → dirs.IsBroken v h rule b) (IsDamage v c.args.call.now)
    (λ rule b broken. damage.in_directory c.args.place.now.inode rule b c.requires.seen.leads (IsWrongAt.in_directory rule b is broken))
    c.in_err-look.field-0.0 (fault_of_all (dirs.IsShown v c.args.place.now.inode) (dirs.IsBroken v) _ c.in_err-look.field-0.0 c.in_err-look.ensures.kept c.in_err-look.ensures.damaged))

pub returns-in_err-look-clause-sound : goal.returns-in_err-look-clause-sound
returns-in_err-look-clause-sound g c im o l t of =
    let v = g.V.View.seen c.args.view.now in
    let path = directory_path c.args.call.now in
    let at = (c.requires.reached im o l t of).place.at in
    let shown = shown_inode v im o l t of path c.args.place.now.inode at in
    let is = directory_all v c.args.place.now.inode c.args.place.now.dinode c.requires.seen.dinode (sym c.is_directory.ensures ∙ c.if-not-is_directory.false) in
    told_on (λ rule b. ⊥) _ _ c.from_residual.ensures.1
    (only_so (dirs.IsBroken v (holding im o c.args.place.now.inode)) (λ rule b. ⊥) (λ rule b. unbroken_directory v im o l t of path c.args.place.now.inode rule b at (is (holding im o c.args.place.now.inode) shown.inode))
    c.in_err-look.field-0.0 (c.in_err-look.ensures.damaged (holding im o c.args.place.now.inode) shown))

pub returns-in-Is-Some-clause-found : goal.returns-in-Is-Some-clause-found
returns-in-Is-Some-clause-found g c im o l t of =
    let v = g.V.View.seen c.args.view.now in
    let reached = c.requires.reached im o l t of in
    let h = holding im o c.args.place.now.inode in
    let path = directory_path c.args.call.now in
    let shown = shown_inode v im o l t of path c.args.place.now.inode reached.place.at in
    let is = directory_all v c.args.place.now.inode c.args.place.now.dinode c.requires.seen.dinode (sym c.is_directory.ensures ∙ c.if-not-is_directory.false) h shown.inode in
    let says = subst (λ n. Says h n (Some c.in-Is-Some.field-0-0)) c.bytes.ensures.bytes (subst (Says h c.bytes.result.now) c.in-Is-Some.field-0-is (answer_at _ _ _ c.in-Is-Some.is (c.in_ok-look.ensures.found h shown))) in
    let leads = says_child v im o l t of path c.args.place.now.inode c.args.name.now c.in-Is-Some.field-0-0.addr reached.place.at is (record { entry = c.in-Is-Some.field-0-0; says = says; address = refl }) in
    let reply : (apply c.args.call.now t).reply ≡ reply.Exists = there_refuses v im o l t of c.args.call.now c.args.name.now c.requires.making c.requires.last c.args.place.now.inode reached.place.at is c.bytes.ensures.name _ leads in
    (reply, subst (AreHeld v) (sym (plain_list im o l t c.args.call.now c.args.stamp.now.node (ap is_ok reply))) reached.held)

pub returns-in-Is-Some-clause-told : goal.returns-in-Is-Some-clause-told
returns-in-Is-Some-clause-told g c =
    let v = g.V.View.seen c.args.view.now in
    let names : Names v c.args.place.now.inode c.args.name.now c.in-Is-Some.field-0-0.addr = record {
      there = c.requires.seen.there;
      directory = directory_all v c.args.place.now.inode c.args.place.now.dinode c.requires.seen.dinode (sym c.is_directory.ensures ∙ c.if-not-is_directory.false);
      child = λ h shown. record {
        entry = c.in-Is-Some.field-0-0;
        says = subst (λ n. Says h n (Some c.in-Is-Some.field-0-0)) c.bytes.ensures.bytes (subst (Says h c.bytes.result.now) c.in-Is-Some.field-0-is (answer_at _ _ _ c.in-Is-Some.is (c.in_ok-look.ensures.found h shown)));
        address = refl;
      };
    } in
    IsRefused.has_name c.args.place.now.inode c.in-Is-Some.field-0-0.addr (below_root c.args.call.now c.args.name.now c.requires.last) c.requires.seen.leads
    (subst (λ n. Names v c.args.place.now.inode n c.in-Is-Some.field-0-0.addr) (sym (own_name c.args.call.now c.args.name.now c.requires.last)) names)

pub make_at-requires-clause-directory : goal.make_at-requires-clause-directory
make_at-requires-clause-directory g c =
    directory_here (g.V.View.seen c.args.view.now) c.args.place.now.inode c.args.place.now.dinode c.requires.seen.dinode (sym c.is_directory.ensures ∙ c.if-not-is_directory.false)

pub make_at-requires-clause-lacks : goal.make_at-requires-clause-lacks
make_at-requires-clause-lacks g c = record {
  directory = directory_all (g.V.View.seen c.args.view.now) c.args.place.now.inode c.args.place.now.dinode c.requires.seen.dinode (sym c.is_directory.ensures ∙ c.if-not-is_directory.false);
  absent = λ h shown. subst (λ n. Says h n None) c.bytes.ensures.bytes (subst (Says h c.bytes.result.now) c.in-Is-None.field-0-is (answer_at _ _ _ c.in-Is-None.is (c.in_ok-look.ensures.found h shown)));
}

pub returns-in-NeedBlock-clause-found : goal.returns-in-NeedBlock-clause-found
returns-in-NeedBlock-clause-found g c im o l t of =
    let v = g.V.View.seen c.args.view.now in
    let reached = c.requires.reached im o l t of in
    let h = holding im o c.args.place.now.inode in
    let path = directory_path c.args.call.now in
    let shown = shown_inode v im o l t of path c.args.place.now.inode reached.place.at in
    let is = directory_all v c.args.place.now.inode c.args.place.now.dinode c.requires.seen.dinode (sym c.is_directory.ensures ∙ c.if-not-is_directory.false) h shown.inode in
    asked_before v im o l (path_holds im o l c.args.call.now) _ c.in-NeedBlock.missing
    (name_asked v im o l t of path c.args.place.now.inode reached.place.at (path_holds im o l c.args.call.now)
    (own_among_of v im o l t of c.args.call.now c.args.name.now c.requires.making c.requires.last c.args.place.now reached) is c.bytes.result.now c.in-NeedBlock.missing
    (needed_at _ _ (dirs.IsNeededFor v h c.bytes.result.now) c.in-NeedBlock.is (c.in_ok-look.ensures.needed h shown)))

pub returns-in-NeedBlock-clause-told : goal.returns-in-NeedBlock-clause-told
returns-in-NeedBlock-clause-told g c =
    let v = g.V.View.seen c.args.view.now in
    let name : c.bytes.result.now ≡ name_in c.args.call.now = c.bytes.ensures.bytes ∙ sym (own_name c.args.call.now c.args.name.now c.requires.last) in
    damage.to_look c.args.place.now.inode (below_root c.args.call.now c.args.name.now c.requires.last) c.requires.seen.leads c.requires.seen.there
    (directory_all v c.args.place.now.inode c.args.place.now.dinode c.requires.seen.dinode (sym c.is_directory.ensures ∙ c.if-not-is_directory.false))
    (needed_at _ _ _ c.in-NeedBlock.is c.in_ok-look.ensures.absent)
    (λ h shown. subst (λ n. dirs.IsNeededFor v h n c.in-NeedBlock.missing) name (needed_at _ _ (dirs.IsNeededFor v h c.bytes.result.now) c.in-NeedBlock.is (c.in_ok-look.ensures.needed h shown)))
