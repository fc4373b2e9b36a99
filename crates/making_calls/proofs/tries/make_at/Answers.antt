use Rattle.std.proofs.Common.{◌≡◌, ◌<◌, ◌^◌, ap, ◌∙◌, subst}
use Rattle.std.specs.Prelude.{not}
use Rattle.gfs2_layout.specs.Holding.{Holding}
use Rattle.glock_names.proofs.StepLaws.{answer_at, needed_at}
use Rattle.name_drafts.specs.DirectoryShown.{IsShown}
use Rattle.name_drafts.proofs.WalkFaults.{told_on, tells_each, tells_so}
use Rattle.name_drafts.proofs.Steps.{none_so}
use Rattle.name_drafts.proofs.Steps.{inside_so as shown_inside}
use Rattle.name_drafts.specs.Needing.{TakesBlocks}
use Rattle.name_drafts.specs.Inserting.{IsNeededForName, IsWrongForName, SeesForName}
use Rattle.name_drafts.specs.Need.{name_need, need_in_linear}
use Rattle.making_calls.specs.Making.{IsDamage}
use Rattle.making_calls.specs.Making as damage
use Rattle.making_calls.proofs.At.{insert_needs, name_damage}
use Rattle.making_calls.proofs.Taking.{insert_lacks, inside_so, name_sound}
use Rattle.making_calls.proofs.tries.make_at.Goals as goal

pub returns-then-is_none-clause-sound : goal.returns-then-is_none-clause-sound
returns-then-is_none-clause-sound g c im o l t of =
    let v = g.V.View.seen c.args.view.now in
    (none_so _ c.group_of.result (c.is_none.ensures ∙ ap not c.if-is_none.true) c.group_of.ensures.none)
    (inside_so v c.args.call.now c.requires.making c.args.place.now c.args.name.now c.requires.last c.requires.named c.requires.lacks im o l t of (c.requires.reached im o l t of))

pub returns-then-is_none-clause-damaged : goal.returns-then-is_none-clause-damaged
returns-then-is_none-clause-damaged g c =
    let v = g.V.View.seen c.args.view.now in
    damage.no_data_block c.args.place.now.inode c.requires.seen.leads (none_so _ c.group_of.result (c.is_none.ensures ∙ ap not c.if-is_none.true) c.group_of.ensures.none)

pub returns-in_err-more-clause-sound : goal.returns-in_err-more-clause-sound
returns-in_err-more-clause-sound g c im o l t of =
    let v = g.V.View.seen c.args.view.now in
    told_on (λ rule b. ⊥) _ _ c.from_residual.ensures.1
    (tells_so (λ rule b. (h : Holding) → IsShown v c.args.place.now.inode h → IsWrongForName v h rule b) (λ rule b. ⊥)
    (name_sound v c.args.call.now c.requires.making c.args.place.now c.args.name.now c.requires.last c.requires.named c.requires.lacks im o l t of (c.requires.reached im o l t of)) c.in_err-more.field-0.0 (tells_each (IsShown v c.args.place.now.inode) (IsWrongForName v) c.in_err-more.field-0.0 c.in_err-more.ensures.damaged))

pub returns-in_err-more-clause-damaged : goal.returns-in_err-more-clause-damaged
returns-in_err-more-clause-damaged g c =
    let v = g.V.View.seen c.args.view.now in
    told_on (IsDamage v c.args.call.now) _ _ c.from_residual.ensures.1
    (tells_so (λ rule b. (h : Holding) → IsShown v c.args.place.now.inode h → IsWrongForName v h rule b) (IsDamage v c.args.call.now)
    (name_damage c.args.call.now c.args.name.now c.requires.last v c.args.place.now c.requires.seen c.requires.lacks) c.in_err-more.field-0.0 (tells_each (IsShown v c.args.place.now.inode) (IsWrongForName v) c.in_err-more.field-0.0 c.in_err-more.ensures.damaged))

pub make_with-requires-clause-inside : goal.make_with-requires-clause-inside
make_with-requires-clause-inside g c =
    let v = g.V.View.seen c.args.view.now in
    shown_inside v c.args.place.now.inode c.group_of.result (c.is_none.ensures ∙ ap not c.if-is_none.false) c.group_of.ensures.group c.group_of.ensures.own

pub make_with-requires-clause-takes : goal.make_with-requires-clause-takes
make_with-requires-clause-takes g c =
    let v = g.V.View.seen c.args.view.now in
    record {
      sound = λ h shown sound dir. subst (λ n. c.in-Is.more ≡ name_need h n) c.bytes.ensures.bytes (answer_at _ _ (λ n. n ≡ name_need h c.bytes.result.now) c.in-Is.is (c.in_ok-more.ensures.need h shown sound dir));
      linear = λ h shown linear. subst (λ n. c.in-Is.more ≡ need_in_linear h n) c.bytes.ensures.bytes (answer_at _ _ (λ n. n ≡ need_in_linear h c.bytes.result.now) c.in-Is.is (c.in_ok-more.ensures.linear h shown linear));
      hashed = λ h shown hashed. subst (λ n. TakesBlocks h n c.in-Is.more) c.bytes.ensures.bytes (answer_at _ _ (TakesBlocks h c.bytes.result.now) c.in-Is.is (c.in_ok-more.ensures.hashed h shown hashed));
      looked = λ h shown. subst (SeesForName v h) c.bytes.ensures.bytes (answer_at _ c.in-Is.more (λ need. SeesForName v h c.bytes.result.now) c.in-Is.is (c.in_ok-more.ensures.seen h shown));
    }

pub make_with-requires-clause-most : goal.make_with-requires-clause-most
make_with-requires-clause-most g c =
    let v = g.V.View.seen c.args.view.now in
    answer_at _ _ (λ n. n < 2 ^ 42) c.in-Is.is c.in_ok-more.ensures.most

pub returns-in-NeedBlock-clause-found : goal.returns-in-NeedBlock-clause-found
returns-in-NeedBlock-clause-found g c im o l t of =
    let v = g.V.View.seen c.args.view.now in
    insert_lacks v c.args.call.now c.requires.making c.args.place.now c.args.name.now c.requires.last c.requires.named c.requires.lacks im o l t of (c.requires.reached im o l t of) c.args.stamp.now.node c.in-NeedBlock.missing
    (λ h shown. subst (λ n. IsNeededForName v h n c.in-NeedBlock.missing) c.bytes.ensures.bytes (needed_at _ _ (IsNeededForName v h c.bytes.result.now) c.in-NeedBlock.is (c.in_ok-more.ensures.needed h shown)))

pub returns-in-NeedBlock-clause-told : goal.returns-in-NeedBlock-clause-told
returns-in-NeedBlock-clause-told g c =
    let v = g.V.View.seen c.args.view.now in
    insert_needs c.args.call.now c.args.name.now c.requires.last v c.args.place.now c.requires.seen c.requires.lacks c.in-NeedBlock.missing (needed_at _ _ _ c.in-NeedBlock.is c.in_ok-more.ensures.absent)
    (λ h shown. subst (λ n. IsNeededForName v h n c.in-NeedBlock.missing) c.bytes.ensures.bytes (needed_at _ _ (IsNeededForName v h c.bytes.result.now) c.in-NeedBlock.is (c.in_ok-more.ensures.needed h shown)))
