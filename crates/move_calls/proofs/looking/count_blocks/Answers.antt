use Rattle.std.proofs.Common.{◌≡◌, ◌⊎◌, inl, inr, true, false, [], subst}
use Rattle.std.proofs.lemmas.Bool.{cases_Bool}
use Rattle.glock_names.specs.Steps.{TellsOf}
use Rattle.glock_names.proofs.StepLaws.{answer_at, needed_at}
use Rattle.name_moves.specs.Inserting.{SeesForName}
use Rattle.name_moves.specs.Needing.{TakesBlocks}
use Rattle.name_moves.specs.Becoming.{IsAfter, NeedsAfter}
use Rattle.name_moves.specs.Moving.{IsNeededIn, IsNeededThere, IsWrongThere, lost_there, move_of}
use Rattle.move_calls.specs.Carrying.{IsDamageOf, IsStuck, NeedsBlock}
use Rattle.move_calls.proofs.Goings.{as_it_is, needed_now, wrong_now}
use Rattle.move_calls.proofs.Gone.{astray, none_in, within}
use Rattle.move_calls.proofs.looking.count_blocks.Goals.{else-gone-via-then-gone+else-not-is_in_groups, else-gone-via-else-gone}
use Rattle.move_calls.proofs.looking.count_blocks.Goals as goal

pub returns-then-not-is_in_groups-clause-stuck : goal.returns-then-not-is_in_groups-clause-stuck
returns-then-not-is_in_groups-clause-stuck g c node =
    let v = g.V.View.seen c.args.view.now in
    let m = move_of c.args.m.now in
    astray v node m c.in-Ok-NeedBlock.missing (c.loses_names-gone.ensures.some c.if-gone.true) [] (needed_at _ _ (IsNeededIn v m []) c.in-Ok-NeedBlock.field-0-is c.in-Ok-NeedBlock.ensures.needed)
    (c.is_in_groups.ensures.astray c.if-not-is_in_groups.true)

pub returns-in-Ok-Is-clause-need : goal.returns-in-Ok-Is-clause-need
returns-in-Ok-Is-clause-need g c =
    let v = g.V.View.seen c.args.view.now in
    let m = move_of c.args.m.now in
    let after : IsAfter v m.to.inode (lost_there m) (λ k. SeesForName v k m.new_name) = answer_at c.in-Ok-Is.field-0 c.in-Ok-Is.need (λ need. IsAfter v m.to.inode (lost_there m) (λ k. SeesForName v k m.new_name))
    c.in-Ok-Is.field-0-is c.in-Ok-Is.ensures.seen in
    record {
      in_sound = λ h shown sound. answer_at c.in-Ok-Is.field-0 c.in-Ok-Is.need (NeedsAfter (lost_there m) h m.new_name) c.in-Ok-Is.field-0-is (c.in-Ok-Is.ensures.need h shown sound);
      in_linear = λ h shown plain flat. answer_at c.in-Ok-Is.field-0 c.in-Ok-Is.need (NeedsAfter (lost_there m) h m.new_name) c.in-Ok-Is.field-0-is (c.in-Ok-Is.ensures.linear h shown plain flat);
      in_hashed = λ h shown hashed none. answer_at c.in-Ok-Is.field-0 c.in-Ok-Is.need (TakesBlocks h m.new_name) c.in-Ok-Is.field-0-is (c.in-Ok-Is.ensures.hashed h shown hashed none);
      looked = λ h shown. elim (cases_Bool c.loses_names-gone.result) [
        | inl gone ↦ c.requires.looked (c.loses_names-gone.ensures.some gone) h shown
        | inr none ↦ as_it_is v m (c.loses_names-gone.ensures.none none) (λ k. SeesForName v k m.new_name) after h shown
      ];
      looked_then = after;
    }

pub returns-then-gone-2-clause-stuck : goal.returns-then-gone-2-clause-stuck
returns-then-gone-2-clause-stuck g c node =
    let v = g.V.View.seen c.args.view.now in
    IsStuck.counts_wrong c.in-Err-Damaged.rule c.in-Err-Damaged.block (c.loses_names-gone.ensures.some c.if-gone-2.true)
    (subst (TellsOf (IsWrongThere v (move_of c.args.m.now))) c.in-Err-Damaged.field-0-is c.in-Err-Damaged.ensures.wrong)

pub returns-else-gone-clause-needed : goal.returns-else-gone-clause-needed
returns-else-gone-clause-needed g c node =
    let v = g.V.View.seen c.args.view.now in
    let m = move_of c.args.m.now in
    let needed : IsNeededIn v m [] c.in-Ok-NeedBlock.missing = needed_at _ _ (IsNeededIn v m []) c.in-Ok-NeedBlock.field-0-is c.in-Ok-NeedBlock.ensures.needed in
    elim c.else-gone.branch [
      | else-gone-via-then-gone+else-not-is_in_groups w ↦
          within v node m c.in-Ok-NeedBlock.missing (c.loses_names-gone.ensures.some w.if-gone.true) [] (λ some. absurd (none_in some.2.0 some.2.1)) needed (w.is_in_groups.ensures.within w.if-not-is_in_groups.false)
      | else-gone-via-else-gone w ↦
          NeedsBlock.to_look (needed_at _ _ _ c.in-Ok-NeedBlock.field-0-is c.in-Ok-NeedBlock.ensures.absent)
          (needed_now v m (c.loses_names-gone.ensures.none w.if-gone.false) c.in-Ok-NeedBlock.missing (needed_at _ _ (IsNeededThere v m) c.in-Ok-NeedBlock.field-0-is c.in-Ok-NeedBlock.ensures.there))
    ]

pub returns-else-gone-2-clause-damaged : goal.returns-else-gone-2-clause-damaged
returns-else-gone-2-clause-damaged g c node =
    let v = g.V.View.seen c.args.view.now in
    let m = move_of c.args.m.now in
    IsDamageOf.to_look c.in-Err-Damaged.rule c.in-Err-Damaged.block
    (wrong_now v m (c.loses_names-gone.ensures.none c.if-gone-2.false) c.in-Err-Damaged.rule c.in-Err-Damaged.block (subst (TellsOf (IsWrongThere v m)) c.in-Err-Damaged.field-0-is c.in-Err-Damaged.ensures.wrong))
