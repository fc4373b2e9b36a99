use Rattle.std.proofs.Common.{refl, sym, ap, ◌∙◌, subst}
use Rattle.std.specs.Prelude.{not}
use Rattle.drafts.specs.Fates.{seen_in}
use Rattle.glock_names.specs.Views.{HasBlock, IsOfView}
use Rattle.resource_groups.specs.Shown.{IsMissing, IsShown}
use Rattle.path_walks.proofs.Faults.{damaged_so}
use Rattle.path_walks.proofs.Steps.{none_so}
use Rattle.name_drafts.proofs.Fates.{seen_new}
use Rattle.name_drafts.proofs.Faults.{own_header}
use Rattle.name_drafts.proofs.saying.number_of_next.Goals as goal

pub returns-then-is_none-clause-needed : goal.returns-then-is_none-clause-needed
returns-then-is_none-clause-needed g c =
    subst (IsMissing (g.V.View.seen c.args.view.now) c.args.group.now) (sym c.missing_header.ensures) (record {
      own = own_header (g.V.View.seen c.args.view.now) c.args.group.now c.is_a_view.ensures c.requires;
      absent = none_so _ c.block_of.result (c.is_none.ensures ∙ ap not c.if-is_none.true) c.block_of.ensures.none;
      lock = refl;
      plain = refl;
      from = refl;
    })

pub returns-clause-next : goal.returns-clause-next
returns-clause-next g c at shown =
    c.take_number.ensures.number at (subst (λ w. IsShown w c.args.group.now at) (sym (seen_new g.V.View.seen c.args.view.now c.new-draft.result c.new-draft.ensures)) shown)

pub returns-clause-damaged : goal.returns-clause-damaged
returns-clause-damaged g c at shown =
    c.take_number.ensures.damaged at (subst (λ w. IsShown w c.args.group.now at) (sym (seen_new g.V.View.seen c.args.view.now c.new-draft.result c.new-draft.ensures)) shown)

pub returns-clause-kept : goal.returns-clause-kept
returns-clause-kept g c =
    damaged_so (IsOfView (seen_in g.V.View.seen c.new-draft.result)) (IsOfView (g.V.View.seen c.args.view.now))
    (λ rule b. subst (λ w. HasBlock w b) (seen_new g.V.View.seen c.args.view.now c.new-draft.result c.new-draft.ensures)) c.take_number.result c.take_number.ensures.kept
