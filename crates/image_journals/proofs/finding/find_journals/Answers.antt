use Rattle.std.proofs.Common.{◌≡◌, refl, sym, ap, subst, ◌∙◌}
use Rattle.gfs2_layout.specs.Records.{is_dots}
use Rattle.image_model.specs.Journals.{journal_name}
use Rattle.image_model.specs.Stands.{flat_of}
use Rattle.image_journals.specs.Shown.{jindex}
use Rattle.image_journals.proofs.Layouts.{AreFirst, has_next, no_more, none_yet, one_more, shown_by}
use Rattle.image_journals.proofs.Read.{handed}
use Rattle.image_journals.proofs.finding.find_journals.Goals as goal

pub loop-number-init : goal.loop-number-init
loop-number-init c r o m same laid = subst (AreFirst r m 0) (sym c.new-journals.ensures.items) (none_yet r m)

pub returns-in_err-jindex : goal.returns-in_err-jindex
returns-in_err-jindex c r o l same laid =
    let s = shown_by r o l c.args.block_size c.args.bytes.now c.of-blocks.result c.of-blocks.ensures.size c.of-blocks.ensures.bytes same laid in
    handed c.from_residual.result _ _ _ c.from_residual.ensures.1 (c.in_err-jindex.ensures r o l s)

pub returns-in_err-name : goal.returns-in_err-name
returns-in_err-name c r o l same laid = handed c.from_residual-in_err-name.result _ _ _ c.from_residual-in_err-name.ensures.1 c.in_err-name.ensures

pub returns-in_err-found : goal.returns-in_err-found
returns-in_err-found c r o l same laid =
    let s = shown_by r o l c.args.block_size c.args.bytes.now c.of-blocks.result c.of-blocks.ensures.size c.of-blocks.ensures.bytes same laid in
    let at = c.in_ok-jindex.ensures r o l s in
    let named : c.deref.result.now ≡ journal_name c.loop-number.number = c.deref.ensures.value ∙ c.in_ok-name.ensures in
    handed c.from_residual-in_err-found.result _ _ _ c.from_residual-in_err-found.ensures.1
    (c.in_err-found.ensures r o l s (jindex at) (ap is_dots named ∙ refl))

pub returns-in_default : goal.returns-in_default
returns-in_default c r o l same laid =
    let s = shown_by r o l c.args.block_size c.args.bytes.now c.of-blocks.result c.of-blocks.ensures.size c.of-blocks.ensures.bytes same laid in
    let at = c.in_ok-jindex.ensures r o l s in
    let named : c.deref.result.now ≡ journal_name c.loop-number.number = c.deref.ensures.value ∙ c.in_ok-name.ensures in
    let leads = c.in_ok-found.ensures r o l s (jindex at) (ap is_dots named ∙ refl) ∙ ap (flat_of r o c.in_ok-jindex.jindex).child named in
    no_more r o l laid c.in_ok-jindex.jindex c.loop-number.number c.loop-number.journals.items (c.loop-number.invariant r o l same laid) at (sym c.in_default.is ∙ leads)

pub returns-in_err-places : goal.returns-in_err-places
returns-in_err-places c r o l same laid =
    let s = shown_by r o l c.args.block_size c.args.bytes.now c.of-blocks.result c.of-blocks.ensures.size c.of-blocks.ensures.bytes same laid in
    let at = c.in_ok-jindex.ensures r o l s in
    let named : c.deref.result.now ≡ journal_name c.loop-number.number = c.deref.ensures.value ∙ c.in_ok-name.ensures in
    let leads = c.in_ok-found.ensures r o l s (jindex at) (ap is_dots named ∙ refl) ∙ ap (flat_of r o c.in_ok-jindex.jindex).child named in
    handed c.from_residual-in_err-places.result _ _ _ c.from_residual-in_err-places.ensures.1
    (c.in_err-places.ensures r o l c.loop-number.number s (has_next r o l laid c.in_ok-jindex.jindex c.loop-number.number c.loop-number.journals.items (c.loop-number.invariant r o l same laid) at c.in-Some.dinode (sym c.in-Some.is ∙ leads)))

pub loop-number-preserved : goal.loop-number-preserved
loop-number-preserved c r o l same laid =
    let s = shown_by r o l c.args.block_size c.args.bytes.now c.of-blocks.result c.of-blocks.ensures.size c.of-blocks.ensures.bytes same laid in
    let at = c.in_ok-jindex.ensures r o l s in
    let inv = c.loop-number.invariant r o l same laid in
    let named : c.deref.result.now ≡ journal_name c.loop-number.number = c.deref.ensures.value ∙ c.in_ok-name.ensures in
    let leads = sym c.in-Some.is ∙ c.in_ok-found.ensures r o l s (jindex at) (ap is_dots named ∙ refl) ∙ ap (flat_of r o c.in_ok-jindex.jindex).child named in
    let its = c.in_ok-places.ensures r o l c.loop-number.number s (has_next r o l laid c.in_ok-jindex.jindex c.loop-number.number c.loop-number.journals.items inv at c.in-Some.dinode leads) in
    one_more r o l laid c.in_ok-jindex.jindex c.loop-number.number c.loop-number.journals.items inv at _ _ leads its c.in_ok-push.ensures.items
