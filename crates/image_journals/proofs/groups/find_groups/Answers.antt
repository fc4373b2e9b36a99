use Rattle.std.proofs.Common.{ap, ◌∙◌}
use Rattle.image_model.specs.Groups.{groups_in}
use Rattle.image_journals.specs.Blocks.{seen_of}
use Rattle.image_journals.specs.Shown.{rindex}
use Rattle.image_journals.proofs.Contents.{groups_are}
use Rattle.image_journals.proofs.Layouts.{shown_by}
use Rattle.image_journals.proofs.Read.{handed, so_found}
use Rattle.image_journals.proofs.groups.find_groups.Goals as goal

pub returns-in_err-rindex : goal.returns-in_err-rindex
returns-in_err-rindex c r o l same laid =
    let s = shown_by r o l c.args.block_size c.args.bytes.now c.of-blocks.result c.of-blocks.ensures.size c.of-blocks.ensures.bytes same laid in
    handed c.from_residual.result _ _ _ c.from_residual.ensures.1 (c.in_err-rindex.ensures r o l s)

pub returns-in_err-list : goal.returns-in_err-list
returns-in_err-list c r o l same laid =
    let s = shown_by r o l c.args.block_size c.args.bytes.now c.of-blocks.result c.of-blocks.ensures.size c.of-blocks.ensures.bytes same laid in
    let at = c.in_ok-rindex.ensures r o l s in
    handed c.from_residual-in_err-list.result _ _ _ c.from_residual-in_err-list.ensures.1 (c.in_err-list.ensures r o l s (rindex at))

pub returns : goal.returns
returns c r o l same laid =
    let s = shown_by r o l c.args.block_size c.args.bytes.now c.of-blocks.result c.of-blocks.ensures.size c.of-blocks.ensures.bytes same laid in
    let v = seen_of c.of-blocks.result in
    let at = c.in_ok-rindex.ensures r o l s in
    let list = c.in_ok-list.ensures r o l s (rindex at) in
    so_found c.entries.result _ _ (λ groups are. are ∙ ap groups_in c.deref.ensures.value ∙ groups_are v r o l s c.in_ok-rindex.rindex c.in_ok-list.list.items at list) c.entries.ensures
