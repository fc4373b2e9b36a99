use Rattle.image_journals.specs.Blocks.{seen_of}
use Rattle.image_journals.proofs.Read.{handed, so_found}
use Rattle.image_journals.proofs.SystemBlocks.{blocks_are}
use Rattle.image_journals.proofs.system.add_file.Goals as goal

pub returns-in_err-add_below : goal.returns-in_err-add_below
returns-in_err-add_below c r o l s file = handed c.from_residual-in_err-add_below.result _ _ _ c.from_residual-in_err-add_below.ensures.1 (c.in_err-add_below.ensures r o l s file)

pub returns : goal.returns
returns c r o l s file =
    so_found c.add_own_leaves.result _ _
    (λ done leaves. blocks_are (seen_of c.args.blocks.now) r o l s c.args.dinode file c.sound_pointers_are_parts.ensures.parts c.sound_pointers_are_parts.ensures.led _ _ _ _ c.in_ok-push.ensures.items (c.in_ok-add_below.ensures r o l s file) leaves)
    (c.add_own_leaves.ensures r o l s file)
