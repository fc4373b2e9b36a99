use Rattle.std.proofs.Common.{◌≡◌, ℕ, Some, get_or, sym, subst, arith}
use Rattle.std.specs.Prelude.{◌↔◌, Contains, slice_get}
use Rattle.std.proofs.lemmas.Option.{slice_get-get_or}
use Rattle.image_model.specs.SystemFiles.{IsSystemFile}
use Rattle.image_journals.specs.Blocks.{seen_of}
use Rattle.image_journals.proofs.Adding.{contained_by}
use Rattle.image_journals.proofs.Layouts.{shown_by}
use Rattle.image_journals.proofs.Read.{handed}
use Rattle.image_journals.proofs.SystemBlocks.{found_all, found_first, found_more}
use Rattle.image_journals.proofs.system.find_system_blocks.Goals as goal

pub returns-in_err-files : goal.returns-in_err-files
returns-in_err-files c r o l same laid =
    let s = shown_by r o l c.args.block_size c.args.bytes.now c.of-blocks.result c.of-blocks.ensures.size c.of-blocks.ensures.bytes same laid in
    handed c.from_residual.result _ _ _ c.from_residual.ensures.1 (c.in_err-files.ensures r o l s)

pub loop-file-init : goal.loop-file-init
loop-file-init c r o l same laid =
    let b = c.of-blocks.result in
    let s = shown_by r o l c.args.block_size c.args.bytes.now b c.of-blocks.ensures.size c.of-blocks.ensures.bytes same laid in
    let are : (d : ℕ) → Contains c.deref-file-items.result.now d ↔ IsSystemFile r d = λ d. subst (λ xs. Contains xs d ↔ IsSystemFile r d) (sym c.deref-file-items.ensures.value) (c.in_ok-files.ensures r o l s d) in
    found_first (seen_of b) r o l s c.deref-file-items.result.now are c.superblock_block.result b.size c.superblock_block.ensures s.size _ _ c.new-found.ensures.items c.in_ok-push.ensures.items

pub returns-in_err-add_file : goal.returns-in_err-add_file
returns-in_err-add_file c r o l same laid =
    let b = c.of-blocks.result in
    let s = shown_by r o l c.args.block_size c.args.bytes.now b c.of-blocks.ensures.size c.of-blocks.ensures.bytes same laid in
    let row = c.deref-file-items.result.now in
    let k = c.loop-file.file-index in
    let are : (d : ℕ) → Contains row d ↔ IsSystemFile r d = λ d. subst (λ xs. Contains xs d ↔ IsSystemFile r d) (sym c.deref-file-items.ensures.value) (c.in_ok-files.ensures r o l s d) in
    let there : slice_get row k ≡ Some (get_or row k 0) = slice_get-get_or row k 0 c.loop-file-test.true in
    handed c.from_residual-in_err-add_file.result _ _ _ c.from_residual-in_err-add_file.ensures.1 (c.in_err-add_file.ensures r o l s ((are (get_or row k 0)).0 (contained_by row k (get_or row k 0) there)))

pub loop-file-preserved : goal.loop-file-preserved
loop-file-preserved c r o l same laid =
    let b = c.of-blocks.result in
    let s = shown_by r o l c.args.block_size c.args.bytes.now b c.of-blocks.ensures.size c.of-blocks.ensures.bytes same laid in
    let row = c.deref-file-items.result.now in
    let k = c.loop-file.file-index in
    let are : (d : ℕ) → Contains row d ↔ IsSystemFile r d = λ d. subst (λ xs. Contains xs d ↔ IsSystemFile r d) (sym c.deref-file-items.ensures.value) (c.in_ok-files.ensures r o l s d) in
    let there : slice_get row k ≡ Some (get_or row k 0) = slice_get-get_or row k 0 c.loop-file-test.true in
    found_more (seen_of b) r o l s row are k (get_or row k 0) _ _ there (c.loop-file.invariant r o l same laid) (λ file. c.in_ok-add_file.ensures r o l s file)

pub returns : goal.returns
returns c r o l same laid =
    let b = c.of-blocks.result in
    let s = shown_by r o l c.args.block_size c.args.bytes.now b c.of-blocks.ensures.size c.of-blocks.ensures.bytes same laid in
    let row = c.deref-file-items.result.now in
    let are : (d : ℕ) → Contains row d ↔ IsSystemFile r d = λ d. subst (λ xs. Contains xs d ↔ IsSystemFile r d) (sym c.deref-file-items.ensures.value) (c.in_ok-files.ensures r o l s d) in
    found_all (seen_of b) r o l s row are c.loop-file.file-index _ (omega (arith, c.loop-file-test.false)) (c.loop-file.invariant r o l same laid)
