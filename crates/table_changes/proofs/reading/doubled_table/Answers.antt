use Rattle.std.proofs.Common.{◌≡◌, ◌*◌, ◌%◌, ◌≤◌, length, sym, ap, ◌∙◌, subst, arith}
use Rattle.glock_names.specs.Steps.{TellsOf}
use Rattle.glock_names.proofs.StepLaws.{answer_at, needed_at}
use Rattle.dinode_tree.proofs.Pieces.{needed_for}
use Rattle.linear_dirs.proofs.Looked.{handed}
use Rattle.table_files.specs.Pointers.{IsTableBroken}
use Rattle.table_files.specs.Files.{table_bytes}
use Rattle.table_files.proofs.TableBytes.{table_long}
use Rattle.table_files.specs.TreePointers.{seen_as}
use Rattle.table_changes.proofs.Doubles.{bytes_short, doubled_pointers}
use Rattle.table_files.proofs.Gets.{seen_shown}
use Rattle.table_changes.proofs.Below.{table_tells}
use Rattle.table_changes.proofs.reading.doubled_table.Goals as goal

pub returns-in_err-content-clause-damaged : goal.returns-in_err-content-clause-damaged
returns-in_err-content-clause-damaged g c = λ h table. handed c.from_residual.result _ (TellsOf (IsTableBroken h)) c.from_residual.ensures.1 (table_tells h c.in_err-content.field-0.0 (c.in_err-content.ensures.damaged h table.shown))

pub returns-in-NeedBlock-clause-needed : goal.returns-in-NeedBlock-clause-needed
returns-in-NeedBlock-clause-needed g c = λ h table. needed_for (g.V.View.seen c.args.view.now) h _ _ 0 0 c.in-NeedBlock.missing (λ k any. tt) (omega arith) (needed_at _ _ _ c.in-NeedBlock.is (c.in_ok-content.ensures.needed h table.shown))

pub returns-in-NeedBlock-clause-absent : goal.returns-in-NeedBlock-clause-absent
returns-in-NeedBlock-clause-absent g c =
    let v = g.V.View.seen c.args.view.now in
    (needed_at _ _ _ c.in-NeedBlock.is (c.in_ok-content.ensures.needed (seen_as v c.args.table.directory) (seen_shown c.all_blocks_are_shown.ensures v c.args.table.directory))).absent

pub returns-in-NeedBlock-2-clause-needed : goal.returns-in-NeedBlock-2-clause-needed
returns-in-NeedBlock-2-clause-needed g c = λ h table. needed_at _ _ _ c.in-NeedBlock-2.is (c.in_ok-headers.ensures.needed h table)

pub each_twice-requires : goal.each_twice-requires
each_twice-requires g c =
    let v = g.V.View.seen c.args.view.now in
    let long = answer_at _ _ _ c.in-Is.is (c.in_ok-content.ensures.length (seen_as v c.args.table.directory) (seen_shown c.all_blocks_are_shown.ensures v c.args.table.directory)) in
    omega (arith, ap length c.deref.ensures.value, long, c.pointers_of-long.ensures.most)

pub table_bytes-requires-clause-few : goal.table_bytes-requires-clause-few
table_bytes-requires-clause-few g c =
    let v = g.V.View.seen c.args.view.now in
    let long = answer_at _ _ _ c.in-Is.is (c.in_ok-content.ensures.length (seen_as v c.args.table.directory) (seen_shown c.all_blocks_are_shown.ensures v c.args.table.directory)) in
    omega (arith, ap length c.deref.ensures.value, long, c.pointers_of-long.ensures.most, c.in_ok-pointers.ensures.long, ap length c.deref-3.ensures.value)

pub returns-clause-doubled : goal.returns-clause-doubled
returns-clause-doubled g c = λ h table sound high.
    let v = g.V.View.seen c.args.view.now in
    let t = c.args.table in
    let content = c.in-Is.content.items in
    let same = c.deref.ensures.value in
    let size : c.block_size-size.result ≡ h.size = c.block_size-size.ensures.value ∙ sym table.shown.size in
    let long = answer_at _ _ _ c.in-Is.is (c.in_ok-content.ensures.length h table.shown) in
    let found = answer_at _ _ _ c.in-Is.is (c.in_ok-content.ensures.found h table.shown (table.whole 0)) in
    record {
      headers = c.in-Is-2.headers.items;
      pointers = c.in_ok-pointers.pointers.items;
      heads = answer_at _ _ _ c.in-Is-2.is (c.in_ok-headers.ensures.are h table sound high);
      twice = doubled_pointers t v h c.deref.result.now c.in_ok-pointers.pointers.items _ table (ap (λ n. 8 * n) c.pointers_of-long.ensures.value) (same ∙ found) (ap length same ∙ long) c.in_ok-pointers.ensures.long c.in_ok-pointers.ensures.each;
      all = c.in_ok-bytes.ensures ∙ ap (λ s. table_bytes s c.deref-2.result.now c.deref-3.result.now) size ∙ ap (λ xs. table_bytes h.size xs c.deref-3.result.now) c.deref-2.ensures.value
          ∙ ap (λ xs. table_bytes h.size c.in-Is-2.headers.items xs) c.deref-3.ensures.value;
    }

pub returns-clause-short : goal.returns-clause-short
returns-clause-short g c =
    let v = g.V.View.seen c.args.view.now in
    let size = c.block_size-size.result in
    let big : 512 ≤ size = omega (arith, c.block_size-size.ensures.value, c.block_size-size.ensures.view.block_size) in
    let small : size ≤ 4096 = omega (arith, c.block_size-size.ensures.value, c.block_size-size.ensures.view.block_size) in
    let whole : length c.deref-2.result.now % 24 ≡ 0 = subst (λ xs. length xs % 24 ≡ 0) (sym c.deref-2.ensures.value) (answer_at _ _ _ c.in-Is-2.is c.in_ok-headers.ensures.whole) in
    let long = answer_at _ _ _ c.in-Is.is (c.in_ok-content.ensures.length (seen_as v c.args.table.directory) (seen_shown c.all_blocks_are_shown.ensures v c.args.table.directory)) in
    let few : length c.deref-3.result.now ≤ 524288 = omega (arith, ap length c.deref.ensures.value, long, c.pointers_of-long.ensures.most, c.in_ok-pointers.ensures.long, ap length c.deref-3.ensures.value) in
    let short = bytes_short size (length c.deref-3.result.now) big small few in
    omega (arith, ap length c.in_ok-bytes.ensures, table_long size big c.deref-2.result.now c.deref-3.result.now whole, short)
