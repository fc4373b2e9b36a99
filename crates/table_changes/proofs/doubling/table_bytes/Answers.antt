use Rattle.std.proofs.Common.{◌≡◌, ◌-◌, ◌<◌, ◌++◌, sym, ap, ◌∙◌, arith, length}
use Rattle.std.specs.Prelude.{flat_map}
use Rattle.std.specs.List.{range_with_len}
use Rattle.std.proofs.lemmas.List.{length-append}
use Rattle.gfs2_layout.specs.Inode.{pieces}
use Rattle.dinode_tree.proofs.Spans.{pieces_of}
use Rattle.table_files.specs.Files.{table_block}
use Rattle.table_files.proofs.TableBytes.{block_long}
use Rattle.table_changes.proofs.Lists.{row_more}
use Rattle.table_changes.proofs.doubling.table_bytes.Goals as goal

pub loop-index-preserved : goal.loop-index-preserved
loop-index-preserved c =
    let f = table_block c.args.size c.args.headers.now c.args.pointers.now in
    let n = c.loop-index.index in
    let more = c.in_ok-push_block.ensures in
    record {
      long = ap length more ∙ length-append c.loop-index.bytes.items (f n) ∙ omega (arith, c.loop-index.invariant.long, block_long c.args.size c.requires.large c.args.headers.now c.args.pointers.now n c.requires.whole);
      all = more ∙ ap (λ xs. xs ++ f n) c.loop-index.invariant.all ∙ sym (row_more f n);
    }

pub returns : goal.returns
returns c =
    let some : 0 < c.args.size - 24 = omega (arith, c.requires.large) in
    let end : c.loop-index.index ≡ pieces (length c.args.pointers.now) (c.args.size - 24) = omega (arith, c.loop-index-test.false, c.loop-index.auto.index-end, c.div_ceil-index-end.ensures, pieces_of (length c.args.pointers.now) (c.args.size - 24) some) in
    c.loop-index.invariant.all ∙ ap (λ n. flat_map (table_block c.args.size c.args.headers.now c.args.pointers.now) (range_with_len 0 n)) end
