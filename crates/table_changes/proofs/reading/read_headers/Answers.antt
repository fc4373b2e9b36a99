use Rattle.std.proofs.Common.{◌≤◌, length, take, ap, sym, arith}
use Rattle.gfs2_layout.specs.Holding.{bytes_at}
use Rattle.gfs2_layout.specs.Inode.{content_block}
use Rattle.glock_names.proofs.StepLaws.{answer_at, needed_at}
use Rattle.dinode_tree.proofs.Pieces.{needed_for}
use Rattle.table_changes.proofs.Lists.{headers_each, headers_long}
use Rattle.table_changes.proofs.Below.{block_of_run}
use Rattle.table_changes.proofs.reading.read_headers.Goals as goal

pub returns-in-NeedBlock-clause-needed : goal.returns-in-NeedBlock-clause-needed
returns-in-NeedBlock-clause-needed g c = λ h table. needed_for (g.V.View.seen c.args.view.now) h _ _ 0 0 c.in-NeedBlock.missing (λ k any. tt) (omega arith) (needed_at _ _ _ c.in-NeedBlock.is (c.in_ok-run.ensures.needed h table))

pub loop-index-preserved : goal.loop-index-preserved
loop-index-preserved g c =
    let n = c.loop-index.index in
    let more = c.in_ok-extend_from_slice.ensures.items in
    let large : 24 ≤ length c.in-Some.bytes.now = omega (arith, c.in-Some.ensures.least) in
    record {
      long = headers_long c.loop-index.headers.items c.extend_from_slice.new.self.items c.in-Some.bytes.now n more c.loop-index.invariant.long large;
      each = λ h table sound high. headers_each c.loop-index.headers.items c.extend_from_slice.new.self.items c.in-Some.bytes.now n more c.loop-index.invariant.long large (λ j. take 24 (bytes_at h (content_block h j)))
          (c.loop-index.invariant.each h table sound high)
          (ap (take 24) (sym (block_of_run c.args.table (g.V.View.seen c.args.view.now) h c.args.words n c.in-Is.run' c.in-Some.bytes.now table sound c.in-Some.ensures.view.block_size high c.requires.words (c.requires.few n c.loop-index-test.true)
          (answer_at _ _ _ c.in-Is.is (c.in_ok-run.ensures.found h table)) c.in-Some.ensures.some)));
    }
