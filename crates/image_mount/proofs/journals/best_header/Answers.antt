use Rattle.std.proofs.Common.{◌≡◌, length, get_or, refl, sym, ◌∙◌, arith}
use Rattle.image_mount.proofs.Heads.{device_told, head_more, head_all}
use Rattle.image_mount.proofs.Marks.{bytes_shown}
use Rattle.image_mount.proofs.Stops.{refused}
use Rattle.shared_disk.proofs.ReadLaws.{reads_on}
use Rattle.image_mount.proofs.journals.best_header.Goals as goal

pub loop-block-preserved : goal.loop-block-preserved
loop-block-preserved g c =
    let inv = c.loop-block.invariant in
    let read = c.in_ok-read_into.ensures in
    record {
      place = omega (arith, inv.place);
      size = c.read_into.auto.into ∙ inv.size;
      found = λ im shows of.
          let b = get_or c.args.blocks.now c.loop-block.block-index 0 in
          head_more im c.args.blocks.now c.loop-block.block-index c.loop-block.place b c.read_into.new.into c.loop-block.best c.accepted.result c.better-best.result
          c.better-best.ensures c.accepted.ensures inv.place (inv.found im shows of) (sym (bytes_shown _ _ im b c.read_into.new.into inv.reads.same shows (of c.loop-block.block-index 0 c.loop-block-test.true) read.bytes)) refl;
      reads = reads_on inv.reads read.reads;
    }

pub returns-clause-found : goal.returns-clause-found
returns-clause-found g c im shows of =
    let all : c.loop-block.block-index ≡ length c.args.blocks.now = omega (arith, c.loop-block-test.false, c.loop-block.auto.block-index-end) in
    head_all im c.args.blocks.now c.loop-block.block-index c.loop-block.best (c.loop-block.invariant.found im shows of) all

pub returns-in_err-read_into-clause-refused : goal.returns-in_err-read_into-clause-refused
returns-in_err-read_into-clause-refused g c im of =
    refused im _ _ c.from_residual.ensures.1
    (device_told im c.in_err-read_into.field-0.0 (get_or c.args.blocks.now c.loop-block.block-index 0) c.in_err-read_into.ensures.failed (of c.loop-block.block-index 0 c.loop-block-test.true))
