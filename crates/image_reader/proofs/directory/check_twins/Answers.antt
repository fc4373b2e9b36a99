use Rattle.std.proofs.Common.{refl}
use Rattle.image_reader.specs.Reading.{image_at}
use Rattle.image_reader.proofs.InodeFaults.{told_broken}
use Rattle.image_reader.proofs.Listed.{get_at}
use Rattle.image_reader.proofs.Twins.{found_at, twin_breaks}
use Rattle.image_reader.proofs.directory.check_twins.Goals as goal

pub returns-then-is_twin : goal.returns-then-is_twin
returns-then-is_twin c = record {
  damaged = λ image b all claimed.
      let f = c.entry-item.result in
      let is = found_at image c.args.found.now c.loop-entry.entry-index f all (get_at c.args.found.now c.loop-entry.entry-index f c.loop-entry-test.true c.entry-item.is) in
      told_broken (image_at image) c.damaged.result c.args.by 10 c.damaged.ensures
      (twin_breaks (image_at image) image f c.args.parent c.args.by b c.args.name.now refl is claimed (c.if-is_twin.ensures.parent refl) (c.if-is_twin.ensures.by refl) (c.if-is_twin.ensures.name refl));
}
