use Rattle.std.proofs.Common.{◌∙◌}
use Rattle.image_reader.specs.Reading.{image_at}
use Rattle.image_reader.proofs.GroupFaults.{wrong_free, wrong_dinodes}
use Rattle.image_reader.proofs.groups.check_group.Goals as goal

pub returns-then-header-count_states : goal.returns-then-header-count_states
returns-then-header-count_states c = record {
  damaged = wrong_free (image_at c.args.image.now) c.args.group.now c.in_ok-header.header c.deref-2.result.now _ c.count_states.result c.damaged.ensures c.requires.fits c.requires.listed
      c.in_ok-header.ensures.header (c.deref-2.ensures.value ∙ c.in_ok-bits.ensures.bits) c.count_states.ensures c.if-header-count_states.true;
}

pub returns-then-header-count_states-2 : goal.returns-then-header-count_states-2
returns-then-header-count_states-2 c = record {
  damaged = wrong_dinodes (image_at c.args.image.now) c.args.group.now c.in_ok-header.header c.deref-3.result.now _ c.count_states-2.result c.damaged-then-header-count_states-2.ensures c.requires.fits c.requires.listed
      c.in_ok-header.ensures.header (c.deref-3.ensures.value ∙ c.in_ok-bits.ensures.bits) c.count_states-2.ensures c.if-header-count_states-2.true;
}
