use Rattle.std.proofs.Common.{ℕ, ◌+◌, ◌<◌, length, get_or, ap, ◌∙◌, arith}
use Rattle.image_reader.specs.Reading.{image_at}
use Rattle.image_reader.proofs.GroupFaults.{wrong_state}
use Rattle.image_reader.proofs.Listed.{get_at}
use Rattle.image_reader.proofs.groups.check_bits.Goals as goal

pub returns-then-state_at-state_of : goal.returns-then-state_at-state_of
returns-then-state_at-state_of c =
    let low : c.args.group.now.data0 + c.loop-n.n < length c.args.owners.now.entries.items
    = omega (arith, c.requires.owners, c.loop-n-test.true, c.requires.fits.inside, c.args.image.now.counted) in
    let there = get_at c.args.owners.now.entries.items (c.args.group.now.data0 + c.loop-n.n) c.index.result.now low (c.index.ensures ∙ ap (λ (k : ℕ). get_or c.args.owners.now.entries.items (c.args.group.now.data0 + k) c.index.result.now) c.from.ensures) in
    record {
      damaged = wrong_state (image_at c.args.image.now) c.args.group.now c.loop-n.n c.args.owners.now.entries.items c.index.result.now c.args.bits.now _ (c.args.group.now.data0 + c.from.result) c.state_at.result c.state_of.result
          c.damaged.ensures (ap (λ (k : ℕ). c.args.group.now.data0 + k) c.from.ensures) c.requires.fits c.requires.listed c.loop-n-test.true c.requires.claims there c.requires.bits c.state_at.ensures.value c.state_of.ensures c.if-state_at-state_of.true;
    }
