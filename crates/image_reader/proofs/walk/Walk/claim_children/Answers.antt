use Rattle.std.proofs.Common.{◌∙◌, refl, ap, arith}
use Rattle.gfs2_layout.specs.Inode.{fan}
use Rattle.image_reader.specs.Reading.{held}
use Rattle.image_reader.specs.declared.blocks.Blocks.{Blocks}
use Rattle.image_reader.proofs.Descending.{entered_more, descended_over}
use Rattle.image_reader.proofs.Taking.{takes_stay, takes_then}
use Rattle.image_reader.proofs.walk.Walk.claim_children.Goals as goal

pub loop-k-init : goal.loop-k-init
loop-k-init c = record {
  sound = c.requires.sound;
  takes = takes_stay c.args.inode.now.block.number c.args.self.now.owners.entries.items;
  pending = c.requires.pending;
  entered = λ k low. absurd (omega (arith, low));
  descended = c.requires.descended;
  falls = omega arith;
  free = omega arith;
  same = refl;
}

pub loop-k-preserved : goal.loop-k-preserved
loop-k-preserved c =
    let done = c.in_ok-follow.ensures in
    record {
      sound = done.sound;
      takes = takes_then c.args.inode.now.block.number c.args.self.now.owners.entries.items c.loop-k.self.owners.entries.items c.follow.new.self.owners.entries.items c.loop-k.invariant.takes done.takes;
      pending = done.pending;
      entered = entered_more c.loop-k.k (held c.args.inode.now) c.args.inode.now.block.number c.loop-k.self.owners.entries.items c.follow.new.self.owners.entries.items _ _ _ _ done.takes c.loop-k.invariant.entered done.entered;
      descended = done.descended c.args.pointers.now c.loop-k.invariant.descended;
      falls = omega (arith, c.loop-k.invariant.falls, done.falls);
      free = omega (arith, c.loop-k.invariant.free, done.free);
      same = done.same ∙ c.loop-k.invariant.same;
    }

pub returns-clause-descended : goal.returns-clause-descended
returns-clause-descended c =
    let inv = c.loop-k.invariant in
    let sizes = ap (λ (b : Blocks). fan b.size c.args.pointers.now.start) c.requires.reached.image in
    descended_over (held c.args.inode.now) c.loop-k.self.owners.entries.items c.args.pointers.now c.loop-k.pending.items (λ k low. inv.entered k (omega (arith, low, c.loop-k-test.false, c.fan-k-end.ensures, sizes))) inv.descended
