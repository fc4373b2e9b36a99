use Rattle.std.proofs.Common.{◌<◌, drop, sym, subst, arith}
use Rattle.std.specs.List.{AllByRecursion}
use Rattle.std.proofs.lemmas.List.{length-drop, drop_more}
use Rattle.image_model.specs.Listing.{RiseFrom}
use Rattle.image_reader.specs.Reading.{image_at}
use Rattle.image_reader.proofs.InodeFaults.{told}
use Rattle.image_model.proofs.Listing.{bare_at, far, ahead_of, covered_more, near_more, near_none, none_left, whole_list}
use Rattle.image_reader.proofs.groups.check_cover.Goals as goal

pub loop-group-init : goal.loop-group-init
loop-group-init c = record {
  covered = record {
    end = 0;
    past = tt;
    rise = c.requires.rise;
    above = omega (arith, c.superblock_place-bare.ensures);
  };
  near = near_none (image_at c.args.image.now) c.args.groups.now _ (omega (arith, c.superblock_place-bare.ensures));
}

pub returns-then-bare-group-clause-damaged : goal.returns-then-bare-group-clause-damaged
returns-then-bare-group-clause-damaged c =
    let im = image_at c.args.image.now in
    let groups = c.args.groups.now in
    let k = c.loop-group.group-index in
    let b = c.loop-group.bare in
    let more = drop_more groups k _ c.loop-group-test.true in
    let rise = subst (RiseFrom im c.loop-group.invariant.covered.end) more c.loop-group.invariant.covered.rise in
    let ahead = subst (AllByRecursion (far im groups b)) (sym more) (ahead_of im groups b _ _ _ rise c.if-bare-group.true) in
    let within : b < im.count = omega (arith, c.if-bare-group.true, rise.0.inside, rise.0.first, rise.0.some) in
    told im _ b 18 c.damaged.ensures within (bare_at im groups b k c.loop-group.invariant.covered c.requires.list within (omega (arith, within, c.args.image.now.few)) ahead c.loop-group.invariant.near)

pub loop-group-preserved : goal.loop-group-preserved
loop-group-preserved c = record {
  covered = covered_more (image_at c.args.image.now) c.args.groups.now c.loop-group.group-index c.loop-group.bare c.saturating_add-bare.result _ c.loop-group.invariant.covered c.loop-group-test.true c.if-bare-group.false
      (omega (arith, c.args.image.now.few, c.args.image.now.counted)) (omega (arith, c.saturating_add-bare.ensures, c.end_of.ensures));
  near = near_more (image_at c.args.image.now) c.args.groups.now c.loop-group.group-index c.loop-group.bare c.saturating_add-bare.result _ c.loop-group.invariant.near c.loop-group-test.true c.if-bare-group.false
      (omega (arith, c.saturating_add-bare.ensures, c.end_of.ensures));
}

pub returns-then-bare-image-clause-damaged : goal.returns-then-bare-image-clause-damaged
returns-then-bare-image-clause-damaged c =
    let im = image_at c.args.image.now in
    let groups = c.args.groups.now in
    let k = c.loop-group.group-index in
    let b = c.loop-group.bare in
    let none = none_left (far im groups b) (drop k groups) (omega (arith, length-drop k groups, c.loop-group-test.false)) in
    let within : b < im.count = omega (arith, c.if-bare-image.true, c.args.image.now.counted) in
    told im _ b 18 c.damaged-then-bare-image.ensures within (bare_at im groups b k c.loop-group.invariant.covered c.requires.list within (omega (arith, c.if-bare-image.true, c.args.image.now.few)) none c.loop-group.invariant.near)

pub returns-clause-whole : goal.returns-clause-whole
returns-clause-whole c =
    whole_list (image_at c.args.image.now) c.args.groups.now c.loop-group.bare c.requires.list c.loop-group.invariant.near (omega (arith, c.if-bare-image.false, c.args.image.now.counted))
