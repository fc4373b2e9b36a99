use Rattle.std.proofs.Common.{◌<◌, drop, sym, ap, subst, arith}
use Rattle.std.specs.List.{AllByRecursion}
use Rattle.std.proofs.lemmas.List.{length-drop, drop_more}
use Rattle.gfs2_layout.specs.Device.{superblock_place}
use Rattle.image_model.specs.Listing.{RiseFrom}
use Rattle.image_model.proofs.Listing.{far, ahead_of, covered_more, none_left, near_more, near_none}
use Rattle.image_mount.proofs.Grouping.{bare_told, list_few, groups_fit}
use Rattle.image_mount.proofs.groups.check_cover.Goals as goal

pub loop-group-init : goal.loop-group-init
loop-group-init c = record {
  covered = λ im list is rise. record {
    end = 0;
    past = tt;
    rise = rise;
    above = omega (arith, c.superblock_block-bare.ensures, ap superblock_place is.block_size);
  };
  near = λ im list is. near_none im c.args.groups.now _ (omega (arith, c.superblock_block-bare.ensures, ap superblock_place is.block_size));
}

pub returns-then-bare-group-clause-refused : goal.returns-then-bare-group-clause-refused
returns-then-bare-group-clause-refused c im list is from some few =
    let groups = c.args.groups.now in
    let k = c.loop-group.group-index in
    let b = c.loop-group.bare in
    let covered = c.loop-group.invariant.covered im list is from in
    let more = drop_more groups k _ c.loop-group-test.true in
    let rise = subst (RiseFrom im covered.end) more covered.rise in
    let ahead = subst (AllByRecursion (far im groups b)) (sym more) (ahead_of im groups b _ _ _ rise c.if-bare-group.true) in
    let within : b < im.count = omega (arith, c.if-bare-group.true, rise.0.inside, rise.0.first, rise.0.some) in
    bare_told im _ _ _ list k b groups c.damaged.ensures is from some few covered (c.loop-group.invariant.near im list is) within ahead

pub loop-group-preserved : goal.loop-group-preserved
loop-group-preserved c = record {
  covered = λ im list is from. covered_more im c.args.groups.now c.loop-group.group-index c.loop-group.bare _ _ (c.loop-group.invariant.covered im list is from) c.loop-group-test.true c.if-bare-group.false
      (omega (arith, list_few im _ _ _ _ is)) (omega (arith, c.saturating_add-bare.ensures, c.end_of.ensures));
  near = λ im list is. near_more im c.args.groups.now c.loop-group.group-index c.loop-group.bare _ _ (c.loop-group.invariant.near im list is) c.loop-group-test.true c.if-bare-group.false
      (omega (arith, c.saturating_add-bare.ensures, c.end_of.ensures));
}

pub returns-then-bare-device-clause-refused : goal.returns-then-bare-device-clause-refused
returns-then-bare-device-clause-refused c im list is from some few =
    let groups = c.args.groups.now in
    let k = c.loop-group.group-index in
    let b = c.loop-group.bare in
    let none = none_left (far im groups b) (drop k groups) (omega (arith, length-drop k groups, c.loop-group-test.false)) in
    let within : b < im.count = omega (arith, c.if-bare-device.true, is.blocks) in
    bare_told im _ _ _ list k b groups c.damaged-then-bare-device.ensures is from some few (c.loop-group.invariant.covered im list is from) (c.loop-group.invariant.near im list is) within none

pub returns-clause-fit : goal.returns-clause-fit
returns-clause-fit c im list is from = groups_fit im c.args.groups.now c.loop-group.bare from (c.loop-group.invariant.near im list is) (omega (arith, c.if-bare-device.false, is.blocks))
