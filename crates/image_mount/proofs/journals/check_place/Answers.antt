use Rattle.std.proofs.Common.{◌≡◌, ◌≢◌, ℕ, ◌<◌, true, arith}
use Rattle.gfs2_layout.specs.Device.{superblock_place}
use Rattle.image_mount.specs.Marked.{of_place, of_leaf, of_kept}
use Rattle.image_mount.specs.Refusals.{RefusesRightly}
use Rattle.image_mount.specs.Searching.{IsWanted}
use Rattle.image_mount.proofs.Marks.{in_groups, place_beyond, place_outside, place_again, place_kept, outside_groups, above_super}
use Rattle.image_mount.proofs.journals.check_place.Goals as goal
use Rattle.image_mount.proofs.journals.check_place.Goals.{then-located-count-via-then-located-count, then-located-count-via-else-located-count+then-not-is_data}

pub returns-then-located-count-clause-refused : goal.returns-then-located-count-clause-refused
returns-then-located-count-clause-refused c im done journal place read next known at =
    let system = c.args.system.now in
    let located = c.args.located.now in
    elim c.then-located-count.branch [
      | then-located-count-via-then-located-count w ↦ place_beyond im done system journal next _ place located c.damaged.ensures at (omega (arith, w.if-located-count.true, c.count.ensures.value, read.count))
      | then-located-count-via-else-located-count+then-not-is_data w ↦
          place_outside im done system journal next _ place located c.damaged.ensures at (outside_groups im system located.block w.deref.result.now next.looked w.deref.ensures.value (w.is_data.ensures.outside w.if-not-is_data.true))
    ]

pub returns-then-is_taken-clause-refused : goal.returns-then-is_taken-clause-refused
returns-then-is_taken-clause-refused c im done journal place read next known at =
    let system = c.args.system.now in
    let located = c.args.located.now in
    let inside : c.is_data.result ≡ true = grind (arith, c.if-not-is_data.false) in
    let low : located.block < im.count = omega (arith, c.if-located-count.false, c.count.ensures.value, read.count) in
    let apart : located.block ≢ superblock_place im.size = above_super im system located.block c.deref.result.now next.looked c.deref.ensures.value (c.is_data.ensures.inside inside) in
    let wanted : (from : ℕ) × IsWanted im located.block from → RefusesRightly im c.damaged-then-is_taken.result = λ w.
    place_kept im done system journal next _ place located w.0 c.damaged-then-is_taken.ensures low at w.1 apart in
    elim (c.is_taken.ensures.taken c.if-is_taken.true) [
      | of_place here ↦ place_again im done system journal next _ place located c.damaged-then-is_taken.ensures low at (known.marked located.block here)
      | of_leaf here ↦ wanted (known.leaves located.block here)
      | of_kept bytes here ↦ wanted (known.wanted located.block bytes here)
    ]

pub returns-clause-apart : goal.returns-clause-apart
returns-clause-apart c im looked =
    let inside : c.is_data.result ≡ true = grind (arith, c.if-not-is_data.false) in
    above_super im c.args.system.now c.args.located.now.block c.deref.result.now looked c.deref.ensures.value (c.is_data.ensures.inside inside)

pub returns-clause-placed : goal.returns-clause-placed
returns-clause-placed c =
    let inside : c.is_data.result ≡ true = grind (arith, c.if-not-is_data.false) in
    in_groups c.deref.result.now c.args.system.now.groups.items c.args.located.now.block c.deref.ensures.value (c.is_data.ensures.inside inside)

pub returns-clause-free : goal.returns-clause-free
returns-clause-free c = c.is_taken.ensures.untaken c.if-is_taken.false
