use Rattle.std.proofs.Common.{◌≡◌, inl, inr, sym, ap, ◌∙◌, arith}
use Rattle.std.specs.Prelude.{slice_get}
use Rattle.gfs2_layout.specs.Device.{superblock_place}
use Rattle.image_mount.proofs.Causes.{lacks}
use Rattle.image_mount.proofs.Marked.{unmarked}
use Rattle.image_mount.proofs.Marks.{beyond_super, beyond_all, place_wanted, wanted_few}
use Rattle.image_mount.proofs.fetching.check_readable.Goals as goal

pub returns-then-block-count-clause-refused : goal.returns-then-block-count-clause-refused
returns-then-block-count-clause-refused c im done d n size count wanted known =
    beyond_super im _ c.args.block c.damaged.ensures (c.if-block-superblock_block.true ∙ c.superblock_block.ensures ∙ ap superblock_place (c.block_size.ensures.value ∙ size)) (wanted_few im c.args.block c.args.from wanted) (omega (arith, c.if-block-count.true, count))

pub returns-then-block-count-2-clause-refused : goal.returns-then-block-count-2-clause-refused
returns-then-block-count-2-clause-refused c im done d n size count wanted known =
    let place : c.superblock_block.result ≡ superblock_place im.size = c.superblock_block.ensures ∙ ap superblock_place (c.block_size.ensures.value ∙ size) in
    beyond_all im _ c.args.block c.args.from c.damaged-then-block-count-2.ensures wanted (omega (arith, c.if-block-count-2.true, count))
    (λ e. elim c.else-block-superblock_block.either [
      | inl both ↦ absurd (omega (arith, both.1, c.if-block-count-2.true))
      | inr other ↦ other (e ∙ sym place)
    ])

pub returns-then-is_place-clause-refused : goal.returns-then-is_place-clause-refused
returns-then-is_place-clause-refused c im done d n size count wanted known =
    place_wanted im _ c.args.block c.args.from done d n c.damaged-then-is_place.ensures (omega (arith, c.if-block-count-2.false, count)) wanted (known.marked c.args.block (c.is_place.ensures.0 c.if-is_place.true))

pub returns-clause-unmarked : goal.returns-clause-unmarked
returns-clause-unmarked c = unmarked (slice_get c.args.table.now.places c.args.block) (lacks c.is_place.result c.is_place.ensures c.if-is_place.false)
