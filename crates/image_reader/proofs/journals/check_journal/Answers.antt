use Rattle.std.proofs.Common.{rules, ◌≡◌}
use Rattle.gfs2_layout.specs.Inode.{content_block}
use Rattle.image_reader.specs.Reading.{held}
use Rattle.image_reader.proofs.JournalFaults.{is_within, part_of_block, has_hole, no_head}
use Rattle.image_reader.proofs.journals.check_journal.Goals as goal

pub returns-then-inode-size-ne0 : goal.returns-then-inode-size-ne0
returns-then-inode-size-ne0 c = record { damaged = part_of_block c.args.inode.now _ c.damaged.ensures c.requires.journal c.if-inode-size-ne0.true }

pub content_block-requires-clause-within : goal.content_block-requires-clause-within
content_block-requires-clause-within c = is_within c.args.inode.now c.loop-place.place c.loop-place-test.true

pub returns-in_default : goal.returns-in_default
returns-in_default c =
    let hole : content_block (held c.args.inode.now) c.loop-place.place ≡ 0 = search rules in
    record { damaged = has_hole c.args.inode.now _ c.loop-place.place c.damaged-in_default.ensures c.requires.journal c.loop-place-test.true hole }

pub returns-else-headed-2 : goal.returns-else-headed-2
returns-else-headed-2 c = record {
  damaged = no_head c.args.inode.now _ c.loop-place.place c.damaged-else-headed-2.ensures c.requires.journal c.loop-place-test.false (c.loop-place.invariant c.if-headed-2.false);
}
