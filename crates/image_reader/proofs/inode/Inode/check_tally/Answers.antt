use Rattle.image_reader.proofs.Directories.{dot_missing, dots_missing, links_wrong, entries_wrong}
use Rattle.image_reader.proofs.inode.Inode.check_tally.Goals as goal

pub returns-then-not-tally : goal.returns-then-not-tally
returns-then-not-tally c = record { damaged = dot_missing c.args.self.now c.args.tally.now _ c.requires.directory c.requires.tally c.damaged.ensures c.if-not-tally.true }

pub returns-then-not-tally-2 : goal.returns-then-not-tally-2
returns-then-not-tally-2 c = record { damaged = dots_missing c.args.self.now c.args.tally.now _ c.requires.directory c.requires.tally c.damaged-then-not-tally-2.ensures c.if-not-tally-2.true }

pub returns-then-from-saturating_add : goal.returns-then-from-saturating_add
returns-then-from-saturating_add c = record {
  damaged = links_wrong c.args.self.now c.args.tally.now _ c.requires.directory c.requires.tally c.from.result c.saturating_add.result c.damaged-then-from-saturating_add.ensures c.from.ensures c.from.type_inv
      c.saturating_add.ensures c.if-from-saturating_add.true;
}

pub returns-then-from-tally : goal.returns-then-from-tally
returns-then-from-tally c = record {
  damaged = entries_wrong c.args.self.now c.args.tally.now _ c.requires.directory c.requires.tally c.from-2.result c.damaged-then-from-tally.ensures c.from-2.ensures c.from-2.type_inv c.if-from-tally.true;
}
