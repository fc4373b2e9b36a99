use Rattle.std.proofs.Common.{sym, subst}
use Rattle.std.specs.List.{AllByRecursion}
use Rattle.peer_replay.proofs.Entries.{ByBlock, by_block_more}
use Rattle.peer_replay.proofs.homes.put_entry.Goals as goal

pub returns-clause-by_block : goal.returns-clause-by_block
returns-clause-by_block c = subst (AllByRecursion ByBlock) (sym c.in_ok-insert.ensures.entries) (by_block_more c.args.home.now.entries c.args.written c.requires.by_block)
