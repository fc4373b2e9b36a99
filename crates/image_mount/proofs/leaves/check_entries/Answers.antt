use Rattle.image_mount.proofs.LeafCauses.{wrong_count}
use Rattle.image_mount.proofs.leaves.check_entries.Goals as goal

pub returns-then-records-from-clause-refused : goal.returns-then-records-from-clause-refused
returns-then-records-from-clause-refused c im a format is read = wrong_count im a c.args.at.now _ c.args.records.now c.from.result format is c.damaged.ensures c.from.ensures read c.if-records-from.true
