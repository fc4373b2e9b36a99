use Rattle.image_mount.proofs.Sifts.{no_journal, none_of}
use Rattle.image_mount.proofs.sifting.journal_name.Goals as goal

pub returns-in-None-clause-none : goal.returns-in-None-clause-none
returns-in-None-clause-none c = none_of c.late_journal.result (no_journal c.args.name.now c.in-None.ensures.none) c.late_journal.ensures.none
