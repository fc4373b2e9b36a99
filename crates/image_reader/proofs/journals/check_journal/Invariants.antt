use Rattle.std.proofs.Common.{◌≡◌, false}
use Rattle.image_reader.proofs.JournalFaults.{IsHeadless}
use Rattle.image_reader.proofs.journals.check_journal.Given as goal

abbrev pub invariant-loop-place : goal.invariant-loop-place
invariant-loop-place l = l.headed ≡ false → IsHeadless l.inode l.place
