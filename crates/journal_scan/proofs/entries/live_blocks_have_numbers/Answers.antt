use Rattle.journal_scan.proofs.Numbered.{live_have_numbers}
use Rattle.journal_scan.proofs.entries.live_blocks_have_numbers.Goals as goal

pub returns : goal.returns
returns c = live_have_numbers
