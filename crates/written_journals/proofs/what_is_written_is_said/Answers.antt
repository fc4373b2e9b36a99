use Rattle.written_journals.proofs.Assembled.{is_written}
use Rattle.written_journals.proofs.what_is_written_is_said.Goals as goal

pub returns : goal.returns
returns c = λ ring at t count before loggable numbers fits ready header_read. is_written ring at t count before loggable numbers fits ready header_read
