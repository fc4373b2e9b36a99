use Rattle.written_journals.proofs.Anew.{begins_anew}
use Rattle.written_journals.proofs.own_tail_begins_anew.Goals as goal

pub returns : goal.returns
returns c = λ ring at t loggable numbers fits ready header_read. begins_anew ring at t loggable numbers fits ready header_read
