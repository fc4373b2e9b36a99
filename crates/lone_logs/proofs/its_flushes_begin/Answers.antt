use Rattle.lone_logs.proofs.Beginning.{flushes_begin, headers_begin}
use Rattle.lone_logs.proofs.its_flushes_begin.Goals as goal

pub returns-clause-all : goal.returns-clause-all
returns-clause-all c = flushes_begin

pub returns-clause-alone : goal.returns-clause-alone
returns-clause-alone c = headers_begin
