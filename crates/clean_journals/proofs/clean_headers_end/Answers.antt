use Rattle.clean_journals.proofs.Ending.{clean_headers_end}
use Rattle.clean_journals.proofs.clean_headers_end.Goals as goal

pub returns : goal.returns
returns c = clean_headers_end
