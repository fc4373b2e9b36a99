use Rattle.log_layout.proofs.HeadersBack.{headers_back}
use Rattle.log_layout.proofs.laws.headers_read_back.Goals as goal

pub returns : goal.returns
returns c = headers_back c.structures_read_back.ensures
