use Rattle.log_widths.proofs.Numbers.{widths_are_numbers}
use Rattle.log_widths.proofs.widths_are_numbers.Goals as goal

pub returns : goal.returns
returns c = widths_are_numbers c.headers_read_back.ensures
