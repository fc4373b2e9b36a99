use Rattle.std.proofs.Common.{◌<◌}
use Rattle.std.proofs.lemmas.List.Elements.{recursion_from_All}
use Rattle.gfs2_layout.proofs.BitmapLaws.{packed_read, packed_on, length-packed}
use Rattle.gfs2_layout.proofs.laws.packed_states_are_read.Goals as goal

pub returns-clause-read : goal.returns-clause-read
returns-clause-read c = λ states i low. packed_read states i (recursion_from_All (λ s. s < 4) states low)

pub returns-clause-on : goal.returns-clause-on
returns-clause-on c = packed_on

pub returns-clause-as_many : goal.returns-clause-as_many
returns-clause-as_many c = length-packed
