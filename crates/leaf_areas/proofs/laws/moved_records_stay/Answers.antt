use Rattle.leaf_areas.proofs.Records.{moved_area}
use Rattle.leaf_areas.proofs.laws.moved_records_stay.Goals as goal

pub returns : goal.returns
returns c = λ from into is room short slots area. moved_area from into is slots area
