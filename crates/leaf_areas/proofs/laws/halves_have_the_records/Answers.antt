use Rattle.leaf_areas.proofs.Records.{lower_area, upper_area}
use Rattle.leaf_areas.proofs.laws.halves_have_the_records.Goals as goal

pub returns : goal.returns
returns c = λ depth old lower upper is size short lower_is lower_fills upper_is upper_fills.
    let low = lower_area depth old lower is lower_is lower_fills in
    let up = upper_area depth old upper is upper_is upper_fills in
    ((low.0, up.0), low.1, up.1)
