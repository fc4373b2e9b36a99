use Rattle.hash_steps.proofs.Converted.{converted_stays}
use Rattle.hash_steps.proofs.conversions_stay.Goals as goal

pub returns : goal.returns
returns c h g b sound directory linear converted = converted_stays h g b sound directory linear converted c.moved_records_stay.ensures c.checksums_have_32_bits.ensures
