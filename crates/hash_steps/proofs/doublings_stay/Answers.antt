use Rattle.hash_steps.proofs.Doubled.{doubled_stays}
use Rattle.hash_steps.proofs.doublings_stay.Goals as goal

pub returns : goal.returns
returns c h g taken sound hashed room doubled = doubled_stays h g taken sound hashed room doubled doubled.sound doubled.placed
