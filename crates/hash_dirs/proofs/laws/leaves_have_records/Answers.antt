use Rattle.hash_dirs.proofs.InAll.{all_records}
use Rattle.hash_dirs.proofs.laws.leaves_have_records.Goals as goal

pub returns : goal.returns
returns c h leaves sound hashed are = all_records h leaves sound hashed are
