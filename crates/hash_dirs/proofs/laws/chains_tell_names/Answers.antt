use Rattle.hash_dirs.proofs.Named.{tells}
use Rattle.hash_dirs.proofs.laws.chains_tell_names.Goals as goal

pub returns : goal.returns
returns c h name named sound hashed small first = tells h name sound hashed small named first
