use Rattle.written_journals.proofs.Anew.{size_is_length as proved}
use Rattle.written_journals.proofs.size_is_length.Goals as goal

pub returns : goal.returns
returns c = proved
