use Rattle.file_changes.proofs.Standing.{none_wrong}
use Rattle.file_changes.proofs.laws.nothing_is_wrong.Goals as goal

pub returns : goal.returns
returns c v a blocks rule b im o l t path of at = none_wrong v im o l t of c.standing_groups_are_sound.ensures path a at blocks rule b
